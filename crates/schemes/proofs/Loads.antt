-- What the commands of a loaded scheme are: as many as were counted, and up to 64 those that are kept; and the rules by them.
-- Assumes nothing.
use Prim.Native.Nat.{ℕ, ◌≤◌, ◌<◌, ◌-◌}
use mathlib.Core.List.{List, ◌++◌, append-nil}
use mathlib.Core.Path.{◌≡◌, refl, sym, ap, ◌∙◌}
use native.Mathlib.Omega.{arith}
use borrow.Author.Tests.{leb-true, leb-false}
use lib.Dec.{leb}
use lib.ListN.{length, get_or, take, replicate, length-append, length-take, length-replicate}
use lib.Seq.{length-take-le, take_all}
use Rattle.model.specs.declared.Command.{Command}
use Rattle.std.specs.Prelude.{Option, Some, None, is_some, unwrap_or, option_map, option_copied, ltb}
use denote.Bor.{Bor}
use mathlib.Core.Bool.{◌&&◌, and-false}
use Rattle.model.specs.Words.{◌when◌else◌, between, all}
use Rattle.model.specs.Schemes.{Scheme, no_command, command_at, command_is_valid, scheme_is_valid}
use Rattle.laws.proofs.Tests.{by_test}
use Rattle.laws.proofs.Lists.{length-written, take-written}
use Rattle.schemes.specs.declared.Loaded.{Loaded}
use Rattle.schemes.specs.Loads.{listed, scheme_in, loaded_from}
use Rattle.schemes.proofs.Rules.{long}

-- up to 64, its commands are those that are kept
pub listed_few : (l : Loaded) → l.count ≤ 64 → listed l ≡ take l.count l.commands
unfolding listed
listed_few l h =
    let none : l.count - 64 ≡ 0 = omega arith in
    ap (λ (n : ℕ). take l.count l.commands ++ replicate n no_command) none ∙ append-nil (take l.count l.commands)

module _ (l : Loaded) (whole : length l.commands ≡ 64) where
  pub listed-length : length (listed l) ≡ l.count
  unfolding listed
  listed-length =
      length-append (take l.count l.commands) (replicate (l.count - 64) no_command)
      ∙ omega (arith, length-take l.count l.commands, length-replicate (l.count - 64) no_command)

-- ---- a whole scheme, loaded

module _ (s : Scheme) where
  pub loaded_whole : length (loaded_from s).commands ≡ 64
  unfolding loaded_from
  loaded_whole = length-written (take 64 s.commands) (replicate 64 no_command) (omega (arith, length-take 64 s.commands))

  -- up to 64 commands, it stands for the scheme
  pub loaded_stands : length s.commands ≤ 64 → scheme_in (loaded_from s) ≡ s
  unfolding loaded_from
  loaded_stands few =
      let kept : take 64 s.commands ≡ s.commands = take_all 64 s.commands few in
      let e : listed (loaded_from s) ≡ s.commands =
      listed_few (loaded_from s) few ∙ rw kept (take-written s.commands (replicate 64 no_command)) in
      ap (λ (cs : List Command). record { types = s.types; kinds = s.kinds; rights = s.rights; commands = cs }) e

  -- whatever the count, it is valid exactly if the scheme is
  pub loaded_valid : scheme_is_valid (scheme_in (loaded_from s)) ≡ scheme_is_valid s
  unfolding loaded_from
  loaded_valid =
      by_test (leb (length s.commands) 64)
      (λ p. ap scheme_is_valid (loaded_stands (leb-true (length s.commands) 64 p)))
      (λ q.
      let many : 64 < length s.commands = leb-false (length s.commands) 64 q in
      long (scheme_in (loaded_from s)) (omega (arith, listed-length (loaded_from s) loaded_whole)) ∙ sym (long s many))

-- the rules of a loaded scheme, by its count and the commands that are kept: past its size the commands don't matter
module _ (l : Loaded) (whole : length l.commands ≡ 64) where
  pub valid_as_kept : scheme_is_valid (scheme_in l)
      ≡ ((between 1 8 l.types && between 1 4 l.kinds && between 1 32 l.rights && leb l.count 64)
      && all (command_is_valid l.types l.kinds l.rights) (take l.count l.commands))
  unfolding scheme_is_valid
  valid_as_kept =
      by_test (leb l.count 64)
      (λ p. rw (listed_few l (leb-true l.count 64 p), length-take-le l.count l.commands (omega (arith, leb-true l.count 64 p)), p) refl)
      (λ q. rw (listed-length l whole, q, and-false (between 1 8 l.types && between 1 4 l.kinds && between 1 32 l.rights)) refl)

-- ---- looked up

-- what is copied out of the kept commands at a place is the command there, if the scheme has so many
module _ (l : Loaded) (whole : length l.commands ≡ 64) (few : length (listed l) ≤ 64) (i : ℕ) {kept : List Command} (e : kept ≡ take l.count l.commands) where
  all_kept : kept ≡ listed l
  all_kept = e ∙ sym (listed_few l (omega (arith, listed-length l whole)))

  pub looked_up : (read : Option (Bor Command)) → is_some read ≡ ltb i (length kept)
      → unwrap_or (option_map (λ c. c.now) read) no_command ≡ get_or kept i no_command
      → option_copied read ≡ (Some (command_at (scheme_in l) i) when ltb i (length (listed l)) else None)
  looked_up None there it = rw (sym (there ∙ ap (λ (cs : List Command). ltb i (length cs)) all_kept)) refl
  looked_up (Some y) there it =
      rw (sym (there ∙ ap (λ (cs : List Command). ltb i (length cs)) all_kept))
      (ap Some (it ∙ ap (λ (cs : List Command). get_or cs i no_command) all_kept))
