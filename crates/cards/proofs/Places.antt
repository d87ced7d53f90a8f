-- What stands at the beginning of a rest: a request; and what an entry holds, by its fixed bytes and its code.
-- Assumes nothing.
use Prim.Native.Nat.{ℕ}
use mathlib.Core.Path.{◌≡◌}
use mathlib.Core.Bool.{true, false}
use mathlib.Core.List.{List, ◌++◌}
use native.Mathlib.Omega.{arith}
use lib.ListN.{length, get_or, take, drop, get_or-append}
use lib.Seq.{drop_at}
use Rattle.std.specs.Prelude.{Some, None}
use Rattle.model.specs.Cards.{entry_size, request_of_entry, person_of_entry}
use Rattle.cards.specs.Entries.{is_whole, next_of}

module _ (rest : List ℕ) where
  pub next_past : is_whole 4 rest ≡ false → next_of rest ≡ None
  unfolding next_of
  next_past e = rw e

  pub next_whole : is_whole 4 rest ≡ true → next_of rest ≡ Some (request_of_entry (take (entry_size 4 rest) rest), drop (entry_size 4 rest) rest)
  unfolding next_of
  next_whole e = rw e

-- ---- the record of an entry, by its fixed bytes and its code

pub request_parts : (fixed code entry : List ℕ) → length fixed ≡ 4 → fixed ++ code ≡ entry
    → request_of_entry entry ≡ record { command = get_or fixed 0 0; source = get_or fixed 1 0; destination = get_or fixed 2 0; code = code }
request_parts fixed code entry n e =
    rw (
      ← e,
      get_or-append fixed code 0 0 (omega arith),
      get_or-append fixed code 0 1 (omega arith),
      get_or-append fixed code 0 2 (omega arith),
      drop_at fixed code 4 n,
    )

pub person_parts : (fixed code entry : List ℕ) → length fixed ≡ 2 → fixed ++ code ≡ entry
    → person_of_entry entry ≡ record { type = get_or fixed 0 0; code = code }
person_parts fixed code entry n e = rw (← e, get_or-append fixed code 0 0 (omega arith), drop_at fixed code 2 n)
