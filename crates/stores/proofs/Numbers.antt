-- A store's number: what the check gives at each of its exits, whose tests are the definition's, in its order.
-- Assumes nothing.
use Prim.Native.Nat.{ℕ, ◌≤◌, ◌<◌}
use mathlib.Core.Path.{◌≡◌, refl}
use mathlib.Core.Bool.{Bool, true, false, not, ◌&&◌}
use mathlib.Core.List.{List}
use native.Mathlib.Omega.{arith}
use borrow.Author.Tests.{le-leb, lt-leb}
use lib.ListN.{length, get_or, drop}
use Rattle.model.specs.Words.{◌when◌else◌, all, all_differ}
use Rattle.model.specs.Codes.{spelled}
use Rattle.model.specs.Stores.{Design, exists, named_number, is_sound, fits_design, store_number, store_of}
use Rattle.laws.proofs.Lists.{all_map}
use Rattle.records.specs.Records.{codes_in}
use Rattle.stores.proofs.Designs.{store_counts, codes_are}

-- ---- the check at each of its exits, in lent words

module _ (kinds rights people : ℕ) (words : List ℕ) where
  abbrev designs : List Design
  designs = store_of words

  abbrev number : ℕ
  number = store_number kinds rights people designs

  abbrev all_fit : Bool
  all_fit = all (fits_design kinds rights people) designs

  pub many_refused : 64 < get_or words 0 0 → number ≡ 21
  unfolding store_number is_sound
  many_refused h = rw (lt-leb (length designs) 64 (omega (arith, store_counts words))) refl

  -- with the designs as records, whose count is low enough
  module _ (few : get_or words 0 0 ≤ 64) (size n : ℕ) (rest : List ℕ) (wide : size ≡ 36) (e : n ≡ length designs) (behind : rest ≡ drop 1 words) where
    abbrev codes : List (List ℕ)
    codes = codes_in size n rest

    counted : number ≡ (21 when not (all spelled codes && all_differ codes && all_fit) else 0)
    unfolding store_number is_sound
    counted =
        rw (le-leb (length designs) 64 (omega (arith, store_counts words)), codes_are words size n rest wide e behind, all_map (λ (d : Design). d.code) spelled designs) refl

    -- with the answers of the calls, each of which was asked once those before it were true
    module _ (a : Bool) (ea : a ≡ all spelled codes) where
      pub spelling_refused : a ≡ false → number ≡ 21
      spelling_refused h = rw (counted, ← ea, h) refl

      module _ (s : a ≡ true) (b : Bool) (eb : b ≡ all_differ codes) where
        pub same_refused : b ≡ false → number ≡ 21
        same_refused h = rw (counted, ← ea, s, ← eb, h) refl

        module _ (d : b ≡ true) (c : Bool) (ec : c ≡ all_fit) where
          pub design_refused : c ≡ false → number ≡ 21
          design_refused h = rw (counted, ← ea, s, ← eb, d, ← ec, h) refl

          pub store_accepted : c ≡ true → number ≡ 0
          store_accepted h = rw (counted, ← ea, s, ← eb, d, ← ec, h) refl

-- ---- a design that a call names

module _ (designs : List Design) (code : List ℕ) where
  pub misspelled_refused : spelled code ≡ false → named_number designs code ≡ 4
  unfolding named_number
  misspelled_refused h = rw h refl

  pub named_by : spelled code ≡ true → named_number designs code ≡ (12 when not (exists code designs) else 0)
  unfolding named_number
  named_by h = rw h refl
