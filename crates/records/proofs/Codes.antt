-- The codes of records by their places: record i starts at word i * size, and its code at the word after.
-- Assumes nothing.
use Prim.Native.Nat.{ℕ, ◌+◌, ◌*◌, ◌≤◌, ◌<◌}
use mathlib.Core.Path.{◌≡◌, ap, ◌∙◌}
use mathlib.Core.List.{List, []}
use native.Mathlib.Omega.{arith}
use lib.ListN.{length, get_or, take, drop, length-map}
use lib.Seq.{get_or-take, get_or-drop}
use Rattle.model.specs.Words.{groups}
use Rattle.model.specs.Codes.{unpacked, code_at}
use Rattle.laws.proofs.Lists.{map_at, length-groups, groups_at}
use Rattle.records.specs.Records.{code_from, codes_in}

-- what is read in a part of a list
pub part_at : {A : Type 0} (size at : ℕ) (xs : List A) (k : ℕ) (d : A) → k < size → get_or (take size (drop at xs)) k d ≡ get_or xs (at + k) d
part_at size at xs k d l = rw (get_or-take, get_or-drop)

module _ (size count : ℕ) (words : List ℕ) where
  pub length-codes : length (codes_in size count words) ≡ count
  unfolding codes_in
  length-codes = length-map (groups size count words) (λ g. code_at (drop 1 g)) ∙ length-groups size count words

  module _ (four : 4 ≤ size) (i : ℕ) (l : i < count) where
    word_of : (k j : ℕ) → 1 + k < 4 → i * size + (1 + k) ≡ j → get_or (drop 1 (take size (drop (i * size) words))) k 0 ≡ get_or words j 0
    word_of k j m e =
        get_or-drop 1 (take size (drop (i * size) words)) k 0
        ∙ part_at size (i * size) words (1 + k) 0 (omega arith)
        ∙ ap (λ (n : ℕ). get_or words n 0) e

    pub code_at_lem : get_or (codes_in size count words) i [] ≡ unpacked (code_from words (i * size + 1))
    unfolding codes_in
    code_at_lem =
        map_at (λ g. code_at (drop 1 g)) (groups size count words) [] [] i (omega (arith, length-groups size count words))
        ∙ ap (λ (g : List ℕ). code_at (drop 1 g)) (groups_at size count words [] i l)
        ∙ ap unpacked (λ j. record {
          a = word_of 0 (i * size + 1) (omega arith) (omega arith) j;
          b = word_of 1 (i * size + 1 + 1) (omega arith) (omega arith) j;
          c = word_of 2 (i * size + 1 + 2) (omega arith) (omega arith) j;
        })
