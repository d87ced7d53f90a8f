-- The people of a roster by their places in the lent words: person p stands from word p * 4 on, and their codes are those of the records.
-- Assumes nothing.
use Prim.Native.Nat.{ℕ, ◌+◌, ◌*◌, ◌<◌}
use mathlib.Core.Path.{◌≡◌, refl, sym, ap, ◌∙◌}
use mathlib.Core.Bool.{Bool, not}
use mathlib.Core.List.{List, [], ◌∷◌, map}
use native.Mathlib.Nat.{add-zero}
use native.Mathlib.Omega.{arith}
use lib.Dec.{ltb}
use lib.ListN.{length, get_or, drop, length-map}
use Rattle.model.specs.Words.{groups}
use Rattle.model.specs.Codes.{unpacked, code_at}
use Rattle.model.specs.Rosters.{Person, nobody, type_at, person_of, roster_of}
use Rattle.laws.proofs.Lists.{map_at, length-groups, groups_at}
use Rattle.records.specs.Records.{code_from, codes_in}
use Rattle.records.proofs.Codes.{part_at, code_at_lem}

codes_of_groups : (gs : List (List ℕ)) → map (λ p. p.code) (map person_of gs) ≡ map (λ g. code_at (drop 1 g)) gs
codes_of_groups [] = refl
codes_of_groups (g ∷ gs) = ap (λ (r : List (List ℕ)). code_at (drop 1 g) ∷ r) (codes_of_groups gs)

-- the person's type is out of range
abbrev pub out : ℕ → Person → Bool
out types p = not (ltb p.type types)

module _ (count : ℕ) (words : List ℕ) where
  abbrev people : List Person
  people = roster_of count words

  pub length-roster : length people ≡ count
  unfolding roster_of
  length-roster = length-map (groups 4 count words) person_of ∙ length-groups 4 count words

  pub codes_of : map (λ p. p.code) people ≡ codes_in 4 count words
  unfolding roster_of codes_in
  codes_of = codes_of_groups (groups 4 count words)

  module _ (p : ℕ) (l : p < count) where
    pub type_is : type_at people p ≡ get_or words (p * 4) 0
    unfolding roster_of
    type_is =
        ap (λ (q : Person). q.type) (map_at person_of (groups 4 count words) [] nobody p (omega (arith, length-groups 4 count words)))
        ∙ ap (λ (g : List ℕ). get_or g 0 0) (groups_at 4 count words [] p l)
        ∙ part_at 4 (p * 4) words 0 0 (omega arith)
        ∙ ap (λ (n : ℕ). get_or words n 0) (add-zero (p * 4))

    pub code_is : (get_or people p nobody).code ≡ unpacked (code_from words (p * 4 + 1))
    code_is =
        sym (map_at (λ q. q.code) people nobody [] p (omega (arith, length-roster)))
        ∙ ap (λ (r : List (List ℕ)). get_or r p []) codes_of
        ∙ code_at_lem 4 count words (omega arith) p l
