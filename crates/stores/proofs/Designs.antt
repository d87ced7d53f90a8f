-- The designs of a store by their places in the lent words: design i stands from word i * 36 + 1 on, and their codes are those of the records.
-- Assumes nothing.
use Prim.Native.Nat.{ℕ, ◌+◌, ◌*◌, ◌<◌}
use mathlib.Core.Path.{◌≡◌, refl, sym, ap, ap₂, ◌∙◌}
use mathlib.Core.Bool.{true}
use mathlib.Core.List.{List, [], ◌∷◌, map}
use native.Mathlib.Omega.{arith}
use lib.Dec.{ltb}
use lib.ListN.{length, get_or, take, drop, length-map}
use lib.Seq.{drop-drop}
use Rattle.std.specs.Prelude.{Option, Some, None}
use Rattle.model.specs.declared.Code.{Code}
use Rattle.model.specs.Words.{◌when◌else◌, groups, first_place, same}
use Rattle.model.specs.Codes.{spelled, packed, unpacked, code_at}
use Rattle.model.specs.Stores.{Design, no_design, place_of, exists, design_of, store_of}
use Rattle.laws.proofs.Codes.{unpacked-packed}
use Rattle.laws.proofs.Lists.{map_at, length-groups, groups_at, first-map}
use Rattle.records.specs.Records.{codes_in}

codes_of_groups : (gs : List (List ℕ)) → map (λ d. d.code) (map design_of gs) ≡ map (λ g. code_at (drop 1 g)) gs
codes_of_groups [] = refl
codes_of_groups (g ∷ gs) = ap (λ (r : List (List ℕ)). code_at (drop 1 g) ∷ r) (codes_of_groups gs)

module _ (words : List ℕ) where
  abbrev designs : List Design
  designs = store_of words

  abbrev count : ℕ
  count = get_or words 0 0

  pub length-store : length designs ≡ count
  unfolding store_of
  length-store = length-map (groups 36 count (drop 1 words)) design_of ∙ length-groups 36 count (drop 1 words)

  pub codes_of : map (λ d. d.code) designs ≡ codes_in 36 count (drop 1 words)
  unfolding store_of codes_in
  codes_of = codes_of_groups (groups 36 count (drop 1 words))

  pub store_counts : get_or words 0 0 ≡ length designs
  store_counts = sym length-store

  -- the design at the words that a code is packed into is the design with that code
  pub place_packed : (code : List ℕ) → spelled code ≡ true → (w : Code) → w ≡ packed code → (o : Option ℕ)
      → o ≡ (Some (place_of (unpacked w) designs) when exists (unpacked w) designs else None)
      → o ≡ (Some (place_of code designs) when exists code designs else None)
  place_packed code h w p o found =
      found ∙ ap (λ (c : List ℕ). Some (place_of c designs) when exists c designs else None) (ap unpacked p ∙ unpacked-packed code h)

  -- ---- the designs as records, which stand behind the count

  module _ (size n : ℕ) (rest : List ℕ) (wide : size ≡ 36) (e : n ≡ length designs) (behind : rest ≡ drop 1 words) where
    pub codes_are : codes_in size n rest ≡ map (λ d. d.code) designs
    codes_are = rw (wide, behind, e ∙ length-store) (sym codes_of)

    pub place_is : (code : List ℕ) → first_place (λ c. same c code) (codes_in size n rest) ≡ place_of code designs
    place_is code = rw codes_are (first-map (λ (d : Design). d.code) (λ c. same c code) designs)

    -- a place among the records, as the search for three words gives it
    pub words_found : (w : Code) (o : Option ℕ)
        → o ≡ (Some (first_place (λ c. same c (unpacked w)) (codes_in size n rest)) when ltb (first_place (λ c. same c (unpacked w)) (codes_in size n rest)) n else None)
        → o ≡ (Some (place_of (unpacked w) designs) when exists (unpacked w) designs else None)
    words_found w o found = found ∙ ap₂ (λ (i k : ℕ). Some i when ltb i k else None) (place_is (unpacked w)) e

    -- a place among the records, as the search for a packed code gives it
    pub place_found : (code : List ℕ) → spelled code ≡ true → (w : Code) → w ≡ packed code → (o : Option ℕ)
        → o ≡ (Some (first_place (λ c. same c (unpacked w)) (codes_in size n rest)) when ltb (first_place (λ c. same c (unpacked w)) (codes_in size n rest)) n else None)
        → o ≡ (Some (place_of code designs) when exists code designs else None)
    place_found code h w p o found = place_packed code h w p o (words_found w o found)

  -- ---- the design at a place

  pub design_is : (i : ℕ) → i < length designs → design_of (take 36 (drop (i * 36 + 1) words)) ≡ get_or designs i no_design
  unfolding store_of
  design_is i l =
      let h : i < count = omega (arith, length-store) in
      let at : i * 36 + 1 ≡ 1 + i * 36 = omega arith in
      rw at (ap (λ (r : List ℕ). design_of (take 36 r)) (sym (drop-drop (i * 36) 1 words))
      ∙ sym (map_at design_of (groups 36 count (drop 1 words)) [] no_design i (omega (arith, length-groups 36 count (drop 1 words)))
      ∙ ap design_of (groups_at 36 count (drop 1 words) [] i h)))
