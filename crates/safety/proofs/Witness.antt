-- Rosters with one person of each type exist, and stores with and without a design: the promises of what is reached are not empty. Assumes nothing.
use Prim.Native.Nat.{ℕ, zero, suc, ◌+◌, ◌-◌, ◌≤◌, ◌<◌, ◌^◌}
use mathlib.Core.Bool.{true}
use mathlib.Core.List.{List, [], ◌∷◌, ◌++◌, map}
use mathlib.Core.Logic.{by_cases}
use mathlib.Core.Path.{◌≡◌, refl, sym, ap, ◌∙◌}
use native.Mathlib.Decide.{dec_lt, ℕ_discrete}
use native.Mathlib.Omega.{arith}
use lib.ListN.{length, get_or, replicate, length-append, length-map, get_or-append, get_or-eq_default}
use lib.Pow.{pow_pos}
use lib.Seq.{get_or-append-add}
use lib.Dec.{eqb}
use Rattle.model.specs.Words.{those, numbers_from}
use Rattle.model.specs.Codes.{spelled}
use Rattle.model.specs.Schemes.{Scheme}
use Rattle.model.specs.Rosters.{Person, nobody, type_at, roster_number}
use Rattle.model.specs.Forms.{cell_at}
use Rattle.model.specs.Stores.{Design, no_design, place_of, design_at, named_number}
use Rattle.model.specs.Kinds.{of_type, row_of_design}
use Rattle.model.specs.Verdicts.{design_asked_number}
use Rattle.model.specs.Outcomes.{people_in, designs_in, design_call_number}
use Rattle.model.proofs.Computes.{computes}
use Rattle.laws.proofs.Tests.{accepted}
use Rattle.laws.proofs.Bits.{one_bit, together_lt}
use Rattle.laws.proofs.Forms.{get_or-copies}
use Rattle.laws.proofs.KindSets.{one_of_type, row_at, row_past}
use Rattle.laws.proofs.Lists.{map_at, table_at, same_refl, length-numbers}
use Rattle.laws.proofs.Checks.{valid_scheme, valid_roster, Fits, checked_zero}
use Rattle.laws.proofs.Kept.{handed_roster, handed_good}
use Rattle.safety.specs.Promises.{Admits, SomeRoster, SomeStoreWithout, SomeStoreWith}

-- ---- person t of type t, with a letter for a code

person : ℕ → Person
person t = record { type = t; code = (65 + t) ∷ [] }

everyone : ℕ → List Person
everyone types = map person (numbers_from 0 types)

everyone_admitted : (types : ℕ) → 1 ≤ types → types ≤ 8 → roster_number types (everyone types) ≡ 0
unfolding computes everyone person
everyone_admitted zero l m = absurd (omega arith)
everyone_admitted (suc zero) l m = refl
everyone_admitted (suc (suc zero)) l m = refl
everyone_admitted (suc (suc (suc zero))) l m = refl
everyone_admitted (suc (suc (suc (suc zero)))) l m = refl
everyone_admitted (suc (suc (suc (suc (suc zero))))) l m = refl
everyone_admitted (suc (suc (suc (suc (suc (suc zero)))))) l m = refl
everyone_admitted (suc (suc (suc (suc (suc (suc (suc zero))))))) l m = refl
everyone_admitted (suc (suc (suc (suc (suc (suc (suc (suc zero)))))))) l m = refl
everyone_admitted (suc (suc (suc (suc (suc (suc (suc (suc (suc n))))))))) l m = absurd (omega arith)

pub some_roster : SomeRoster
unfolding everyone person
some_roster s valid =
    let types = (valid_scheme s valid).types_are in
    let n = s.types in (
      everyone n,
      record {
        admitted = everyone_admitted n types.0 types.1;
        as_many = length-map (numbers_from 0 n) person ∙ length-numbers 0 n;
        each = λ t l.
            ap (λ (p : Person). p.type) (table_at person n nobody t l);
      },
    )

pub some_store_without : SomeStoreWithout
unfolding computes
some_store_without s people code = ([], record { passes = refl; cells = λ i l. absurd (omega arith) }, refl, omega arith)

-- ---- the start's cells, and no others

-- a row as a design's cells
spread : List ℕ → List ℕ
spread row = row ++ replicate 24 0

module _ (row : List ℕ) (wide : length row ≡ 8) where
  spread_length : length (spread row) ≡ 32
  unfolding spread
  spread_length = length-append row (replicate 24 0) ∙ omega arith

  spread_at : (p : ℕ) → cell_at (spread row) p ≡ cell_at row p
  unfolding spread
  spread_at p =
      by_cases (dec_lt p (length row)) (λ l. get_or-append row (replicate 24 0) 0 p l)
      (λ l.
      let e : p ≡ length row + (p - length row) = omega arith in
      ap (cell_at (row ++ replicate 24 0)) e ∙ get_or-append-add row (replicate 24 0) (p - length row) 0 ∙ get_or-copies 24 (p - length row) 0
      ∙ sym (get_or-eq_default row 0 (omega arith)))

module _ (people : List Person) (cells : List ℕ) where
  type_below : (n : ℕ) → ((p : ℕ) → cell_at cells p < 2 ^ n) → (t : ℕ) → of_type people cells t < 2 ^ n
  unfolding of_type
  type_below n h t =
      let those-people = those (λ p. eqb (type_at people p) t) (numbers_from 0 (length people)) in
      together_lt n (map (cell_at cells) those-people)
      (λ i l.
      let m : i < length those-people = omega (arith, length-map those-people (cell_at cells)) in
      rw (map_at (cell_at cells) those-people 0 0 i m) (h (get_or those-people i 0)))

  no_type : (types : ℕ) → ((p : ℕ) → p < length people → type_at people p < types) → (t : ℕ) → types ≤ t → of_type people cells t ≡ 0
  no_type types below t l =
      by_cases (ℕ_discrete (of_type people cells t) 0) (λ e. e)
      (λ ne.
      let (k, b, one) = one_bit (of_type people cells t) ne in
      let (p, pl, tp, held) = one_of_type people cells t k one in
      absurd (omega (arith, below p pl)))

-- a row's cells are below what the people's are, and those of no type are empty
module _ (people : List Person) (cells : List ℕ) where
  row_wide : length (row_of_design people cells) ≡ 8
  unfolding row_of_design
  row_wide = refl

  row_below : (n : ℕ) → ((p : ℕ) → cell_at cells p < 2 ^ n) → (t : ℕ) → cell_at (row_of_design people cells) t < 2 ^ n
  row_below n h t =
      by_cases (dec_lt t 8) (λ l. rw (row_at people cells t l) (type_below people cells n h t))
      (λ l. rw (row_past people cells t (omega arith)) (pow_pos n))

  row_empty : (types : ℕ) → ((p : ℕ) → p < length people → type_at people p < types) → (t : ℕ) → types ≤ t → cell_at (row_of_design people cells) t ≡ 0
  row_empty types below t m =
      by_cases (dec_lt t 8) (λ l. row_at people cells t l ∙ no_type people cells types below t m) (λ l. row_past people cells t (omega arith))

-- a store of one design is found by its code
only_place : (d : Design) → place_of d.code (d ∷ []) ≡ 0
only_place d = rw (same_refl d.code)

only_design : (s : Scheme) (people : List Person) (d : Design) → spelled d.code ≡ true → length d.cells ≡ 32 → Fits s.kinds s.rights (length people) d
    → Admits s people (d ∷ [])
only_design s people d spelt cells fit = record {
  passes = checked_zero s.kinds s.rights (length people) (d ∷ []) (record {
    few = omega arith;
    spelt = only (λ e. spelled e.code ≡ true) spelt;
    differ = refl;
    fit = only (Fits s.kinds s.rights (length people)) fit;
  });
  cells = only (λ e. length e.cells ≡ 32) cells;
}
  where
    only : (P : Design → Type 0) → P d → (i : ℕ) → i < 1 → P (get_or (d ∷ []) i no_design)
    only P p zero l = p
    only P p (suc i) l = absurd (omega arith)

pub some_store_with : SomeStoreWith
unfolding design_call_number design_asked_number named_number
some_store_with h code q table asked people each =
    let facts = simp accepted at asked in
    let s = h.scheme in
    let good = handed_good h facts.1.0 facts.0 in
    let old = design_at code (designs_in h) in
    let fit = good.check.fit (place_of code (designs_in h)) facts.1.1.1.1.0 in
    let row = row_of_design (people_in h) old.cells in
    let d : Design = record { kind = old.kind; code = code; cells = spread row } in
    let at : (p : ℕ) → cell_at (spread row) p ≡ cell_at row p = spread_at row (row_wide (people_in h) old.cells) in
    let here : design_at code (d ∷ []) ≡ d = ap (λ (i : ℕ). get_or (d ∷ []) i no_design) (only_place d) in
    let roster = valid_roster s.types (people_in h) (handed_roster h facts.1.0) in (
      d ∷ [],
      only_design s people d facts.1.1.1.0.0 (spread_length row (row_wide (people_in h) old.cells)) (record {
        kind_below = fit.kind_below;
        cell_below = λ p. rw at (row_below (people_in h) old.cells s.rights fit.cell_below p);
        empty_past = λ p l. at p ∙ row_empty (people_in h) old.cells s.types roster.type_below p (omega (arith, each.as_many));
      }),
      rw (only_place d),
      ap (λ (e : Design). e.kind) here,
      λ p. ap (λ (e : Design). cell_at e.cells p) here ∙ at p,
    )
