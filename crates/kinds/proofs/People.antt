-- The people of a roster by their numbers: what those of a type hold, put together from the last on, and whether some two clash, looked for from
-- the first on. Assumes nothing.
use Prim.Native.Nat.{ℕ, suc, ◌≤◌, ◌<◌}
use mathlib.Core.Bool.{and_assoc}
use mathlib.Core.List.{List, ◌∷◌, map}
use mathlib.Core.Path.{◌≡◌, refl, sym, ◌∙◌}
use native.Mathlib.Nat.{zero-add}
use native.Mathlib.Omega.{arith}
use borrow.Author.Tests.{eq-eqb, ne_eqb}
use lib.Dec.{ltb, eqb}
use lib.ListN.{length, drop, drop_of_length-le}
use lib.Seq.{drop-cons}
use Rattle.model.specs.declared.Command.{Command}
use Rattle.model.specs.Words.{any, those, numbers_from}
use Rattle.model.specs.Rights.{common, meets, with_those, together}
use Rattle.model.specs.Rosters.{Person, type_at}
use Rattle.model.specs.Forms.{cell_at}
use Rattle.model.specs.Kinds.{both, clash, overlaps, of_type}
use Rattle.laws.proofs.Lists.{length-numbers, numbers_at}
use Rattle.kinds.specs.Designs.{clash_by, clashes}

-- ---- all rights of a type's people

module _ (people : List Person) (cells : List ℕ) (t : ℕ) where
  -- of the people from p on
  abbrev pub rights_from : ℕ → ℕ
  rights_from p = together (map (cell_at cells) (those (λ q. eqb (type_at people q) t) (drop p (numbers_from 0 (length people)))))

  pub rights_of_none : (p : ℕ) → length people ≤ p → rights_from p ≡ 0
  unfolding together
  rights_of_none p h = rw (drop_of_length-le (numbers_from 0 (length people)) {i = p} (omega (arith, length-numbers 0 (length people))))

  pub rights_of_all : rights_from 0 ≡ of_type people cells t
  unfolding of_type
  rights_of_all = refl

  module _ (p : ℕ) (h : p < length people) where
    from_here : drop p (numbers_from 0 (length people)) ≡ p ∷ drop (suc p) (numbers_from 0 (length people))
    from_here =
        drop-cons (numbers_from 0 (length people)) p 0 (omega (arith, length-numbers 0 (length people)))
        ∙ rw (numbers_at 0 (length people) 0 p h, zero-add p)

    pub rights_of_one : type_at people p ≡ t → rights_from p ≡ with_those (cell_at cells p) (rights_from (suc p))
    unfolding together
    rights_of_one e = rw (from_here, eq-eqb (type_at people p) t e)

    pub rights_of_others : (type_at people p ≡ t → ⊥) → rights_from p ≡ rights_from (suc p)
    rights_of_others e = rw (from_here, ne_eqb (type_at people p) t e)

-- ---- overlap

module _ (set : ℕ) (people : List Person) (cells : List ℕ) where
  clash_by_lem : (commands : List Command) (kind a b : ℕ) → set ≡ both commands kind → clash_by set people cells a b ≡ clash commands kind people cells a b
  unfolding clash
  clash_by_lem commands kind a b e =
      rw e (sym (and_assoc (ltb a b) (eqb (type_at people a) (type_at people b)) (meets (common (cell_at cells a) (cell_at cells b)) (both commands kind))))

  pub overlaps_by : (commands : List Command) (kind n : ℕ) → set ≡ both commands kind → n ≡ length people
      → any (clashes set n people cells) (numbers_from 0 n) ≡ overlaps commands kind people cells
  unfolding overlaps clashes
  overlaps_by commands kind n e count = λ i. any (λ (a : ℕ). any (λ (b : ℕ). clash_by_lem commands kind a b e i) (numbers_from 0 (count i))) (numbers_from 0 (count i))
