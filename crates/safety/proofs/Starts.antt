-- Where the invariant comes from and how a roster that grows keeps it: a create and a stored design without overlap have it, with the start's row.
-- Assumes nothing.
use Prim.Native.Nat.{ℕ, ◌≤◌, ◌<◌}
use mathlib.Core.Bool.{false}
use mathlib.Core.List.{List}
use mathlib.Core.Logic.{by_cases}
use mathlib.Core.Path.{◌≡◌, refl, sym, ap, ◌∙◌}
use native.Mathlib.Decide.{ℕ_discrete, dec_lt}
use native.Mathlib.Omega.{arith}
use lib.ListN.{length}
use Rattle.model.specs.declared.Command.{Command}
use Rattle.model.specs.Rights.{bit}
use Rattle.model.specs.Rosters.{Person, type_at}
use Rattle.model.specs.Forms.{cell_at, created}
use Rattle.model.specs.Kinds.{overlaps, of_type, row_of_create, row_of_design}
use Rattle.model.specs.Listing.{Row}
use Rattle.laws.proofs.Forms.{created_here, created_other}
use Rattle.laws.proofs.Bits.{bit_of_zero, bit_below_two}
use Rattle.laws.proofs.KindSets.{type_has, one_of_type, row_at, row_past, overlap_no_pair}
use Rattle.laws.proofs.Reach.{Among}
use Rattle.safety.specs.Histories.{Joined}
use Rattle.safety.proofs.Invariant.{Inv}

-- ---- a create: one cell is Z, and all others are empty

-- whoever holds something is the creator, and it is in Z
creator : (c : Command) (n a p k : ℕ) → a < n → bit (cell_at (created c a n) p) k ≡ 1 → (p ≡ a) × (bit c.z k ≡ 1)
creator c n a p k l h =
    by_cases (ℕ_discrete p a) (λ e. (e, rw (created_here c a n l) at (rw e at h)))
    (λ ne. absurd (omega (arith, bit_of_zero k, rw (created_other c a n p ne) at h)))

module _ (commands : List Command) (kind : ℕ) (people : List Person) (rows : List Row) where
  pub create_has : (c : Command) (n a : ℕ) → a < n → a < length people → c.source < 8 → type_at people a ≡ c.source
      → Among (row_of_create c) rows → Inv commands kind people rows (created c a n)
  unfolding row_of_create
  create_has c n a l al small ta listed = record {
    row = row_of_create c;
    listed = listed;
    seen = λ p k pl prop h. in_row p k h;
    there = λ t k prop h.
        let (e, z) = creator c 8 c.source t k small h in
        (a, al, ta ∙ sym e, rw (created_here c a n l) z);
    apart = λ p q k pl ql ne t b hp hq. ne ((creator c n a p k l hp).0 ∙ sym (creator c n a q k l hq).0);
    known = λ p k pl h. (row_of_create c, listed, in_row p k h);
  }
    where
      in_row : (p k : ℕ) → bit (cell_at (created c a n) p) k ≡ 1 → bit (cell_at (created c c.source 8) (type_at people p)) k ≡ 1
      in_row p k h =
          let (e, z) = creator c n a p k l h in
          rw (ap (type_at people) e ∙ ta, created_here c c.source 8 small) z

  -- ---- a stored design without overlap: the row holds what the people of each type hold together

  pub design_has : (cells : List ℕ) → overlaps commands kind people cells ≡ false → ((p : ℕ) → p < length people → type_at people p < 8)
      → Among (row_of_design people cells) rows → Inv commands kind people rows cells
  design_has cells no-overlap small listed = record {
    row = row_of_design people cells;
    listed = listed;
    seen = λ p k pl prop h. in_row p k pl h;
    there = λ t k prop h. by_somebody t k h;
    apart = λ p q k pl ql ne t b hp hq.
        by_cases (dec_lt p q) (λ l. overlap_no_pair commands kind people cells no-overlap p q k ql (l, t, hp, hq, b))
        (λ l. overlap_no_pair commands kind people cells no-overlap q p k pl (omega arith, sym t, hq, hp, b));
    known = λ p k pl h. (row_of_design people cells, listed, in_row p k pl h);
  }
    where
      in_row : (p k : ℕ) → p < length people → bit (cell_at cells p) k ≡ 1 → bit (cell_at (row_of_design people cells) (type_at people p)) k ≡ 1
      in_row p k pl h =
          rw (row_at people cells (type_at people p) (small p pl))
          (omega (arith, type_has people cells (type_at people p) k p pl refl, bit_below_two (of_type people cells (type_at people p)) k))

      by_somebody : (t k : ℕ) → bit (cell_at (row_of_design people cells) t) k ≡ 1
          → (p : ℕ) × (p < length people) × (type_at people p ≡ t) × (bit (cell_at cells p) k ≡ 1)
      by_somebody t k h =
          by_cases (dec_lt t 8) (λ l. one_of_type people cells t k (rw (row_at people cells t l) at h))
          (λ l. absurd (omega (arith, bit_of_zero k, rw (row_past people cells t (omega arith)) at h)))

-- ---- a roster that grows: the newcomers' cells are empty

pub joined_keeps : (commands : List Command) (kind types : ℕ) (before after : List Person) (rows : List Row) (cells : List ℕ)
    → Joined types before after → ((p : ℕ) → length before ≤ p → cell_at cells p ≡ 0)
    → Inv commands kind before rows cells → Inv commands kind after rows cells
joined_keeps commands kind types before after rows cells joined empty inv = record {
  row = inv.row;
  listed = inv.listed;
  seen = λ p k pl prop h. let old = present p k h in rw (joined.stay p old) (inv.seen p k old prop h);
  there = λ t k prop h.
      let (p, pl, tp, here) = inv.there t k prop h in
      (p, omega (arith, joined.longer), joined.stay p pl ∙ tp, here);
  apart = λ p q k pl ql ne t b hp hq.
      let old-p = present p k hp in
      let old-q = present q k hq in
      inv.apart p q k old-p old-q ne (sym (joined.stay p old-p) ∙ t ∙ joined.stay q old-q) b hp hq;
  known = λ p k pl h.
      let old = present p k h in
      let (row, listed, here) = inv.known p k old h in
      (row, listed, rw (joined.stay p old) here);
}
  where
    present : (p k : ℕ) → bit (cell_at cells p) k ≡ 1 → p < length before
    present p k h =
        by_cases (dec_lt p (length before)) (λ l. l) (λ l. absurd (omega (arith, bit_of_zero k, rw (empty p (omega arith)) at h)))
