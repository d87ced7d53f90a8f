-- **never**, **one listed state** and **apart**: what the invariant says at a moment, in the words of the definitions. Assumes nothing.
use Prim.Native.Nat.{ℕ, min}
use mathlib.Core.Bool.{true, false}
use mathlib.Core.List.{List, []}
use mathlib.Core.Path.{◌≡◌, sym, ap, ◌∙◌}
use native.Mathlib.Omega.{arith}
use Rattle.model.specs.declared.Command.{Command}
use Rattle.model.specs.declared.Verdict.{Verdict}
use Rattle.model.specs.Words.{any}
use Rattle.model.specs.Rights.{bit, has, common}
use Rattle.model.specs.Rosters.{Person}
use Rattle.model.specs.Forms.{cell_at}
use Rattle.model.specs.Kinds.{propagation, of_type}
use Rattle.model.specs.Listing.{Row}
use Rattle.model.specs.Verdicts.{Question, Start, rows_from, holds, reported, verdict_from}
use Rattle.laws.proofs.Tests.{by_test, never_both, not_passed}
use Rattle.laws.proofs.Bits.{by_bit, same_bits, has_true, bit-has, bit-common, bit_below_two}
use Rattle.laws.proofs.Lists.{at_any}
use Rattle.laws.proofs.KindSets.{type_has, one_of_type, no_pair_overlap}
use Rattle.laws.proofs.Reach.{Among, among_at}
use Rattle.safety.specs.Premises.{Premises}
use Rattle.safety.specs.Promises.{cells_of, Never, OneListedState, Apart}
use Rattle.safety.proofs.Invariant.{Inv}
use Rattle.safety.proofs.Moments.{always_now}
use Rattle.safety.proofs.Zero.{premises_zero}

-- held 0 says that no listed row has the right at the type
reported_none : (q : Question) (rows : List Row) → (reported q rows).held ≡ 0 → any (holds q) rows ≡ false
unfolding reported
reported_none q rows h = by_test (any (holds q) rows) (λ t. absurd (omega (arith, rw t at h))) (λ t. t)

pub not_held : (commands : List Command) (start : Start) (q : Question) → Premises commands start q.budget
    → (verdict_from commands start q).held ≡ 0 → any (holds q) (rows_from commands start q.budget) ≡ false
not_held commands start q premises h =
    reported_none q (rows_from commands start q.budget) (ap (λ (v : Verdict). v.held) (sym (premises_zero commands start q premises)) ∙ h)

-- a listed row that has the right at the type
row_holds : (q : Question) (rows : List Row) (row : Row) → Among row rows → bit (cell_at row q.type) q.right ≡ 1 → any (holds q) rows ≡ true
unfolding holds
row_holds q rows row among b =
    let (i, l, e) = among_at row rows among in
    at_any (holds q) rows [] i l (rw e (bit-has (cell_at row q.type) q.right b))

pub never : Never
never s people₀ designs₀ code start begins q premises unheld people designs later p l t =
    let now = always_now begins q.budget premises later in
    let rows = rows_from s.commands start q.budget in
    not_passed (has (cell_at (cells_of code designs) p) q.right)
    (λ h.
    let (row, among, b) = now.inv.known p q.right l (has_true (cell_at (cells_of code designs) p) q.right h) in
    never_both (row_holds q rows row among (rw t at b)) (not_held s.commands start q premises unheld))

pub apart : Apart
apart s people₀ designs₀ code start begins budget premises people designs later =
    let now = always_now begins budget premises later in
    no_pair_overlap s.commands start.kind people (cells_of code designs)
    (λ a b k bl pair. now.inv.apart a b k (omega (arith, pair.0)) bl (λ e. omega (arith, pair.0)) pair.1 pair.4 pair.2 pair.3)

-- on a propagation right the row and the people of a type agree
agree : (commands : List Command) (kind : ℕ) (people : List Person) (rows : List Row) (cells : List ℕ) (inv : Inv commands kind people rows cells) (t k : ℕ)
    → min (bit (propagation commands kind) k) (bit (cell_at inv.row t) k) ≡ min (bit (propagation commands kind) k) (bit (of_type people cells t) k)
agree commands kind people rows cells inv t k =
    by_bit (propagation commands kind) k
    (λ prop.
    let below = bit_below_two (cell_at inv.row t) k in
    let below' = bit_below_two (of_type people cells t) k in
    by_bit (cell_at inv.row t) k
    (λ in_row.
    let (p, l, tp, here) = inv.there t k prop in_row in
    omega (arith, type_has people cells t k p l tp))
    (λ not-in-row.
    by_bit (of_type people cells t) k
    (λ held.
    let (p, l, tp, here) = one_of_type people cells t k held in
    omega (arith, rw tp at (inv.seen p k l prop here)))
    (λ not_held. omega arith)))
    (λ none. omega arith)

pub one_listed_state : OneListedState
one_listed_state s people₀ designs₀ code start begins budget premises people designs later =
    let now = always_now begins budget premises later in
    let rows = rows_from s.commands start budget in
    let (i, l, e) = among_at now.inv.row rows now.inv.listed in
    let P = propagation s.commands start.kind in (
      i,
      l,
      λ t small.
          rw e
          (same_bits (common P (cell_at now.inv.row t)) (common P (of_type people (cells_of code designs) t))
          (λ k.
          bit-common P (cell_at now.inv.row t) k
          ∙ agree s.commands start.kind people rows (cells_of code designs) now.inv t k
          ∙ sym (bit-common P (of_type people (cells_of code designs) t) k))),
    )
