-- `listing::scope::Scope::put` meets its contract. Each exit is a law: nothing new, a search that is cut, and a new row in the free rest.
-- Assumes nothing.
use Prim.Native.Nat.{◌*◌, ◌-◌}
use mathlib.Core.Path.{sym, ap, ◌∙◌}
use native.Mathlib.Omega.{arith}
use lib.ListN.{length}
use borrow.Rule.Slice.PartMut.{put_mid}
use Rattle.model.specs.Words.{groups}
use Rattle.laws.proofs.Lists.{rest_written}
use Rattle.listing.proofs.Listed.{put_known, put_new, lists_same, lists_new, lists_cut_off}
use Rattle.listing.proofs.scope.Scope.put.Goals as goal
use Rattle.listing.proofs.scope.Scope.put.Goals.{then-rows-self, else-rows-self}

pub returns-then-has_row : goal.returns-then-has_row
returns-then-has_row c =
    let a = c.args in
    rw (put_known a.row.cells (groups 8 a.rows a.table.now) (sym c.has_row.ensures ∙ c.if-has_row.true))
    (lists_same a.self.now.budget a.rows a.table.now (omega arith) (omega arith))

pub returns : goal.returns
returns c =
    let a = c.args in
    let t = a.table.now in
    let new = put_new a.row.cells (groups 8 a.rows t) (sym c.has_row.ensures ∙ c.if-has_row.false) in
    elim c.if-rows-self.branch [
      | then-rows-self w ↦
          let at = a.rows * 8 in
          let written = ap (put_mid at (length t - at) t) w.write_row.ensures ∙ rest_written at t a.row.cells (omega arith) in
          rw (new, w.table-is, written) (lists_new a.self.now.budget a.rows t (omega arith) (omega arith) a.row.cells w.if-rows-self.true)
      | else-rows-self w ↦
          rw (new, w.table-is) (lists_cut_off a.self.now.budget a.rows t (omega arith) (omega arith) a.row.cells w.if-rows-self.false)
    ]
