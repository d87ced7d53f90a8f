-- `listing::rows::Rows::union_at` meets its contract. The invariant: the rights of the rows from the one at hand on are put together.
-- Assumes nothing.
use Rattle.std.proofs.Common.{arith, [], suc, ◌-◌, ◌≡◌, sym, ◌∙◌}
use Rattle.model.specs.Forms.{cell_at}
use Rattle.laws.proofs.Lists.{length-groups}
use Rattle.listing.specs.Tables.{rows_of}
use Rattle.listing.proofs.Firsts.{together_more, together_none}
use Rattle.listing.proofs.rows.Rows.union_at.Goals as goal

pub loop-i-init : goal.loop-i-init
loop-i-init c =
    let rows = c.args.self.now in
    (omega arith, sym (together_none (λ row. cell_at row c.args.t) (rows_of rows) [] rows.count (omega (arith, length-groups 8 rows.count rows.table.now))))

pub loop-i-preserved : goal.loop-i-preserved
loop-i-preserved c =
    let rows = c.args.self.now in
    let i = c.loop-i.i - 1 in
    let next : suc i ≡ c.loop-i.i = omega arith in
    let more = together_more (λ row. cell_at row c.args.t) (rows_of rows) [] i (omega (arith, length-groups 8 rows.count rows.table.now)) in
    (omega arith, c.with_those-set.ensures ∙ rw (more, c.cell.ensures, c.row.ensures, next, c.loop-i.invariant.1))

pub returns : goal.returns
returns c =
    let end : c.loop-i.i ≡ 0 = omega arith in
    rw end at c.loop-i.invariant.1
