-- `listing::rows::Rows::row` meets its contract: the words copied are the table's at that row.
-- Assumes nothing.
use Rattle.std.proofs.Common.{◌≡◌, ◌*◌, ◌+◌, ◌-◌, [], arith, ap, sym, ◌∙◌, take, drop}
use Rattle.laws.proofs.Lists.{groups_at}
use Rattle.listing.proofs.rows.Rows.row.Goals as goal

pub returns : goal.returns
returns c =
    let table = c.args.self.now.table.now in
    let at = c.args.i * 8 in
    let eight : at + 8 - at ≡ 8 = omega arith in
    c.copy_from_slice.ensures.after ∙ ap (λ n. take n (drop at table)) eight ∙ sym (groups_at 8 c.args.self.now.count table [] c.args.i c.requires)
