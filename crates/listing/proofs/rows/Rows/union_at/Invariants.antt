-- `listing::rows::Rows::union_at`: the rights of the rows from the one at hand on are put together.
-- Assumes nothing.
use Rattle.std.proofs.Common.{◌≡◌, ◌≤◌, map, drop}
use Rattle.model.specs.Rights.{together}
use Rattle.model.specs.Forms.{cell_at}
use Rattle.listing.specs.Tables.{rows_of}
use Rattle.listing.proofs.rows.Rows.union_at.Given as goal

abbrev pub invariant-loop-i : goal.invariant-loop-i
invariant-loop-i l = (l.i ≤ l.self.count) × (l.set ≡ together (map (λ row. cell_at row l.t) (drop l.i (rows_of l.self))))
