use Prim.Native.Nat.{◌≤◌, ◌*◌}
use mathlib.Core.Path.{◌≡◌}
use mathlib.Core.Bool.{false}
use lib.ListN.{length, take, drop}
use Rattle.model.specs.Words.{any, same, groups}
use Rattle.listing.proofs.rows.Rows.has_row.Given as goal

abbrev pub invariant-loop-k : goal.invariant-loop-k
invariant-loop-k l = (l.at ≡ l.i * 8) × (l.k ≤ 8) × (take l.k l.row.cells ≡ take l.k (take 8 (drop l.at l.self.table.now)))

abbrev pub invariant-rows : goal.invariant-rows
invariant-rows l = (l.i ≤ l.self.count) × (length l.row.cells ≡ 8) × (any (same l.row.cells) (groups 8 l.i l.self.table.now) ≡ false)
