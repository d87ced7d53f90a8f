use Prim.Native.Nat.{◌-◌}
use mathlib.Core.Path.{◌≡◌}
use Rattle.model.specs.Cards.{entries_fill}
use Rattle.cards.proofs.entries.entries_fill.Given as goal

abbrev pub invariant-loop : goal.invariant-loop
invariant-loop g l = entries_fill g.row.FIXED l.n l.rest ≡ entries_fill g.row.FIXED (l.n - l.counter) l.left
