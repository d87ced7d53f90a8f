-- `Design::fits` meets its contract: where the kind and the cells on the roster fit, the cells past it decide.
-- Assumes nothing.
use mathlib.Core.Path.{sym, ◌∙◌}
use borrow.Author.Tests.{le-ltb}
use Rattle.laws.proofs.Tests.{never_both}
use Rattle.stores.proofs.Fits.{rest_decides}
use Rattle.stores.proofs.Design.fits.Goals as goal
use Rattle.stores.proofs.Design.fits.Goals.{then-kind-kinds, else-kind-kinds}

pub returns-then-cells_fit : goal.returns-then-cells_fit
returns-then-cells_fit c =
    let a = c.args in
    elim c.if-kind-kinds.branch [
      | then-kind-kinds w ↦
          c.cells_empty.ensures
          ∙ rest_decides a.kinds a.rights a.people a.self.now.words.now c.kind.result c.kind.ensures w.if-kind-kinds.true
          c.cells-cells.result.now c.cells-cells.ensures (sym w.cells_fit.ensures ∙ sym w.value-is ∙ c.if-cells_fit.true)
      | else-kind-kinds w ↦ absurd (never_both c.if-cells_fit.true (w.value-is ∙ le-ltb c.kind.result a.kinds w.if-kind-kinds.false))
    ]
