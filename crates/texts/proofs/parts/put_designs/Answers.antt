-- `texts::parts::put_designs` meets its contract: what is left of the designs begins with the next. Assumes nothing.
use native.Mathlib.Omega.{arith}
use Rattle.model.specs.Stores.{no_design}
use Rattle.model.specs.Lines.{lines_d}
use Rattle.texts.specs.Parts.{people_in, designs_in}
use Rattle.texts.proofs.Growing.{part_put}
use Rattle.texts.proofs.Lines.{each_left}
use Rattle.texts.proofs.parts.put_designs.Goals as goal

pub loop-place-preserved : goal.loop-place-preserved
loop-place-preserved c =
    let a = c.args in
    part_put c.loop-place.invariant _ _ (each_left (lines_d (people_in a.roster.now)) (designs_in a.store.now) c.loop-place.place no_design (omega arith)) (rw c.design.ensures at c.put_design-end.ensures)
