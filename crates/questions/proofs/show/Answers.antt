-- `questions::show`: the people passed are shown, and their pairs written over the list that was lent. Assumes nothing.
use Rattle.std.proofs.Common.{arith, refl}
use lib.ListN.{length-set}
use Rattle.questions.proofs.Asked.{shows_none, shows_empty, shows_cell}
use Rattle.questions.proofs.show.Goals.{then-cell-ne0, else-cell-ne0}
use Rattle.questions.proofs.show.Goals as goal

pub loop-person-init : goal.loop-person-init
loop-person-init c = (omega arith, omega arith, refl, shows_none _ _)

pub loop-person-preserved : goal.loop-person-preserved
loop-person-preserved c =
    let l = c.loop-person in
    let inv = l.invariant in
    elim c.if-cell-ne0.branch [
      | then-cell-ne0 w ↦ (
        omega arith,
        rw w.shown-is (omega arith),
        rw w.list-is (simp length-set inv.2),
        rw (w.shown-is, w.list-is) (shows_cell _ _ l.list l.person l.shown (omega arith) c.requires.2 inv.3 w.if-cell-ne0.true),
      )
      | else-cell-ne0 w ↦ (
        omega arith,
        rw w.shown-is (omega arith),
        rw w.list-is inv.2,
        rw (w.shown-is, w.list-is) (shows_empty _ _ l.list l.person l.shown (omega arith) c.requires.2 inv.3 w.if-cell-ne0.false),
      )
    ]
