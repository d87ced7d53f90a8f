use lib.ListN.{drop}
use Rattle.model.specs.Lines.{lines_r}
use Rattle.texts.proofs.Growing.{Growing}
use Rattle.texts.proofs.parts.put_answers.Given as goal

abbrev pub invariant-loop-i : goal.invariant-loop-i
invariant-loop-i l = Growing (lines_r 0 l.answers) l.at l.initial.text (lines_r l.i (drop l.i l.answers)) l.end l.text
