use Rattle.cards.proofs.Writing.{Written}
use Rattle.cards.proofs.roster.write_people.Given as goal

abbrev pub invariant-loop-i : goal.invariant-loop-i
invariant-loop-i l = Written l.rest l.initial.words l.n l.left l.words l.i
