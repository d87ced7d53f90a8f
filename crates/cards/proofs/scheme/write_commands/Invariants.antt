use Rattle.cards.proofs.Commands.{Loading}
use Rattle.cards.proofs.scheme.write_commands.Given as goal

abbrev pub invariant-loop-place : goal.invariant-loop-place
invariant-loop-place l = Loading l.bytes l.initial.places l.rest l.places l.place-index
