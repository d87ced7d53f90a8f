use Rattle.std.proofs.Common.{◌≡◌, ◌≤◌, length}
use Rattle.questions.specs.Shown.{Shows}
use Rattle.questions.proofs.show.Given as goal

abbrev pub invariant-loop-person : goal.invariant-loop-person
invariant-loop-person l =
    (l.person ≤ l.people) × (l.shown ≤ l.person) × (length l.list ≡ length l.initial.list)
    × Shows l.person l.cells l.initial.list l.shown l.list
