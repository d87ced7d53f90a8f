use Rattle.std.proofs.Common.{◌≡◌, ◌≤◌}
use Rattle.model.specs.Rosters.{roster_of}
use Rattle.kinds.proofs.People.{rights_from}
use Rattle.kinds.proofs.starts.of_type.Given as goal

abbrev pub invariant-loop-p : goal.invariant-loop-p
invariant-loop-p l = (l.p ≤ l.roster.people) × (l.set ≡ rights_from (roster_of l.roster.people l.roster.words.now) l.cells l.t l.p)
