-- `listing::scope::Scope::expanded`: what is listed is what the commands passed list.
-- Assumes nothing.
use Rattle.std.proofs.Common.{◌≡◌, ◌≤◌, ◌-◌, length}
use Rattle.listing.specs.Searches.{Lists}
use Rattle.listing.proofs.Expanding.{after_first}
use Rattle.listing.proofs.scope.Scope.expanded.Given as goal

abbrev pub invariant-loop-q : goal.invariant-loop-q
invariant-loop-q l =
    ((length l.row.cells ≡ 8) × (length l.table ≡ length l.initial.table) × (l.q.command ≤ length l.self.commands.now))
    × Lists (after_first l.self.kind l.self.budget l.row.cells l.self.commands.now l.initial.q.rows l.initial.table l.q.command) l.self.budget l.initial.table l.q.rows l.table

abbrev pub decreases-loop-q : goal.decreases-loop-q
decreases-loop-q l = length l.self.commands.now - l.q.command
