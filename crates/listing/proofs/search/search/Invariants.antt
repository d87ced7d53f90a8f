-- `listing::search::search`: what is listed is the listing, gone through as far as the row at hand; the start stands in the first words of the table.
-- Assumes nothing.
use Rattle.std.proofs.Common.{◌≡◌, ◌≤◌, ◌-◌, length, take}
use Rattle.model.specs.Listing.{listing}
use Rattle.listing.specs.Searches.{Lists}
use Rattle.listing.proofs.search.search.Given as goal

abbrev pub invariant-loop-p : goal.invariant-loop-p
invariant-loop-p l =
    ((length l.table ≡ length l.initial.table) × (l.p.row ≤ l.budget))
    × Lists (listing l.scope.commands.now l.kind (take 8 l.initial.table) l.p.row) l.budget l.initial.table l.p.rows l.table

abbrev pub decreases-loop-p : goal.decreases-loop-p
decreases-loop-p l = l.budget - l.p.row
