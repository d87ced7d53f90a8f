-- A search of the listing in a lent table: what it may assume, and what each part of it has listed.
-- Assumes nothing.
use Rattle.std.specs.Prelude.{ℕ, suc, ◌+◌, ◌*◌, ◌≤◌, ◌<◌, min, List, ◌≡◌, length, take}
use Rattle.model.specs.Words.{joined, written_over}
use Rattle.model.specs.Sizes.{most_states, row_words}
use Rattle.model.specs.Listing.{Row}
use Rattle.listing.specs.declared.scope.Scope.{Scope}
use Rattle.listing.specs.declared.search.Progress.{Progress}

-- These rows are listed: the search counts them, up to one more than the budget, which says that it was cut; and as many of them as the
-- budget has are written over the table that was lent.
pub record Lists (rows : List Row) (budget : ℕ) (old : List ℕ) (count : ℕ) (table : List ℕ) : Type 0 where
  pub counted : count ≡ min (suc budget) (length rows)
  pub written : table ≡ written_over (joined (take budget rows)) old

-- "The lent table has at least eight 32-bit words per state of the budget"
pub record Room (budget : ℕ) (table : List ℕ) : Type 0 where
  pub most : budget ≤ most_states
  pub wide : budget * row_words ≤ length table

-- what a step may assume: the search was not cut, and the command at hand is one of the commands
pub record MayTry (s : Scope) (p : Progress) (table : List ℕ) : Type 0 where
  pub uncut : p.rows ≤ s.budget
  pub one : p.command < length s.commands.now
  pub room : Room s.budget table

-- what a step gives: these rows are listed, and the next command is at hand
pub record Tried (rows : List Row) (budget : ℕ) (old : List ℕ) (p r : Progress) (table : List ℕ) : Type 0 where
  pub lists : Lists rows budget old r.rows table
  pub row : r.row ≡ p.row
  pub command : r.command ≡ p.command + 1
