-- A verdict's question and start by value: what the search may assume of them, and what is answered.
-- Assumes nothing.
use Rattle.std.specs.Prelude.{ℕ, ◌≤◌, ◌<◌, List, ◌≡◌}
use Rattle.model.specs.declared.Command.{Command}
use Rattle.model.specs.declared.Verdict.{Verdict}
use Rattle.model.specs.Words.{◌when◌else◌, any}
use Rattle.model.specs.Sizes.{most_commands, most_rights}
use Rattle.model.specs.Kinds.{both}
use Rattle.model.specs.Listing.{Row, has_duplicate}
use Rattle.model.specs.Verdicts as asked
use Rattle.model.specs.Verdicts.{duplicate_found, reported, verdict_from, table_after}
use Rattle.schemes.specs.declared.Loaded.{Loaded}
use Rattle.listing.specs.Searches.{Room}
use Rattle.verdicts.specs.declared.Question.{Question}
use Rattle.verdicts.specs.declared.Start.{Start}

-- what they say in the definitions' terms
abbrev pub question_by : Question → asked.Question
question_by q = record { type = q.person_type; right = q.right; budget = q.budget }

abbrev pub start_by : Start → asked.Start
start_by start = record { kind = start.kind; row = start.row.cells; overlap = start.overlap }

-- 19 and 0: what the listed rows say
abbrev pub looked_up : List Command → ℕ → asked.Question → List Row → Verdict
looked_up commands kind q rows =
    duplicate_found commands kind rows when any (has_duplicate (both commands kind) commands kind) rows else
    reported q rows

-- a scheme whose commands are all kept, and a question in range
pub record Askable (l : Loaded) (q : Question) (table : List ℕ) : Type 0 where
  pub kept : l.count ≤ most_commands
  pub right_below : q.right < most_rights
  pub some_budget : 1 ≤ q.budget
  pub room : Room q.budget table

-- the verdict from 16 on, and the table after it
pub record Answered (commands : List Command) (start : asked.Start) (q : asked.Question) (table : List ℕ) (answer : Verdict) (table_exit : List ℕ) : Type 0 where
  pub answer_is : answer ≡ verdict_from commands start q
  pub table_is : table_exit ≡ table_after commands start q table
