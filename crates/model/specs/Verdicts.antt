-- The verdict: what a type of person can ever reach, from a create command or from a stored design.
-- Assumes nothing.
use Rattle.std.specs.Prelude.{ℕ, ◌*◌, Bool, false, not, ◌&&◌, ◌||◌, List, [], leb, ltb, eqb, length, get_or, take}
use Rattle.model.specs.declared.Command.{Command}
use Rattle.model.specs.declared.Verdict.{Verdict}
use Rattle.model.specs.Words.{◌when◌else◌, between, any, first_place, joined, written_over}
use Rattle.model.specs.Sizes.{most_states, row_words}
use Rattle.model.specs.Rights.{has}
use Rattle.model.specs.Schemes.{Scheme, is_create, command_at}
use Rattle.model.specs.Rosters.{Person}
use Rattle.model.specs.Forms.{cell_at}
use Rattle.model.specs.Stores.{Design, named_number}
use Rattle.model.specs.Kinds.{both, first_not_normal, overlaps, row_of_create, row_of_design}
use Rattle.model.specs.Listing.{Row, listing, first_duplicate, has_duplicate}

-- "The question names a start, a type, a right and a budget, 1 to 2,048 states."
pub record Question : Type 0 where
  pub type : ℕ
  pub right : ℕ
  pub budget : ℕ

-- a start: its kind, its row, and whether two people of one type overlap in it
pub record Start : Type 0 where
  pub kind : ℕ
  pub row : Row
  pub overlap : Bool

abbrev pub start_of_create : Command → Start
start_of_create c = record { kind = c.kind; row = row_of_create c; overlap = false }

abbrev pub start_of_design : List Command → List Person → Design → Start
start_of_design commands people d = record {
  kind = d.kind;
  row = row_of_design people d.cells;
  overlap = overlaps commands d.kind people d.cells;
}

-- 15: "question out of range: type, right, budget, start not a create, table too short"
-- "The lent table has at least eight 32-bit words per state of the budget"
unfoldable pub is_in_range : Scheme → Question → ℕ → Bool
is_in_range s q table_length =
    ltb q.type s.types
    && ltb q.right s.rights
    && between 1 most_states q.budget
    && leb (row_words * q.budget) table_length

-- the listing of a start, gone through for as many states as the budget has
abbrev pub rows_from : List Command → Start → ℕ → List Row
rows_from commands start budget = listing commands start.kind start.row budget

-- "Fields not named above are 0."
abbrev pub only : ℕ → Verdict
only n = record { number = n; states = 0; held = 0; state = 0; command = 0 }

-- the state holds the right at the type
unfoldable pub holds : Question → Row → Bool
holds q row = has (cell_at row q.type) q.right

-- "With 0, state is the first that holds the right (0 if none) and states is the whole count of the listing."
unfoldable pub reported : Question → List Row → Verdict
reported q rows =
    record { number = 0; states = length rows; held = 1; state = first_place (holds q) rows; command = 0 } when any (holds q) rows else
    record { number = 0; states = length rows; held = 0; state = 0; command = 0 }

-- 19: "a duplicate step (state and command: lowest state, then lowest command; states = whole count)"
unfoldable pub duplicate_found : List Command → ℕ → List Row → Verdict
duplicate_found commands kind rows =
    let state = first_place (has_duplicate (both commands kind) commands kind) rows in
    record { number = 19; states = length rows; held = 0; state = state; command = first_duplicate (both commands kind) commands kind (get_or rows state []) }

-- "A verdict: 15, 4, 12, 16, 17, 18, 19", from 16 on: the same for both starts
unfoldable pub verdict_from : List Command → Start → Question → Verdict
verdict_from commands start q =
    let kind = start.kind in
    let rows = rows_from commands start q.budget in
    record { number = 16; states = 0; held = 0; state = 0; command = first_not_normal commands kind } when ltb (first_not_normal commands kind) (length commands) else
    only 17 when start.overlap else
    record { number = 18; states = q.budget; held = 0; state = 0; command = 0 } when ltb q.budget (length rows) else
    duplicate_found commands kind rows when any (has_duplicate (both commands kind) commands kind) rows else
    reported q rows

-- "Every refusal leaves lent memory as found, save 18 and 19, which leave the listed rows."
unfoldable pub leaves_rows : ℕ → Bool
leaves_rows number = eqb number 0 || eqb number 18 || eqb number 19

-- "Afterwards the table holds the listed rows and is otherwise unchanged."
unfoldable pub table_after : List Command → Start → Question → List ℕ → List ℕ
table_after commands start q table =
    written_over (joined (take q.budget (rows_from commands start q.budget))) table when leaves_rows (verdict_from commands start q).number else
    table

-- before 16, from a create: 15
unfoldable pub create_asked_number : Scheme → ℕ → Question → ℕ → ℕ
create_asked_number s command q table_length =
    15 when not (is_in_range s q table_length && ltb command (length s.commands) && is_create (command_at s command)) else
    0

-- before 16, from a design: 15, 4, 12
unfoldable pub design_asked_number : Scheme → List Design → List ℕ → Question → ℕ → ℕ
design_asked_number s designs code q table_length =
    15 when not (is_in_range s q table_length) else
    named_number designs code
