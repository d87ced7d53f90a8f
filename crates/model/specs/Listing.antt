-- The listing of stand-in states, as the rules give it; the small step that a search moves on by; and what is reachable at all.
-- "A *stand-in state* has one cell per type. Commands act on it as above, each type being one person": a row of eight cells.
-- Assumes nothing.
use Rattle.std.specs.Prelude.{ℕ, zero, suc, ◌<◌, Bool, true, ◌&&◌, List, [], ◌∷◌, ◌++◌, ◌≡◌, leb, ltb, length, get_or}
use Rattle.model.specs.declared.Command.{Command}
use Rattle.model.specs.Words.{◌when◌else◌, any, first_place, same}
use Rattle.model.specs.Rights.{meets, common}
use Rattle.model.specs.Schemes.{command_in}
use Rattle.model.specs.Forms.{cell_at, held, lose, act}
use Rattle.model.specs.Kinds.{is_step}

abbrev pub Row : Type 0
Row = List ℕ

-- "each grant and internal of the kind .. whose X is held"
unfoldable pub fires : ℕ → Command → Row → Bool
fires kind c row = is_step kind c && held c c.source row

-- "the resulting state"
unfoldable pub moved : Command → Row → Row
moved c row = act c c.source c.destination row

-- "is put at the end if it isn't there"
unfoldable pub put : Row → List Row → List Row
put row rows =
    rows when any (same row) rows else
    rows ++ (row ∷ [])

-- what one command adds for one listed state
unfoldable pub tried : ℕ → Command → Row → List Row → List Row
tried kind c row rows =
    put (moved c row) rows when fires kind c row else
    rows

-- "and each grant and internal of the kind in scheme order"
unfoldable pub expanded : ℕ → List Command → Row → List Row → List Row
expanded kind [] row rows = rows
expanded kind (c ∷ cs) row rows = expanded kind cs row (tried kind c row rows)

-- "For each listed state in order", of the next n from state `at` on
unfoldable pub listed_from : List Command → ℕ → ℕ → ℕ → List Row → List Row
listed_from commands kind zero at rows = rows
listed_from commands kind (suc n) at rows =
    let more = listed_from commands kind n (suc at) (expanded kind commands (get_or rows at []) rows) in
    more when ltb at (length rows) else
    rows

-- "the start is state 0". So many states are gone through; the listing has no more than those exactly if its length is at most that many.
unfoldable pub listing : List Command → ℕ → Row → ℕ → List Row
listing commands kind start most = listed_from commands kind most 0 (start ∷ [])

-- "one small record of its progress, moved on in place: rows listed, row at hand, command at hand"
pub record Search : Type 0 where
  pub rows : List Row
  pub row : ℕ
  pub command : ℕ

-- one small step: the command at hand is tried on the row at hand, and after the last command the next row is at hand
unfoldable pub small_step : List Command → ℕ → Search → Search
small_step commands kind p =
    p when leb (length p.rows) p.row else
    record { rows = p.rows; row = suc p.row; command = 0 } when leb (length commands) p.command else
    record {
      rows = tried kind (command_in commands p.command) (get_or p.rows p.row []) p.rows;
      row = p.row;
      command = suc p.command;
    }

unfoldable pub small_steps : List Command → ℕ → ℕ → Search → Search
small_steps commands kind zero p = p
small_steps commands kind (suc n) p = small_steps commands kind n (small_step commands kind p)

-- the states that some run of steps, given by their command numbers, reaches from the start
pub data Reach (commands : List Command) (kind : ℕ) (start : Row) : Row → Type 0 where
  here : Reach commands kind start start
  next : {row : Row} (k : ℕ) → Reach commands kind start row → k < length commands → fires kind (command_in commands k) row ≡ true
      → Reach commands kind start (moved (command_in commands k) row)

-- "A step is *duplicate* if, after the loss, the destination type still holds a right of Z that is both propagation and deletable."
-- `both` is the set of those rights.
unfoldable pub is_duplicate : ℕ → Command → Row → Bool
is_duplicate both c row = meets (common (cell_at (lose c c.source row) c.destination) c.z) both

-- the first command that is a duplicate step in this state, and the length of the commands where none is
unfoldable pub first_duplicate : ℕ → List Command → ℕ → Row → ℕ
first_duplicate both commands kind row = first_place (λ c. fires kind c row && is_duplicate both c row) commands

unfoldable pub has_duplicate : ℕ → List Command → ℕ → Row → Bool
has_duplicate both commands kind row = ltb (first_duplicate both commands kind row) (length commands)
