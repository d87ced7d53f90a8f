-- When a verdict answers 0: the four premises of demand 3, and the first moment that a verdict speaks of.
-- Assumes nothing.
use Rattle.std.specs.Prelude.{ℕ, ◌≤◌, ◌<◌, true, false, List, [], ◌≡◌, length, get_or}
use Rattle.model.specs.declared.Command.{Command}
use Rattle.model.specs.Schemes.{Scheme, is_create, command_in, command_at}
use Rattle.model.specs.Rosters.{Person}
use Rattle.model.specs.Stores.{Design, named_number}
use Rattle.model.specs.Requests.{Request, requested}
use Rattle.model.specs.Kinds.{both, is_step, is_normal}
use Rattle.model.specs.Listing.{fires, is_duplicate}
use Rattle.model.specs.Verdicts.{Start, start_of_create, rows_from}
use Rattle.model.specs.Outcomes.{Handed, people_in, designs_in, has_rooms, handed_number, request_call_number, start_in}

pub record Premises (commands : List Command) (start : Start) (budget : ℕ) : Type 0 where
  -- the kind's commands are normal,
  pub normal : (k : ℕ) → k < length commands → is_step start.kind (command_in commands k) ≡ true
      → is_normal commands start.kind (command_in commands k) ≡ true
  -- the start has no overlap,
  pub apart : start.overlap ≡ false
  -- the listing fits the budget,
  pub fits : length (rows_from commands start budget) ≤ budget
  -- and shows no duplicate step
  pub single : (i k : ℕ) → i < length (rows_from commands start budget) → k < length commands
      → fires start.kind (command_in commands k) (get_or (rows_from commands start budget) i []) ≡ true
      → is_duplicate (both commands start.kind) (command_in commands k) (get_or (rows_from commands start budget) i []) ≡ false

-- a start, and the roster and the store at the first moment that its verdict speaks of
pub data Begins : Scheme → List Person → List Design → List ℕ → Start → Type 0 where
  -- a design in the store: the roster and the store as the verdict's call takes them
  with_design : (h : Handed) (code : List ℕ) → has_rooms h ≡ true → handed_number h ≡ 0 → named_number (designs_in h) code ≡ 0
      → Begins h.scheme (people_in h) (designs_in h) code (start_in h code)
  -- a create: the moment at which that very command is answered 0 for the code
  with_create : (h : Handed) (q : Request) → request_call_number h q ≡ 0 → is_create (command_at h.scheme q.command) ≡ true
      → Begins h.scheme (people_in h) (requested h.scheme (people_in h) (designs_in h) q) q.code
      (start_of_create (command_at h.scheme q.command))
