-- What a call is handed, of the values and the lent words that it takes.
-- Assumes nothing.
use Rattle.std.specs.Prelude.{ℕ, ◌≡◌, true, not, ◌&&◌, List}
use Rattle.model.specs.Words.{◌when◌else◌}
use Rattle.model.specs.Sizes.{roster_room, store_room}
use Rattle.model.specs.Outcomes.{Handed, has_room, has_rooms, handed_number}
use Rattle.schemes.specs.declared.Loaded.{Loaded}
use Rattle.schemes.specs.Loads.{scheme_in}

-- a scheme, the count of people, and the lent words of roster and store
abbrev pub handed_by : Loaded → ℕ → List ℕ → List ℕ → Handed
handed_by l people roster store = record { scheme = scheme_in l; count = people; roster = roster; store = store }

-- 20, where the call has no other buffer
abbrev pub rooms_number : List ℕ → List ℕ → ℕ
rooms_number roster store =
    20 when not (has_room roster_room roster && has_room store_room store) else
    0

-- its buffers have room, and its number is 0
pub record Accepted (h : Handed) : Type 0 where
  pub rooms : has_rooms h ≡ true
  pub number : handed_number h ≡ 0
