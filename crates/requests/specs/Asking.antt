-- What the parts of a request's call ask and give.
-- Assumes nothing.
use Rattle.std.specs.Prelude.{ℕ, ◌≤◌, ◌≡◌, not, ◌&&◌, List, ltb, eqb, length}
use Rattle.model.specs.declared.Command.{Command}
use Rattle.model.specs.Words.{◌when◌else◌, ◌then◌}
use Rattle.model.specs.Sizes.{most_people, most_designs, store_room}
use Rattle.model.specs.Codes.{spelled}
use Rattle.model.specs.Schemes.{is_create}
use Rattle.model.specs.Rosters.{Person, type_at}
use Rattle.model.specs.Stores.{Design, store_of, store_words}
use Rattle.model.specs.Requests.{Request, two_people, create_number, other_number, request_number, requested}
use Rattle.model.specs.Outcomes.{Handed, people_in, designs_in}

-- of a request's chain, what is about the two people: "7, 8, 9"
unfoldable pub who_number : Command → List Person → ℕ → ℕ → ℕ
who_number c people source destination =
    7 when not (ltb source (length people) && ltb destination (length people)) else
    8 when not (eqb (type_at people source) c.source && eqb (type_at people destination) c.destination) else
    9 when two_people c source destination else
    0

-- of a request's chain, what comes after 6: "7, 8, 9, 4, and a create 10, 11, another 12, 13, 14"
unfoldable pub command_number : Command → List Person → List Design → ℕ → ℕ → List ℕ → ℕ
command_number c people designs source destination code =
    who_number c people source destination then
    4 when not (spelled code) else
    create_number designs code when is_create c else
    other_number c designs source code

-- a request by this command that some roster lets pass, on the lent words of a store
pub record Allowed (c : Command) (words : List ℕ) (source destination : ℕ) (code : List ℕ) : Type 0 where
  pub people : List Person
  pub most : length people ≤ most_people
  pub number : command_number c people (store_of words) source destination code ≡ 0
  pub designs : length (store_of words) ≤ most_designs
  pub room : store_room ≤ length words

-- a request that is answered: its number, and the words of the store afterwards
pub record Answered (h : Handed) (q : Request) (number : ℕ) (store_exit : List ℕ) : Type 0 where
  pub number_is : number ≡ request_number h.scheme (people_in h) (designs_in h) q
  pub store_is : store_exit ≡ store_words (requested h.scheme (people_in h) (designs_in h) q) h.store
