-- A request and a batch of them: the number that is given back, and the store afterwards.
-- Assumes nothing.
use Rattle.std.specs.Prelude.{ℕ, Bool, not, ◌&&◌, List, [], ◌∷◌, ◌++◌, leb, ltb, eqb, length, set}
use Rattle.model.specs.declared.Command.{Command}
use Rattle.model.specs.Words.{◌when◌else◌, those}
use Rattle.model.specs.Sizes.{most_people, most_designs}
use Rattle.model.specs.Codes.{spelled}
use Rattle.model.specs.Schemes.{Scheme, is_create, is_grant, command_at}
use Rattle.model.specs.Rosters.{Person, type_at}
use Rattle.model.specs.Forms.{held, act, created}
use Rattle.model.specs.Stores.{Design, place_of, exists, design_at}

-- "a command, a source person, a destination person, a code length (any byte), the code"
pub record Request : Type 0 where
  pub command : ℕ
  pub source : ℕ
  pub destination : ℕ
  pub code : List ℕ

-- 9: "create or internal with two different people"
unfoldable pub two_people : Command → ℕ → ℕ → Bool
two_people c a d = not (is_grant c) && not (eqb a d)

-- "a create 10, 11"
unfoldable pub create_number : List Design → List ℕ → ℕ
create_number designs code =
    10 when exists code designs else
    11 when leb most_designs (length designs) else
    0

-- "another 12, 13, 14"
unfoldable pub other_number : Command → List Design → ℕ → List ℕ → ℕ
other_number c designs source code =
    12 when not (exists code designs) else
    13 when not (eqb (design_at code designs).kind c.kind) else
    14 when not (held c source (design_at code designs).cells) else
    0

-- "Then a request: 6, 7, 8, 9, 4, and a create 10, 11, another 12, 13, 14."
unfoldable pub request_number : Scheme → List Person → List Design → Request → ℕ
request_number s people designs q =
    let c = command_at s q.command in
    6 when not (ltb q.command (length s.commands)) else
    7 when not (ltb q.source (length people) && ltb q.destination (length people)) else
    8 when not (eqb (type_at people q.source) c.source && eqb (type_at people q.destination) c.destination) else
    9 when two_people c q.source q.destination else
    4 when not (spelled q.code) else
    create_number designs q.code when is_create c else
    other_number c designs q.source q.code

-- "Create: the design comes to be, with this kind; the source person's cell is Z, all others empty."
abbrev pub new_design : Command → Request → Design
new_design c q = record { kind = c.kind; code = q.code; cells = created c q.source most_people }

-- a grant or an internal, on the design with this code
abbrev pub acted_on : Command → Request → Design → Design
acted_on c q d = record { kind = d.kind; code = d.code; cells = act c q.source q.destination d.cells }

-- the store after a request that is answered 0
unfoldable pub carried_out : Command → List Design → Request → List Design
carried_out c designs q =
    designs ++ (new_design c q ∷ []) when is_create c else
    set designs (place_of q.code designs) (acted_on c q (design_at q.code designs))

-- "A refused request changes nothing"
unfoldable pub requested : Scheme → List Person → List Design → Request → List Design
requested s people designs q =
    carried_out (command_at s q.command) designs q when eqb (request_number s people designs q) 0 else
    designs

-- ", and a batch goes on after it."
unfoldable pub batch_numbers : Scheme → List Person → List Design → List Request → List ℕ
batch_numbers s people designs [] = []
batch_numbers s people designs (q ∷ qs) = request_number s people designs q ∷ batch_numbers s people (requested s people designs q) qs

unfoldable pub batched : Scheme → List Person → List Design → List Request → List Design
batched s people designs [] = designs
batched s people designs (q ∷ qs) = batched s people (requested s people designs q) qs

-- "those answered 0"
abbrev pub count_done : List ℕ → ℕ
count_done numbers = length (those (λ n. eqb n 0) numbers)
