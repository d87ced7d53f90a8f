-- Demand 3 is not empty: a history on scheme A in which release is reached, with somebody who joins on the way, and the handover of own within one
-- type, which gets a verdict. Computed on the definitions. Assumes nothing.
use Prim.Native.Nat.{ℕ, zero, suc, ◌-◌, ◌<◌}
use Prim.Native.String.{String}
use mathlib.Core.Bool.{true}
use mathlib.Core.List.{List, [], ◌∷◌, ◌++◌}
use mathlib.Core.Path.{◌≡◌, refl}
use native.Mathlib.Omega.{arith}
use lib.ListN.{replicate}
use Rattle.model.specs.Words.{text}
use Rattle.model.specs.Sizes.{roster_room, store_room}
use Rattle.model.specs.Rights.{has}
use Rattle.model.specs.Schemes.{Scheme, command_at}
use Rattle.model.specs.Rosters.{Person, roster_words, type_at}
use Rattle.model.specs.Stores.{Design}
use Rattle.model.specs.Forms.{cell_at}
use Rattle.model.specs.Requests.{Request}
use Rattle.model.specs.Verdicts.{Start, start_of_create, verdict_from}
use Rattle.model.specs.Outcomes.{Handed}
use Rattle.model.specs.Mill.{scheme_a, release, mill_scheme, command}
use Rattle.model.proofs.Computes.{computes}
use Rattle.safety.specs.Histories.{Joined, Later, first, joins, asks}
use Rattle.safety.specs.Premises.{Begins, with_create}
use Rattle.safety.specs.Promises.{cells_of}

abbrev person : ℕ → String → Person
person type code = record { type = type; code = text code }

-- two designers and two of the lab; the desk's person joins later
abbrev four : List Person
four = person 0 "ANN" ∷ person 0 "BOB" ∷ person 1 "LAB-1" ∷ person 1 "LAB-2" ∷ []

abbrev five : List Person
five = four ++ (person 2 "LIC" ∷ [])

desk_joins : Joined 3 four five
unfolding computes
desk_joins = record { admitted = refl; longer = omega arith; stay = stay }
  where
    stay : (p : ℕ) → p < 4 → type_at five p ≡ type_at four p
    stay zero l = refl
    stay (suc zero) l = refl
    stay (suc (suc zero)) l = refl
    stay (suc (suc (suc zero))) l = refl
    stay (suc (suc (suc (suc p)))) l = absurd (omega arith)

abbrev handed : Scheme → List Person → Handed
handed s people = record { scheme = s; count = 4; roster = roster_words people ++ replicate (roster_room - 16) 0; store = replicate store_room 0 }

abbrev asked : ℕ → ℕ → ℕ → Request
asked command source destination = record { command = command; source = source; destination = destination; code = text "W-104" }

-- a start from a create, a moment after it, and a person there who holds a right
pub record Held (s : Scheme) (right : ℕ) : Type 0 where
  pub people₀ : List Person
  pub designs₀ : List Design
  pub code : List ℕ
  pub start : Start
  pub begins : Begins s people₀ designs₀ code start
  pub people : List Person
  pub designs : List Design
  pub later : Later s people₀ designs₀ people designs
  pub person : ℕ
  pub holds_it : has (cell_at (cells_of code designs) person) right ≡ true

held : {s : Scheme} {people₀ people : List Person} {designs₀ designs : List Design} {code : List ℕ} {start : Start} {right : ℕ}
    → Begins s people₀ designs₀ code start → Later s people₀ designs₀ people designs → (p : ℕ) → has (cell_at (cells_of code designs) p) right ≡ true → Held s right
held {people₀ = people₀} {people = people} {designs₀ = designs₀} {designs = designs} {code = code} {start = start} begins later p h = record
    { people₀ = people₀; designs₀ = designs₀; code = code; start = start; begins = begins; people = people; designs = designs; later = later; person = p; holds_it = h }

-- Ann asks for colour and licence, Lab-1 answers, the desk's person joins and answers, and she may release
pub release_reached : Held scheme_a release
unfolding computes
release_reached =
    held (with_create (handed scheme_a four) (asked 0 0 0) refl refl)
    (asks (asks (asks (joins (asks (asks (asks first (asked 1 0 0)) (asked 2 0 2)) (asked 4 2 0)) five desk_joins) (asked 3 0 4)) (asked 5 4 0)) (asked 6 0 0))
    0 refl

-- own is handed over within one type: it gets a verdict, and the other designer holds it afterwards
abbrev handover : Scheme
handover = mill_scheme (command 1 0 0 0 0 0x01 ∷ command 2 0 0 0x01 0x01 0x01 ∷ [])

pub handover_has_verdict : (verdict_from handover.commands (start_of_create (command_at handover 0)) (record { type = 0; right = 0; budget = 1 })).number ≡ 0
unfolding computes
handover_has_verdict = refl

pub own_handed_over : Held handover 0
unfolding computes
own_handed_over = held (with_create (handed handover four) (asked 0 0 0) refl refl) (asks first (asked 1 0 1)) 1 refl
