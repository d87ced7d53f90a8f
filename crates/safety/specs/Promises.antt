-- Demand 3, a statement for each of its sentences, over the definitions that the contracts cite.
-- Assumes nothing.
use Rattle.std.specs.Prelude.{ℕ, ◌*◌, ◌≤◌, ◌<◌, true, false, List, [], ◌∷◌, ◌↔◌, ◌≡◌, eqb, length, get_or, take}
use Rattle.model.specs.declared.Verdict.{Verdict}
use Rattle.model.specs.Words.{all}
use Rattle.model.specs.Sizes.{most_people, most_designs, row_words}
use Rattle.model.specs.Rights.{has, common}
use Rattle.model.specs.Codes.{spelled}
use Rattle.model.specs.Schemes.{Scheme, command_at, scheme_number}
use Rattle.model.specs.Rosters.{Person, type_at, roster_number}
use Rattle.model.specs.Forms.{cell_at}
use Rattle.model.specs.Stores.{Design, no_design, exists, design_at, store_number}
use Rattle.model.specs.Requests.{Request, batch_numbers, batched}
use Rattle.model.specs.Kinds.{propagation, overlaps, of_type}
use Rattle.model.specs.Verdicts.{Question, Start, start_of_create, rows_from, verdict_from}
use Rattle.model.specs.Outcomes.{Handed, create_call_number, design_call_number, start_in, VerdictOfCreateOutcome, VerdictOfDesignOutcome}
use Rattle.safety.specs.Histories.{Later}
use Rattle.safety.specs.Premises.{Premises, Begins}

-- at every moment of every history since the first
abbrev pub Always : Scheme → List Person → List Design → (List Person → List Design → Type 0) → Type 0
Always s people₀ designs₀ holds = (people : List Person) (designs : List Design) → Later s people₀ designs₀ people designs → holds people designs

-- the cells of the design with this code
abbrev pub cells_of : List ℕ → List Design → List ℕ
cells_of code designs = (design_at code designs).cells

-- **zero exactly**: the verdict's number is 0 exactly when the question is in range and the inputs pass, and the four premises hold
abbrev pub ZeroOfCreate : Type 0
ZeroOfCreate =
    (s : Scheme) (command : ℕ) (q : Question) (table : List ℕ) (answer : Verdict) (table_exit : List ℕ)
    → VerdictOfCreateOutcome s command q table answer table_exit
    → (answer.number ≡ 0) ↔ ((create_call_number s command q table ≡ 0) × Premises s.commands (start_of_create (command_at s command)) q.budget)

abbrev pub ZeroOfDesign : Type 0
ZeroOfDesign =
    (h : Handed) (code : List ℕ) (q : Question) (table : List ℕ) (answer : Verdict) (table_exit : List ℕ)
    → VerdictOfDesignOutcome h code q table answer table_exit
    → (answer.number ≡ 0) ↔ ((design_call_number h code q table ≡ 0) × Premises h.scheme.commands (start_in h code) q.budget)

-- **never**: held 0 for a type and right: no person of that type holds that right on that design at any moment of any history since the start
abbrev pub Never : Type 0
Never =
    (s : Scheme) (people₀ : List Person) (designs₀ : List Design) (code : List ℕ) (start : Start) → Begins s people₀ designs₀ code start
    → (q : Question) → Premises s.commands start q.budget → (verdict_from s.commands start q).held ≡ 0
    → Always s people₀ designs₀
    (λ people designs. (p : ℕ) → p < length people → type_at people p ≡ q.type → has (cell_at (cells_of code designs) p) q.right ≡ false)

-- **one listed state**: at every moment some one listed row has, at every type, exactly the propagation rights that the people of that type hold together
abbrev pub OneListedState : Type 0
OneListedState =
    (s : Scheme) (people₀ : List Person) (designs₀ : List Design) (code : List ℕ) (start : Start) → Begins s people₀ designs₀ code start
    → (budget : ℕ) → Premises s.commands start budget
    → Always s people₀ designs₀
    (λ people designs.
    (i : ℕ) × (i < length (rows_from s.commands start budget))
    × ((t : ℕ) → t < row_words
    → common (propagation s.commands start.kind) (cell_at (get_or (rows_from s.commands start budget) i []) t)
    ≡ common (propagation s.commands start.kind) (of_type people (cells_of code designs) t)))

-- **apart**: and no two people of one type hold the same right that is both propagation and deletable
abbrev pub Apart : Type 0
Apart =
    (s : Scheme) (people₀ : List Person) (designs₀ : List Design) (code : List ℕ) (start : Start) → Begins s people₀ designs₀ code start
    → (budget : ℕ) → Premises s.commands start budget
    → Always s people₀ designs₀ (λ people designs. overlaps s.commands start.kind people (cells_of code designs) ≡ false)

-- ---- **reached**

-- an admitted roster whose people are one of each type, person t of type t
pub record OneOfEach (types : ℕ) (people : List Person) : Type 0 where
  pub admitted : roster_number types people ≡ 0
  pub as_many : length people ≡ types
  pub each : (t : ℕ) → t < types → type_at people t ≡ t

-- an admitted store: it passes check 21, and each design has its 32 cells
pub record Admits (s : Scheme) (people : List Person) (designs : List Design) : Type 0 where
  pub passes : store_number s.kinds s.rights (length people) designs ≡ 0
  pub cells : (i : ℕ) → i < length designs → length (get_or designs i no_design).cells ≡ most_people

-- requests, each answered 0, after which the person of the type holds the right on the design
pub record Reached (s : Scheme) (people : List Person) (designs : List Design) (code : List ℕ) (q : Question) (requests : List Request) : Type 0 where
  pub answered : all (λ n. eqb n 0) (batch_numbers s people designs requests) ≡ true
  pub held : has (cell_at (cells_of code (batched s people designs requests)) q.type) q.right ≡ true

-- the create by the person of its type
abbrev pub create_by : Scheme → ℕ → List ℕ → Request
create_by s k code = record { command = k; source = (command_at s k).source; destination = (command_at s k).source; code = code }

-- held 1, for a create start: from every such roster and every such store that lacks the code and has a place left, by a history that begins with that create
abbrev pub ReachedOfCreate : Type 0
ReachedOfCreate =
    (s : Scheme) (k : ℕ) (q : Question) (table : List ℕ) → create_call_number s k q table ≡ 0
    → (verdict_from s.commands (start_of_create (command_at s k)) q).held ≡ 1
    → (people : List Person) → OneOfEach s.types people → (designs : List Design) → Admits s people designs
    → (code : List ℕ) → spelled code ≡ true → exists code designs ≡ false → length designs < most_designs
    → (requests : List Request) × Reached s people designs code q (create_by s k code ∷ requests)

-- held 1, for a design start: from every such roster and every such store that has the code and the kind, with the start's cells and no others
abbrev pub ReachedOfDesign : Type 0
ReachedOfDesign =
    (h : Handed) (code : List ℕ) (q : Question) (table : List ℕ) → design_call_number h code q table ≡ 0
    → (verdict_from h.scheme.commands (start_in h code) q).held ≡ 1
    → (people : List Person) → OneOfEach h.scheme.types people → (designs : List Design) → Admits h.scheme people designs
    → exists code designs ≡ true → (design_at code designs).kind ≡ (start_in h code).kind
    → ((p : ℕ) → cell_at (cells_of code designs) p ≡ cell_at (start_in h code).row p)
    → (requests : List Request) × Reached h.scheme people designs code q requests

-- such rosters exist, and such stores: the promises above speak of something
abbrev pub SomeRoster : Type 0
SomeRoster = (s : Scheme) → scheme_number s ≡ 0 → (people : List Person) × OneOfEach s.types people

abbrev pub SomeStoreWithout : Type 0
SomeStoreWithout =
    (s : Scheme) (people : List Person) (code : List ℕ)
    → (designs : List Design) × Admits s people designs × (exists code designs ≡ false) × (length designs < most_designs)

abbrev pub SomeStoreWith : Type 0
SomeStoreWith =
    (h : Handed) (code : List ℕ) (q : Question) (table : List ℕ) → design_call_number h code q table ≡ 0
    → (people : List Person) → OneOfEach h.scheme.types people
    → (designs : List Design) × Admits h.scheme people designs × (exists code designs ≡ true)
    × ((design_at code designs).kind ≡ (start_in h code).kind) × ((p : ℕ) → cell_at (cells_of code designs) p ≡ cell_at (start_in h code).row p)

-- ---- **budgets**

abbrev pub with_budget : Question → ℕ → Question
with_budget q budget = record { type = q.type; right = q.right; budget = budget }

-- two answers and tables to one question, at a smaller and a larger budget: unless the smaller one's number is 18 they are equal, field by field and word
-- by word; where it is 18, its rows are the first rows of the larger's
pub record SameUnlessCut (smaller : ℕ) (a b : Verdict) (table_a table_b : List ℕ) : Type 0 where
  pub same_answer : (a.number ≡ 18 → ⊥) → a ≡ b
  pub same_table : (a.number ≡ 18 → ⊥) → table_a ≡ table_b
  pub first_rows : a.number ≡ 18 → take (smaller * row_words) table_a ≡ take (smaller * row_words) table_b

abbrev pub BudgetsOfCreate : Type 0
BudgetsOfCreate =
    (s : Scheme) (command : ℕ) (q : Question) (table : List ℕ) (m n : ℕ) → m ≤ n
    → create_call_number s command (with_budget q m) table ≡ 0 → create_call_number s command (with_budget q n) table ≡ 0
    → (a b : Verdict) (table_a table_b : List ℕ)
    → VerdictOfCreateOutcome s command (with_budget q m) table a table_a → VerdictOfCreateOutcome s command (with_budget q n) table b table_b
    → SameUnlessCut m a b table_a table_b

abbrev pub BudgetsOfDesign : Type 0
BudgetsOfDesign =
    (h : Handed) (code : List ℕ) (q : Question) (table : List ℕ) (m n : ℕ) → m ≤ n
    → design_call_number h code (with_budget q m) table ≡ 0 → design_call_number h code (with_budget q n) table ≡ 0
    → (a b : Verdict) (table_a table_b : List ℕ)
    → VerdictOfDesignOutcome h code (with_budget q m) table a table_a → VerdictOfDesignOutcome h code (with_budget q n) table b table_b
    → SameUnlessCut m a b table_a table_b
