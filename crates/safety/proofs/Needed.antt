-- **needed**, by examples with a few people of one or two types, computed on the definitions.
-- Assumes nothing.
use Prim.Native.Nat.{ℕ, ◌-◌, ◌<◌}
use Prim.Native.String.{String}
use mathlib.Core.Bool.{Bool, true, false, not}
use mathlib.Core.List.{List, [], ◌∷◌, ◌++◌}
use mathlib.Core.Path.{◌≡◌, refl}
use native.Mathlib.Omega.{arith}
use lib.Dec.{leb, ltb}
use lib.ListN.{length, replicate}
use Rattle.model.specs.declared.Command.{Command}
use Rattle.model.specs.Words.{any, text}
use Rattle.model.specs.Sizes.{roster_room, store_room}
use Rattle.model.specs.Rights.{has}
use Rattle.model.specs.Schemes.{Scheme}
use Rattle.model.specs.Rosters.{Person, type_at, roster_words}
use Rattle.model.specs.Forms.{cell_at}
use Rattle.model.specs.Stores.{Design, store_words}
use Rattle.model.specs.Requests.{Request}
use Rattle.model.specs.Kinds.{both, first_not_normal}
use Rattle.model.specs.Listing.{has_duplicate}
use Rattle.model.specs.Verdicts.{Start, rows_from, holds}
use Rattle.model.specs.Outcomes.{Handed}
use Rattle.model.specs.Mill.{command, scheme_b}
use Rattle.model.proofs.Computes.{computes}
use Rattle.safety.specs.Histories.{Later, first, asks}
use Rattle.safety.specs.Premises.{Begins, with_design, with_create}
use Rattle.safety.specs.Promises.{cells_of}
use Rattle.safety.specs.Needed.{Moment, Breaks, Overlapping, NotOneRow}

abbrev two_types : List Command → Scheme
two_types commands = record { types = 2; kinds = 1; rights = 4; commands = commands }

abbrev person : ℕ → String → Person
person type code = record { type = type; code = text code }

-- two designers and one of the lab
abbrev three : List Person
three = person 0 "ANN" ∷ person 0 "BOB" ∷ person 1 "LAB" ∷ []

-- a roster and a store as they are handed over
abbrev handed : List Person → Scheme → List Design → Handed
handed people s designs = record {
  scheme = s;
  count = 3;
  roster = roster_words people ++ replicate (roster_room - 12) 0;
  store = store_words designs (replicate store_room 0);
}

abbrev asked : ℕ → ℕ → ℕ → Request
asked command source destination = record { command = command; source = source; destination = destination; code = text "W" }

-- a moment, with what its start and its history show left to be found
moment : {s : Scheme} {people₀ people : List Person} {designs₀ designs : List Design} {code : List ℕ} {start : Start} {normal apart fits single : Bool}
    → Begins s people₀ designs₀ code start → Later s people₀ designs₀ people designs → (budget : ℕ)
    → not (ltb (first_not_normal s.commands start.kind) (length s.commands)) ≡ normal
    → not start.overlap ≡ apart
    → leb (length (rows_from s.commands start budget)) budget ≡ fits
    → not (any (has_duplicate (both s.commands start.kind) s.commands start.kind) (rows_from s.commands start budget)) ≡ single
    → Moment normal apart fits single
moment {s} {people₀} {people} {designs₀} {designs} {code} {start} begins later budget n a f u = record {
  scheme = s;
  people₀ = people₀;
  designs₀ = designs₀;
  code = code;
  start = start;
  begins = begins;
  budget = budget;
  is_normal = n;
  is_apart = a;
  is_fitting = f;
  is_single = u;
  people = people;
  designs = designs;
  later = later;
}

breaks : {n a f u : Bool} (m : Moment n a f u) (type right person : ℕ)
    → any (holds (record { type = type; right = right; budget = m.budget })) (rows_from m.scheme.commands m.start m.budget) ≡ false
    → person < length m.people → type_at m.people person ≡ type → has (cell_at (cells_of m.code m.designs) person) right ≡ true → Breaks n a f u
breaks m type right person not_listed present of_type holds_it = record {
  moment = m;
  type = type;
  right = right;
  not_listed = not_listed;
  person = person;
  present = present;
  of_type = of_type;
  holds_it = holds_it;
}

-- ---- a scheme that isn't normal: Bob, who holds nothing, gives Ann right 2, and nothing is taken of what she has

abbrev taking : Scheme
taking = two_types (command 1 0 0 0 0 0x3 ∷ command 2 0 0 0 0x3 0x4 ∷ command 2 0 1 0x5 0x2 0x1 ∷ [])

pub without_normal : Breaks false true true true
unfolding computes moment breaks
without_normal =
    breaks
    (moment (with_create (handed three taking []) (asked 0 0 0) refl refl) (asks (asks first (asked 1 1 0)) (asked 2 0 2)) 2 refl refl refl refl) 1 0 2 refl (omega arith) refl refl

-- ---- right 0 is handed on, or changed into right 1; who has both gets right 2. It takes two of right 0.

abbrev handing : List Command
handing = command 3 0 0 0x1 0x1 0x2 ∷ command 2 0 0 0x1 0x1 0x1 ∷ command 3 0 0 0x3 0 0x4 ∷ []

-- a stored design with an overlap: Ann and Bob hold right 0 each
abbrev shared : Design
shared = record { kind = 0; code = text "W"; cells = 0x1 ∷ 0x1 ∷ replicate 30 0 }

pub without_apart : Breaks true false true true
unfolding computes moment breaks
without_apart =
    breaks
    (moment (with_design (handed three (two_types handing) (shared ∷ [])) (text "W") refl refl refl) (asks (asks (asks first (asked 0 0 0)) (asked 1 1 0)) (asked 2 0 0)) 2 refl refl refl refl) 0 2 0 refl (omega arith) refl refl

-- a scheme with a duplicate step: who has right 0 and right 3 gives another designer right 0 for right 3
abbrev doubling : Scheme
doubling = two_types (handing ++ (command 2 0 0 0x9 0x8 0x1 ∷ command 1 0 0 0 0 0x9 ∷ []))

pub without_single : Breaks true true true false
unfolding computes moment breaks
without_single =
    breaks
    (moment (with_create (handed three doubling []) (asked 4 0 0) refl refl) (asks (asks (asks (asks first (asked 3 0 1)) (asked 0 0 0)) (asked 1 1 0)) (asked 2 0 0)) 4 refl refl refl refl) 0 2 0 refl (omega arith) refl refl

-- a listing that does not fit: write turns into ask-colour one state later than the budget goes
abbrev slow : Scheme
slow = two_types (command 1 0 0 0 0 0x1 ∷ command 3 0 0 0x1 0x1 0x2 ∷ command 3 0 0 0x2 0x2 0x4 ∷ [])

pub without_fitting : Breaks true true false true
unfolding computes moment breaks
without_fitting =
    breaks
    (moment (with_create (handed three slow []) (asked 0 0 0) refl refl) (asks (asks first (asked 1 0 0)) (asked 2 0 0)) 1 refl refl refl refl) 0 2 0 refl (omega arith) refl refl

-- ---- scheme B has a duplicate step, and breaks *apart*: both of the lab hold review

abbrev lab : List Person
lab = person 0 "ANN" ∷ person 1 "LAB-1" ∷ person 1 "LAB-2" ∷ []

pub b_overlaps : Overlapping true true true false
unfolding computes moment
b_overlaps = record {
  moment = moment (with_create (handed lab scheme_b []) (asked 0 0 0) refl refl) (asks (asks (asks first (asked 1 0 0)) (asked 2 0 1)) (asked 2 0 2)) 21
      refl refl refl refl;
  overlap = refl;
}

-- ---- right 0 is no propagation right: Bob takes it of himself, who has it not, and gets right 1; Ann keeps hers

abbrev apart : Scheme
apart = two_types (command 1 0 0 0 0 0x1 ∷ command 3 0 0 0 0x1 0x2 ∷ [])

pub not_one_row : NotOneRow
unfolding computes moment
not_one_row = record {
  moment = moment (with_create (handed three apart []) (asked 0 0 0) refl refl) (asks first (asked 1 1 1)) 2 refl refl refl refl;
  no_row = refl;
}
