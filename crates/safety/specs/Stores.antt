-- What the calls keep of a store: **kept**, **untouched** and **meaning**, over the outcomes that the contracts cite.
-- Assumes nothing.
use Rattle.std.specs.Prelude.{ℕ, ◌+◌, ◌*◌, ◌^◌, ◌≤◌, ◌<◌, true, false, List, ◌⊎◌, ◌≢◌, ◌≡◌, length, get_or}
use Rattle.model.specs.declared.BatchRun.{BatchRun}
use Rattle.model.specs.Sizes.{design_words}
use Rattle.model.specs.Schemes.{Scheme, is_create, command_at}
use Rattle.model.specs.Rosters.{Person}
use Rattle.model.specs.Stores.{Design, place_of, store_of, store_number}
use Rattle.model.specs.Requests.{Request, requested, batched}
use Rattle.model.specs.Cards.{requests_of}
use Rattle.model.specs.Outcomes.{Handed, people_in, designs_in, has_rooms, handed_number, RequestOutcome, RunBatchOutcome}
use Rattle.safety.specs.Histories.{Joined, Later}

-- the same, with another store
abbrev pub with_store : Handed → List ℕ → Handed
with_store h store = record { scheme = h.scheme; count = h.count; roster = h.roster; store = store }

-- **kept**: what a call accepts, it accepts again with the store that a request or a batch left
abbrev pub KeptByRequest : Type 0
KeptByRequest =
    (h : Handed) (q : Request) (answer : ℕ) (exit : List ℕ) → RequestOutcome h q answer exit → has_rooms h ≡ true → handed_number h ≡ 0
    → (has_rooms (with_store h exit) ≡ true) × (handed_number (with_store h exit) ≡ 0)

abbrev pub KeptByBatch : Type 0
KeptByBatch =
    (h : Handed) (card answers : List ℕ) (answer : BatchRun) (exit answers_exit : List ℕ) → RunBatchOutcome h card answers answer exit answers_exit
    → has_rooms h ≡ true → handed_number h ≡ 0 → (has_rooms (with_store h exit) ≡ true) × (handed_number (with_store h exit) ≡ 0)

-- and against every admitted extension of the roster
abbrev pub KeptByJoining : Type 0
KeptByJoining =
    (kinds rights types : ℕ) (before after : List Person) (designs : List Design) → Joined types before after
    → store_number kinds rights (length before) designs ≡ 0 → store_number kinds rights (length after) designs ≡ 0

-- **meaning**: what the words mean after a call is what the definition on records gives
abbrev pub MeaningOfRequest : Type 0
MeaningOfRequest =
    (h : Handed) (q : Request) (answer : ℕ) (exit : List ℕ) → RequestOutcome h q answer exit → has_rooms h ≡ true → handed_number h ≡ 0
    → store_of exit ≡ requested h.scheme (people_in h) (designs_in h) q

abbrev pub MeaningOfBatch : Type 0
MeaningOfBatch =
    (h : Handed) (card answers : List ℕ) (answer : BatchRun) (exit answers_exit : List ℕ) → RunBatchOutcome h card answers answer exit answers_exit
    → answer.number ≡ 0 → store_of exit ≡ batched h.scheme (people_in h) (designs_in h) (requests_of card)

-- a batch is the history of its requests, so demand 3 covers it
abbrev pub BatchIsHistory : Type 0
BatchIsHistory =
    (s : Scheme) (people : List Person) (designs : List Design) (requests : List Request)
    → Later s people designs people (batched s people designs requests)

-- **untouched**: on 0 all words of the store agree with those before, but for the two named cells, or for a create the count and the new record
abbrev pub design_word : ℕ → ℕ
design_word place = 1 + place * design_words

abbrev pub cell_word : ℕ → ℕ → ℕ
cell_word place person = design_word place + 4 + person

abbrev pub UntouchedByAct : Type 0
UntouchedByAct =
    (h : Handed) (q : Request) (exit : List ℕ) → ((i : ℕ) → get_or h.store i 0 < 2 ^ 32) → RequestOutcome h q 0 exit
    → is_create (command_at h.scheme q.command) ≡ false
    → (i : ℕ) → i ≢ cell_word (place_of q.code (designs_in h)) q.source → i ≢ cell_word (place_of q.code (designs_in h)) q.destination
    → get_or exit i 0 ≡ get_or h.store i 0

abbrev pub UntouchedByCreate : Type 0
UntouchedByCreate =
    (h : Handed) (q : Request) (exit : List ℕ) → ((i : ℕ) → get_or h.store i 0 < 2 ^ 32) → RequestOutcome h q 0 exit
    → is_create (command_at h.scheme q.command) ≡ true
    → (i : ℕ) → i ≢ 0 → (i < design_word (get_or h.store 0 0)) ⊎ (design_word (get_or h.store 0 0) + design_words ≤ i)
    → get_or exit i 0 ≡ get_or h.store i 0
