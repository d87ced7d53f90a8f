-- The named outcome of each public call: its answer, and every lent byte and word at exit, as functions of what was handed over.
-- Each is made of equations alone, so no second outcome satisfies it. The two programs' calls have theirs in `Lines`.
-- Assumes nothing.
use Rattle.std.specs.Prelude.{ℕ, Bool, not, ◌&&◌, List, ◌≡◌, leb, eqb, length}
use Rattle.model.specs.declared.Command.{Command}
use Rattle.model.specs.declared.SchemeRead.{SchemeRead}
use Rattle.model.specs.declared.RosterRead.{RosterRead}
use Rattle.model.specs.declared.BatchRun.{BatchRun}
use Rattle.model.specs.declared.MayUse.{MayUse}
use Rattle.model.specs.declared.AccessList.{AccessList}
use Rattle.model.specs.declared.Verdict.{Verdict}
use Rattle.model.specs.Words.{◌when◌else◌, ◌then◌, written_over}
use Rattle.model.specs.Sizes.{most_commands, most_requests, roster_room, store_room, access_room}
use Rattle.model.specs.Schemes.{Scheme, scheme_number, command_at}
use Rattle.model.specs.Rosters.{Person, roster_of, roster_words, roster_number}
use Rattle.model.specs.Stores.{Design, design_at, store_of, store_words, store_number, named_number}
use Rattle.model.specs.Requests.{Request, request_number, requested, batch_numbers, batched, count_done}
use Rattle.model.specs.Cards.{scheme_of, people_of, requests_of, scheme_card_number, roster_card_number, batch_card_number}
use Rattle.model.specs.Questions.{may_use_number, may_use, shown, access_words}
use Rattle.model.specs.Verdicts.{Question, Start, start_of_create, start_of_design, only, verdict_from, table_after, create_asked_number, design_asked_number}

-- 20: "another lent buffer lacks room for the most these sizes allow"
module _ {A : Type 0} where
  abbrev pub has_room : ℕ → List A → Bool
  has_room most buffer = leb most (length buffer)

  -- a buffer at exit: `new` on a 0, and as found on a refusal
  abbrev pub on_done : ℕ → List A → List A → List A
  on_done number new found =
      new when eqb number 0 else
      found

-- ---- what a call is handed, put together

-- "A scheme is handed over as a lent list of command records with its three counts."
abbrev pub scheme_from : List Command → ℕ → ℕ → ℕ → Scheme
scheme_from commands types kinds rights = record { types = types; kinds = kinds; rights = rights; commands = commands }

abbrev pub request_from : ℕ → ℕ → ℕ → List ℕ → Request
request_from command source destination code = record { command = command; source = source; destination = destination; code = code }

abbrev pub question_from : ℕ → ℕ → ℕ → Question
question_from type right budget = record { type = type; right = right; budget = budget }

-- ---- read_scheme: 20, 1, 2

unfoldable pub read_scheme_number : List ℕ → List Command → ℕ
read_scheme_number card commands =
    20 when not (has_room most_commands commands) else
    scheme_card_number card

unfoldable pub scheme_read : ℕ → Scheme → SchemeRead
scheme_read number s =
    record { number = 0; types = s.types; kinds = s.kinds; rights = s.rights; commands = length s.commands } when eqb number 0 else
    record { number = number; types = 0; kinds = 0; rights = 0; commands = 0 }

pub record ReadSchemeOutcome (card : List ℕ) (commands : List Command) (answer : SchemeRead) (commands_exit : List Command) : Type 0 where
  pub answer_is : answer ≡ scheme_read (read_scheme_number card commands) (scheme_of card)
  pub commands_are : commands_exit ≡ on_done (read_scheme_number card commands) (written_over (scheme_of card).commands commands) commands

-- ---- read_roster: 20, 1, 2, 3, 4, 5

unfoldable pub read_roster_number : Scheme → List ℕ → List ℕ → ℕ
read_roster_number s card roster =
    20 when not (has_room roster_room roster) else
    roster_card_number s card

unfoldable pub roster_read : ℕ → List Person → RosterRead
roster_read number people =
    record { number = 0; people = length people } when eqb number 0 else
    record { number = number; people = 0 }

pub record ReadRosterOutcome (s : Scheme) (card roster : List ℕ) (answer : RosterRead) (roster_exit : List ℕ) : Type 0 where
  pub answer_is : answer ≡ roster_read (read_roster_number s card roster) (people_of card)
  pub roster_is : roster_exit ≡ on_done (read_roster_number s card roster) (written_over (roster_words (people_of card)) roster) roster

-- ---- a scheme, a roster and a store, as they are handed over

-- the scheme, the count of people, and the lent words of roster and store
pub record Handed : Type 0 where
  pub scheme : Scheme
  pub count : ℕ
  pub roster : List ℕ
  pub store : List ℕ

abbrev pub handed_from : Scheme → List ℕ → ℕ → List ℕ → Handed
handed_from s roster people store = record { scheme = s; count = people; roster = roster; store = store }

abbrev pub people_in : Handed → List Person
people_in h = roster_of h.count h.roster

abbrev pub designs_in : Handed → List Design
designs_in h = store_of h.store

-- 20, where the call has no other buffer
unfoldable pub has_rooms : Handed → Bool
has_rooms h = has_room roster_room h.roster && has_room store_room h.store

-- "first 20, 1, 2, 3, 4 and 5 (roster), 21": from 2 on
unfoldable pub handed_number : Handed → ℕ
handed_number h =
    scheme_number h.scheme then
    roster_number h.scheme.types (people_in h) then
    store_number h.scheme.kinds h.scheme.rights h.count (designs_in h)

-- ---- request: 20, 2, 3, 4, 5, 21, then 6, 7, 8, 9, 4, and 10, 11 or 12, 13, 14

unfoldable pub request_call_number : Handed → Request → ℕ
request_call_number h q =
    20 when not (has_rooms h) else
    handed_number h then
    request_number h.scheme (people_in h) (designs_in h) q

pub record RequestOutcome (h : Handed) (q : Request) (answer : ℕ) (store_exit : List ℕ) : Type 0 where
  pub answer_is : answer ≡ request_call_number h q
  pub store_is : store_exit ≡ on_done (request_call_number h q) (store_words (requested h.scheme (people_in h) (designs_in h) q) h.store) h.store

-- ---- run_batch: 20, 1, 2, 3, 4, 5, 21; then each request its own

unfoldable pub run_batch_number : Handed → List ℕ → List ℕ → ℕ
run_batch_number h card answers =
    20 when not (has_rooms h && has_room most_requests answers) else
    batch_card_number card then
    handed_number h

abbrev pub numbers_in : Handed → List ℕ → List ℕ
numbers_in h card = batch_numbers h.scheme (people_in h) (designs_in h) (requests_of card)

unfoldable pub batch_run : ℕ → List ℕ → BatchRun
batch_run number numbers =
    record { number = 0; requests = length numbers; done = count_done numbers } when eqb number 0 else
    record { number = number; requests = 0; done = 0 }

pub record RunBatchOutcome (h : Handed) (card answers : List ℕ) (answer : BatchRun) (store_exit answers_exit : List ℕ) : Type 0 where
  pub answer_is : answer ≡ batch_run (run_batch_number h card answers) (numbers_in h card)
  pub store_is : store_exit ≡ on_done (run_batch_number h card answers) (store_words (batched h.scheme (people_in h) (designs_in h) (requests_of card)) h.store) h.store
  pub answers_are : answers_exit ≡ on_done (run_batch_number h card answers) (written_over (numbers_in h card) answers) answers

-- ---- may_use: 20, 2, 3, 4, 5, 21, 15, 7, 4, 12

unfoldable pub may_use_call_number : Handed → ℕ → ℕ → List ℕ → ℕ
may_use_call_number h person right code =
    20 when not (has_rooms h) else
    handed_number h then
    may_use_number h.scheme (people_in h) (designs_in h) person right code

unfoldable pub may_use_answer : ℕ → ℕ → MayUse
may_use_answer number may =
    record { number = 0; may = may } when eqb number 0 else
    record { number = number; may = 0 }

pub record MayUseOutcome (h : Handed) (person right : ℕ) (code : List ℕ) (answer : MayUse) : Type 0 where
  pub answer_is : answer ≡ may_use_answer (may_use_call_number h person right code) (may_use (designs_in h) person right code)

-- ---- access_list: 20, 2, 3, 4, 5, 21, 4, 12

unfoldable pub access_list_number : Handed → List ℕ → List ℕ → ℕ
access_list_number h code list =
    20 when not (has_rooms h && has_room access_room list) else
    handed_number h then
    named_number (designs_in h) code

abbrev pub cells_in : Handed → List ℕ → List ℕ
cells_in h code = (design_at code (designs_in h)).cells

unfoldable pub access_list_answer : ℕ → List ℕ → AccessList
access_list_answer number people =
    record { number = 0; people = length people } when eqb number 0 else
    record { number = number; people = 0 }

pub record AccessListOutcome (h : Handed) (code list : List ℕ) (answer : AccessList) (list_exit : List ℕ) : Type 0 where
  pub answer_is : answer ≡ access_list_answer (access_list_number h code list) (shown h.count (cells_in h code))
  pub list_is : list_exit ≡ on_done (access_list_number h code list) (written_over (access_words h.count (cells_in h code)) list) list

-- ---- verdict_of_create: 2, 15, 16, 18, 19, and verdict_of_design: 20, 2, 3, 4, 5, 21, 15, 4, 12, 16, 17, 18, 19

-- what is refused before 16 is given alone, and the table is left; else the verdict answers
unfoldable pub verdict_answer : ℕ → Verdict → Verdict
verdict_answer number v =
    v when eqb number 0 else
    only number

unfoldable pub create_call_number : Scheme → ℕ → Question → List ℕ → ℕ
create_call_number s command q table =
    scheme_number s then
    create_asked_number s command q (length table)

pub record VerdictOfCreateOutcome (s : Scheme) (command : ℕ) (q : Question) (table : List ℕ) (answer : Verdict) (table_exit : List ℕ) : Type 0 where
  pub answer_is : answer ≡ verdict_answer (create_call_number s command q table) (verdict_from s.commands (start_of_create (command_at s command)) q)
  pub table_is : table_exit ≡ on_done (create_call_number s command q table) (table_after s.commands (start_of_create (command_at s command)) q table) table

unfoldable pub design_call_number : Handed → List ℕ → Question → List ℕ → ℕ
design_call_number h code q table =
    20 when not (has_rooms h) else
    handed_number h then
    design_asked_number h.scheme (designs_in h) code q (length table)

abbrev pub start_in : Handed → List ℕ → Start
start_in h code = start_of_design h.scheme.commands (people_in h) (design_at code (designs_in h))

pub record VerdictOfDesignOutcome (h : Handed) (code : List ℕ) (q : Question) (table : List ℕ) (answer : Verdict) (table_exit : List ℕ) : Type 0 where
  pub answer_is : answer ≡ verdict_answer (design_call_number h code q table) (verdict_from h.scheme.commands (start_in h code) q)
  pub table_is : table_exit ≡ on_done (design_call_number h code q table) (table_after h.scheme.commands (start_in h code) q table) table
