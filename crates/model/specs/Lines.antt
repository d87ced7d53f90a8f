-- What the two programs print, as lists of bytes, for the bytes that they read; how many more bytes they must read; and the outcomes of these calls.
-- Assumes nothing.
use Rattle.std.specs.Prelude.{ℕ, zero, suc, ◌+◌, ◌-◌, ◌*◌, not, ◌&&◌, List, [], ◌∷◌, ◌++◌, map, ◌≡◌, leb, ltb, eqb, length, get_or, take, drop}
use Prim.Native.String.{String}
use Rattle.model.specs.declared.Command.{Command}
use Rattle.model.specs.declared.Text.{Text}
use Rattle.model.specs.Words.{◌when◌else◌, ◌then◌, joined, numbers_from, digits, written_over, text}
use Rattle.model.specs.Sizes.{most_card, most_states, most_requests, most_designs, most_people, most_commands, most_types, header, row_words}
use Rattle.model.specs.Rights.{together}
use Rattle.model.specs.Schemes.{Scheme, is_create}
use Rattle.model.specs.Rosters.{Person, nobody}
use Rattle.model.specs.Forms.{cell_at}
use Rattle.model.specs.Stores.{Design}
use Rattle.model.specs.Requests.{Request, batch_numbers, batched, count_done}
use Rattle.model.specs.Cards.{version, body_length, scheme_of, people_of, requests_of, scheme_card_number, roster_card_number, batch_card_number}
use Rattle.model.specs.Questions.{shown}
use Rattle.model.specs.Listing.{Row}
use Rattle.model.specs.Verdicts.{Question, start_of_create, rows_from, verdict_from, table_after}
use Rattle.model.specs.Outcomes.{has_room, on_done}

-- ---- lines

-- 0 to 9, A to F
unfoldable pub digit_byte : ℕ → ℕ
digit_byte d =
    48 + d when ltb d 10 else
    55 + d

-- without leading zeros, but for the last digit
unfoldable pub trimmed : List ℕ → List ℕ
trimmed [] = []
trimmed (d ∷ []) = d ∷ []
trimmed (zero ∷ d ∷ ds) = trimmed (d ∷ ds)
trimmed (suc k ∷ d ∷ ds) = suc k ∷ d ∷ ds

-- a number in decimal: none that is printed passes 2,048
unfoldable pub decimal : ℕ → List ℕ
decimal n = map digit_byte (trimmed (digits 10 4 n))

-- "rights as eight hex digits"
unfoldable pub hexadecimal : ℕ → List ℕ
hexadecimal rights = map digit_byte (digits 16 8 rights)

-- a letter, then each word after one space, then one newline
unfoldable pub line : String → List (List ℕ) → List ℕ
line letter words = text letter ++ joined (map (λ word. text " " ++ word) words) ++ text "\n"

-- "At the first refused card either program prints only X and its number"
unfoldable pub line_x : ℕ → List ℕ
line_x number = line "X" (decimal number ∷ [])

-- ---- the cards in a stream

-- "one after the other": the card that begins here, as long as its own header says, and what follows it
abbrev pub card_length : List ℕ → ℕ
card_length stream = header + body_length stream

abbrev pub card_of : List ℕ → List ℕ
card_of stream = take (card_length stream) stream

abbrev pub after_card : List ℕ → List ℕ
after_card stream = drop (card_length stream) stream

-- how many more bytes the card that begins here wants: none once it is whole, or refused by its version or length already
unfoldable pub card_wanted : List ℕ → ℕ
card_wanted stream =
    0 when leb 1 (length stream) && not (eqb (version stream) 1) else
    header - length stream when ltb (length stream) header else
    0 when ltb most_card (card_length stream) else
    card_length stream - length stream

-- ---- the batch program

-- "R: request, answer."
unfoldable pub lines_r : ℕ → List ℕ → List ℕ
lines_r request [] = []
lines_r request (n ∷ ns) = line "R" (decimal request ∷ decimal n ∷ []) ++ lines_r (suc request) ns

-- "D: design in order of creation, kind, then its access list as P: person, rights as eight hex digits."
unfoldable pub line_p : List Person → List ℕ → ℕ → List ℕ
line_p people cells p = line "P" ((get_or people p nobody).code ∷ hexadecimal (cell_at cells p) ∷ [])

unfoldable pub lines_d : List Person → Design → List ℕ
lines_d people d = line "D" (d.code ∷ decimal d.kind ∷ []) ++ joined (map (line_p people d.cells) (shown (length people) d.cells))

-- "E: requests, those answered 0."
unfoldable pub line_e : List ℕ → List ℕ
line_e numbers = line "E" (decimal (length numbers) ∷ decimal (count_done numbers) ∷ [])

-- the number of the first of the three cards that is refused
unfoldable pub batch_stream_number : List ℕ → ℕ
batch_stream_number stream =
    scheme_card_number (card_of stream) then
    roster_card_number (scheme_of (card_of stream)) (card_of (after_card stream)) then
    batch_card_number (card_of (after_card (after_card stream)))

-- the lines of a batch, which begins with an empty store
unfoldable pub run_lines : Scheme → List Person → List Request → List ℕ
run_lines s people requests =
    let numbers = batch_numbers s people [] requests in
    lines_r 0 numbers ++ joined (map (lines_d people) (batched s people [] requests)) ++ line_e numbers

-- "The batch program reads scheme, roster and batch cards from standard input, one after the other."
unfoldable pub batch_text : List ℕ → List ℕ
batch_text stream =
    let s = scheme_of (card_of stream) in
    let people = people_of (card_of (after_card stream)) in
    let lines = run_lines s people (requests_of (card_of (after_card (after_card stream)))) in
    lines when eqb (batch_stream_number stream) 0 else
    line_x (batch_stream_number stream)

-- the next card is wanted only once the one before it is whole and not refused
unfoldable pub batch_wanted : List ℕ → ℕ
batch_wanted stream =
    let rest = after_card stream in
    card_wanted stream then
    0 when not (eqb (scheme_card_number (card_of stream)) 0) else
    card_wanted rest then
    0 when not (eqb (roster_card_number (scheme_of (card_of stream)) (card_of rest)) 0) else
    card_wanted (after_card rest)

-- ---- the verdict program

-- "for each create at budget 2,048": the answer's number and states are the same for every type and right
abbrev pub whole_question : Question
whole_question = record { type = 0; right = 0; budget = most_states }

-- "T, type, all rights ever listed at it"
unfoldable pub line_t : List Row → ℕ → List ℕ
line_t rows t = line "T" (decimal t ∷ hexadecimal (together (map (λ row. cell_at row t) rows)) ∷ [])

unfoldable pub lines_t : Scheme → Command → List ℕ
lines_t s c = joined (map (line_t (rows_from s.commands (start_of_create c) most_states)) (numbers_from 0 s.types))

-- "prints C, command, answer, states; with answer 0, then T"
unfoldable pub lines_c : Scheme → ℕ → Command → List ℕ
lines_c s k c =
    let v = verdict_from s.commands (start_of_create c) whole_question in
    let theirs = lines_t s c in
    line "C" (decimal k ∷ decimal v.number ∷ decimal v.states ∷ []) ++ (theirs when eqb v.number 0 else [])

-- of a command: none if it is no create
unfoldable pub command_lines : Scheme → ℕ → Command → List ℕ
command_lines s k c =
    lines_c s k c when is_create c else
    []

-- of the commands from number k on
unfoldable pub create_lines : Scheme → ℕ → List Command → List ℕ
create_lines s k [] = []
create_lines s k (c ∷ cs) = command_lines s k c ++ create_lines s (suc k) cs

unfoldable pub verdict_text : List ℕ → List ℕ
verdict_text stream =
    let s = scheme_of (card_of stream) in
    let lines = create_lines s 0 s.commands in
    lines when eqb (scheme_card_number (card_of stream)) 0 else
    line_x (scheme_card_number (card_of stream))

unfoldable pub verdict_wanted : List ℕ → ℕ
verdict_wanted stream = card_wanted stream

-- the table after the listing of a command, if it is a create; and after those of all, one over the other
unfoldable pub table_after_command : List Command → Command → List ℕ → List ℕ
table_after_command commands c table =
    table_after commands (start_of_create c) whole_question table when is_create c else
    table

unfoldable pub table_after_creates : List Command → List Command → List ℕ → List ℕ
table_after_creates commands [] table = table
table_after_creates commands (c ∷ cs) table = table_after_creates commands cs (table_after_command commands c table)

-- ---- batch_text: 20, and verdict_text: 20, 15

-- the most that the sizes allow, by the longest line of each letter: "R 255 14", "D", "P" and "E 256 256"; "C 63 18 2048" and "T"
abbrev pub batch_text_room : ℕ
batch_text_room = most_requests * 9 + most_designs * (17 + most_people * 24) + 10

abbrev pub verdict_text_room : ℕ
verdict_text_room = most_commands * (13 + most_types * 13)

unfoldable pub text_answer : ℕ → List ℕ → Text
text_answer number text =
    record { number = 0; bytes = length text } when eqb number 0 else
    record { number = number; bytes = 0 }

unfoldable pub batch_text_number : List ℕ → ℕ
batch_text_number text =
    20 when not (has_room batch_text_room text) else
    0

pub record BatchTextOutcome (stream text : List ℕ) (answer : Text) (text_exit : List ℕ) : Type 0 where
  pub answer_is : answer ≡ text_answer (batch_text_number text) (batch_text stream)
  pub text_is : text_exit ≡ on_done (batch_text_number text) (written_over (batch_text stream) text) text

unfoldable pub verdict_text_number : List ℕ → List ℕ → ℕ
verdict_text_number table text =
    20 when not (has_room verdict_text_room text) else
    15 when not (has_room (row_words * most_states) table) else
    0

-- a refused card's line is text too; its table is left as found
unfoldable pub table_of_stream : List ℕ → List ℕ → List ℕ
table_of_stream stream table =
    table_after_creates (scheme_of (card_of stream)).commands (scheme_of (card_of stream)).commands table when eqb (scheme_card_number (card_of stream)) 0 else
    table

pub record VerdictTextOutcome (stream table text : List ℕ) (answer : Text) (table_exit text_exit : List ℕ) : Type 0 where
  pub answer_is : answer ≡ text_answer (verdict_text_number table text) (verdict_text stream)
  pub table_is : table_exit ≡ on_done (verdict_text_number table text) (table_of_stream stream table) table
  pub text_is : text_exit ≡ on_done (verdict_text_number table text) (written_over (verdict_text stream) text) text

-- ---- batch_wanted and verdict_wanted: none is refused

pub record BatchWantedOutcome (stream : List ℕ) (answer : ℕ) : Type 0 where
  pub answer_is : answer ≡ batch_wanted stream

pub record VerdictWantedOutcome (stream : List ℕ) (answer : ℕ) : Type 0 where
  pub answer_is : answer ≡ verdict_wanted stream
