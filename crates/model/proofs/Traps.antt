-- Corners of the rules that are easy to get wrong, computed on the definitions: each line gives what a definition answers, and what it must.
-- Assumes nothing.
use Prim.Native.Nat.{ℕ}
use Prim.Native.String.{String}
use mathlib.Core.List.{List, [], ◌∷◌, ◌++◌, map}
use mathlib.Core.Path.{◌≡◌, refl}
use lib.ListN.{replicate, length}
use Rattle.model.specs.Words.{numbers_from, joined, text}
use Rattle.model.specs.Codes.{code_number, code_words, code_at}
use Rattle.model.specs.Schemes.{scheme_number}
use Rattle.model.specs.Rosters.{Person}
use Rattle.model.specs.Stores.{Design, store_number}
use Rattle.model.specs.Requests.{Request, request_number, batched}
use Rattle.model.specs.Cards.{scheme_card_number, roster_card_number, batch_card_number}
use Rattle.model.specs.Questions.{may_use_number, may_use, shown}
use Rattle.model.specs.Verdicts.{Question, create_asked_number, verdict_from, start_of_create}
use Rattle.model.specs.Lines.{batch_text, verdict_text, batch_wanted, verdict_wanted, decimal}
use Rattle.model.specs.Mill.{scheme_a, commands_c, mill_scheme, command}
use Rattle.model.specs.Worked.{card, command_on_card, person_on_card, request_on_card, card_a, roster_card, batch_card}
use Rattle.model.proofs.Computes.{computes}

record Line : Type 0 where
  is : ℕ
  must : ℕ

infix 68 ◌be◌
abbrev ◌be◌ : ℕ → ℕ → Line
is be must = record { is = is; must = must }

abbrev Right : List Line → Type 0
Right lines = map (λ l. l.is) lines ≡ map (λ l. l.must) lines

abbrev repeated : ℕ → List ℕ → List ℕ
repeated n bytes = joined (replicate n bytes)

abbrev any_command : List ℕ
any_command = (3 ∷ 0 ∷ 0 ∷ 0 ∷ []) ++ replicate 12 0

-- a card of a version, of a length as it is written, and a body
abbrev raw_card : ℕ → ℕ → ℕ → List ℕ → List ℕ
raw_card version high low body = version ∷ high ∷ low ∷ body

cards : Right
    (scheme_card_number [] be 1
    ∷ scheme_card_number (1 ∷ 0 ∷ []) be 1
    ∷ scheme_card_number (raw_card 2 0 4 (1 ∷ 1 ∷ 1 ∷ 0 ∷ [])) be 1
    ∷ scheme_card_number (raw_card 1 0 4 (1 ∷ 1 ∷ 1 ∷ 0 ∷ [])) be 0
    ∷ scheme_card_number (raw_card 1 0 5 (1 ∷ 1 ∷ 1 ∷ 0 ∷ [])) be 1
    ∷ scheme_card_number (raw_card 1 0 3 (1 ∷ 1 ∷ 1 ∷ 0 ∷ [])) be 1
    ∷ scheme_card_number (card (1 ∷ 1 ∷ 1 ∷ [])) be 1
    ∷ scheme_card_number (card (1 ∷ 1 ∷ 1 ∷ 1 ∷ [])) be 1
    ∷ scheme_card_number (card ((1 ∷ 1 ∷ 1 ∷ 64 ∷ []) ++ repeated 64 any_command)) be 0
    ∷ scheme_card_number (card ((1 ∷ 1 ∷ 1 ∷ 65 ∷ []) ++ repeated 65 any_command)) be 2
    ∷ scheme_card_number (card (0 ∷ 1 ∷ 1 ∷ 0 ∷ [])) be 2
    ∷ scheme_card_number (card (8 ∷ 4 ∷ 32 ∷ 0 ∷ [])) be 0
    ∷ scheme_card_number (card (9 ∷ 4 ∷ 32 ∷ 0 ∷ [])) be 2
    ∷ scheme_card_number (card (8 ∷ 5 ∷ 32 ∷ 0 ∷ [])) be 2
    ∷ scheme_card_number (card (8 ∷ 4 ∷ 33 ∷ 0 ∷ [])) be 2
    ∷ roster_card_number scheme_a (card []) be 1
    ∷ roster_card_number scheme_a (card (0 ∷ [])) be 3
    ∷ roster_card_number scheme_a (card (33 ∷ repeated 33 (person_on_card 0 "A"))) be 3
    ∷ roster_card_number scheme_a (card (1 ∷ person_on_card 3 "A")) be 3
    ∷ roster_card_number scheme_a (card (1 ∷ person_on_card 0 "")) be 4
    ∷ roster_card_number scheme_a (card (1 ∷ person_on_card 0 "ABCDEFGHIJKLM")) be 4
    ∷ roster_card_number scheme_a (card (1 ∷ person_on_card 0 "A" ++ (0 ∷ []))) be 1
    ∷ roster_card_number scheme_a (card (2 ∷ person_on_card 0 "A")) be 1
    -- 3 before 4 and 4 before 5, over the whole roster
    ∷ roster_card_number scheme_a (card (2 ∷ person_on_card 0 "a" ++ person_on_card 3 "A")) be 3
    ∷ roster_card_number scheme_a (card (3 ∷ person_on_card 0 "A" ++ person_on_card 0 "A" ++ person_on_card 0 "-")) be 4
    ∷ roster_card_number scheme_a (card (2 ∷ person_on_card 0 "A" ++ person_on_card 1 "A")) be 5
    -- 1 before 2
    ∷ roster_card_number (mill_scheme (command 4 0 0 0 0 0 ∷ [])) (card (2 ∷ [])) be 1
    ∷ roster_card_number (mill_scheme (command 4 0 0 0 0 0 ∷ [])) (card (1 ∷ person_on_card 0 "A")) be 2
    ∷ batch_card_number (card (0 ∷ 0 ∷ [])) be 0
    ∷ batch_card_number (card (0 ∷ [])) be 1
    ∷ batch_card_number (card (1 ∷ 0 ∷ repeated 256 (request_on_card 9 9 9 ""))) be 0
    ∷ batch_card_number (card (1 ∷ 1 ∷ repeated 257 (request_on_card 9 9 9 ""))) be 1
    ∷ batch_card_number (card (0 ∷ 1 ∷ request_on_card 0 0 0 "abcdefghijklmnopqrstuvwxyz")) be 0
    ∷ batch_card_number (card (0 ∷ 1 ∷ 0 ∷ 0 ∷ 0 ∷ 2 ∷ 65 ∷ [])) be 1
    ∷ [])
unfolding computes
cards = refl

-- the clauses of a valid scheme
schemes : Right
    (scheme_number (mill_scheme []) be 0
    ∷ scheme_number (mill_scheme (command 0 0 0 0 0 0 ∷ [])) be 2
    ∷ scheme_number (mill_scheme (command 4 0 0 0 0 0 ∷ [])) be 2
    ∷ scheme_number (mill_scheme (command 2 3 0 0 0 0 ∷ [])) be 2
    ∷ scheme_number (mill_scheme (command 2 0 3 0 0 0 ∷ [])) be 2
    ∷ scheme_number (mill_scheme (command 2 0 1 0x80 0 0 ∷ [])) be 0
    ∷ scheme_number (mill_scheme (command 2 0 1 0x100 0 0 ∷ [])) be 2
    ∷ scheme_number (mill_scheme (command 2 0 1 0 0x100 0 ∷ [])) be 2
    ∷ scheme_number (mill_scheme (command 2 0 1 0 0 0x100 ∷ [])) be 2
    ∷ scheme_number (mill_scheme (command 3 0 1 0 0 0 ∷ [])) be 2
    ∷ scheme_number (mill_scheme (command 1 0 1 0 0 0 ∷ [])) be 2
    ∷ scheme_number (mill_scheme (command 1 0 0 1 0 0 ∷ [])) be 2
    ∷ scheme_number (mill_scheme (command 1 0 0 0 1 0 ∷ [])) be 2
    ∷ scheme_number (mill_scheme (command 1 0 0 0 0 0 ∷ command 1 0 0 0 0 0 ∷ [])) be 0
    ∷ scheme_number (record { types = 1; kinds = 1; rights = 32; commands = command 2 0 0 0xFFFFFFFF 0 0 ∷ [] }) be 0
    ∷ scheme_number (record { types = 1; kinds = 0; rights = 32; commands = [] }) be 2
    ∷ [])
unfolding computes
schemes = refl

abbrev ann : List Person
ann = record { type = 0; code = text "ANN" } ∷ record { type = 1; code = text "LAB" } ∷ record { type = 0; code = text "BOB" } ∷ []

abbrev asks : ℕ → ℕ → ℕ → String → Request
asks command source destination code = record { command = command; source = source; destination = destination; code = text code }

abbrev design : ℕ → String → List ℕ → Design
design kind code cells = record { kind = kind; code = text code; cells = cells }

abbrev full : List Design
full = map (λ n. record { kind = 0; code = text "D" ++ decimal n; cells = replicate 32 0 }) (numbers_from 0 64)

abbrev one : List Design
one = design 0 "W-1" (0x04 ∷ 0 ∷ 0x03 ∷ replicate 29 0) ∷ design 1 "W-2" (0x04 ∷ replicate 31 0) ∷ []

requests : Right
    (request_number scheme_a ann [] (asks 7 9 9 "-") be 6
    ∷ request_number scheme_a ann [] (asks 0 3 0 "-") be 7
    ∷ request_number scheme_a ann [] (asks 0 0 3 "-") be 7
    -- 7 before 8 before 9 before 4
    ∷ request_number scheme_a ann [] (asks 0 1 3 "-") be 7
    ∷ request_number scheme_a ann [] (asks 0 1 1 "-") be 8
    ∷ request_number scheme_a ann [] (asks 2 0 2 "-") be 8
    ∷ request_number scheme_a ann [] (asks 0 0 1 "-") be 8
    ∷ request_number scheme_a ann [] (asks 0 0 2 "-") be 9
    ∷ request_number scheme_a ann [] (asks 1 2 0 "-") be 9
    ∷ request_number scheme_a ann [] (asks 0 0 0 "-") be 4
    ∷ request_number scheme_a ann [] (asks 0 0 0 "W") be 0
    ∷ request_number scheme_a ann full (asks 0 0 0 "D3") be 10
    ∷ request_number scheme_a ann full (asks 0 0 0 "E3") be 11
    -- a code names a design whatever its kind
    ∷ request_number scheme_a ann one (asks 0 0 0 "W-2") be 10
    ∷ request_number scheme_a ann one (asks 2 0 1 "W-3") be 12
    ∷ request_number scheme_a ann one (asks 2 0 1 "W-2") be 13
    ∷ request_number scheme_a ann one (asks 1 0 0 "W-1") be 14
    ∷ request_number scheme_a ann one (asks 1 2 2 "W-1") be 0
    ∷ request_number scheme_a ann one (asks 2 0 1 "W-1") be 0
    ∷ may_use_number scheme_a ann one 3 8 (text "-") be 15
    ∷ may_use_number scheme_a ann one 3 7 (text "-") be 7
    ∷ may_use_number scheme_a ann one 0 7 (text "-") be 4
    ∷ may_use_number scheme_a ann one 0 7 (text "W") be 12
    ∷ may_use_number scheme_a ann one 0 7 (text "W-1") be 0
    ∷ may_use one 0 2 (text "W-1") be 1
    ∷ may_use one 0 3 (text "W-1") be 0
    ∷ length (shown 3 (0x04 ∷ 0 ∷ 0x03 ∷ replicate 29 0)) be 2
    ∷ [])
unfolding computes
requests = refl

-- a create writes the creator's cell and 31 empty ones; a grant moves the two named cells alone
stores_afterwards : map (λ d. d.cells) (batched scheme_a ann one (asks 0 2 2 "W-3" ∷ asks 2 0 1 "W-1" ∷ []))
    ≡ (0 ∷ 0x10 ∷ 0x03 ∷ replicate 29 0) ∷ (0x04 ∷ replicate 31 0) ∷ (0 ∷ 0 ∷ 0x03 ∷ replicate 29 0) ∷ []
unfolding computes
stores_afterwards = refl

stores : Right
    (store_number 1 8 3 [] be 0
    ∷ store_number 1 8 3 full be 0
    ∷ store_number 1 8 3 (full ++ (design 0 "E" (replicate 32 0) ∷ [])) be 21
    ∷ store_number 1 8 3 one be 21
    ∷ store_number 1 8 3 (design 0 "w" (replicate 32 0) ∷ []) be 21
    ∷ store_number 1 8 3 (design 0 "W" (replicate 32 0) ∷ design 0 "W" (replicate 32 0) ∷ []) be 21
    ∷ store_number 1 8 3 (design 0 "W" (0xFF ∷ replicate 31 0) ∷ []) be 0
    ∷ store_number 1 8 3 (design 0 "W" (0x100 ∷ replicate 31 0) ∷ []) be 21
    ∷ store_number 1 8 3 (design 0 "W" (0 ∷ 0 ∷ 0 ∷ 1 ∷ replicate 28 0) ∷ []) be 21
    ∷ store_number 1 8 4 (design 0 "W" (0 ∷ 0 ∷ 0 ∷ 1 ∷ replicate 28 0) ∷ []) be 0
    -- a code in three words: all zeros, or a zero inside, is a bad one
    ∷ code_number (code_at (0 ∷ 0 ∷ 0 ∷ [])) be 4
    ∷ code_number (code_at (0x41004200 ∷ 0 ∷ 0 ∷ [])) be 4
    ∷ code_number (code_at (0x41000000 ∷ 0x42000000 ∷ 0 ∷ [])) be 4
    ∷ code_number (code_at (0x41420000 ∷ 0 ∷ 0 ∷ [])) be 0
    ∷ code_number (code_at (code_words (text "ABCDEFGHIJKL"))) be 0
    ∷ [])
unfolding computes
stores = refl

abbrev at_most : ℕ → ℕ → ℕ → Question
at_most type right budget = record { type = type; right = right; budget = budget }

verdicts : Right
    (create_asked_number scheme_a 0 (at_most 3 0 1) 8 be 15
    ∷ create_asked_number scheme_a 0 (at_most 0 8 1) 8 be 15
    ∷ create_asked_number scheme_a 0 (at_most 0 0 0) 8 be 15
    ∷ create_asked_number scheme_a 0 (at_most 0 0 2049) 65536 be 15
    ∷ create_asked_number scheme_a 0 (at_most 0 0 2048) 16384 be 0
    ∷ create_asked_number scheme_a 0 (at_most 0 0 2048) 16383 be 15
    ∷ create_asked_number scheme_a 1 (at_most 0 0 1) 8 be 15
    ∷ create_asked_number scheme_a 7 (at_most 0 0 1) 8 be 15
    -- 16 is per kind: C's fault is in kind 0, and a create of another kind is not touched by it
    ∷ (verdict_from commands_c (start_of_create (record { form = 1; source = 0; destination = 0; kind = 1; x = 0; y = 0; z = 1 })) (at_most 0 0 1)).number be 0
    -- X = 0 always fires
    ∷ (verdict_from (command 1 0 0 0 0 0 ∷ command 3 1 1 0 0 1 ∷ []) (start_of_create (command 1 0 0 0 0 0)) (at_most 1 0 2)).states be 2
    ∷ [])
unfolding computes
verdicts = refl

-- what the programs want to read, and what they print at the edges
wanted : Right
    (verdict_wanted [] be 3
    ∷ verdict_wanted (1 ∷ []) be 2
    ∷ verdict_wanted (2 ∷ []) be 0
    ∷ verdict_wanted (1 ∷ 0 ∷ 9 ∷ 7 ∷ []) be 8
    ∷ verdict_wanted (1 ∷ 255 ∷ 253 ∷ []) be 65533
    ∷ verdict_wanted (1 ∷ 255 ∷ 254 ∷ []) be 0
    ∷ verdict_wanted card_a be 0
    ∷ batch_wanted card_a be 3
    ∷ batch_wanted (card_a ++ (9 ∷ [])) be 0
    ∷ batch_wanted (card (0 ∷ [])) be 0
    ∷ batch_wanted (card_a ++ roster_card) be 3
    ∷ batch_wanted (card_a ++ card (0 ∷ [])) be 0
    ∷ batch_wanted (card_a ++ roster_card ++ (1 ∷ 0 ∷ 2 ∷ [])) be 2
    ∷ batch_wanted (card_a ++ roster_card ++ batch_card) be 0
    ∷ [])
unfolding computes
wanted = refl

empty_batch : batch_text (card_a ++ roster_card ++ card (0 ∷ 0 ∷ []) ++ text "and more") ≡ text "E 0 0\n"
unfolding computes
empty_batch = refl

no_create : verdict_text (card (1 ∷ 1 ∷ 1 ∷ 0 ∷ [])) ≡ []
unfolding computes
no_create = refl

-- 16 prints with no states
not_normal : verdict_text (card ((1 ∷ 1 ∷ 2 ∷ 3 ∷ []) ++ command_on_card (command 1 0 0 0 0 1) ++ command_on_card (command 3 0 0 1 2 0) ++ command_on_card (command 3 0 0 2 0 0))) ≡ text "C 0 16 0\n"
unfolding computes
not_normal = refl
