-- The worked batch, and the verdict on scheme A: the bytes that the programs read, and what they print, whole.
-- Assumes nothing.
use Rattle.std.specs.Prelude.{ℕ, List, [], ◌∷◌, ◌++◌, map, ◌≡◌, length}
use Prim.Native.String.{String}
use Rattle.model.specs.declared.Command.{Command}
use Rattle.model.specs.Words.{joined, digits, text}
use Rattle.model.specs.Lines.{batch_text, verdict_text}
use Rattle.model.specs.Mill.{commands_a, designer, lab, desk}

-- a card with this body
abbrev pub card : List ℕ → List ℕ
card body = (1 ∷ digits 256 2 (length body)) ++ body

abbrev pub command_on_card : Command → List ℕ
command_on_card c = (c.form ∷ c.source ∷ c.destination ∷ c.kind ∷ []) ++ digits 256 4 c.x ++ digits 256 4 c.y ++ digits 256 4 c.z

unfoldable pub card_a : List ℕ
card_a = card ((3 ∷ 1 ∷ 8 ∷ 7 ∷ []) ++ joined (map command_on_card commands_a))

abbrev pub person_on_card : ℕ → String → List ℕ
person_on_card type code = (type ∷ length (text code) ∷ []) ++ text code

-- "roster ANN type 0, LAB-1 type 1, LAB-2 type 1, LIC type 2"
unfoldable pub roster_card : List ℕ
roster_card = card (4 ∷ person_on_card designer "ANN" ++ person_on_card lab "LAB-1" ++ person_on_card lab "LAB-2" ++ person_on_card desk "LIC")

abbrev pub request_on_card : ℕ → ℕ → ℕ → String → List ℕ
request_on_card command source destination code = (command ∷ source ∷ destination ∷ length (text code) ∷ []) ++ text code

-- "0 command 0 by ANN on W-104; 1 the same on w-104; 2 the same on W-104; 3 command 2 ANN to LAB-1; 4 command 1 ANN; 5 command 2 ANN to LAB-1;
-- 6 command 2 ANN to LAB-2; 7 command 4 LAB-1 to ANN (3 to 7 on W-104)"
unfoldable pub batch_card : List ℕ
batch_card =
    card
    (0
    ∷ 8
    ∷ request_on_card 0 0 0 "W-104"
    ++ request_on_card 0 0 0 "w-104"
    ++ request_on_card 0 0 0 "W-104"
    ++ request_on_card 2 0 1 "W-104"
    ++ request_on_card 1 0 0 "W-104"
    ++ request_on_card 2 0 1 "W-104"
    ++ request_on_card 2 0 2 "W-104"
    ++ request_on_card 4 1 0 "W-104")

-- "It prints, whole:"
abbrev pub WorkedBatch : Type 0
WorkedBatch =
    batch_text (card_a ++ roster_card ++ batch_card)
    ≡ text "R 0 0\n"
    ++ text "R 1 4\n"
    ++ text "R 2 10\n"
    ++ text "R 3 14\n"
    ++ text "R 4 0\n"
    ++ text "R 5 0\n"
    ++ text "R 6 14\n"
    ++ text "R 7 0\n"
    ++ text "D W-104 0\n"
    ++ text "P ANN 00000029\n"
    ++ text "E 8 4\n"

-- "For A: `C 0 0 11`, `T 0 000000EF`, `T 1 00000010`, `T 2 00000010`."
abbrev pub VerdictOnA : Type 0
VerdictOnA =
    verdict_text card_a
    ≡ text "C 0 0 11\n"
    ++ text "T 0 000000EF\n"
    ++ text "T 1 00000010\n"
    ++ text "T 2 00000010\n"

-- "At the first refused card either program prints only X and its number, as `X 1`"
abbrev pub CutShort : Type 0
CutShort = batch_text (card_a ++ roster_card) ≡ text "X 1\n"
