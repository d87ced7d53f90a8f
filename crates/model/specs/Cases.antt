-- The cases P1 to P12, one table, and the one statement over them.
-- Assumes nothing.
use Rattle.std.specs.Prelude.{ℕ, ◌*◌, List, [], ◌∷◌, map, ◌≡◌, replicate}
use Rattle.model.specs.declared.Command.{Command}
use Rattle.model.specs.declared.Verdict.{Verdict}
use Rattle.model.specs.Words.{text}
use Rattle.model.specs.Sizes.{row_words}
use Rattle.model.specs.Codes.{code_number}
use Rattle.model.specs.Schemes.{Scheme, command_at}
use Rattle.model.specs.Rosters.{Person}
use Rattle.model.specs.Forms.{act}
use Rattle.model.specs.Verdicts.{Question, start_of_create, start_of_design, verdict_from}
use Rattle.model.specs.Outcomes.{verdict_answer, create_call_number}
use Rattle.model.specs.Mill.{scheme_a, scheme_b, scheme_c, mill_scheme, command, designer, lab, release}

-- what a case asks
pub data Asked : Type 0 where
  -- a verdict from start 0: the scheme, the type, the right, the budget
  from_create : Scheme → ℕ → ℕ → ℕ → Asked
  -- the same from a design: its roster and its cells
  from_design : Scheme → ℕ → ℕ → ℕ → List Person → List ℕ → Asked
  -- a command by one person on a design with that person's cell alone
  by_one : Command → ℕ → Asked
  -- the spelling of a code
  code : List ℕ → Asked

abbrev pub question : ℕ → ℕ → ℕ → Question
question type right budget = record { type = type; right = right; budget = budget }

-- the answer's fields in order: number, states listed, held, state, command
abbrev pub fields : Verdict → List ℕ
fields v = v.number ∷ v.states ∷ v.held ∷ v.state ∷ v.command ∷ []

unfoldable pub outcome : Asked → List ℕ
outcome (from_create s type right budget) =
    let q = question type right budget in
    fields (verdict_answer (create_call_number s 0 q (replicate (row_words * budget) 0)) (verdict_from s.commands (start_of_create (command_at s 0)) q))
outcome (from_design s type right budget people cells) =
    fields (verdict_from s.commands (start_of_design s.commands people (record { kind = 0; code = text "W-104"; cells = cells })) (question type right budget))
outcome (by_one c cell) = act c 0 0 (cell ∷ [])
outcome (code bytes) = code_number bytes ∷ []

pub record Case : Type 0 where
  pub asked : Asked
  pub given : List ℕ

abbrev pub gives : Asked → List ℕ → Case
gives asked given = record { asked = asked; given = given }

-- two lab people, who both hold review
abbrev pub two_of_the_lab : List Person
two_of_the_lab = record { type = lab; code = text "LAB-1" } ∷ record { type = lab; code = text "LAB-2" } ∷ []

unfoldable pub cases : List Case
cases =
    -- P1 A: answer 0, 11 states, held, state 10.
    gives (from_create scheme_a designer release 11) (0 ∷ 11 ∷ 1 ∷ 10 ∷ 0 ∷ [])
    -- P2 A, budget 10: 18.
    ∷ gives (from_create scheme_a designer release 10) (18 ∷ 10 ∷ 0 ∷ 0 ∷ 0 ∷ [])
    -- P3 A, lab: 0, not held.
    ∷ gives (from_create scheme_a lab release 11) (0 ∷ 11 ∷ 0 ∷ 0 ∷ 0 ∷ [])
    -- P4 B, budget 21: 19, 21 states, state 2, command 2.
    ∷ gives (from_create scheme_b designer release 21) (19 ∷ 21 ∷ 0 ∷ 2 ∷ 2 ∷ [])
    -- P5 B, budget 20: 18.
    ∷ gives (from_create scheme_b designer release 20) (18 ∷ 20 ∷ 0 ∷ 0 ∷ 0 ∷ [])
    -- P6 C: 16, command 2.
    ∷ gives (from_create scheme_c designer release 11) (16 ∷ 0 ∷ 0 ∷ 0 ∷ 2 ∷ [])
    -- P7 B on a design where two lab people hold review: 17.
    ∷ gives (from_design scheme_b designer release 11 two_of_the_lab (0x10 ∷ 0x10 ∷ replicate 30 0)) (17 ∷ 0 ∷ 0 ∷ 0 ∷ 0 ∷ [])
    -- P8 cell 03 by command 1 of A: 0D.
    ∷ gives (by_one (command_at scheme_a 1) 0x03) (0x0D ∷ [])
    -- P9 code w-104: 4.
    ∷ gives (code (text "w-104")) (4 ∷ [])
    -- P10 code of 12 letters accepted, 13: 4.
    ∷ gives (code (text "ABCDEFGHIJKL")) (0 ∷ [])
    ∷ gives (code (text "ABCDEFGHIJKLM")) (4 ∷ [])
    -- P11 code "-": 4.
    ∷ gives (code (text "-")) (4 ∷ [])
    -- P12 a grant from a person to itself, X = Y = Z = 01, cell 01: cell 01.
    ∷ gives (by_one (command 2 0 0 0x01 0x01 0x01) 0x01) (0x01 ∷ [])
    ∷ []

-- Two shortcuts that P1 to P12 leave open: "a handover of own within one type would be refused a verdict", and "stand-ins that forbid a type
-- granting to itself".
abbrev pub within_one_type : ℕ → ℕ → ℕ → Scheme
within_one_type x y z = mill_scheme (command 1 0 0 0 0 0x01 ∷ command 2 0 0 x y z ∷ [])

unfoldable pub shortcuts : List Case
shortcuts =
    -- own is handed over: a verdict, with one state
    gives (from_create (within_one_type 0x01 0x01 0x01) designer 0 2) (0 ∷ 1 ∷ 1 ∷ 0 ∷ 0 ∷ [])
    -- an owner gives write to another designer
    ∷ gives (from_create (within_one_type 0x01 0 0x02) designer 1 2) (0 ∷ 2 ∷ 1 ∷ 1 ∷ 0 ∷ [])
    ∷ []

-- every case of a table comes out as the paper gives it
abbrev pub Hold : List Case → Type 0
Hold table = map (λ k. outcome k.asked) table ≡ map (λ k. k.given) table
