-- The six worked schemes of document release pass the scheme check, and what is said of their states comes out of the definitions by
-- computation, with `reject.sec` from `so`. Assumes nothing.
use Prim.Native.Nat.{ℕ}
use mathlib.Core.Bool.{Bool, true, false, ◌&&◌}
use mathlib.Core.List.{[], ◌∷◌, map}
use mathlib.Core.Path.{◌≡◌, refl}
use Rattle.model.specs.Words.{any}
use Rattle.model.specs.Rights.{has, meets}
use Rattle.model.specs.Forms.{cell_at}
use Rattle.model.specs.Schemes.{Scheme, scheme_number, command_at}
use Rattle.model.specs.Verdicts.{start_of_create, rows_from}
use Rattle.model.specs.Cases.{from_create, gives, Hold}
use Rattle.model.proofs.Computes.{computes}
use Rattle.mill.specs.Papers.{paper1, paper2, paper6, added3, added4, added5, scheme1, scheme2, scheme3, scheme4, scheme5, scheme6}

pub papers_valid : map scheme_number (scheme1 ∷ scheme2 ∷ scheme3 ∷ scheme4 ∷ scheme5 ∷ scheme6 ∷ []) ≡ 0 ∷ 0 ∷ 0 ∷ 0 ∷ 0 ∷ 0 ∷ []
unfolding computes paper1 paper2 paper6 added3 added4 added5
papers_valid = refl

-- Can a scientist ever hold release? The answer's fields: number, states listed, held, state, command. The budget is the count of states.
-- 1: "the scheme is duplicate". 2: "11 states". 3: "normal and non-duplicate", "increased modestly to 18". 4: "the scheme is duplicate".
-- 5: "there are 11 reachable states". 6: "a total of 10 reachable states".
pub papers_judged : Hold
    (gives (from_create scheme1 0 10 32) (19 ∷ 32 ∷ 0 ∷ 1 ∷ 1 ∷ [])
    ∷ gives (from_create scheme2 0 10 11) (0 ∷ 11 ∷ 1 ∷ 10 ∷ 0 ∷ [])
    ∷ gives (from_create scheme3 0 10 18) (0 ∷ 18 ∷ 1 ∷ 17 ∷ 0 ∷ [])
    ∷ gives (from_create scheme4 0 10 215) (19 ∷ 215 ∷ 0 ∷ 6 ∷ 1 ∷ [])
    ∷ gives (from_create scheme5 0 10 11) (0 ∷ 11 ∷ 1 ∷ 10 ∷ 0 ∷ [])
    ∷ gives (from_create scheme6 0 10 10) (0 ∷ 10 ∷ 1 ∷ 9 ∷ 0 ∷ [])
    ∷ [])
unfolding computes paper1 paper2 paper6 added3 added4 added5
papers_judged = refl

-- in some listed state the scientist holds write, and one of sec-ok, pat-ok and release
abbrev edits_reviewed : Scheme → ℕ → Bool
edits_reviewed s budget = any (λ row. has (cell_at row 0) 2 && meets (cell_at row 0) 0x540) (rows_from s.commands (start_of_create (command_at s 0)) budget)

-- 4: "it is possible for the scientist to hold the write privilege for the document after [...] a review". 5 and 6: "in no state".
pub edits_reviewed_lem : edits_reviewed scheme4 215 ∷ edits_reviewed scheme5 11 ∷ edits_reviewed scheme6 10 ∷ [] ≡ true ∷ false ∷ false ∷ []
unfolding computes paper2 paper6 added4 added5
edits_reviewed_lem = refl
