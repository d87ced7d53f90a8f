-- The people of a roster card as lent words can hold them: a code that breaks the spelling is left out.
-- Assumes nothing.
use Rattle.std.specs.Prelude.{ℕ, List, []}
use Rattle.model.specs.Words.{◌when◌else◌}
use Rattle.model.specs.Codes.{spelled}
use Rattle.model.specs.Rosters.{Person}

-- the code if it is spelled right, and else none, which is no code either
abbrev pub spelled_only : List ℕ → List ℕ
spelled_only code =
    code when spelled code else
    []

abbrev pub readable : Person → Person
readable p = record { type = p.type; code = spelled_only p.code }
