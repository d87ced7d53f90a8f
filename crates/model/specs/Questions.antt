-- The question "may this person use this right on this design", and the access list.
-- Assumes nothing.
use Rattle.std.specs.Prelude.{ℕ, not, List, [], ◌∷◌, map, ltb, eqb, length}
use Rattle.model.specs.Words.{◌when◌else◌, those, joined, numbers_from}
use Rattle.model.specs.Rights.{has}
use Rattle.model.specs.Schemes.{Scheme}
use Rattle.model.specs.Rosters.{Person}
use Rattle.model.specs.Forms.{cell_at}
use Rattle.model.specs.Stores.{Design, design_at, named_number}

-- "A question "may this person use this right on this design": 15, 7, 4, 12"
unfoldable pub may_use_number : Scheme → List Person → List Design → ℕ → ℕ → List ℕ → ℕ
may_use_number s people designs person right code =
    15 when not (ltb right s.rights) else
    7 when not (ltb person (length people)) else
    named_number designs code

-- "and with 0 a yes exactly if the cell has it"
unfoldable pub may_use : List Design → ℕ → ℕ → List ℕ → ℕ
may_use designs person right code =
    1 when has (cell_at (design_at code designs).cells person) right else
    0

-- "An access list shows the people with a cell that isn't empty, in roster order"
unfoldable pub shown : ℕ → List ℕ → List ℕ
shown people cells = those (λ p. not (eqb (cell_at cells p) 0)) (numbers_from 0 people)

-- as lent words: a pair for each, the person and the rights
unfoldable pub access_words : ℕ → List ℕ → List ℕ
access_words people cells = joined (map (λ p. p ∷ cell_at cells p ∷ []) (shown people cells))
