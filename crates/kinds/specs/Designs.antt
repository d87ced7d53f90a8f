-- Overlap, by the set of rights handed over.
-- Assumes nothing.
use Rattle.std.specs.Prelude.{ℕ, Bool, ◌&&◌, List, ltb, eqb}
use Rattle.model.specs.Words.{any, numbers_from}
use Rattle.model.specs.Rights.{common, meets}
use Rattle.model.specs.Rosters.{Person, type_at}
use Rattle.model.specs.Forms.{cell_at}

-- two people have one type, and hold the same right of the set
abbrev pub share : ℕ → List Person → List ℕ → ℕ → ℕ → Bool
share set people cells a b = eqb (type_at people a) (type_at people b) && meets (common (cell_at cells a) (cell_at cells b)) set

-- a clash, by the set of the rights that are both propagation and deletable
abbrev pub clash_by : ℕ → List Person → List ℕ → ℕ → ℕ → Bool
clash_by set people cells a b = ltb a b && share set people cells a b

-- somebody among the first n people clashes with a
unfoldable pub clashes : ℕ → ℕ → List Person → List ℕ → ℕ → Bool
clashes set n people cells a = any (clash_by set people cells a) (numbers_from 0 n)
