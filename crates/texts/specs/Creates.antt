-- The parts of the verdict program's text.
-- Assumes nothing.
use Rattle.std.specs.Prelude.{ℕ, List, map}
use Rattle.model.specs.Words.{joined, numbers_from}
use Rattle.model.specs.Listing.{Row}
use Rattle.model.specs.Lines.{line_t}

-- the lines of the first n types
abbrev pub types_text : List Row → ℕ → List ℕ
types_text rows n = joined (map (line_t rows) (numbers_from 0 n))
