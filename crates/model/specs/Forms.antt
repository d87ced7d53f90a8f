-- The three forms, by one action on a list of cells: a design's cells, one for each person, and a stand-in state's, one for each type.
-- Assumes nothing.
use Rattle.std.specs.Prelude.{ℕ, Bool, List, get_or, set, replicate}
use Rattle.model.specs.declared.Command.{Command}
use Rattle.model.specs.Rights.{within, without, with_those}

-- the rights in a cell; a cell that is not there is empty
abbrev pub cell_at : List ℕ → ℕ → ℕ
cell_at cells i = get_or cells i 0

-- "if X is within the source cell"
unfoldable pub held : Command → ℕ → List ℕ → Bool
held c a cells = within c.x (cell_at cells a)

-- "the source cell loses Y"
unfoldable pub lose : Command → ℕ → List ℕ → List ℕ
lose c a cells = set cells a (without (cell_at cells a) c.y)

-- "then the destination cell gains Z"
unfoldable pub gain : Command → ℕ → List ℕ → List ℕ
gain c d cells = set cells d (with_those (cell_at cells d) c.z)

-- A grant, and an internal, which is "the same with one person in both places": "the loss still comes first".
unfoldable pub act : Command → ℕ → ℕ → List ℕ → List ℕ
act c a d cells = gain c d (lose c a cells)

-- A create: "the source person's cell is Z, all others empty".
unfoldable pub created : Command → ℕ → ℕ → List ℕ
created c a count = set (replicate count 0) a c.z
