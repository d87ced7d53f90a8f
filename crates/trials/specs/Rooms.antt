-- What a room holds once more bytes are written into it. Assumes nothing.
use Rattle.std.specs.Prelude.{ℕ, ◌+◌, List, ◌++◌, leb, length}
use Rattle.model.specs.Words.{◌when◌else◌}

-- these bytes more, if there is room for all of them, and else none
abbrev pub added : ℕ → List ℕ → List ℕ → List ℕ
added most more bytes = bytes ++ more when leb (length bytes + length more) most else bytes
