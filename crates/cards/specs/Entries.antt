-- What the readers of entries answer, by the definitions of `model`'s Cards.
-- Assumes nothing.
use Rattle.std.specs.Prelude.{ℕ, Bool, not, ◌&&◌, List, leb, length, take, drop, Option, Some, None}
use Rattle.model.specs.Words.{◌when◌else◌}
use Rattle.model.specs.Requests.{Request}
use Rattle.model.specs.Cards.{entry_size, request_of_entry}

-- an entry stands whole at the beginning of the rest
unfoldable pub is_whole : ℕ → List ℕ → Bool
is_whole fixed rest = leb fixed (length rest) && leb (entry_size fixed rest) (length rest)

-- "Each request is read from the rest of the body that begins at it": the request, and the rest that follows it
unfoldable pub next_of : List ℕ → Option (Request × List ℕ)
next_of rest =
    None when not (is_whole 4 rest) else
    Some (request_of_entry (take (entry_size 4 rest) rest), drop (entry_size 4 rest) rest)
