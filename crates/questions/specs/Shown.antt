-- What the writer of an access list gives.
-- Assumes nothing.
use Rattle.std.specs.Prelude.{ℕ, ◌+◌, ◌*◌, List, ◌≡◌, eqb, length, set}
use Rattle.model.specs.Words.{◌when◌else◌, written_over}
use Rattle.model.specs.Questions.{shown, access_words}

-- how many are shown with one person more, and the list with the person's pair: an empty cell is not shown
abbrev pub counted_with : ℕ → ℕ → ℕ
counted_with cell n =
    n when eqb cell 0 else
    n + 1

abbrev pub paired_with : ℕ → ℕ → ℕ → List ℕ → List ℕ
paired_with p cell n list =
    list when eqb cell 0 else
    set (set list (n * 2) p) (n * 2 + 1) cell

-- the people shown are counted, and their pairs written
pub record Shows (people : ℕ) (cells old : List ℕ) (count : ℕ) (list : List ℕ) : Type 0 where
  pub counted : count ≡ length (shown people cells)
  pub written : list ≡ written_over (access_words people cells) old
