-- Records in lent words, `size` words each: word 0 is a number, words 1 to 3 are a code.
-- Assumes nothing.
use Rattle.std.specs.Prelude.{ℕ, ◌+◌, Bool, List, [], map, eqb, get_or, drop}
use Rattle.model.specs.declared.Code.{Code}
use Rattle.model.specs.Words.{groups, first_place, same}
use Rattle.model.specs.Codes.{code_at}

-- the code whose three words start at a place
abbrev pub code_from : List ℕ → ℕ → Code
code_from words at = record { a = get_or words at 0; b = get_or words (at + 1) 0; c = get_or words (at + 2) 0 }

-- the codes of the first `count` records
unfoldable pub codes_in : ℕ → ℕ → List ℕ → List (List ℕ)
codes_in size count words = map (λ g. code_at (drop 1 g)) (groups size count words)

-- no code before this place is the same as the one that stands there
unfoldable pub is_new : List (List ℕ) → ℕ → Bool
is_new codes i = eqb (first_place (λ c. same c (get_or codes i [])) codes) i
