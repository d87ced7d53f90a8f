-- A roster: the people in order, each with a type and a code, and what makes it valid. As lent words: four a person.
-- Assumes nothing.
use Rattle.std.specs.Prelude.{ℕ, Bool, not, ◌||◌, List, [], ◌∷◌, map, ltb, length, get_or, drop}
use Rattle.model.specs.Words.{◌when◌else◌, between, any, joined, groups, all_differ}
use Rattle.model.specs.Sizes.{most_people, person_words}
use Rattle.model.specs.Codes.{spelled, code_words, code_at}

pub record Person : Type 0 where
  pub type : ℕ
  pub code : List ℕ

-- what stands past the end of a roster
abbrev pub nobody : Person
nobody = record { type = 0; code = [] }

abbrev pub type_at : List Person → ℕ → ℕ
type_at people p = (get_or people p nobody).type

-- 3: "a roster's count, or a type in it by the scheme, is out of range"
unfoldable pub out_of_range : ℕ → List Person → Bool
out_of_range types people = not (between 1 most_people (length people)) || any (λ p. not (ltb p.type types)) people

-- 4: "a code breaks the spelling"; 5: "two people have one code"
unfoldable pub roster_number : ℕ → List Person → ℕ
roster_number types people =
    3 when out_of_range types people else
    4 when any (λ p. not (spelled p.code)) people else
    5 when not (all_differ (map (λ p. p.code) people)) else
    0

-- the person that four words hold, and the four words of a person
abbrev pub person_of : List ℕ → Person
person_of words = record { type = get_or words 0 0; code = code_at (drop 1 words) }

abbrev pub words_of_person : Person → List ℕ
words_of_person p = p.type ∷ code_words p.code

-- what lent words mean as a roster of so many people, and the words of a roster
unfoldable pub roster_of : ℕ → List ℕ → List Person
roster_of count words = map person_of (groups person_words count words)

unfoldable pub roster_words : List Person → List ℕ
roster_words people = joined (map words_of_person people)
