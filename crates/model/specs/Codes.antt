-- Codes of people and designs, as lists of bytes and as three words in lent memory.
-- Assumes nothing.
use Rattle.std.specs.Prelude.{ℕ, zero, suc, ◌-◌, Bool, not, ◌&&◌, List, [], ◌∷◌, ◌++◌, eqb, length, get_or, take, drop, replicate}
use Rattle.model.specs.declared.Code.{Code}
use Rattle.model.specs.Words.{◌when◌else◌, between, all, digits, big_endian}
use Rattle.model.specs.Sizes.{most_code}

-- "A table of 256 entries gives each byte its class (1 letter, 2 digit, 3 hyphen, 0 none), by that rule."
unfoldable pub class_of : ℕ → ℕ
class_of byte =
    1 when between 65 90 byte else
    2 when between 48 57 byte else
    3 when eqb byte 45 else
    0

-- "A code holds A to Z, 0 to 9 and hyphen, and neither begins nor ends with a hyphen."
unfoldable pub is_code_byte : ℕ → Bool
is_code_byte byte = not (eqb (class_of byte) 0)

unfoldable pub is_hyphen : ℕ → Bool
is_hyphen byte = eqb (class_of byte) 3

unfoldable pub spelled : List ℕ → Bool
spelled code =
    between 1 most_code (length code)
    && all is_code_byte code
    && not (is_hyphen (get_or code 0 0))
    && not (is_hyphen (get_or code (length code - 1) 0))

-- 4: "a code breaks the spelling"
abbrev pub code_number : List ℕ → ℕ
code_number code =
    4 when not (spelled code) else
    0

-- In lent memory a code is twelve bytes, padded with zeros, as three big-endian words.
unfoldable pub padded : List ℕ → List ℕ
padded code = code ++ replicate (most_code - length code) 0

unfoldable pub packed : List ℕ → Code
packed code = record {
  a = big_endian (take 4 (padded code));
  b = big_endian (take 4 (drop 4 (padded code)));
  c = big_endian (take 4 (drop 8 (padded code)));
}

-- It is read up to its last byte that isn't zero.
abbrev pub kept_before : ℕ → List ℕ → List ℕ
kept_before zero [] = []
kept_before (suc b) [] = suc b ∷ []
kept_before b (c ∷ cs) = b ∷ c ∷ cs

unfoldable pub unpadded : List ℕ → List ℕ
unpadded [] = []
unpadded (b ∷ bs) = kept_before b (unpadded bs)

unfoldable pub unpacked : Code → List ℕ
unpacked w = unpadded (digits 256 4 w.a ++ digits 256 4 w.b ++ digits 256 4 w.c)

-- the three words of a code, and the code that stands in three words
abbrev pub code_words : List ℕ → List ℕ
code_words code = (packed code).a ∷ (packed code).b ∷ (packed code).c ∷ []

abbrev pub code_at : List ℕ → List ℕ
code_at words = unpacked (record { a = get_or words 0 0; b = get_or words 1 0; c = get_or words 2 0 })
