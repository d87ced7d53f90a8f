-- A store: its designs in order of creation, each with its kind, its code and a cell for each of the 32 places of a roster. As lent words: the
-- count, then 36 words a design. Assumes nothing.
use Rattle.std.specs.Prelude.{ℕ, Bool, not, ◌&&◌, List, [], ◌∷◌, ◌++◌, map, leb, ltb, eqb, length, get_or, drop}
use Rattle.model.specs.Words.{◌when◌else◌, ◌then◌, all, first_place, same, all_differ, joined, groups, written_over}
use Rattle.model.specs.Sizes.{most_designs, design_words}
use Rattle.model.specs.Rights.{fits_rights}
use Rattle.model.specs.Codes.{spelled, code_number, code_words, code_at}

pub record Design : Type 0 where
  pub kind : ℕ
  pub code : List ℕ
  pub cells : List ℕ

-- what stands past the end of a store
abbrev pub no_design : Design
no_design = record { kind = 0; code = []; cells = [] }

-- "Two codes are the same exactly when their bytes are."
abbrev pub place_of : List ℕ → List Design → ℕ
place_of code designs = first_place (λ d. same d.code code) designs

-- there is a design with this code, whatever its kind
abbrev pub exists : List ℕ → List Design → Bool
exists code designs = ltb (place_of code designs) (length designs)

-- the design with this code
abbrev pub design_at : List ℕ → List Design → Design
design_at code designs = get_or designs (place_of code designs) no_design

-- "4, 12", for a call that names a design
unfoldable pub named_number : List Design → List ℕ → ℕ
named_number designs code =
    code_number code then
    12 when not (exists code designs) else
    0

-- 21, of the store itself: "over 64 designs, a bad or repeated code"
unfoldable pub is_sound : List Design → Bool
is_sound designs =
    leb (length designs) most_designs
    && all (λ d. spelled d.code) designs
    && all_differ (map (λ d. d.code) designs)

-- 21, against this scheme and roster: "a bad kind, rights above the count, or rights in a cell past the roster"
unfoldable pub fits_design : ℕ → ℕ → ℕ → Design → Bool
fits_design kinds rights people d =
    ltb d.kind kinds
    && all (fits_rights rights) d.cells
    && all (λ cell. eqb cell 0) (drop people d.cells)

unfoldable pub store_number : ℕ → ℕ → ℕ → List Design → ℕ
store_number kinds rights people designs =
    21 when not (is_sound designs && all (fits_design kinds rights people) designs) else
    0

-- the design that 36 words hold, and the 36 words of a design
abbrev pub design_of : List ℕ → Design
design_of words = record { kind = get_or words 0 0; code = code_at (drop 1 words); cells = drop 4 words }

abbrev pub words_of_design : Design → List ℕ
words_of_design d = d.kind ∷ code_words d.code ++ d.cells

-- What lent words mean as a store. Designs past the count, and words past the last place, mean nothing.
unfoldable pub store_of : List ℕ → List Design
store_of words = map design_of (groups design_words (get_or words 0 0) (drop 1 words))

-- the lent words when these designs are in the store: what lies behind the last of them stays as found
unfoldable pub store_words : List Design → List ℕ → List ℕ
store_words designs words = written_over (length designs ∷ joined (map words_of_design designs)) words
