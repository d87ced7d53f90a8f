-- The parts of the batch program's text, and what the functions that put them are handed.
-- Assumes nothing.
use Rattle.std.specs.Prelude.{ℕ, ◌<◌, not, List, [], ◌∷◌, ◌++◌, map, eqb, length, get_or}
use Rattle.model.specs.Words.{◌when◌else◌, joined}
use Rattle.model.specs.Rosters.{Person, roster_of}
use Rattle.model.specs.Forms.{cell_at}
use Rattle.model.specs.Stores.{Design, no_design, design_of, store_of}
use Rattle.model.specs.Questions.{shown}
use Rattle.model.specs.Lines.{decimal, line, lines_r, line_p, lines_d}
use Rattle.rosters.specs.declared.Roster.{Roster}
use Rattle.stores.specs.declared.Store.{Store}
use Rattle.stores.specs.declared.Design as lent

-- what stands in the lent words
abbrev pub people_in : Roster → List Person
people_in roster = roster_of roster.people roster.words.now

abbrev pub design_in : lent.Design → Design
design_in design = design_of design.words.now

abbrev pub designs_in : Store → List Design
designs_in store = store_of store.words.now

-- a person's line in an access list: none where the cell is empty
unfoldable pub person_text : List Person → List ℕ → ℕ → List ℕ
person_text people cells p =
    line_p people cells p when not (eqb (cell_at cells p) 0) else
    []

-- the lines of the people that a design's access list shows
abbrev pub access_text : List Person → List ℕ → List ℕ
access_text people cells = joined (map (line_p people cells) (shown (length people) cells))

-- the designs, each with its access list
abbrev pub designs_text : List Person → List Design → List ℕ
designs_text people designs = joined (map (lines_d people) designs)

-- every kind is a number that can be printed
abbrev pub KindsFit : List Design → Type 0
KindsFit designs = (place : ℕ) → place < length designs → (get_or designs place no_design).kind < 10000

-- the lines of a batch that was run, by what it left: the answers, the designs, and how many of the requests were carried out
abbrev pub run_parts : List Person → List Design → List ℕ → ℕ → List ℕ
run_parts people designs answers done =
    lines_r 0 answers ++ designs_text people designs ++ line "E" (decimal (length answers) ∷ decimal done ∷ [])
