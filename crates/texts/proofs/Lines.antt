-- The parts of the batch program's text: what is left of each begins with the next line.
-- Assumes nothing.
use Prim.Native.Nat.{ℕ, suc, ◌+◌, ◌-◌, ◌<◌}
use mathlib.Core.Bool.{not}
use mathlib.Core.List.{List, [], ◌∷◌, ◌++◌, map}
use mathlib.Core.Path.{◌≡◌, refl}
use native.Mathlib.Nat.{sub-zero}
use native.Mathlib.Numerals.{add-one}
use native.Mathlib.Omega.{arith}
use lib.Dec.{eqb}
use lib.ListN.{length, get_or, drop}
use lib.Seq.{drop-cons}
use Rattle.model.specs.Words.{joined, those, numbers_from}
use Rattle.model.specs.Rosters.{Person, roster_of}
use Rattle.model.specs.Forms.{cell_at}
use Rattle.model.specs.Questions.{shown}
use Rattle.model.specs.Stores.{Design}
use Rattle.model.specs.Lines.{decimal, line, lines_r, line_p, lines_d}
use Rattle.laws.proofs.Tests.{by_test}
use Rattle.laws.proofs.Kept.{roster_length}
use Rattle.texts.specs.Parts.{person_text, access_text}

-- ---- answers

abbrev pub answer_text : List ℕ → ℕ → List ℕ
answer_text answers i = line "R" (decimal i ∷ decimal (get_or answers i 0) ∷ [])

pub answers_left : (answers : List ℕ) (i : ℕ) → i < length answers
    → lines_r i (drop i answers) ≡ answer_text answers i ++ lines_r (i + 1) (drop (i + 1) answers)
unfolding lines_r
answers_left answers i l = rw (drop-cons answers i 0 l, add-one i) refl

pub answer_said : {l : List ℕ} {n : ℕ} (answers : List ℕ) (i : ℕ) → l ≡ (line "R" (decimal i ∷ decimal n ∷ [])) → n ≡ get_or answers i 0 → l ≡ answer_text answers i
answer_said answers i s is = rw (← is) s

-- ---- numbers in a row

pub numbers_left : (p n : ℕ) → p < n → numbers_from p (n - p) ≡ p ∷ numbers_from (p + 1) (n - (p + 1))
numbers_left p n l = let e : n - p ≡ suc (n - (p + 1)) = omega arith in rw e refl

-- ---- access lists

module _ (people : List Person) (cells : List ℕ) where
  -- of the people from p on, below n
  abbrev pub access_from : ℕ → ℕ → List ℕ
  access_from n p = joined (map (line_p people cells) (those (λ q. not (eqb (cell_at cells q) 0)) (numbers_from p (n - p))))

  pub access_left : (n p : ℕ) → p < n → access_from n p ≡ person_text people cells p ++ access_from n (p + 1)
  unfolding person_text
  access_left n p l = rw (numbers_left p n l) (by_test (not (eqb (cell_at cells p) 0)) (λ s. rw s refl) (λ s. rw s refl))

pub access_whole : (count : ℕ) (words cells : List ℕ) → access_text (roster_of count words) cells ≡ access_from (roster_of count words) cells count 0
unfolding shown
access_whole count words cells = rw (roster_length count words, sub-zero count) refl

-- ---- one text for each element

module _ {A : Type 0} (f : A → List ℕ) where
  pub each_left : (xs : List A) (i : ℕ) (d : A) → i < length xs → joined (map f (drop i xs)) ≡ f (get_or xs i d) ++ joined (map f (drop (i + 1) xs))
  each_left xs i d l = rw (drop-cons xs i d l, add-one i) refl

-- ---- a design's own line, and its access list

abbrev pub design_text : Design → List ℕ
design_text d = line "D" (d.code ∷ decimal d.kind ∷ [])

pub design_lines : (people : List Person) (d : Design) → lines_d people d ≡ design_text d ++ access_text people d.cells
unfolding lines_d
design_lines people d = refl

pub design_said : {l code : List ℕ} {kind : ℕ} (d : Design) → l ≡ (line "D" (code ∷ decimal kind ∷ [])) → code ≡ d.code → kind ≡ d.kind → l ≡ design_text d
design_said d s named is = rw (← named, ← is) s
