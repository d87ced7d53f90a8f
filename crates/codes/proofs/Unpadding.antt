-- What is left of a list without the zeros at its end: its own beginning, up to the last element that is another.
-- Assumes nothing.
use Prim.Native.Nat.{ℕ, zero, suc, ◌+◌, ◌≤◌, ◌<◌}
use mathlib.Core.Path.{◌≡◌, refl, ◌∙◌}
use mathlib.Core.List.{List, [], ◌∷◌}
use native.Mathlib.Numerals.{add-one}
use native.Mathlib.Omega.{arith}
use lib.ListN.{length, get_or, take}
use Rattle.model.specs.Codes.{kept_before, unpadded}

pub unpadded_none : (l : List ℕ) → ((k : ℕ) → k < length l → get_or l k 0 ≡ 0) → unpadded l ≡ []
unfolding unpadded
unpadded_none [] zeros = refl
unpadded_none (b ∷ l) zeros =
    rw (unpadded_none l (λ k h. zeros (suc k) (omega arith)), zeros 0 (omega arith)) refl

some_kept : (b : ℕ) → (b ≡ 0 → ⊥) → kept_before b [] ≡ b ∷ []
some_kept zero ne = absurd (ne refl)
some_kept (suc b) ne = refl

pub unpadded_at_last : (l : List ℕ) (i : ℕ) → i < length l → (get_or l i 0 ≡ 0 → ⊥)
    → ((k : ℕ) → i + 1 ≤ k → k < length l → get_or l k 0 ≡ 0) → unpadded l ≡ take (i + 1) l
unfolding unpadded
unpadded_at_last [] i inside other zeros = absurd (omega arith)
unpadded_at_last (b ∷ l) zero inside other zeros =
    rw (unpadded_none l (λ k h. zeros (suc k) (omega arith) (omega arith))) (some_kept b other)
unpadded_at_last (b ∷ []) (suc i) inside other zeros = absurd (omega arith)
unpadded_at_last (b ∷ c ∷ l) (suc i) inside other zeros =
    let rest : unpadded (c ∷ l) ≡ take (suc i) (c ∷ l) =
    unpadded_at_last (c ∷ l) i (omega arith) other (λ k h m. zeros (suc k) (omega arith) (omega arith)) ∙ rw add-one refl in
    rw (add-one, rest) refl

kept_short : (b : ℕ) (kept : List ℕ) → length (kept_before b kept) ≤ suc (length kept)
kept_short zero [] = omega arith
kept_short (suc b) [] = omega arith
kept_short b (c ∷ kept) = omega arith

pub length-unpadded : (l : List ℕ) → length (unpadded l) ≤ length l
unfolding unpadded
length-unpadded [] = omega arith
length-unpadded (b ∷ l) = omega (arith, kept_short b (unpadded l), length-unpadded l)
