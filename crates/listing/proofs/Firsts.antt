-- Rows that are gone through by their numbers: the first that passes a test, and what is put together from the last on.
-- Assumes nothing.
use Prim.Native.Nat.{ℕ, suc, ◌+◌, ◌≤◌, ◌<◌}
use mathlib.Core.Path.{◌≡◌, refl, sym, ap}
use mathlib.Core.Bool.{Bool}
use mathlib.Core.List.{List, [], ◌∷◌, map}
use native.Mathlib.Omega.{arith}
use lib.ListN.{length, get_or, drop, drop_of_length-le}
use lib.Seq.{drop-cons}
use Rattle.std.specs.List.{position, position_or_len, range_with_len}
use Rattle.std.proofs.lemmas.List.FromFn.{length-range_with_len}
use Rattle.model.specs.Rights.{with_those, together}
use Rattle.laws.proofs.Tests.{by_test}

module _ {A : Type 0} (test : A → Bool) (d : A) where
  places : (f : ℕ → Bool) (k : ℕ) (xs : List A) → ((i j : ℕ) → j ≡ k + i → i < length xs → f j ≡ test (get_or xs i d))
      → position_or_len f (range_with_len k (length xs)) ≡ position_or_len test xs
  places f k [] h = refl
  places f k (x ∷ xs) h =
      let here : f k ≡ test x = h 0 k (omega arith) (omega arith) in
      by_test (test x)
      (λ p. rw (here, p) refl)
      (λ q. rw (here, q) (ap (λ n. 1 + n) (places f (k + 1) xs (λ i j e l. h (suc i) j (omega (arith, e)) (omega arith)))))

  -- the place of the first among the elements is that among their numbers
  pub position_by_place : (xs : List A) (n : ℕ) → length xs ≡ n → position (λ i. test (get_or xs i d)) (range_with_len 0 n) ≡ position test xs
  position_by_place xs n e =
      let same = places (λ i. test (get_or xs i d)) 0 xs (λ i j e l. ap (λ k. test (get_or xs k d)) (omega (arith, e))) in
      rw (sym e, length-range_with_len 0 (length xs), same) refl

module _ {A : Type 0} (f : A → ℕ) (xs : List A) (d : A) where
  pub together_more : (i : ℕ) → i < length xs → together (map f (drop i xs)) ≡ with_those (f (get_or xs i d)) (together (map f (drop (suc i) xs)))
  unfolding together
  together_more i h = ap (λ (l : List A). together (map f l)) (drop-cons xs i d h)

  pub together_none : (i : ℕ) → length xs ≤ i → together (map f (drop i xs)) ≡ 0
  unfolding together
  together_none i h = rw (drop_of_length-le xs {i = i} h)
