-- What a walk over the places of a list finds out: whether all pass a test, which is the first that does, and whether all differ.
-- Assumes nothing.
use Prim.Native.Nat.{ℕ, suc, ◌≤◌, ◌<◌}
use mathlib.Core.Path.{◌≡◌, refl, sym, ◌∙◌}
use mathlib.Core.Bool.{Bool, true, false}
use mathlib.Core.List.{List, []}
use native.Mathlib.Nat.{le_antisymm}
use native.Mathlib.Omega.{arith, by_contra}
use borrow.Author.Tests.{lt-ltb, le-ltb, eqb-true, eqb-false}
use lib.Dec.{ltb}
use lib.ListN.{length, get_or}
use Rattle.std.specs.Prelude.{Option, Some, None}
use Rattle.model.specs.Words.{◌when◌else◌, all, any, first_place, same, all_differ}
use Rattle.records.specs.Records.{is_new}
use Rattle.laws.proofs.Tests.{by_test, never_both, not_passed}
use Rattle.laws.proofs.Lists.{all_at, at_all, at_any, at_none, is_first, at_first, before_first, same_iff, same_refl, differ_before, at_differ}

module _ {A : Type 0} (test : A → Bool) (xs : List A) (d : A) (n : ℕ) (e : length xs ≡ n) where
  -- every element at its place has this answer, or some element at its place
  abbrev pub Everywhere : Bool → Type 0
  Everywhere b = (k : ℕ) → k < n → test (get_or xs k d) ≡ b

  abbrev pub Somewhere : Bool → Type 0
  Somewhere b = (k : ℕ) × (k < n) × (test (get_or xs k d) ≡ b)

  pub all_by_places : (b : Bool) → (b ≡ true → Everywhere true) → (b ≡ false → Somewhere false) → b ≡ all test xs
  all_by_places b passes fails =
      by_test b
      (λ p. p ∙ sym (at_all test xs d (λ k l. passes p k (omega arith))))
      (λ q.
      let (k, l, fails_here) = fails q in
      q ∙ sym (not_passed (all test xs) (λ h. never_both (all_at test xs d h k (omega arith)) fails_here)))

  pub any_by_places : (b : Bool) → (b ≡ true → Somewhere true) → (b ≡ false → Everywhere false) → b ≡ any test xs
  any_by_places b passes fails =
      by_test b
      (λ p. let (k, l, passes_here) = passes p in p ∙ sym (at_any test xs d k (omega arith) passes_here))
      (λ q. q ∙ sym (at_none test xs d (λ k l. fails q k (omega arith))))

  pub first_by_places : (o : Option ℕ) → (o ≡ None → Everywhere false)
      → ((i : ℕ) → o ≡ Some i → (i < n) × (test (get_or xs i d) ≡ true))
      → ((i : ℕ) → o ≡ Some i → (k : ℕ) → k < i → test (get_or xs k d) ≡ false)
      → o ≡ (Some (first_place test xs) when ltb (first_place test xs) n else None)
  first_by_places None none here before =
      let end : first_place test xs ≡ n = is_first test xs d n (omega arith) (λ k l. none refl k l) (λ l. absurd (omega arith)) in
      rw (end, le-ltb n n (omega arith)) refl
  first_by_places (Some i) none here before =
      let (l, passes_here) = here i refl in
      let place : first_place test xs ≡ i = is_first test xs d i (omega arith) (before i refl) (λ m. passes_here) in
      rw (place, lt-ltb i n l) refl

-- each of the lists is the first that is the same
module _ (xs : List (List ℕ)) (n : ℕ) (e : length xs ≡ n) where
  abbrev first_like : ℕ → ℕ
  first_like k = first_place (λ x. same x (get_or xs k [])) xs

  first_below : (k : ℕ) → k < n → first_like k ≤ k
  first_below k l =
      by_contra (first_like k) k (λ m. never_both (same_refl (get_or xs k [])) (before_first (λ x. same x (get_or xs k [])) xs [] k m))

  pub differ_by_places : (b : Bool) → (b ≡ true → (k : ℕ) → k < n → is_new xs k ≡ true)
      → (b ≡ false → (k : ℕ) × (k < n) × (is_new xs k ≡ false)) → b ≡ all_differ xs
  unfolding is_new
  differ_by_places b firsts later =
      by_test b
      (λ p. p ∙ sym (at_differ xs [] (λ i j l m same_lists.
      let first : first_like j ≡ j = eqb-true (first_like j) j (firsts p j (omega arith)) in
      never_both ((same_iff (get_or xs i []) (get_or xs j [])).1 same_lists)
      (before_first (λ x. same x (get_or xs j [])) xs [] i (omega arith)))))
      (λ q.
      let (k, l, fails_here) = later q in
      let other : first_like k ≡ k → ⊥ = eqb-false (first_like k) k fails_here in
      let below = first_below k l in
      let before : first_like k < k = by_contra (suc (first_like k)) k (λ m. other (le_antisymm below (omega arith))) in
      let there = at_first (λ x. same x (get_or xs k [])) xs [] (omega arith) in
      q ∙ sym (not_passed (all_differ xs) (λ h.
      differ_before xs [] h (first_like k) k before (omega arith) ((same_iff (get_or xs (first_like k) []) (get_or xs k [])).0 there))))
