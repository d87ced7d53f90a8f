-- Laws of sets of rights, a bit at a time: a bit is the number 0 or 1, so that arithmetic decides. Each operation by one step, from a number to its
-- half, and induction on the place. Assumes nothing.
use Prim.Native.Nat.{ℕ, zero, suc, ◌+◌, ◌-◌, ◌*◌, ◌/◌, ◌%◌, ◌^◌, ◌≤◌, ◌<◌, min, max}
use mathlib.Core.Path.{◌≡◌, sym, ap, ap₂, ◌∙◌}
use mathlib.Core.Bool.{true, false, not, ◌&&◌}
use mathlib.Core.Logic.{◌⊎◌, by_cases, inl, inr}
use mathlib.Core.List.{List, [], ◌∷◌}
use native.Mathlib.Nat.{div-one, div-div-eq-div-mul, pow-succ', zero-div, lt_of_lt_of_le, lt_of_le_of_lt, sub-le}
use native.Mathlib.Decide.{ℕ_discrete}
use native.Mathlib.Omega.{arith}
use borrow.Author.Tests.{eqb-true, eqb-false, eq-eqb, ne_eqb, not-true, not-false, ltb-true, lt-ltb}
use lib.Bits.{bit_and, bit_or, and_step, or_step, and_le_l, or_lt}
use lib.Dec.{eqb}
use lib.ListN.{length, get_or}
use lib.Pow.{pow_pos, pow_mono}
use Rattle.laws.proofs.Tests.{same_test, passed}
use Rattle.model.specs.Rights.{bit, has, within, without, with_those, common, meets, together, fits_rights}

pub bit_below_two : (s k : ℕ) → bit s k < 2
unfolding bit
bit_below_two s k = omega arith

pub bit_zero : (s : ℕ) → bit s 0 ≡ s % 2
unfolding bit
bit_zero s = ap (λ (n : ℕ). n % 2) (div-one s)

pub bit_suc : (s k : ℕ) → bit s (suc k) ≡ bit (s / 2) k
unfolding bit
bit_suc s k = ap (λ (n : ℕ). n % 2) (ap (λ (n : ℕ). s / n) (pow-succ' 2 k) ∙ sym (div-div-eq-div-mul s 2 (2 ^ k)))

-- an operation that works on the lowest digits and on the halves apart works on each bit
module _ (op f : ℕ → ℕ → ℕ) (step : (a b : ℕ) → op a b ≡ op (a / 2) (b / 2) * 2 + f (a % 2) (b % 2))
    (digit : (x y : ℕ) → x < 2 → y < 2 → f x y < 2) where
  pub lowest : (a b : ℕ) → (op a b % 2 ≡ f (a % 2) (b % 2)) × (op a b / 2 ≡ op (a / 2) (b / 2))
  lowest a b = omega (arith, step a b, digit (a % 2) (b % 2) (omega arith) (omega arith))

  pub bit_of : (k a b : ℕ) → bit (op a b) k ≡ f (bit a k) (bit b k)
  bit_of zero a b = bit_zero (op a b) ∙ (lowest a b).0 ∙ sym (ap₂ f (bit_zero a) (bit_zero b))
  bit_of (suc k) a b =
      bit_suc (op a b) k ∙ ap (λ (n : ℕ). bit n k) (lowest a b).1 ∙ bit_of k (a / 2) (b / 2)
      ∙ sym (ap₂ f (bit_suc a k) (bit_suc b k))

pub bit-or : (a b k : ℕ) → bit (bit_or a b) k ≡ max (bit a k) (bit b k)
bit-or a b k = bit_of bit_or max or_step (λ x y. omega arith) k a b

pub bit-and : (a b k : ℕ) → bit (bit_and a b) k ≡ min (bit a k) (bit b k)
bit-and a b k = bit_of bit_and min and_step (λ x y. omega arith) k a b

pub without_step : (a b : ℕ) → without a b ≡ without (a / 2) (b / 2) * 2 + (a % 2 - b % 2)
unfolding without
without_step a b = omega (arith, and_step a b, and_le_l (a / 2) (b / 2))

pub bit-without : (s y k : ℕ) → bit (without s y) k ≡ bit s k - bit y k
bit-without s y k = bit_of without ◌-◌ without_step (λ x y. omega arith) k s y

pub bit_with : (s z k : ℕ) → bit (with_those s z) k ≡ max (bit s k) (bit z k)
unfolding with_those
bit_with = bit-or

pub bit-common : (s t k : ℕ) → bit (common s t) k ≡ min (bit s k) (bit t k)
unfolding common
bit-common = bit-and

-- ---- which bits there are

pub bit_of_zero : (k : ℕ) → bit 0 k ≡ 0
unfolding bit
bit_of_zero k = ap (λ (n : ℕ). n % 2) (zero-div (2 ^ k))

-- a number is its bits
pub same_bits_below : (n : ℕ) {a b : ℕ} → a < 2 ^ n → b < 2 ^ n → ((k : ℕ) → k < n → bit a k ≡ bit b k) → a ≡ b
same_bits_below zero ha hb same = omega arith
same_bits_below (suc n) {a} {b} ha hb same =
    let low : a % 2 ≡ b % 2 = sym (bit_zero a) ∙ same 0 (omega arith) ∙ bit_zero b in
    let high : a / 2 ≡ b / 2 = same_bits_below n (omega arith) (omega arith)
    (λ k h. sym (bit_suc a k) ∙ same (suc k) (omega arith) ∙ bit_suc b k) in
    omega arith

pub below_pow : (n : ℕ) → n < 2 ^ n
below_pow zero = omega arith
below_pow (suc n) = omega (arith, below_pow n)

pub same_bits : (a b : ℕ) → ((k : ℕ) → bit a k ≡ bit b k) → a ≡ b
same_bits a b same =
    let wide : (n m : ℕ) → n ≤ m → n < 2 ^ m = λ n m h. lt_of_lt_of_le (below_pow n) (pow_mono h) in
    same_bits_below (a + b) (wide a (a + b) (omega arith)) (wide b (a + b) (omega arith)) (λ k h. same k)

-- a number that isn't 0 has a bit
pub some_bit : (n : ℕ) {s : ℕ} → s < 2 ^ n → (s ≡ 0 → ⊥) → (k : ℕ) × (k < n) × (bit s k ≡ 1)
some_bit zero h some = absurd (some (omega arith))
some_bit (suc n) {s} h some =
    by_cases (ℕ_discrete (s % 2) 0)
    (λ even.
    let (k, l, b) = some_bit n {s = s / 2} (omega arith) (λ z. some (omega arith)) in
    (suc k, omega arith, bit_suc s k ∙ b))
    (λ odd. (0, omega arith, bit_zero s ∙ omega arith))

pub one_bit : (s : ℕ) → (s ≡ 0 → ⊥) → (k : ℕ) × (k < s) × (bit s k ≡ 1)
one_bit s = some_bit s (below_pow s)

-- ---- the tests: the fact from the test's value, and the test's value from the fact

pub has_true : (s k : ℕ) → has s k ≡ true → bit s k ≡ 1
unfolding has
has_true s k = eqb-true (bit s k) 1

pub bit-has : (s k : ℕ) → bit s k ≡ 1 → has s k ≡ true
unfolding has
bit-has s k = eq-eqb (bit s k) 1

pub within_true : (x s : ℕ) → within x s ≡ true → (k : ℕ) → bit x k ≤ bit s k
unfolding within
within_true x s h k = omega (arith, bit-and x s k, ap (λ (n : ℕ). bit n k) (eqb-true (bit_and x s) x h))

pub bits_within : (x s : ℕ) → ((k : ℕ) → bit x k ≤ bit s k) → within x s ≡ true
unfolding within
bits_within x s h = eq-eqb (bit_and x s) x (same_bits (bit_and x s) x (λ k. omega (arith, bit-and x s k, h k)))

-- two sets that meet share a right
pub meets_true : (s t : ℕ) → meets s t ≡ true → (k : ℕ) × (bit s k ≡ 1) × (bit t k ≡ 1)
unfolding meets
meets_true s t h =
    let (k, l, b) = one_bit (common s t) (eqb-false (common s t) 0 (not-true (eqb (common s t) 0) h)) in
    (k, omega (arith, bit-common s t k, bit_below_two s k), omega (arith, bit-common s t k, bit_below_two t k))

pub meets_false : (s t : ℕ) → meets s t ≡ false → (k : ℕ) → bit s k ≡ 1 → bit t k ≡ 0
unfolding meets
meets_false s t h k b =
    omega (arith, bit-common s t k, ap (λ (n : ℕ). bit n k) (eqb-true (common s t) 0 (not-false (eqb (common s t) 0) h)), bit_of_zero k)

pub bits_meet : (s t k : ℕ) → bit s k ≡ 1 → bit t k ≡ 1 → meets s t ≡ true
unfolding meets
bits_meet s t k a b =
    ap not (ne_eqb (common s t) 0 (λ z. omega (arith, bit-common s t k, ap (λ (n : ℕ). bit n k) z, bit_of_zero k)))

pub fits_true : (rights s : ℕ) → fits_rights rights s ≡ true → s < 2 ^ rights
unfolding fits_rights
fits_true rights s = ltb-true s (2 ^ rights)

pub lt_fits : (rights s : ℕ) → s < 2 ^ rights → fits_rights rights s ≡ true
unfolding fits_rights
lt_fits rights s = lt-ltb s (2 ^ rights)

-- ---- how large the sets are

pub without_le : (s y : ℕ) → without s y ≤ s
unfolding without
without_le s y = sub-le s (bit_and s y)

pub without_lt : (n : ℕ) {s : ℕ} (y : ℕ) → s < 2 ^ n → without s y < 2 ^ n
without_lt n {s} y h = lt_of_le_of_lt (without_le s y) h

pub with_lt : (n : ℕ) {s z : ℕ} → s < 2 ^ n → z < 2 ^ n → with_those s z < 2 ^ n
unfolding with_those
with_lt n {s} {z} = or_lt n s z

-- a set is no larger than with others, which leave it when they go
pub with_le : (s z : ℕ) → (s ≤ with_those s z) × (z ≤ with_those s z)
with_le s z =
    let gone-z : without (with_those s z) (without z s) ≡ s =
    same_bits _ _ (λ k. rw (bit-without (with_those s z) (without z s) k, bit_with s z k, bit-without z s k) (omega (arith, bit_below_two s k, bit_below_two z k))) in
    let gone-s : without (with_those s z) (without s z) ≡ z =
    same_bits _ _ (λ k. rw (bit-without (with_those s z) (without s z) k, bit_with s z k, bit-without s z k) (omega (arith, bit_below_two s k, bit_below_two z k))) in
    (omega (arith, gone-z, without_le (with_those s z) (without z s)), omega (arith, gone-s, without_le (with_those s z) (without s z)))

-- two sets fit exactly if they fit together
pub fits_with : (rights s z : ℕ) → fits_rights rights (with_those s z) ≡ (fits_rights rights s && fits_rights rights z)
fits_with rights s z =
    same_test (fits_rights rights (with_those s z)) (fits_rights rights s && fits_rights rights z)
    (λ h.
    let l = fits_true rights (with_those s z) h in
    let (ls, lz) = with_le s z in
    simp passed (lt_fits rights s (omega arith), lt_fits rights z (omega arith)))
    (λ h. let both = simp passed at h in lt_fits rights (with_those s z) (with_lt rights (fits_true rights s both.0) (fits_true rights z both.1)))

-- ---- sets put together

pub together_lt : (n : ℕ) (ss : List ℕ) → ((i : ℕ) → i < length ss → get_or ss i 0 < 2 ^ n) → together ss < 2 ^ n
unfolding together
together_lt n [] h = omega (arith, pow_pos n)
together_lt n (s ∷ ss) h = with_lt n (h 0 (omega arith)) (together_lt n ss (λ i l. h (suc i) (omega arith)))

pub bit-together : (s : ℕ) (ss : List ℕ) (k : ℕ) → bit (together (s ∷ ss)) k ≡ max (bit s k) (bit (together ss) k)
unfolding together
bit-together s ss k = bit_with s (together ss) k

-- a right of the whole is one of some set's, and the other way
pub together_at : (ss : List ℕ) (k : ℕ) → bit (together ss) k ≡ 1 → (i : ℕ) × (i < length ss) × (bit (get_or ss i 0) k ≡ 1)
unfolding together
together_at [] k h = absurd (omega (arith, bit_of_zero k))
together_at (s ∷ ss) k h =
    by_cases (ℕ_discrete (bit s k) 1)
    (λ here. (0, omega arith, here))
    (λ elsewhere.
    let (i, l, b) = together_at ss k (omega (arith, bit_with s (together ss) k, bit_below_two s k)) in
    (suc i, omega arith, b))

pub at_together : (ss : List ℕ) (k i : ℕ) → i < length ss → bit (get_or ss i 0) k ≤ bit (together ss) k
unfolding together
at_together [] k i h = absurd (omega arith)
at_together (s ∷ ss) k zero h = omega (arith, bit_with s (together ss) k)
at_together (s ∷ ss) k (suc i) h = omega (arith, bit_with s (together ss) k, at_together ss k i (omega arith))

-- a bit is 1 or 0, and the case knows which
pub by_bit : {P : Type 0} (s k : ℕ) → (bit s k ≡ 1 → P) → (bit s k ≡ 0 → P) → P
by_bit s k one none = by_cases (ℕ_discrete (bit s k) 1) one (λ other. none (omega (arith, bit_below_two s k)))

-- of two bits of which the larger is 1, one is 1
pub max_one : (s t k : ℕ) → max (bit s k) (bit t k) ≡ 1 → (bit s k ≡ 1) ⊎ (bit t k ≡ 1)
max_one s t k h = by_bit s k inl (λ none. inr (omega arith))
