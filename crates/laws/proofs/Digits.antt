-- Laws of numbers by their digits, in any base and at any width: there and back, by induction on the digits, of which the highest is split off.
-- Assumes nothing.
use Prim.Native.Nat.{ℕ, zero, suc, ◌+◌, ◌-◌, ◌*◌, ◌/◌, ◌%◌, ◌^◌, ◌<◌}
use mathlib.Core.Path.{◌≡◌, refl, sym, ap, ◌∙◌}
use mathlib.Core.List.{List, [], ◌∷◌, ◌++◌}
use native.Mathlib.Nat.{zero-mul, zero-add, one-le-pow, pow-zero, pow-succ', mod-lt, mod-one, mod-eq_of_lt, mul_assoc, div-one, div-div-eq-div-mul, mul-add-div_right, mul-add-mod_self_right, suc-sub-suc, sub-zero}
use native.Mathlib.Omega.{arith}
use lib.Arith.{digits_lt, digits_div, mod-mul}
use lib.ListN.{length, get_or, length-append}
use lib.Pow.{pow-add}
use Rattle.model.specs.Words.{digits, number_of}

-- ---- the digits of a number

pub length_digits : (base w n : ℕ) → length (digits base w n) ≡ w
length_digits base zero n = refl
length_digits base (suc w) n = ap suc (length_digits base w n)

pub digits_at : (base w n i : ℕ) → i < w → get_or (digits base w n) i 0 ≡ n / base ^ (w - suc i) % base
digits_at base zero n i l = absurd (omega arith)
digits_at base (suc w) n zero l = rw (suc-sub-suc w 0, sub-zero w) refl
digits_at base (suc w) n (suc i) l = rw (suc-sub-suc w (suc i)) (digits_at base w n i (omega arith))

-- the lowest digit split off, as repeated division finds it
pub digits_last : (base w n : ℕ) → digits base (suc w) n ≡ digits base w (n / base) ++ (n % base ∷ [])
digits_last base zero n = rw (pow-zero base, div-one n) refl
digits_last base (suc w) n =
    rw (pow-succ' base w, ← div-div-eq-div-mul n base (base ^ w))
    (ap (λ (r : List ℕ). n / base / base ^ w % base ∷ r) (digits_last base w n))

-- every number of the list is a digit
abbrev pub Digits : ℕ → List ℕ → Type 0
Digits base ds = (i : ℕ) → i < length ds → get_or ds i 0 < base

pub digits_join : (base : ℕ) (ds es : List ℕ) → Digits base ds → Digits base es → Digits base (ds ++ es)
digits_join base [] es hd he i l = he i l
digits_join base (d ∷ ds) es hd he zero l = hd 0 (omega arith)
digits_join base (d ∷ ds) es hd he (suc i) l = digits_join base ds es (λ j k. hd (suc j) (omega arith)) he i (omega arith)

module _ (base : ℕ) (pos : 0 < base) where
  pub pow_pos : (w : ℕ) → 0 < base ^ w
  pow_pos w = one-le-pow w base pos

  pub digits-digits : (w n : ℕ) → Digits base (digits base w n)
  digits-digits zero n i l = absurd (omega arith)
  digits-digits (suc w) n zero l = mod-lt (n / base ^ w) pos
  digits-digits (suc w) n (suc i) l = digits-digits w n i (omega arith)

  -- what lies above the width doesn't show
  pub digits_above : (w q n : ℕ) → digits base w (q * base ^ w + n) ≡ digits base w n
  digits_above zero q n = refl
  digits_above (suc w) q n =
      rw (pow-succ' base w, ← mul_assoc q base (base ^ w), digits_above w (q * base) n)
      (rw (mul-add-div_right (pow_pos w) (q * base) n, mul-add-mod_self_right q base (n / base ^ w)) refl)

  -- ---- there and back

  pub number_digits : (w n : ℕ) → number_of base (digits base w n) ≡ n % base ^ w
  number_digits zero n = rw (pow-zero base, mod-one n) refl
  number_digits (suc w) n =
      rw (length_digits base w n, number_digits w n, pow-succ' base w) (sym (mod-mul n pos (pow_pos w)))

  pub number_digits_below : (w n : ℕ) → n < base ^ w → number_of base (digits base w n) ≡ n
  number_digits_below w n l = number_digits w n ∙ mod-eq_of_lt l

pub number_lt : (base : ℕ) (ds : List ℕ) → Digits base ds → number_of base ds < base ^ length ds
number_lt base [] h = rw (pow-zero base) (omega arith)
number_lt base (d ∷ ds) h =
    rw (pow-succ' base (length ds)) (digits_lt (h 0 (omega arith)) (number_lt base ds (λ i l. h (suc i) (omega arith))))

pub digits_number : (base : ℕ) (ds : List ℕ) → Digits base ds → digits base (length ds) (number_of base ds) ≡ ds
digits_number base [] h = refl
digits_number base (d ∷ ds) h =
    let first : d < base = h 0 (omega arith) in
    let rest : Digits base ds = λ i l. h (suc i) (omega arith) in
    rw (digits_div d (number_lt base ds rest), mod-eq_of_lt first)
    (rw (digits_above base (omega arith) (length ds) d (number_of base ds), digits_number base ds rest) refl)

-- ---- the number that digits write, from the left

pub number_append : (base : ℕ) (ds es : List ℕ) → number_of base (ds ++ es) ≡ number_of base ds * base ^ length es + number_of base es
number_append base [] es = rw (zero-mul (base ^ length es), zero-add (number_of base es)) refl
number_append base (d ∷ ds) es =
    rw (length-append ds es, pow-add base (length ds) (length es), number_append base ds es) (omega arith)
