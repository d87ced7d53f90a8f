-- The figures of a number in decimal, by how many it has, and of a set of rights in hexadecimal; and how long words are.
-- Assumes nothing.
use Prim.Native.Nat.{ℕ, zero, suc, ◌+◌, ◌-◌, ◌*◌, ◌/◌, ◌%◌, ◌^◌, ◌<◌, ◌≤◌}
use mathlib.Core.List.{List, [], ◌∷◌, ◌++◌, map, map-append, append_assoc}
use mathlib.Core.Path.{◌≡◌, refl, ap, ◌∙◌}
use native.Mathlib.Nat.{pow-le-pow_right}
use native.Mathlib.Omega.{arith}
use lib.ListN.{length, length-map}
use Rattle.std.proofs.Common.{max}
use Rattle.model.specs.Words.{digits}
use Rattle.model.specs.declared.Code.{Code}
use Rattle.model.specs.Codes.{unpacked}
use Rattle.laws.proofs.Digits.{digits_last}
use Rattle.codes.proofs.Unpadding.{length-unpadded}
use Rattle.model.specs.Lines.{digit_byte, trimmed, decimal, hexadecimal}

-- ---- digit after digit

pub digits_more : (line : List ℕ) (base width n : ℕ) → 0 < width
    → line ++ map digit_byte (digits base width n) ≡ (line ++ map digit_byte (digits base (width - 1) (n / base))) ++ (digit_byte (n % base) ∷ [])
digits_more line base zero n some = absurd (omega arith)
digits_more line base (suc w) n some =
    let e : suc w - 1 ≡ w = omega arith in
    rw (e, append_assoc)
    (ap (λ (ds : List ℕ). line ++ map digit_byte ds) (digits_last base w n)
    ∙ ap (λ (bytes : List ℕ). line ++ bytes) (map-append digit_byte (digits base w (n / base)) (n % base ∷ [])))

-- ---- in decimal

-- a first digit that isn't zero stays
trimmed_kept : (d e : ℕ) (ds : List ℕ) → 0 < d → trimmed (d ∷ e ∷ ds) ≡ d ∷ e ∷ ds
unfolding trimmed
trimmed_kept zero e ds h = absurd (omega arith)
trimmed_kept (suc d) e ds h = refl

-- and one that is zero goes
trimmed_zero : (d e : ℕ) (ds : List ℕ) → d ≡ 0 → trimmed (d ∷ e ∷ ds) ≡ trimmed (e ∷ ds)
unfolding trimmed
trimmed_zero zero e ds h = refl
trimmed_zero (suc d) e ds h = absurd (omega arith)

module _ (n : ℕ) where
  below_4 : n < 1000 → trimmed (digits 10 4 n) ≡ trimmed (digits 10 3 n)
  below_4 h = trimmed_zero (n / 1000 % 10) (n / 100 % 10) (digits 10 2 n) (omega arith)

  below_3 : n < 100 → trimmed (digits 10 3 n) ≡ trimmed (digits 10 2 n)
  below_3 h = trimmed_zero (n / 100 % 10) (n / 10 % 10) (digits 10 1 n) (omega arith)

  below_2 : n < 10 → trimmed (digits 10 2 n) ≡ digits 10 1 n
  unfolding trimmed
  below_2 h = trimmed_zero (n / 10 % 10) (n / 1 % 10) [] (omega arith)

  -- the power of ten that a number has, with 0 taken as 1
  module _ (least : ℕ) (one : least ≡ max n 1) (few : n < 10000) where
    pub few_figures : (k : ℕ) → 10 ^ k ≤ least → k ≤ 3
    few_figures zero low = omega arith
    few_figures (suc zero) low = omega arith
    few_figures (suc (suc zero)) low = omega arith
    few_figures (suc (suc (suc zero))) low = omega arith
    few_figures (suc (suc (suc (suc k)))) low =
        absurd (omega (arith, pow-le-pow_right {n = 10} (omega arith) {i = 4} {j = suc (suc (suc (suc k)))} (omega arith)))

    -- without leading zeros there are one more digits
    figures : (k : ℕ) → 10 ^ k ≤ least → least < 10 * 10 ^ k → trimmed (digits 10 4 n) ≡ digits 10 (k + 1) n
    figures zero low high = below_4 (omega arith) ∙ below_3 (omega arith) ∙ below_2 (omega arith)
    figures (suc zero) low high = below_4 (omega arith) ∙ below_3 (omega arith) ∙ trimmed_kept (n / 10 % 10) (n / 1 % 10) [] (omega arith)
    figures (suc (suc zero)) low high = below_4 (omega arith) ∙ trimmed_kept (n / 100 % 10) (n / 10 % 10) (digits 10 1 n) (omega arith)
    figures (suc (suc (suc zero))) low high = trimmed_kept (n / 1000 % 10) (n / 100 % 10) (digits 10 2 n) (omega arith)
    figures (suc (suc (suc (suc k)))) low high = absurd (omega (arith, few_figures (suc (suc (suc (suc k)))) low))

    pub decimal_digits : (k : ℕ) → 10 ^ k ≤ least → least < 10 * 10 ^ k → decimal n ≡ map digit_byte (digits 10 (k + 1) n)
    unfolding decimal
    decimal_digits k low high = ap (map digit_byte) (figures k low high)

-- ---- how long

pub length-hexadecimal : (n : ℕ) → length (hexadecimal n) ≡ 8
unfolding hexadecimal
length-hexadecimal n = refl

length-trimmed : (ds : List ℕ) → length (trimmed ds) ≤ length ds
unfolding trimmed
length-trimmed [] = omega arith
length-trimmed (d ∷ []) = omega arith
length-trimmed (zero ∷ d ∷ ds) = omega (arith, length-trimmed (d ∷ ds))
length-trimmed (suc k ∷ d ∷ ds) = omega arith

pub length-decimal : (n : ℕ) → length (decimal n) ≤ 4
unfolding decimal
length-decimal n = simp length-map (length-trimmed (digits 10 4 n))

-- a number of one figure
pub length-decimal_1 : (n : ℕ) → n < 10 → length (decimal n) ≡ 1
unfolding decimal
length-decimal_1 n h = rw (below_4 n (omega arith), below_3 n (omega arith), below_2 n h) refl

-- no longer than the power of ten that it is below
pub length-decimal_below : (n width : ℕ) → 0 < width → n < 10 ^ width → length (decimal n) ≤ width
unfolding decimal
length-decimal_below n zero some h = absurd (omega arith)
length-decimal_below n (suc zero) some h = rw (below_4 n (omega arith), below_3 n (omega arith), below_2 n (omega arith)) (omega arith)
length-decimal_below n (suc (suc zero)) some h =
    rw (below_4 n (omega arith), below_3 n (omega arith)) (simp length-map (length-trimmed (digits 10 2 n)))
length-decimal_below n (suc (suc (suc zero))) some h = rw (below_4 n (omega arith)) (simp length-map (length-trimmed (digits 10 3 n)))
length-decimal_below n (suc (suc (suc (suc k)))) some h = omega (arith, length-decimal n)

pub unpacked_short : (w : Code) → length (unpacked w) ≤ 12
unfolding unpacked
unpacked_short w = length-unpadded (digits 256 4 w.a ++ digits 256 4 w.b ++ digits 256 4 w.c)
