-- A code and its three words go there and back: padding is undone by unpadding, and each four bytes by their digits. Assumes nothing.
use Prim.Native.Nat.{ℕ, zero, suc, ◌+◌, ◌-◌, ◌^◌, ◌≤◌, ◌<◌}
use mathlib.Core.Path.{◌≡◌, refl, sym, ap, ap₂, ◌∙◌}
use mathlib.Core.Bool.{Bool, true, ◌&&◌}
use mathlib.Core.Logic.{◌↔◌}
use mathlib.Core.List.{List, [], ◌∷◌, ◌++◌, append_assoc}
use native.Mathlib.Nat.{sub-zero, suc-sub-suc}
use native.Mathlib.Omega.{arith}
use lib.Dec.{eqb}
use lib.ListN.{length, get_or, take, drop, replicate, length-append, length-replicate, length-drop, get_or-replicate}
use lib.Seq.{length-take-le, take_at, drop_at, take-add, take_all, get_or-take, get_or-drop}
use Rattle.model.specs.declared.Code.{Code}
use Rattle.model.specs.Words.{between, same, digits, big_endian}
use Rattle.model.specs.Codes.{class_of, is_code_byte, spelled, padded, packed, kept_before, unpadded, unpacked, code_words, code_at}
use Rattle.laws.proofs.Tests.{by_test, never_both, same_test, passed}
use Rattle.laws.proofs.Lists.{all_at, same_iff}
use Rattle.laws.proofs.Digits.{Digits, digits_join, digits_number, number_digits_below, number_lt}

-- ---- what the spelling says

pub code_byte : (b : ℕ) → is_code_byte b ≡ true → (45 ≤ b) × (b ≤ 90)
unfolding is_code_byte class_of
code_byte b =
    by_test (between 65 90 b) (λ p. let q = simp passed at p in λ h. omega arith)
    (λ n. rw n
    (by_test (between 48 57 b) (λ p. let q = simp passed at p in λ h. omega arith)
    (λ m. rw m
    (by_test (eqb b 45) (λ p. let q = simp passed at p in λ h. omega arith)
    (λ k. rw k (λ h. absurd (never_both h refl)))))))

-- a code that is spelled has one to twelve bytes, and each lies from the hyphen to Z
pub record Spelling (code : List ℕ) : Type 0 where
  pub present : 1 ≤ length code
  pub short : length code ≤ 12
  pub byte : (i : ℕ) → i < length code → (45 ≤ get_or code i 0) × (get_or code i 0 ≤ 90)

pub spelling : (code : List ℕ) → spelled code ≡ true → Spelling code
unfolding spelled
spelling code h =
    let p = simp passed at h in
    record {
      present = p.0.0.0.0;
      short = p.0.0.0.1;
      byte = λ i l. code_byte (get_or code i 0) (all_at is_code_byte code 0 p.0.0.1 i l);
    }

-- ---- padding

pub unpadded_zeros : (n : ℕ) → unpadded (replicate n 0) ≡ []
unfolding unpadded
unpadded_zeros zero = refl
unpadded_zeros (suc n) = ap (kept_before 0) (unpadded_zeros n)

pub unpadded-append : (bytes : List ℕ) (n : ℕ) → unpadded (bytes ++ replicate n 0) ≡ unpadded bytes
unfolding unpadded
unpadded-append [] n = unpadded_zeros n
unpadded-append (b ∷ bytes) n = ap (kept_before b) (unpadded-append bytes n)

pub kept : (b : ℕ) (bytes : List ℕ) → 0 < b → kept_before b bytes ≡ b ∷ bytes
kept zero [] l = absurd (omega arith)
kept (suc b) [] l = refl
kept b (c ∷ bytes) l = refl

pub unpadded_full : (bytes : List ℕ) → ((i : ℕ) → i < length bytes → 0 < get_or bytes i 0) → unpadded bytes ≡ bytes
unfolding unpadded
unpadded_full [] h = refl
unpadded_full (b ∷ bytes) h =
    ap (kept_before b) (unpadded_full bytes (λ i l. h (suc i) (omega arith))) ∙ kept b bytes (h 0 (omega arith))

pub unpadded-padded : (code : List ℕ) → ((i : ℕ) → i < length code → 0 < get_or code i 0) → unpadded (padded code) ≡ code
unfolding padded
unpadded-padded code h = unpadded-append code (12 - length code) ∙ unpadded_full code h

pub padded_kept : (b n : ℕ) (bytes row : List ℕ) → bytes ++ replicate (n - length bytes) 0 ≡ row
    → kept_before b bytes ++ replicate (suc n - length (kept_before b bytes)) 0 ≡ b ∷ row
padded_kept zero n [] row e = rw (sub-zero (suc n)) (ap (λ (r : List ℕ). 0 ∷ r) (rw (sub-zero n) at e))
padded_kept (suc b) n [] row e = rw (suc-sub-suc n 0) (ap (λ (r : List ℕ). suc b ∷ r) e)
padded_kept b n (c ∷ bytes) row e = rw (suc-sub-suc n (suc (length bytes))) (ap (λ (r : List ℕ). b ∷ r) e)

-- a row of bytes without the zeros at its end, and with them again
pub padded-unpadded : (row : List ℕ) → unpadded row ++ replicate (length row - length (unpadded row)) 0 ≡ row
unfolding unpadded
padded-unpadded [] = refl
padded-unpadded (b ∷ row) = padded_kept b (length row) (unpadded row) row (padded-unpadded row)

pub length-padded : (code : List ℕ) → length code ≤ 12 → length (padded code) ≡ 12
unfolding padded
length-padded code l = omega (arith, length-append code (replicate (12 - length code) 0), length-replicate {A = ℕ} (12 - length code) 0)

pub padded_bytes : (code : List ℕ) → Digits 256 code → Digits 256 (padded code)
unfolding padded
padded_bytes code h =
    digits_join 256 code (replicate (12 - length code) 0) h
    (λ i l. rw (get_or-replicate {A = ℕ} (12 - length code) i 0 0 (omega (arith, length-replicate {A = ℕ} (12 - length code) 0))) (omega arith))

-- ---- twelve bytes as three words

module _ (row : List ℕ) (twelve : length row ≡ 12) where
  pub three_parts : take 4 row ++ take 4 (drop 4 row) ++ take 4 (drop 8 row) ≡ row
  three_parts = sym (sym (take_all 12 row (omega arith)) ∙ take-add 8 4 row ∙ ap (λ (r : List ℕ). r ++ take 4 (drop 8 row)) (take-add 4 4 row))

  module _ (bytes : Digits 256 row) (k : ℕ) (fits : k + 4 ≤ 12) where
    pub length_part : length (take 4 (drop k row)) ≡ 4
    length_part = length-take-le 4 (drop k row) (omega (arith, length-drop k row))

    pub bytes_part : Digits 256 (take 4 (drop k row))
    bytes_part i l =
        let m : i < 4 = omega (arith, length_part) in
        rw (get_or-take 4 (drop k row) i 0 m, get_or-drop k row i 0) (bytes (k + i) (omega arith))

    pub part_digits : digits 256 4 (big_endian (take 4 (drop k row))) ≡ take 4 (drop k row)
    part_digits = rw length_part at (digits_number 256 (take 4 (drop k row)) bytes_part)

    pub part_lt : big_endian (take 4 (drop k row)) < 2 ^ 32
    part_lt = rw length_part at (number_lt 256 (take 4 (drop k row)) bytes_part)

pub three_taken : (xs ys zs : List ℕ) → length xs ≡ 4 → length ys ≡ 4 → length zs ≡ 4
    → (take 4 (xs ++ ys ++ zs) ≡ xs) × (take 4 (drop 4 (xs ++ ys ++ zs)) ≡ ys) × (take 4 (drop 8 (xs ++ ys ++ zs)) ≡ zs)
three_taken xs ys zs l m n =
    let whole : xs ++ ys ++ zs ≡ xs ++ (ys ++ zs) = append_assoc xs ys zs in (
      ap (take 4) whole ∙ take_at xs (ys ++ zs) 4 l,
      ap (λ (r : List ℕ). take 4 (drop 4 r)) whole ∙ ap (take 4) (drop_at xs (ys ++ zs) 4 l) ∙ take_at ys zs 4 m,
      ap (take 4) (drop_at (xs ++ ys) zs 8 (omega (arith, length-append xs ys))) ∙ take_all 4 zs (omega arith),
    )

pub word_digits : (n : ℕ) {part : List ℕ} → part ≡ digits 256 4 n → n < 2 ^ 32 → big_endian part ≡ n
word_digits n e l = ap big_endian e ∙ number_digits_below 256 (omega arith) 4 n l

-- ---- a code and its three words

abbrev pub WordsFit : Code → Type 0
WordsFit w = (w.a < 2 ^ 32) × (w.b < 2 ^ 32) × (w.c < 2 ^ 32)

pub spelled_row : (code : List ℕ) → spelled code ≡ true → (length (padded code) ≡ 12) × Digits 256 (padded code)
spelled_row code h =
    let s = spelling code h in
    (length-padded code s.short, padded_bytes code (λ i l. omega (arith, s.byte i l)))

pub packed_fits : (code : List ℕ) → spelled code ≡ true → WordsFit (packed code)
unfolding packed
packed_fits code h =
    let (twelve, bytes) = spelled_row code h in
    let word = part_lt (padded code) twelve bytes in
    (word 0 (omega arith), word 4 (omega arith), word 8 (omega arith))

pub unpacked-packed : (code : List ℕ) → spelled code ≡ true → unpacked (packed code) ≡ code
unfolding unpacked packed
unpacked-packed code h =
    let (twelve, bytes) = spelled_row code h in
    let part = part_digits (padded code) twelve bytes in
    ap unpadded (ap₂ ◌++◌ (ap₂ ◌++◌ (part 0 (omega arith)) (part 4 (omega arith))) (part 8 (omega arith)) ∙ three_parts (padded code) twelve)
    ∙ unpadded-padded code (λ i l. omega (arith, (spelling code h).byte i l))

pub packed-unpacked : (w : Code) → WordsFit w → packed (unpacked w) ≡ w
unfolding packed unpacked padded
packed-unpacked w f =
    let xs = digits 256 4 w.a in
    let ys = digits 256 4 w.b in
    let zs = digits 256 4 w.c in
    let row : padded (unpacked w) ≡ xs ++ ys ++ zs = padded-unpadded (xs ++ ys ++ zs) in
    let (p, q, r) = three_taken xs ys zs refl refl refl in
    λ i. record {
      a = word_digits w.a (ap (take 4) row ∙ p) f.0 i;
      b = word_digits w.b (ap (λ (l : List ℕ). take 4 (drop 4 l)) row ∙ q) f.1 i;
      c = word_digits w.c (ap (λ (l : List ℕ). take 4 (drop 8 l)) row ∙ r) f.2 i;
    }

pub unpacked_inj : (v w : Code) → WordsFit v → WordsFit w → unpacked v ≡ unpacked w → v ≡ w
unpacked_inj v w fv fw e = sym (packed-unpacked v fv) ∙ ap packed e ∙ packed-unpacked w fw

-- two codes are the same exactly when their three words are
abbrev pub same_words : Code → Code → Bool
same_words v w = eqb v.a w.a && eqb v.b w.b && eqb v.c w.c

pub words_iff : (v w : Code) → (same_words v w ≡ true) ↔ (v ≡ w)
words_iff v w = (
  λ h. let p = simp passed at h in λ i. record { a = p.0.0 i; b = p.0.1 i; c = p.1 i },
  λ e. simp passed ((ap (λ (x : Code). x.a) e, ap (λ (x : Code). x.b) e), ap (λ (x : Code). x.c) e),
)

pub same_unpacked : (v w : Code) → WordsFit v → WordsFit w → same (unpacked v) (unpacked w) ≡ same_words v w
same_unpacked v w fv fw =
    same_test (same (unpacked v) (unpacked w)) (same_words v w)
    (λ h. (words_iff v w).1 (unpacked_inj v w fv fw ((same_iff (unpacked v) (unpacked w)).0 h)))
    (λ h. (same_iff (unpacked v) (unpacked w)).1 (ap unpacked ((words_iff v w).0 h)))

-- the words of one, against a code of bytes
pub same_unpacked_code : (w : Code) (code : List ℕ) → WordsFit w → spelled code ≡ true → same (unpacked w) code ≡ same_words w (packed code)
same_unpacked_code w code f h =
    sym (ap (same (unpacked w)) (unpacked-packed code h)) ∙ same_unpacked w (packed code) f (packed_fits code h)

pub same_packed : (a b : List ℕ) → spelled a ≡ true → spelled b ≡ true → same a b ≡ same_words (packed a) (packed b)
same_packed a b ha hb =
    sym (ap (λ (x : List ℕ). same x b) (unpacked-packed a ha)) ∙ same_unpacked_code (packed a) b (packed_fits a ha) hb

-- as words in a row
pub code_at_words : (code rest : List ℕ) → spelled code ≡ true → code_at (code_words code ++ rest) ≡ code
code_at_words code rest h = unpacked-packed code h

pub words_of_code_at : (words : List ℕ) → ((i : ℕ) → i < 3 → get_or words i 0 < 2 ^ 32)
    → code_words (code_at words) ≡ get_or words 0 0 ∷ get_or words 1 0 ∷ get_or words 2 0 ∷ []
words_of_code_at words h =
    let w : Code = record { a = get_or words 0 0; b = get_or words 1 0; c = get_or words 2 0 } in
    ap (λ (x : Code). x.a ∷ x.b ∷ x.c ∷ []) (packed-unpacked w (h 0 (omega arith), h 1 (omega arith), h 2 (omega arith)))
