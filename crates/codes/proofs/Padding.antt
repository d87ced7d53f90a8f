-- A code's padding: up to its twelfth byte, a padded code is the code copied over zeros.
-- Assumes nothing.
use Prim.Native.Nat.{ℕ, ◌+◌, ◌-◌, ◌≤◌}
use mathlib.Core.Path.{◌≡◌, refl, sym, ap, ◌∙◌}
use mathlib.Core.List.{List, ◌++◌, append-nil}
use native.Mathlib.Omega.{arith}
use borrow.Author.Tests.{leb-true, leb-false}
use lib.Dec.{leb}
use lib.ListN.{length, take, drop, replicate}
use lib.Seq.{take-take, take_all, take-length}
use Rattle.std.specs.Prelude.{min}
use Rattle.std.proofs.Math.Nat.{min-eq_left, min-eq_right}
use Rattle.std.proofs.lemmas.List.{drop-replicate}
use Rattle.model.specs.Words.{big_endian}
use Rattle.model.specs.Codes.{padded}
use Rattle.laws.proofs.Tests.{by_test}
use Rattle.laws.proofs.Lists.{drop-take}
use Rattle.laws.proofs.Codes.{length-padded}

-- n bytes of the code, as they were copied
module _ (code : List ℕ) (n : ℕ) (e : n ≡ min (length code) 12) (bytes : List ℕ) (h : bytes ≡ take n code) where
  abbrev copied : List ℕ
  copied = bytes ++ drop n (replicate 12 0)

  copied_is : copied ≡ take 12 (padded code)
  unfolding padded
  copied_is =
      rw h
      (by_test (leb (length code) 12)
      (λ t.
      let short = leb-true (length code) 12 t in
      rw (e, min-eq_left short, take-length code, drop-replicate {X = ℕ} (length code) 12 0, take_all 12 (padded code) (omega (arith, length-padded code short))) refl)
      (λ t.
      let long = leb-false (length code) 12 t in
      let none : 12 - length code ≡ 0 = omega arith in
      let twelve : n ≡ 12 = e ∙ min-eq_right (omega arith) in
      rw (twelve, none) (append-nil (take 12 code) ∙ ap (take 12) (sym (append-nil code)))))

  pub word_copied : (k : ℕ) → k + 4 ≤ 12 → (w : ℕ) → w ≡ big_endian (take 4 (drop k copied)) → w ≡ big_endian (take 4 (drop k (padded code)))
  word_copied k l w is =
      let rest : k + (12 - k) ≡ 12 = omega arith in
      let part : take 4 (drop k (take 12 (padded code))) ≡ take 4 (drop k (padded code)) =
      ap (take 4) (rw rest at (drop-take k (12 - k) (padded code))) ∙ take-take 4 (12 - k) (drop k (padded code)) (omega arith) in
      is ∙ ap (λ (l : List ℕ). big_endian (take 4 (drop k l))) copied_is ∙ ap big_endian part
