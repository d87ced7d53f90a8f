-- What the sets of a kind hold, a bit at a time: a right stands in them exactly if one of the commands, or one of the people, has it.
-- Assumes nothing.
use Prim.Native.Nat.{ℕ, zero, suc, ◌≤◌, ◌<◌, min, max}
use mathlib.Core.Bool.{Bool, true, false}
use mathlib.Core.List.{List, [], ◌∷◌, map}
use mathlib.Core.Logic.{⊎_elim}
use mathlib.Core.Path.{◌≡◌, sym, subst, ◌∙◌}
use native.Mathlib.Nat.{zero-add}
use native.Mathlib.Omega.{arith}
use lib.Dec.{eqb}
use lib.ListN.{length, get_or, get_or-eq_default}
use borrow.Author.Tests.{eqb-true, eq-eqb}
use Rattle.model.specs.declared.Command.{Command}
use Rattle.model.specs.Words.{any, those, numbers_from}
use Rattle.model.specs.Sizes.{row_words}
use Rattle.model.specs.Rights.{bit, common, together}
use Rattle.model.specs.Schemes.{command_in, no_command}
use Rattle.model.specs.Rosters.{Person, type_at}
use Rattle.model.specs.Forms.{cell_at}
use Rattle.model.specs.Kinds.{is_step, steps_of, propagation, deletable, both, clash, overlaps, of_type, row_of_design}
use Rattle.laws.proofs.Tests.{by_test, never_both, not_passed, passed}
use Rattle.laws.proofs.Bits.{max_one, bit_below_two, bit_of_zero, bit-together, bit-common, bits_meet, meets_true}
use Rattle.laws.proofs.Lists.{table_at, none_at, at_none, length-numbers, numbers_at}

-- ---- all rights of those elements that pass a test, put together

module _ {A : Type 0} (f : A → ℕ) (test : A → Bool) (k : ℕ) where
  pub those_have : (xs : List A) (d : A) (i : ℕ) → i < length xs → test (get_or xs i d) ≡ true → bit (f (get_or xs i d)) k ≤ bit (together (map f (those test xs))) k
  those_have [] d i l t = absurd (omega arith)
  those_have (x ∷ xs) d zero l t = rw (t, bit-together (f x) (map f (those test xs)) k) (omega arith)
  those_have (x ∷ xs) d (suc i) l t =
      let later : bit (f (get_or xs i d)) k ≤ bit (together (map f (those test xs))) k = those_have xs d i (omega arith) t in
      by_test (test x) (λ e. rw (e, bit-together (f x) (map f (those test xs)) k) (omega arith)) (λ e. rw e later)

  pub one_of_those : (xs : List A) (d : A) → bit (together (map f (those test xs))) k ≡ 1
      → (i : ℕ) × (i < length xs) × (test (get_or xs i d) ≡ true) × (bit (f (get_or xs i d)) k ≡ 1)
  unfolding together
  one_of_those [] d h = absurd (omega (arith, bit_of_zero k))
  one_of_those (x ∷ xs) d h =
      by_test (test x)
      (λ e.
      let both_parts : max (bit (f x) k) (bit (together (map f (those test xs))) k) ≡ 1 = sym (bit-together (f x) (map f (those test xs)) k) ∙ rw e at h in
      ⊎_elim (λ first. (0, omega arith, e, first)) (λ rest. later (one_of_those xs d rest))
      (max_one (f x) (together (map f (those test xs))) k both_parts))
      (λ e. later (one_of_those xs d (rw e at h)))
    where
      later : (i : ℕ) × (i < length xs) × (test (get_or xs i d) ≡ true) × (bit (f (get_or xs i d)) k ≡ 1)
          → (i : ℕ) × (i < suc (length xs)) × (test (get_or (x ∷ xs) i d) ≡ true) × (bit (f (get_or (x ∷ xs) i d)) k ≡ 1)
      later found = (suc found.0, omega arith, found.2, found.3)

-- ---- the commands of a kind

module _ (commands : List Command) (kind k j : ℕ) (l : j < length commands) (step : is_step kind (command_in commands j) ≡ true) where
  pub x_propagates : bit (command_in commands j).x k ≤ bit (propagation commands kind) k
  unfolding propagation steps_of
  x_propagates = those_have (λ c. c.x) (is_step kind) k commands no_command j l step

  pub y_deletes : bit (command_in commands j).y k ≤ bit (deletable commands kind) k
  unfolding deletable steps_of
  y_deletes = those_have (λ c. c.y) (is_step kind) k commands no_command j l step

pub bit_both : (commands : List Command) (kind k : ℕ) → bit (both commands kind) k ≡ min (bit (propagation commands kind) k) (bit (deletable commands kind) k)
unfolding both
bit_both commands kind k = bit-common (propagation commands kind) (deletable commands kind) k

-- ---- the people of a type

module _ (people : List Person) (cells : List ℕ) (t k : ℕ) where
  pub type_has : (p : ℕ) → p < length people → type_at people p ≡ t → bit (cell_at cells p) k ≤ bit (of_type people cells t) k
  unfolding of_type
  type_has p l e =
      let place : get_or (numbers_from 0 (length people)) p 0 ≡ p = numbers_at 0 (length people) 0 p l ∙ zero-add p in
      subst (λ (i : ℕ). bit (cell_at cells i) k ≤ bit (of_type people cells t) k) place
      (those_have (cell_at cells) (λ i. eqb (type_at people i) t) k (numbers_from 0 (length people)) 0 p (omega (arith, length-numbers 0 (length people)))
      (rw place (eq-eqb (type_at people p) t e)))

  pub one_of_type : bit (of_type people cells t) k ≡ 1 → (p : ℕ) × (p < length people) × (type_at people p ≡ t) × (bit (cell_at cells p) k ≡ 1)
  unfolding of_type
  one_of_type h =
      let (i, l, e, b) = one_of_those (cell_at cells) (λ p. eqb (type_at people p) t) k (numbers_from 0 (length people)) 0 h in
      let j : i < length people = omega (arith, length-numbers 0 (length people)) in
      let place : get_or (numbers_from 0 (length people)) i 0 ≡ i = numbers_at 0 (length people) 0 i j ∙ zero-add i in
      (i, j, eqb-true (type_at people i) t (rw place at e), rw place at b)

-- the row of a design holds at each type what its people hold together
pub row_at : (people : List Person) (cells : List ℕ) (t : ℕ) → t < row_words → cell_at (row_of_design people cells) t ≡ of_type people cells t
unfolding row_of_design
row_at people cells t l = table_at (of_type people cells) row_words 0 t l

-- past the last type a row is empty
pub row_past : (people : List Person) (cells : List ℕ) (t : ℕ) → row_words ≤ t → cell_at (row_of_design people cells) t ≡ 0
unfolding row_of_design
row_past people cells t l = get_or-eq_default (map (of_type people cells) (numbers_from 0 row_words)) 0 l

-- ---- overlap: two people of one type, and a right that is both propagation and deletable

module _ (commands : List Command) (kind : ℕ) (people : List Person) (cells : List ℕ) where
  -- a pair of different people of one type that both hold a right of those
  abbrev pub Pair : ℕ → ℕ → ℕ → Type 0
  Pair a b k =
      (a < b) × (type_at people a ≡ type_at people b) × (bit (cell_at cells a) k ≡ 1) × (bit (cell_at cells b) k ≡ 1)
      × (bit (both commands kind) k ≡ 1)

  pair_clashes : (a b k : ℕ) → Pair a b k → clash commands kind people cells a b ≡ true
  unfolding clash
  pair_clashes a b k p =
      let shared : bit (common (cell_at cells a) (cell_at cells b)) k ≡ 1 =
      bit-common (cell_at cells a) (cell_at cells b) k ∙ omega (arith, p.2, p.3) in
      simp passed ((p.0, p.1), bits_meet (common (cell_at cells a) (cell_at cells b)) (both commands kind) k shared p.4)

  clash_pair : (a b : ℕ) → clash commands kind people cells a b ≡ true → (k : ℕ) × Pair a b k
  unfolding clash
  clash_pair a b h =
      let facts = simp passed at h in
      let (k, shared, both-k) = meets_true (common (cell_at cells a) (cell_at cells b)) (both commands kind) facts.1 in
      let of_two : min (bit (cell_at cells a) k) (bit (cell_at cells b) k) ≡ 1 = sym (bit-common (cell_at cells a) (cell_at cells b) k) ∙ shared in
      (k, (facts.0.0, facts.0.1, omega (arith, bit_below_two (cell_at cells a) k), omega (arith, bit_below_two (cell_at cells b) k), both-k))

  everybody_at : (p : ℕ) → p < length people → (p < length (numbers_from 0 (length people))) × (get_or (numbers_from 0 (length people)) p 0 ≡ p)
  everybody_at p l = (omega (arith, length-numbers 0 (length people)), numbers_at 0 (length people) 0 p l ∙ zero-add p)

  pub overlap_no_pair : overlaps commands kind people cells ≡ false → (a b k : ℕ) → b < length people → Pair a b k → ⊥
  unfolding overlaps
  overlap_no_pair h a b k bl p =
      let everybody = numbers_from 0 (length people) in
      let (la, ea) = everybody_at a (omega (arith, p.0)) in
      let (lb, eb) = everybody_at b bl in
      let row : any (clash commands kind people cells a) everybody ≡ false =
      rw ea at (none_at (λ i. any (clash commands kind people cells i) everybody) everybody 0 h a la) in
      never_both (pair_clashes a b k p) (rw eb at (none_at (clash commands kind people cells a) everybody 0 row b lb))

  pub no_pair_overlap : ((a b k : ℕ) → b < length people → Pair a b k → ⊥) → overlaps commands kind people cells ≡ false
  unfolding overlaps
  no_pair_overlap h =
      let everybody = numbers_from 0 (length people) in
      at_none (λ i. any (clash commands kind people cells i) everybody) everybody 0
      (λ a la.
      at_none (clash commands kind people cells (get_or everybody a 0)) everybody 0
      (λ b lb.
      let bl : b < length people = omega (arith, length-numbers 0 (length people)) in
      let place : get_or everybody b 0 ≡ b = (everybody_at b bl).1 in
      not_passed (clash commands kind people cells (get_or everybody a 0) (get_or everybody b 0))
      (λ c. let (k, p) = clash_pair (get_or everybody a 0) (get_or everybody b 0) c in h (get_or everybody a 0) (get_or everybody b 0) k (rw place bl) p)))
