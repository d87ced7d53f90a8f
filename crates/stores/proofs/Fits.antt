-- Whether designs fit a scheme and a roster: of the cells past the roster it is enough to ask whether they are empty.
-- Assumes nothing.
use Prim.Native.Nat.{ℕ, ◌-◌, ◌<◌}
use mathlib.Core.Path.{◌≡◌, refl, ap, ◌∙◌}
use mathlib.Core.Bool.{Bool, true, ◌&&◌, and_assoc, and-true, and-false}
use mathlib.Core.List.{List}
use native.Mathlib.Omega.{arith}
use lib.Dec.{eqb, ltb}
use lib.ListN.{length, get_or, take, drop, length-drop}
use lib.Seq.{take_all}
use lib.Pow.{pow_pos}
use borrow.Author.Tests.{eqb-true, lt-ltb}
use Rattle.model.specs.Words.{all}
use Rattle.model.specs.Rights.{fits_rights}
use Rattle.model.specs.Stores.{fits_design, design_of}
use Rattle.laws.proofs.Tests.{by_test}
use Rattle.laws.proofs.Bits.{lt_fits}
use Rattle.laws.proofs.Lists.{all_at, at_all, all_cut}

abbrev pub empty : ℕ → Bool
empty cell = eqb cell 0

module _ (rights : ℕ) where
  empty_fits : (cells : List ℕ) → all empty cells ≡ true → all (fits_rights rights) cells ≡ true
  empty_fits cells h =
      at_all (fits_rights rights) cells 0 (λ i l.
      let e : get_or cells i 0 ≡ 0 = eqb-true (get_or cells i 0) 0 (all_at empty cells 0 h i l) in
      rw e (lt_fits rights 0 (pow_pos rights)))

  past_the_roster : (people : ℕ) (cells : List ℕ)
      → (all (fits_rights rights) cells && all empty (drop people cells)) ≡ (all (fits_rights rights) (take people cells) && all empty (drop people cells))
  past_the_roster people cells =
      by_test (all empty (drop people cells))
      (λ p. rw (all_cut (fits_rights rights) people cells, empty_fits (drop people cells) p, and-true))
      (λ q. simp (q, and-false))

-- ---- one design: its kind, its cells on the roster, and those past it

module _ (kinds rights people : ℕ) (words : List ℕ) where
  pub fits_is : fits_design kinds rights people (design_of words)
      ≡ (ltb (get_or words 0 0) kinds && (all (fits_rights rights) (take people (drop 4 words)) && all empty (drop people (drop 4 words))))
  unfolding fits_design
  fits_is =
      and_assoc (ltb (get_or words 0 0) kinds) (all (fits_rights rights) (drop 4 words)) (all empty (drop people (drop 4 words)))
      ∙ ap (λ (b : Bool). ltb (get_or words 0 0) kinds && b) (past_the_roster rights people (drop 4 words))

  -- with the kind and the cells as they were read
  pub rest_decides : (kind : ℕ) → kind ≡ get_or words 0 0 → kind < kinds → (cells : List ℕ) → cells ≡ drop 4 words → all (fits_rights rights) (take people cells) ≡ true
      → all empty (take (length cells - people) (drop people cells)) ≡ fits_design kinds rights people (design_of words)
  rest_decides kind k below cells e held =
      let rest : take (length cells - people) (drop people cells) ≡ drop people cells =
      take_all (length cells - people) (drop people cells) (omega (arith, length-drop people cells)) in
      rw (fits_is, ← k, lt-ltb kind kinds below, ← e, held, rest) refl
