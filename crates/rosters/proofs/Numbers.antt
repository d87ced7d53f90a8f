-- A roster's number: what the check gives at each of its exits, whose tests are the definition's, in its order.
-- Assumes nothing.
use Prim.Native.Nat.{ℕ, ◌≤◌, ◌<◌}
use mathlib.Core.Path.{◌≡◌, refl, sym, ap, ◌∙◌}
use mathlib.Core.Bool.{Bool, true, false, not}
use mathlib.Core.List.{List, [], ◌∷◌, map}
use native.Mathlib.Omega.{arith}
use borrow.Author.Tests.{le-leb, lt-leb}
use Rattle.model.specs.Words.{all, any, all_differ}
use Rattle.model.specs.Codes.{spelled}
use Rattle.model.specs.Rosters.{Person, out_of_range, roster_number, roster_of}
use Rattle.laws.proofs.Tests.{by_test}
use Rattle.laws.proofs.Lists.{any-map}
use Rattle.records.specs.Records.{codes_in}
use Rattle.rosters.proofs.People.{out, length-roster, codes_of}

not_all : {A : Type 0} (test : A → Bool) (xs : List A) → any (λ x. not (test x)) xs ≡ not (all test xs)
not_all test [] = refl
not_all test (x ∷ xs) = by_test (test x) (λ p. rw p (not_all test xs)) (λ q. rw q)

-- ---- the check at each of its exits, in lent words

module _ (types count : ℕ) (words : List ℕ) where
  abbrev people : List Person
  people = roster_of count words

  abbrev codes : List (List ℕ)
  codes = codes_in 4 count words

  spelled_are : any (λ p. not (spelled p.code)) people ≡ not (all spelled codes)
  spelled_are =
      sym (any-map (λ (p : Person). p.code) (λ c. not (spelled c)) people)
      ∙ not_all spelled (map (λ p. p.code) people)
      ∙ ap (λ (cs : List (List ℕ)). not (all spelled cs)) (codes_of count words)

  abbrev number : ℕ
  number = roster_number types people

  pub nobody_refused : count ≡ 0 → number ≡ 3
  unfolding roster_number out_of_range
  nobody_refused e = rw (length-roster count words, e)

  pub many_refused : 32 < count → number ≡ 3
  unfolding roster_number out_of_range
  many_refused h = rw (length-roster count words, le-leb 1 count (omega arith), lt-leb count 32 h)

  -- with the answers of the calls, each of which was asked once those before it let the roster pass
  module _ (some : count ≡ 0 → ⊥) (few : count ≤ 32) (a : Bool) (ea : a ≡ any (out types) people) where
    counted : out_of_range types people ≡ a
    unfolding out_of_range
    counted = rw (length-roster count words, le-leb 1 count (omega arith), le-leb count 32 few, ea)

    pub type_refused : a ≡ true → number ≡ 3
    unfolding roster_number
    type_refused r = rw (counted, r)

    module _ (r : a ≡ false) (b : Bool) (eb : b ≡ all spelled codes) where
      pub spelling_refused : b ≡ false → number ≡ 4
      unfolding roster_number
      spelling_refused h = rw (counted, r, spelled_are, ← eb, h)

      module _ (s : b ≡ true) (c : Bool) (ec : c ≡ all_differ codes) where
        pub same_refused : c ≡ false → number ≡ 5
        unfolding roster_number
        same_refused h = rw (counted, r, spelled_are, ← eb, s, codes_of count words, ← ec, h)

        pub roster_accepted : c ≡ true → number ≡ 0
        unfolding roster_number
        roster_accepted h = rw (counted, r, spelled_are, ← eb, s, codes_of count words, ← ec, h)
