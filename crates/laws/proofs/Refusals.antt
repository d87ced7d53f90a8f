-- Laws of refusals and their numbers: no refusal has the number 0, a refusal ends the chain of numbers that it stands in, and what passes goes on.
-- Assumes nothing.
use Prim.Native.Nat.{ℕ}
use mathlib.Core.Path.{◌≡◌, refl, sym, ap, ◌∙◌}
use native.Mathlib.Omega.{arith}
use lib.Dec.{eqb}
use borrow.Author.Tests.{ne_eqb}
use Rattle.model.specs.Words.{◌when◌else◌, ◌then◌}
use Rattle.model.specs.declared.refusal.Refusal.{Refusal}
use Rattle.model.specs.declared.refusal.Refusal.TheVariants.{BadCard, BadScheme, BadRoster, Misspelled, SameCode, NoCommand, NoPerson, OtherType, TwoPeople, CodeExists, StoreFull, NoDesign, OtherKind, NotHeld, OutOfRange, NoRoom, BadStore}
use Rattle.model.specs.Refusals.{number_of_refusal}

pub refusal_not_zero : (r : Refusal) → number_of_refusal r ≡ 0 → ⊥
refusal_not_zero BadCard e = omega (arith, e)
refusal_not_zero BadScheme e = omega (arith, e)
refusal_not_zero BadRoster e = omega (arith, e)
refusal_not_zero Misspelled e = omega (arith, e)
refusal_not_zero SameCode e = omega (arith, e)
refusal_not_zero NoCommand e = omega (arith, e)
refusal_not_zero NoPerson e = omega (arith, e)
refusal_not_zero OtherType e = omega (arith, e)
refusal_not_zero TwoPeople e = omega (arith, e)
refusal_not_zero CodeExists e = omega (arith, e)
refusal_not_zero StoreFull e = omega (arith, e)
refusal_not_zero NoDesign e = omega (arith, e)
refusal_not_zero OtherKind e = omega (arith, e)
refusal_not_zero NotHeld e = omega (arith, e)
refusal_not_zero OutOfRange e = omega (arith, e)
refusal_not_zero NoRoom e = omega (arith, e)
refusal_not_zero BadStore e = omega (arith, e)

-- the refusal with a number, and so: two with one number are the same
refusal_of : ℕ → Refusal
refusal_of n =
    BadCard when eqb n 1 else
    BadScheme when eqb n 2 else
    BadRoster when eqb n 3 else
    Misspelled when eqb n 4 else
    SameCode when eqb n 5 else
    NoCommand when eqb n 6 else
    NoPerson when eqb n 7 else
    OtherType when eqb n 8 else
    TwoPeople when eqb n 9 else
    CodeExists when eqb n 10 else
    StoreFull when eqb n 11 else
    NoDesign when eqb n 12 else
    OtherKind when eqb n 13 else
    NotHeld when eqb n 14 else
    OutOfRange when eqb n 15 else
    NoRoom when eqb n 20 else
    BadStore

numbered : (r : Refusal) → refusal_of (number_of_refusal r) ≡ r
unfolding refusal_of
numbered BadCard = refl
numbered BadScheme = refl
numbered BadRoster = refl
numbered Misspelled = refl
numbered SameCode = refl
numbered NoCommand = refl
numbered NoPerson = refl
numbered OtherType = refl
numbered TwoPeople = refl
numbered CodeExists = refl
numbered StoreFull = refl
numbered NoDesign = refl
numbered OtherKind = refl
numbered NotHeld = refl
numbered OutOfRange = refl
numbered NoRoom = refl
numbered BadStore = refl

pub refusal_by_number : (r s : Refusal) → number_of_refusal r ≡ number_of_refusal s → r ≡ s
refusal_by_number r s e = sym (numbered r) ∙ ap refusal_of e ∙ numbered s

module _ (a k : ℕ) where
  pub refused_here : (r : Refusal) → number_of_refusal r ≡ a → number_of_refusal r ≡ (a then k)
  refused_here r e = rw (← e, ne_eqb (number_of_refusal r) 0 (refusal_not_zero r)) refl

  pub passed_here : 0 ≡ a → (a then k) ≡ k
  passed_here e = rw (← e) refl
