-- The numbers given back: each refusal has its own, and what is not refused has 0.
-- Assumes nothing.
use Rattle.std.specs.Prelude.{ℕ, Result, Ok, Err}
use Rattle.model.specs.declared.refusal.Refusal.{Refusal}
use Rattle.model.specs.declared.refusal.Refusal.TheVariants.{BadCard, BadScheme, BadRoster, Misspelled, SameCode, NoCommand, NoPerson, OtherType, TwoPeople, CodeExists, StoreFull, NoDesign, OtherKind, NotHeld, OutOfRange, NoRoom, BadStore}

abbrev pub number_of_refusal : Refusal → ℕ
number_of_refusal BadCard = 1
number_of_refusal BadScheme = 2
number_of_refusal BadRoster = 3
number_of_refusal Misspelled = 4
number_of_refusal SameCode = 5
number_of_refusal NoCommand = 6
number_of_refusal NoPerson = 7
number_of_refusal OtherType = 8
number_of_refusal TwoPeople = 9
number_of_refusal CodeExists = 10
number_of_refusal StoreFull = 11
number_of_refusal NoDesign = 12
number_of_refusal OtherKind = 13
number_of_refusal NotHeld = 14
number_of_refusal OutOfRange = 15
number_of_refusal NoRoom = 20
number_of_refusal BadStore = 21

abbrev pub number_given : {A : Type 0} → Result A Refusal → ℕ
number_given (Ok x) = 0
number_given (Err r) = number_of_refusal r
