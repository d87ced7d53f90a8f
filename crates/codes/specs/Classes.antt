-- The classes of bytes, by the numbers that the rule of the spelling gives them.
-- Assumes nothing.
use Rattle.std.specs.Prelude.{ℕ}
use Rattle.codes.specs.declared.classes.Class.{Class}
use Rattle.codes.specs.declared.classes.Class.TheVariants.{Other, Letter, Digit, Hyphen}

abbrev pub number_of_class : Class → ℕ
number_of_class Other = 0
number_of_class Letter = 1
number_of_class Digit = 2
number_of_class Hyphen = 3
