-- A value that is given when a test passes is there exactly if the test passes. Assumes nothing.
use Rattle.std.specs.Prelude.{Bool, ◌≡◌, Some, None, is_some}
use mathlib.Core.Bool.{true, false}
use mathlib.Core.Path.{refl}
use Rattle.model.specs.Words.{◌when◌else◌}

pub given_when : {A : Type 0} (x : A) (test : Bool) → is_some (Some x when test else None) ≡ test
given_when x true = refl
given_when x false = refl
