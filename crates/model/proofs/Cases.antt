-- P1 to P12, and what the shortcuts would change, by computation on the definitions.
-- Assumes nothing.
use mathlib.Core.Path.{refl}
use Rattle.model.specs.Cases.{cases, shortcuts, Hold}
use Rattle.model.proofs.Computes.{computes}

pub cases_hold : Hold cases
unfolding computes
cases_hold = refl

pub shortcuts_shut_out : Hold shortcuts
unfolding computes
shortcuts_shut_out = refl
