-- The mill's schemes pass the scheme check, by computation; C is A with one field changed.
-- Assumes nothing.
use mathlib.Core.List.{[], ◌∷◌, map}
use mathlib.Core.Path.{◌≡◌, refl}
use Rattle.model.specs.Schemes.{scheme_number}
use Rattle.model.specs.Mill.{scheme_a, scheme_b, scheme_c}
use Rattle.model.proofs.Computes.{computes}

pub valid : map scheme_number (scheme_a ∷ scheme_b ∷ scheme_c ∷ []) ≡ 0 ∷ 0 ∷ 0 ∷ []
unfolding computes
valid = refl
