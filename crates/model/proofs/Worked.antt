-- The worked batch and the verdict on scheme A come out of the definitions by computation.
-- Assumes nothing.
use mathlib.Core.Path.{refl}
use Rattle.model.specs.Worked.{WorkedBatch, VerdictOnA, CutShort}
use Rattle.model.proofs.Computes.{computes}

pub worked_batch : WorkedBatch
unfolding computes
worked_batch = refl

pub verdict_on_a : VerdictOnA
unfolding computes
verdict_on_a = refl

pub cut_short : CutShort
unfolding computes
cut_short = refl
