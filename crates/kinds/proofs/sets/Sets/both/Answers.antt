-- `kinds::sets::Sets::both` meets its contract: the body is the definition, at the two sets.
-- Assumes nothing.
use Rattle.std.proofs.Common.{◌∙◌}
use Rattle.model.specs.Kinds.{both}
use Rattle.kinds.proofs.sets.Sets.both.Goals as goal

pub returns : goal.returns
unfolding both
returns c commands kind known = c.common.ensures ∙ rw (known.propagation_is, known.deletable_is)
