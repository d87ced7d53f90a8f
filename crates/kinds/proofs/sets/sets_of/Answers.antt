-- `kinds::sets::sets_of` meets its contract: what the library folds from the last command on is the two sets.
-- Assumes nothing.
use Rattle.std.proofs.Common.{rules, ap, ◌∙◌}
use Rattle.std.proofs.lemmas.Iterator.Adapters.{YieldsList-from_rev_slice}
use Rattle.std.proofs.lemmas.Iterator.Consumers.{fold_from_yields_List}
use Rattle.kinds.specs.Sets.{with_command}
use Rattle.kinds.proofs.Commands.{sets_folded}
use Rattle.kinds.proofs.sets.sets_of.Goals as goal

pub returns : goal.returns
returns c =
    let a = c.args in
    rw (fold_from_yields_List _ (with_command a.kind) _ _ c.fold.ensures.ran
    (YieldsList-from_rev_slice a.commands.now (ap (λ i. i.rest.now) c.rev.ensures.source ∙ c.iter.ensures.rest)) (λ s x b q h. search rules))
    (sets_folded a.kind a.commands.now)
