-- `kinds::sets::first_not_normal` meets its contract: the place that the library finds is the definition's.
-- Assumes nothing.
use Rattle.std.proofs.Common.{rules, not, ◌&&◌, sym, ◌∙◌}
use Rattle.std.proofs.lemmas.Iterator.{YieldsList-from_slice}
use Rattle.std.proofs.lemmas.Iterator.Search.{position_from_yields_List}
use Rattle.model.specs.Rights.{within, common}
use Rattle.model.specs.Kinds.{is_step}
use Rattle.laws.proofs.Lists.{position_is}
use Rattle.kinds.proofs.Commands.{first_by_set}
use Rattle.kinds.proofs.sets.first_not_normal.Goals as goal

pub returns : goal.returns
returns c =
    let a = c.args in
    rw (sym (first_by_set a.commands.now a.kind a.set c.requires))
    (position_from_yields_List (λ x. is_step a.kind x && not (within (common x.y a.set) x.x)) _ _ _ c.position.ensures.ran
    (YieldsList-from_slice a.commands.now c.iter.ensures.rest) (λ x b q h. search rules)
    ∙ position_is (λ x. is_step a.kind x && not (within (common x.y a.set) x.x)) a.commands.now)
