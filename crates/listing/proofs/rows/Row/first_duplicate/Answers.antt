-- `listing::rows::Row::first_duplicate` meets its contract: the place that the library finds is the definition's.
-- Assumes nothing.
use Rattle.std.proofs.Common.{rules, ◌&&◌, ◌∙◌}
use Rattle.std.proofs.lemmas.Iterator.{YieldsList-from_slice}
use Rattle.std.proofs.lemmas.Iterator.Search.{position_from_yields_List}
use Rattle.model.specs.Listing.{fires, is_duplicate, first_duplicate, has_duplicate}
use Rattle.laws.proofs.Lists.{position_is}
use Rattle.listing.proofs.rows.Row.first_duplicate.Goals as goal

pub returns : goal.returns
unfolding first_duplicate has_duplicate
returns c =
    let a = c.args in
    position_from_yields_List (λ x. fires a.kind x a.self.cells && is_duplicate a.both x a.self.cells) _ _ _ c.position.ensures.ran
    (YieldsList-from_slice a.commands.now c.iter.ensures.rest) (λ x b q h. search rules)
    ∙ position_is (λ x. fires a.kind x a.self.cells && is_duplicate a.both x a.self.cells) a.commands.now
