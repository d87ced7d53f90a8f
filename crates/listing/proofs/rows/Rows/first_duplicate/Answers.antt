-- `listing::rows::Rows::first_duplicate` meets its contract: the place among the rows is the place that the library finds among their numbers.
-- Assumes nothing.
use Rattle.std.proofs.Common.{rules, arith, [], get_or, refl, ◌∙◌}
use Rattle.std.proofs.lemmas.Iterator.{YieldsList-from_range}
use Rattle.std.proofs.lemmas.Iterator.Search.{position_from_yields_List}
use Rattle.model.specs.Listing.{has_duplicate}
use Rattle.laws.proofs.Lists.{length-groups}
use Rattle.listing.specs.Tables.{rows_of}
use Rattle.listing.proofs.Firsts.{position_by_place}
use Rattle.listing.proofs.rows.Rows.first_duplicate.Goals as goal

pub returns : goal.returns
returns c =
    let rows = c.args.self.now in
    position_from_yields_List (λ i. has_duplicate c.args.both c.args.commands.now c.args.kind (get_or (rows_of rows) i [])) _ _ _ c.position.ensures.ran
    (YieldsList-from_range 0 rows.count rows.count refl (omega arith)) (λ x b q h. search rules)
    ∙ position_by_place (has_duplicate c.args.both c.args.commands.now c.args.kind) [] (rows_of rows) rows.count (length-groups 8 rows.count rows.table.now)
