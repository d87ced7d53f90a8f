-- `kinds::overlap::overlaps` meets its contract: the two ranges go over everybody.
-- Assumes nothing.
use Rattle.std.proofs.Common.{rules, arith, tests, ◌∙◌, sym, refl}
use Rattle.std.proofs.lemmas.Iterator.{YieldsList-from_range}
use Rattle.std.proofs.lemmas.Iterator.Search.{any_from_yields_List}
use Rattle.model.specs.Rosters.{roster_of}
use Rattle.rosters.proofs.People.{length-roster}
use Rattle.kinds.specs.Designs.{clashes}
use Rattle.kinds.proofs.People.{overlaps_by}
use Rattle.kinds.proofs.overlap.overlaps.Goals as goal

pub returns : goal.returns
returns c commands kind e =
    let r = c.args.roster.now in
    let people = roster_of r.people r.words.now in
    any_from_yields_List (clashes c.args.set r.people people c.args.cells.now) _ _ _ c.any.ensures.ran
    (YieldsList-from_range 0 r.people r.people refl (omega arith)) (λ x b q k. search (rules, tests))
    ∙ overlaps_by c.args.set people c.args.cells.now commands kind r.people e (sym (length-roster r.people r.words.now))
