-- `texts::parts::put_access` meets its contract: what is left of the access list begins with the next person. Assumes nothing.
use Rattle.texts.specs.Parts.{people_in, design_in}
use Rattle.texts.proofs.Growing.{part_room, part_put}
use Rattle.texts.proofs.Lines.{access_left}
use Rattle.texts.proofs.parts.put_access.Goals as goal

pub put_person-end-requires : goal.put_person-end-requires
put_person-end-requires c =
    let a = c.args in
    (c.loop-p-test.true, part_room c.loop-p.invariant _ _ (access_left (people_in a.roster.now) (design_in a.design.now).cells a.roster.now.people c.loop-p.p c.loop-p-test.true))

pub loop-p-preserved : goal.loop-p-preserved
loop-p-preserved c =
    let a = c.args in
    part_put c.loop-p.invariant _ _ (access_left (people_in a.roster.now) (design_in a.design.now).cells a.roster.now.people c.loop-p.p c.loop-p-test.true) c.put_person-end.ensures
