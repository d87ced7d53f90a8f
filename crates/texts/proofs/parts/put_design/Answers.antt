-- `texts::parts::put_design` meets its contract: the design's own line, then its access list. Assumes nothing.
use Rattle.model.specs.Lines.{lines_d}
use Rattle.lines.specs.Lines.{text_of}
use Rattle.lines.proofs.Texts.{put_said, line_room}
use Rattle.texts.specs.Parts.{people_in, design_in}
use Rattle.texts.proofs.Growing.{Growing, none_put, part_room, part_put, last_room, last_put}
use Rattle.texts.proofs.Lines.{design_text, design_lines, design_said}
use mathlib.Core.Path.{◌≡◌, refl}
use Rattle.texts.specs.Parts.{access_text}
use Rattle.texts.proofs.parts.put_design.Goals.{After-line_d, After-put-end, Start}
use Rattle.texts.proofs.parts.put_design.Goals as goal

-- the line that is built is the design's
said : (c : After-line_d) → text_of c.line_d.result ≡ design_text (design_in c.args.design.now)
said c = design_said (design_in c.args.design.now) c.line_d.ensures c.code.ensures c.kind.ensures

pub put-end-requires : goal.put-end-requires
put-end-requires c =
    let a = c.args in
    line_room (said c) a.at a.text.now (part_room (none_put _ _ _ c.requires.1) _ _ (design_lines (people_in a.roster.now) (design_in a.design.now)))

-- the access list is left
left : (c : After-put-end)
    → let a = c.args in
    let people = people_in a.roster.now in
    let d = design_in a.design.now in
    Growing (lines_d people d) a.at a.text.now (access_text people d.cells) c.put-end.result c.put-end.new.text
left c =
    let a = c.args in
    part_put (none_put _ _ _ c.requires.1) _ _ (design_lines (people_in a.roster.now) (design_in a.design.now)) (put_said c.put-end.ensures (design_said (design_in a.design.now) c.line_d.ensures c.code.ensures c.kind.ensures))

pub put_access-requires : goal.put_access-requires
put_access-requires c = last_room (left (goal.at.put_access-requires c).After-put-end) _ refl

pub returns : goal.returns
returns c = last_put (left (goal.at.returns c).After-put-end) _ refl c.put_access.ensures
