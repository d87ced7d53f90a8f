-- `texts::parts::put_answers` meets its contract: what is left of the answers begins with the next. Assumes nothing.
use native.Mathlib.Omega.{arith}
use mathlib.Core.Path.{◌≡◌}
use Rattle.lines.specs.Lines.{text_of}
use Rattle.lines.proofs.Texts.{put_said, line_room}
use Rattle.texts.proofs.Growing.{part_room, part_put}
use Rattle.texts.proofs.Lines.{answer_text, answers_left, answer_said}
use Rattle.texts.proofs.parts.put_answers.Goals.{After-line_r}
use Rattle.texts.proofs.parts.put_answers.Goals as goal

-- the line that is built is the answer's
said : (c : After-line_r) → text_of c.line_r.result ≡ answer_text c.args.answers.now c.loop-i.i
said c = answer_said c.args.answers.now c.loop-i.i c.line_r.ensures c.from.ensures

pub put-end-requires : goal.put-end-requires
put-end-requires c =
    let here = c.loop-i in
    line_room (said c) here.end here.text (part_room here.invariant _ _ (answers_left c.args.answers.now here.i (omega arith)))

pub loop-i-preserved : goal.loop-i-preserved
loop-i-preserved c =
    let here = c.loop-i in
    part_put here.invariant _ _ (answers_left c.args.answers.now here.i (omega arith)) (put_said c.put-end.ensures (said (goal.at.loop-i-preserved c).After-line_r))
