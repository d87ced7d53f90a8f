-- `texts::verdict::put_types` meets its contract: what is left of the types begins with the next. Assumes nothing.
use mathlib.Core.Path.{◌≡◌}
use Rattle.model.specs.Lines.{line_t}
use Rattle.listing.specs.Tables.{rows_of}
use Rattle.lines.specs.Lines.{text_of}
use Rattle.lines.proofs.Texts.{put_said, line_room}
use Rattle.texts.proofs.Growing.{part_room, part_put}
use Rattle.texts.proofs.Creates.{types_left, type_said}
use Rattle.texts.proofs.verdict.put_types.Goals.{After-line_t}
use Rattle.texts.proofs.verdict.put_types.Goals as goal

-- the line that is built is the type's
said : (c : After-line_t) → text_of c.line_t.result ≡ line_t (rows_of c.args.rows.now) c.loop-t.t
said c = type_said (rows_of c.args.rows.now) c.loop-t.t _ c.line_t.ensures c.union_at.ensures

pub put-end-requires : goal.put-end-requires
put-end-requires c =
    let here = c.loop-t in
    line_room (said c) here.end here.text (part_room here.invariant _ _ (types_left (rows_of c.args.rows.now) c.args.types here.t c.loop-t-test.true))

pub loop-t-preserved : goal.loop-t-preserved
loop-t-preserved c =
    let here = c.loop-t in
    part_put here.invariant _ _ (types_left (rows_of c.args.rows.now) c.args.types here.t c.loop-t-test.true)
    (put_said c.put-end.ensures (said (goal.at.loop-t-preserved c).After-line_t))
