-- `texts::batch::put_run` meets its contract: three parts, one behind the other. Assumes nothing.
use Rattle.lines.proofs.Texts.{put-put, put_said}
use Rattle.texts.proofs.batch.put_run.Goals as goal

pub returns : goal.returns
returns c = put-put (put-put c.put_answers-answered.ensures c.put_designs-shown.ensures) (put_said c.put.ensures c.line_e.ensures)
