-- `questions::may_use`: the cell that is asked for, or why there is none. Assumes nothing.
use Rattle.std.proofs.Common.{rules}
use Rattle.handed.specs.Handing.{handed_by}
use Rattle.questions.proofs.Asked.{may_refused, may_answered}
use Rattle.questions.proofs.may_use.Goals as goal

pub returns-in_err-cell : goal.returns-in_err-cell
returns-in_err-cell c =
    may_refused _ c.args.person c.args.right c.args.code.now c.from_residual.result c.in_err-cell.field-0.0 (search rules) (search rules)

pub returns : goal.returns
returns c =
    may_answered (handed_by c.args.l.now c.args.people c.args.roster.now c.args.store.now) c.args.person c.args.right c.args.code.now
    (search rules) c.has.result (search rules)
