-- `Line::number`: as many figures as the number's power of ten tells. Assumes nothing.
use Rattle.std.proofs.Common.{append_assoc, ◌≤◌, rules}
use Rattle.lines.specs.Lines.{text_of}
use Rattle.lines.proofs.Figures.{few_figures, decimal_digits}
use Rattle.lines.proofs.line.Line.number.Goals as goal

pub digits-requires : goal.digits-requires
digits-requires c =
    let few : c.ilog10-width.result ≤ 3 = few_figures c.args.n _ c.max.ensures c.requires.0 _ c.ilog10-width.ensures.power_le in
    search rules

pub returns-clause-text : goal.returns-clause-text
returns-clause-text c =
    let power = c.ilog10-width.ensures in
    rw (decimal_digits c.args.n _ c.max.ensures c.requires.0 _ power.power_le power.next_power_gt, c.digits.ensures.text, c.push.ensures.text)
    (append_assoc (text_of c.args.self) _ _)

pub returns-clause-room : goal.returns-clause-room
returns-clause-room c =
    let few : c.ilog10-width.result ≤ 3 = few_figures c.args.n _ c.max.ensures c.requires.0 _ c.ilog10-width.ensures.power_le in
    search rules
