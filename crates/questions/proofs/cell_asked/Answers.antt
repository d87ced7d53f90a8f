-- `questions::cell_asked`: the cell is the named design's, and a right of the scheme's is one of a set. Assumes nothing.
use Rattle.std.proofs.Common.{rules, arith, ap, ◌≡◌, ◌∙◌}
use Rattle.model.specs.Stores.{Design, design_of, design_at}
use Rattle.model.specs.Forms.{cell_at}
use Rattle.model.specs.Outcomes.{handed_number, designs_in}
use Rattle.handed.specs.Handing.{handed_by}
use Rattle.questions.proofs.Asked.{right_below}
use Rattle.questions.proofs.cell_asked.Goals as goal

pub returns-clause-cell : goal.returns-clause-cell
returns-clause-cell c =
    let a = c.args in
    let h = handed_by a.l.now a.people a.roster.now a.store.now in
    let zero : handed_number h ≡ 0 = search rules in
    let there : design_of c.in_ok-design.design.words.now ≡ design_at a.code.now (designs_in h) = search rules in
    (c.cell.ensures ∙ ap (λ (d : Design). cell_at d.cells a.person) there, right_below h a.person a.right a.code.now zero (omega arith))
