-- `verdicts::calls::verdict_of_design`: what is refused, in its order, and else the verdict from the design.
-- Assumes nothing.
use Rattle.std.proofs.Common.{rules, ◌≡◌, ◌∙◌, refl, sym, ap₂, subst}
use Rattle.model.specs.declared.refusal.Refusal.TheVariants.{OutOfRange}
use Rattle.model.specs.Stores.{design_of, design_at}
use Rattle.model.specs.Rosters.{roster_of}
use Rattle.model.specs.Verdicts as asked
use Rattle.model.specs.Verdicts.{start_of_design}
use Rattle.model.specs.Answers.{judged}
use Rattle.model.specs.Outcomes.{Handed, designs_in, handed_number}
use Rattle.schemes.specs.Loads.{listed}
use Rattle.handed.specs.Handing.{handed_by}
use Rattle.verdicts.specs.Asking.{question_by, Answered}
use Rattle.verdicts.proofs.Asked.{askable, handed_valid, design_refused, design_answered, design_no_room, design_not_handed, design_out, design_named}
use Rattle.verdicts.proofs.calls.verdict_of_design.Goals.{Start}
use Rattle.verdicts.proofs.calls.verdict_of_design.Goals as goal

-- what is handed over
abbrev handed : Start → Handed
handed c = handed_by c.args.l.now c.args.people c.args.roster.now c.args.store.now

pub returns-in_err-rooms : goal.returns-in_err-rooms
returns-in_err-rooms c =
    let h = handed (goal.at.returns-in_err-rooms c).Start in
    design_refused h c.args.code.now (question_by c.args.q.now) c.args.table.now c.from_residual.result c.in_err-rooms.field-0.0 (search rules)
    (design_no_room h c.args.code.now (question_by c.args.q.now) c.args.table.now c.in_err-rooms.field-0.0 (search rules))

pub returns-in_err-handed : goal.returns-in_err-handed
returns-in_err-handed c =
    let h = handed (goal.at.returns-in_err-handed c).Start in
    design_refused h c.args.code.now (question_by c.args.q.now) c.args.table.now c.from_residual-in_err-handed.result c.in_err-handed.field-0.0 (search rules)
    (design_not_handed h c.args.code.now (question_by c.args.q.now) c.args.table.now (search rules) c.in_err-handed.field-0.0 (search rules))

pub returns-then-not-is_in_range : goal.returns-then-not-is_in_range
returns-then-not-is_in_range c =
    let h = handed (goal.at.returns-then-not-is_in_range c).Start in
    design_refused h c.args.code.now (question_by c.args.q.now) c.args.table.now _ OutOfRange refl
    (design_out h c.args.code.now (question_by c.args.q.now) c.args.table.now (search rules) (search rules) (sym c.is_in_range.ensures ∙ c.if-not-is_in_range.true))

pub returns-in_err-design : goal.returns-in_err-design
returns-in_err-design c =
    let h = handed (goal.at.returns-in_err-design c).Start in
    design_refused h c.args.code.now (question_by c.args.q.now) c.args.table.now c.from_residual-in_err-design.result c.in_err-design.field-0.0 (search rules)
    (design_named h c.args.code.now (question_by c.args.q.now) c.args.table.now (search rules) (search rules) (sym c.is_in_range.ensures ∙ c.if-not-is_in_range.false) _ (search rules))

pub from_design-requires : goal.from_design-requires
from_design-requires c =
    let h = handed (goal.at.from_design-requires c).Start in
    let zero : handed_number h ≡ 0 = search rules in
    askable c.args.l.now (handed_valid h zero) c.in_ok-handed.ensures.kept c.args.q.now c.args.table.now (sym c.is_in_range.ensures ∙ c.if-not-is_in_range.false)

pub returns : goal.returns
returns c =
    let h = handed (goal.at.returns c).Start in
    let there : design_of c.in_ok-design.design.words.now ≡ design_at c.args.code.now (designs_in h) = search rules in
    let many : c.in_ok-handed.handed.roster.people ≡ c.args.people = search rules in
    let words : c.in_ok-handed.handed.roster.words.now ≡ c.args.roster.now = search rules in
    let people = ap₂ roster_of many words in
    design_answered h c.args.code.now (question_by c.args.q.now) c.args.table.now
    (design_named h c.args.code.now (question_by c.args.q.now) c.args.table.now (search rules) (search rules) (sym c.is_in_range.ensures ∙ c.if-not-is_in_range.false) 0 (search rules))
    (subst (λ (s : asked.Start). Answered (listed c.args.l.now) s (question_by c.args.q.now) c.args.table.now (judged c.from_design.result) c.from_design.new.table)
    (ap₂ (start_of_design (listed c.args.l.now)) people there) c.from_design.ensures)
