-- `verdicts::calls::verdict_of_create`: what is refused, in its order, and else the verdict from the create.
-- Assumes nothing.
use Rattle.std.proofs.Common.{rules, ◌∙◌, refl, sym}
use Rattle.model.specs.declared.refusal.Refusal.TheVariants.{OutOfRange}
use Rattle.model.specs.Schemes.{command_at}
use lib.Dec.{ltb}
use lib.ListN.{length}
use Rattle.model.specs.declared.Command.{Command}
use Rattle.std.proofs.lemmas.Option.{cond_some}
use Rattle.schemes.specs.Loads.{listed, scheme_in}
use Rattle.verdicts.specs.Asking.{question_by}
use Rattle.verdicts.proofs.Asked.{valid_by, not_there, askable, create_refused, create_answered, create_invalid, create_out, create_other, create_in}
use Rattle.verdicts.proofs.calls.verdict_of_create.Goals as goal

pub returns-in_err-check : goal.returns-in_err-check
returns-in_err-check c =
    create_refused _ _ _ _ c.from_residual.result c.in_err-check.field-0.0 (search rules)
    (create_invalid (scheme_in c.args.l.now) c.args.command (question_by c.args.q.now) c.args.table.now c.in_err-check.field-0.0 (search rules))

pub returns-then-not-is_in_range : goal.returns-then-not-is_in_range
returns-then-not-is_in_range c =
    create_refused (scheme_in c.args.l.now) c.args.command (question_by c.args.q.now) c.args.table.now _ OutOfRange refl
    (create_out (scheme_in c.args.l.now) c.args.command (question_by c.args.q.now) c.args.table.now c.in_ok-check.ensures.number
    (sym c.is_in_range.ensures ∙ c.if-not-is_in_range.true))

pub from_create-requires : goal.from_create-requires
from_create-requires c =
    askable c.args.l.now (valid_by (scheme_in c.args.l.now) (sym c.in_ok-check.ensures.number)) c.in_ok-check.ensures.kept c.args.q.now c.args.table.now
    (sym c.is_in_range.ensures ∙ c.if-not-is_in_range.false)

pub returns-in-Some : goal.returns-in-Some
returns-in-Some c =
    let s = scheme_in c.args.l.now in
    let (there, same) = cond_some (ltb c.args.command (length (listed c.args.l.now))) (command_at s c.args.command) c.in-Some.c (sym c.command.ensures ∙ c.in-Some.is) in
    create_answered s c.args.command (question_by c.args.q.now) c.args.table.now
    (create_in s c.args.command (question_by c.args.q.now) c.args.table.now c.in_ok-check.ensures.number (sym c.is_in_range.ensures ∙ c.if-not-is_in_range.false)
    (rw (there, same) (sym c.is_create.ensures ∙ c.if-is_create.true)))
    (rw same c.from_create.ensures)

pub returns-in_default : goal.returns-in_default
returns-in_default c =
    let s = scheme_in c.args.l.now in
    let (there, same) = cond_some (ltb c.args.command (length (listed c.args.l.now))) (command_at s c.args.command) c.in-Some.c (sym c.command.ensures ∙ c.in-Some.is) in
    create_refused s c.args.command (question_by c.args.q.now) c.args.table.now _ OutOfRange refl
    (create_other s c.args.command (question_by c.args.q.now) c.args.table.now c.in_ok-check.ensures.number (sym c.is_in_range.ensures ∙ c.if-not-is_in_range.false)
    (rw (there, same) (sym c.is_create.ensures ∙ c.if-is_create.false)))

pub returns-in_default-2 : goal.returns-in_default-2
returns-in_default-2 c =
    let s = scheme_in c.args.l.now in
    create_refused s c.args.command (question_by c.args.q.now) c.args.table.now _ OutOfRange refl
    (create_other s c.args.command (question_by c.args.q.now) c.args.table.now c.in_ok-check.ensures.number (sym c.is_in_range.ensures ∙ c.if-not-is_in_range.false)
    (rw (not_there {A = Command} (ltb c.args.command (length (listed c.args.l.now))) _ _ c.command.ensures c.in_default.is) refl))
