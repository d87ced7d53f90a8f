-- `ribalonga::verdict_of_create` meets its contract as `verdicts::calls::verdict_of_create` does: a loaded scheme is one with the lent list. Assumes nothing.
use Rattle.model.specs.Outcomes.{scheme_from, question_from}
use Rattle.laws.proofs.Invalid.{verdict_of_create_as_one}
use Rattle.ribalonga.proofs.Loaded.{loaded_as_one}
use Rattle.ribalonga.proofs.verdict_of_create.Goals as goal

pub returns : goal.returns
returns c =
    let a = c.args in
    let one = loaded_as_one c.load-l.result a.commands.now a.types a.kinds a.rights c.load-l.ensures in
    rw c.into.ensures
    (verdict_of_create_as_one _ (scheme_from a.commands.now a.types a.kinds a.rights) one
    a.command (question_from a.person_type a.right a.budget) a.table.now _ _ c.verdict_of_create.ensures)
