-- `ribalonga::verdict_of_design` meets its contract as `verdicts::calls::verdict_of_design` does: a loaded scheme is one with the lent list. Assumes nothing.
use Rattle.model.specs.Outcomes.{scheme_from, question_from}
use Rattle.laws.proofs.Invalid.{verdict_of_design_as_one}
use Rattle.ribalonga.proofs.Loaded.{loaded_as_one}
use Rattle.ribalonga.proofs.verdict_of_design.Goals as goal

pub returns : goal.returns
returns c =
    let a = c.args in
    let one = loaded_as_one c.load-l.result a.commands.now a.types a.kinds a.rights c.load-l.ensures in
    rw c.into.ensures
    (verdict_of_design_as_one _ (scheme_from a.commands.now a.types a.kinds a.rights) one
    a.roster.now a.people a.store.now a.code.now (question_from a.person_type a.right a.budget) a.table.now _ _ c.verdict_of_design.ensures)
