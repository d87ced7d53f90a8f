-- `ribalonga::run_batch` meets its contract as `requests::batch::run_batch` does: a loaded scheme is one with the lent list. Assumes nothing.
use Rattle.model.specs.Outcomes.{scheme_from}
use Rattle.laws.proofs.Invalid.{run_batch_as_one}
use Rattle.ribalonga.proofs.Loaded.{loaded_as_one}
use Rattle.ribalonga.proofs.run_batch.Goals as goal

pub returns : goal.returns
returns c =
    let a = c.args in
    let one = loaded_as_one c.load-l.result a.commands.now a.types a.kinds a.rights c.load-l.ensures in
    rw c.into.ensures
    (run_batch_as_one _ (scheme_from a.commands.now a.types a.kinds a.rights) one
    a.roster.now a.people a.store.now a.card.now a.answers.now _ _ _ c.run_batch.ensures)
