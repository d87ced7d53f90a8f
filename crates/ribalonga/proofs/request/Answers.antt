-- `ribalonga::request` meets its contract as `requests::request` does: a loaded scheme is one with the lent list. Assumes nothing.
use Rattle.model.specs.Outcomes.{scheme_from, request_from}
use Rattle.laws.proofs.Invalid.{request_as_one}
use Rattle.ribalonga.proofs.Loaded.{loaded_as_one}
use Rattle.ribalonga.proofs.request.Goals as goal

pub returns : goal.returns
returns c =
    let a = c.args in
    let one = loaded_as_one c.load-l.result a.commands.now a.types a.kinds a.rights c.load-l.ensures in
    rw c.number_given.ensures
    (request_as_one _ (scheme_from a.commands.now a.types a.kinds a.rights) one
    a.roster.now a.people a.store.now (request_from a.command a.source a.destination a.code.now) _ _ c.request.ensures)
