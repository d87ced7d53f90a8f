-- `ribalonga::read_roster` meets its contract as `readers::read_roster` does: a loaded scheme is one with the lent list. Assumes nothing.
use Rattle.model.specs.Outcomes.{scheme_from}
use Rattle.laws.proofs.Invalid.{read_roster_as_one}
use Rattle.ribalonga.proofs.Loaded.{loaded_as_one}
use Rattle.ribalonga.proofs.read_roster.Goals as goal

pub returns : goal.returns
returns c =
    let a = c.args in
    let one = loaded_as_one c.load.result a.commands.now a.types a.kinds a.rights c.load.ensures in
    rw c.into.ensures
    (read_roster_as_one _ (scheme_from a.commands.now a.types a.kinds a.rights) one
    a.card.now a.roster.now _ _ c.read_roster.ensures)
