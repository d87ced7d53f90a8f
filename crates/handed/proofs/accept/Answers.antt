-- `handed::accept`: what the scheme and the roster that were let pass tell of their counts.
-- Assumes nothing.
use Rattle.std.proofs.Common.{rules, ◌≡◌, ◌≤◌}
use Rattle.model.specs.Schemes.{scheme_number}
use Rattle.schemes.specs.Loads.{scheme_in}
use Rattle.handed.specs.Handing.{handed_by}
use Rattle.handed.proofs.Numbers.{rights_few}
use Rattle.handed.proofs.accept.Goals as goal

pub check_store-requires : goal.check_store-requires
check_store-requires c =
    let a = c.args in
    let scheme : 0 ≡ scheme_number (scheme_in a.scheme.now) = search rules in
    let people : a.people ≤ 32 = search rules in
    (rights_few (handed_by a.scheme.now a.people a.roster.now a.store.now) scheme, people, c.requires.1)
