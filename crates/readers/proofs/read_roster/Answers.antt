-- `readers::read_roster` meets its contract: one law for each exit. Assumes nothing.
use native.Mathlib.Omega.{arith}
use Rattle.std.proofs.lemmas.Result.{err_from_is_err_and}
use Rattle.readers.proofs.Exits.{no_room, card_refused, card_read}
use Rattle.readers.proofs.read_roster.Goals as goal

pub returns-then-roster-lt-ROSTER_ROOM : goal.returns-then-roster-lt-ROSTER_ROOM
returns-then-roster-lt-ROSTER_ROOM c = no_room _ _ _ c.if-roster-lt-ROSTER_ROOM.true

pub returns-in_err-people : goal.returns-in_err-people
returns-in_err-people c =
    let p = err_from_is_err_and c.from_residual.result c.from_residual.ensures.1 in
    rw (p.1, p.2) (card_refused _ _ _ c.if-roster-lt-ROSTER_ROOM.false _ c.in_err-people.ensures.number)

pub returns : goal.returns
returns c = card_read _ _ _ c.if-roster-lt-ROSTER_ROOM.false c.in_ok-people.ensures.number _ (omega arith) _ c.read_people.ensures
