-- `Roster::type_at` meets its contract: a person's first word is the type.
-- Assumes nothing.
use mathlib.Core.Path.{sym}
use Rattle.rosters.proofs.People.{type_is}
use Rattle.rosters.proofs.Roster.type_at.Goals as goal

pub returns : goal.returns
returns c count l = sym (type_is count _ _ l)
