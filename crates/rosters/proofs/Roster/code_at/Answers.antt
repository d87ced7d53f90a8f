-- `Roster::code_at` meets its contract: the record's code is the person's.
-- Assumes nothing.
use mathlib.Core.Path.{sym, ap, ◌∙◌}
use Rattle.model.specs.Codes.{unpacked}
use Rattle.rosters.proofs.People.{code_is}
use Rattle.rosters.proofs.Roster.code_at.Goals as goal

pub returns : goal.returns
returns c count l = ap unpacked c.code_in.ensures ∙ sym (code_is count _ _ l)
