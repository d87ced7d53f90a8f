-- `codes::unpadded` meets its contract: the last byte that isn't zero ends what is left.
-- Assumes nothing.
use Rattle.std.proofs.Common.{rules, sym}
use Rattle.codes.proofs.Unpadding.{unpadded_none, unpadded_at_last}
use Rattle.codes.proofs.unpadded.Goals as goal

pub returns-in-Some : goal.returns-in-Some
returns-in-Some c = sym (unpadded_at_last c.args.bytes.now c.in-Some.last (search rules) (search rules) (search rules))

pub returns-in-None : goal.returns-in-None
returns-in-None c = sym (unpadded_none c.args.bytes.now (search rules))
