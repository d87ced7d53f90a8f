-- `schemes::Loaded::is_valid` meets its contract: what is left open is that a scheme has as many commands as it counts.
-- Assumes nothing.
use Rattle.std.proofs.Common.{rules}
use Rattle.schemes.proofs.Loads.{listed-length}
use Rattle.schemes.proofs.Loaded.is_valid.Goals as goal

pub returns-then-is_within_sizes-clause-counted : goal.returns-then-is_within_sizes-clause-counted
returns-then-is_within_sizes-clause-counted c = listed-length c.args.self.now (search rules)

pub returns-else-is_within_sizes-clause-counted : goal.returns-else-is_within_sizes-clause-counted
returns-else-is_within_sizes-clause-counted c = listed-length c.args.self.now (search rules)
