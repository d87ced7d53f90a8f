-- P1 to P12, one statement over one table. The table stands in `model`, so that an edit of a definition is refused by it there.
-- Assumes nothing.
use Rattle.model.specs.Cases.{cases, Hold}
use Rattle.model.proofs.Cases.{cases_hold}

pub p1_to_p12 : Hold cases
p1_to_p12 = cases_hold
