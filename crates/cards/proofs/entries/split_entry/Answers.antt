-- `cards::entries::split_entry` meets its contract: the fixed bytes and the code are the entry, whose size is theirs. Assumes nothing.
use native.Mathlib.Omega.{arith}
use Rattle.cards.proofs.Filling.{whole_entry}
use Rattle.cards.proofs.entries.split_entry.Goals as goal

pub returns : goal.returns
returns g c =
    let (fixed, rest, room) = c.in_ok-fixed.ensures.cases in
    whole_entry _ _ c.requires (omega arith) _ _ _ _ _ fixed rest (omega arith) c.in_ok-code.ensures.cases
