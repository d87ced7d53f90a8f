-- `Store::design` meets its contract: the words that are lent on are the design's.
-- Assumes nothing.
use mathlib.Core.Path.{◌≡◌}
use Prim.Native.Nat.{◌+◌, ◌-◌, ◌*◌}
use native.Mathlib.Omega.{arith}
use Rattle.stores.proofs.Designs.{design_is}
use Rattle.stores.proofs.Store.design.Goals as goal

pub returns : goal.returns
returns c =
    let at = c.args.place * 36 + 1 in
    let width : at + 36 - at ≡ 36 = omega arith in
    rw width (design_is c.args.self.now.words.now c.args.place c.requires)
