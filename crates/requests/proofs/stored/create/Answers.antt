-- `requests::stored::create` meets its contract: the count is one more, and the place behind the last design holds the new one.
-- Assumes nothing.
use borrow.Author.Rules.{rules}
use Prim.Native.Nat.{◌+◌, ◌-◌, ◌*◌}
use mathlib.Core.Path.{◌≡◌}
use native.Mathlib.Omega.{arith}
use lib.ListN.{get_or, length-set}
use Rattle.laws.proofs.Stores.{store_length}
use Rattle.requests.proofs.Storing.{created_words}
use Rattle.requests.proofs.stored.create.Goals as goal

pub slice_bounds-write_design-end : goal.slice_bounds-write_design-end
slice_bounds-write_design-end c = simp length-set (omega (arith, store_length c.args.store.now))

pub returns : goal.returns
returns c =
    let n = get_or c.args.store.now 0 0 in
    let at : n * 36 + 1 ≡ 1 + n * 36 = omega arith in
    let size : n * 36 + 1 + 36 - (n * 36 + 1) ≡ 36 = omega arith in
    created_words c.args.store.now (λ i. search rules) c.requires.0 c.requires.1 _ _ _ _
    c.pack.ensures _ _ _ at size c.write_design.ensures
