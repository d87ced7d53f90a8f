-- `listing::rows::Rows::has_row` meets its contract. The outer invariant: none of the rows passed is this one. The inner one: the words passed agree.
-- Assumes nothing.
use Prim.Native.Nat.{◌*◌}
use mathlib.Core.Path.{◌≡◌, refl, sym, ◌∙◌}
use native.Mathlib.Omega.{arith}
use borrow.Author.Rules.{rules}
use lib.ListN.{take, drop}
use Rattle.listing.proofs.Compared.{read_at, read_length, agree_more, agree_whole, one_differs, not_yet, is_there}
use Rattle.listing.proofs.rows.Rows.has_row.Goals as goal

pub rows-init : goal.rows-init
rows-init c = (omega arith, search rules, refl)

pub loop-k-init : goal.loop-k-init
loop-k-init c = (refl, omega arith, refl)

pub rows-preserved : goal.rows-preserved
rows-preserved c =
    let l = c.loop-k in
    let r = c.rows in
    let a = c.args in
    let at = r.i * 8 in
    let here = one_differs a.row.cells (take 8 (drop at a.self.now.table.now)) l.k
    (λ e. c.if-self-at.true (sym (read_at a.self.now.table.now at l.k (omega arith)) ∙ e)) in
    (omega arith, r.invariant.1, not_yet a.row.cells a.self.now.table.now r.i r.invariant.2 here)

pub loop-k-preserved : goal.loop-k-preserved
loop-k-preserved c =
    let l = c.loop-k in
    let r = c.rows in
    let a = c.args in
    let at = r.i * 8 in
    let n = read_length a.self.now.table.now at (omega arith) in (
      l.invariant.0,
      omega arith,
      agree_more a.row.cells (take 8 (drop at a.self.now.table.now)) l.k (omega arith) (omega arith) l.invariant.2
          (read_at a.self.now.table.now at l.k (omega arith) ∙ c.if-self-at.false),
    )

pub returns-in-rows : goal.returns-in-rows
returns-in-rows c =
    let l = c.loop-k in
    let r = c.rows in
    let a = c.args in
    let at = r.i * 8 in
    let n = read_length a.self.now.table.now at (omega arith) in
    sym (is_there a.row.cells a.self.now.table.now r.i a.self.now.count (omega arith) (agree_whole _ _ l.k (omega arith) (omega arith) l.invariant.2))

pub returns : goal.returns
returns c =
    let r = c.rows in
    let e : c.args.self.now.count ≡ r.i = omega arith in
    rw e (sym r.invariant.2)
