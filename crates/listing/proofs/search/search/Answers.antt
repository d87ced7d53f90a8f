-- `listing::search::search` meets its contract. The invariant: what is listed is the listing, gone through as far as the row at hand.
-- Assumes nothing.
use Rattle.std.proofs.Common.{rules, arith, ◌≡◌, length, take, refl, sym, ◌∙◌}
use lib.Seq.{length-take-le}
use Rattle.schemes.specs.Loads.{listed}
use Rattle.schemes.proofs.Loads.{listed_few}
use Rattle.listing.proofs.Searching.{searching_begins, searching_goes_on, searching_cut, searching_ends, start_listed, searched}
use Rattle.listing.proofs.search.search.Goals as goal

pub loop-p-init : goal.loop-p-init
loop-p-init c =
    let a = c.args in
    let eight : length a.start.cells ≡ 8 = search rules in
    let (one, first) = start_listed c.kept.result.now a.kind a.budget a.start.cells eight (omega arith) c.put.result a.table.now c.put.new.table c.put.ensures in (
      (refl, omega arith),
      rw one (searching_begins c.kept.result.now a.kind a.budget c.put.new.table (omega arith) (omega (arith, c.put.auto.table))),
    )

pub loop-p-preserved : goal.loop-p-preserved
loop-p-preserved c =
    let a = c.args in
    let p = c.loop-p.p in
    let t = c.put.new.table in (
      (c.expanded-next.auto.table ∙ c.loop-p.invariant.0.0, omega arith),
      searching_goes_on c.kept.result.now a.kind a.budget (take 8 t) (length-take-le 8 t (omega (arith, c.put.auto.table, c.requires)))
          p.row p.rows _ t c.loop-p.table _ (omega arith) (omega arith) c.loop-p.invariant.1 (rw c.row-row.ensures at c.expanded-next.ensures),
    )

pub returns-else-p-budget : goal.returns-else-p-budget
returns-else-p-budget c =
    let a = c.args in
    let p = c.loop-p.p in
    let t = c.put.new.table in
    let eight : length a.start.cells ≡ 8 = search rules in
    let all : listed a.l.now ≡ c.kept.result.now = listed_few a.l.now (omega arith) ∙ sym c.kept.ensures in
    rw all
    (searched c.kept.result.now a.kind a.budget a.start.cells eight (omega arith) c.put.result a.table.now t c.put.ensures p.rows c.loop-p.table
    (searching_cut c.kept.result.now a.kind a.budget (take 8 t) p.row p.rows t c.loop-p.table (omega arith) (omega arith) c.loop-p.invariant.1))

pub returns-after-loop-p : goal.returns-after-loop-p
returns-after-loop-p c =
    let a = c.args in
    let p = c.loop-p.p in
    let t = c.put.new.table in
    let eight : length a.start.cells ≡ 8 = search rules in
    let all : listed a.l.now ≡ c.kept.result.now = listed_few a.l.now (omega arith) ∙ sym c.kept.ensures in
    rw all
    (searched c.kept.result.now a.kind a.budget a.start.cells eight (omega arith) c.put.result a.table.now t c.put.ensures p.rows c.loop-p.table
    (searching_ends c.kept.result.now a.kind a.budget (take 8 t) p.row p.rows t c.loop-p.table (omega arith) (omega arith) c.loop-p.invariant.1))
