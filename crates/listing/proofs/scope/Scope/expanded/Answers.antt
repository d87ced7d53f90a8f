-- `listing::scope::Scope::expanded` meets its contract. The invariant: what is listed is what the commands passed list.
-- Assumes nothing.
use Rattle.std.proofs.Common.{rules, arith, refl, ◌∙◌}
use Rattle.listing.proofs.Expanding.{expanding_begins, expanding_goes_on, expanding_cut}
use Rattle.listing.proofs.scope.Scope.expanded.Goals as goal

pub loop-q-init : goal.loop-q-init
loop-q-init c =
    let a = c.args in
    let s = a.self.now in (
      (search rules, refl, omega arith),
      expanding_begins s.kind s.budget a.row.cells s.commands.now a.p.rows a.table.now (omega arith) (omega arith),
    )

pub loop-q-preserved : goal.loop-q-preserved
loop-q-preserved c =
    let l = c.loop-q in
    let a = c.args in
    let s = a.self.now in
    let step = c.stepped-q.ensures in (
      (l.invariant.0.0, c.stepped-q.auto.table ∙ l.invariant.0.1, omega arith),
      rw step.command
          (expanding_goes_on s.kind s.budget a.row.cells s.commands.now a.p.rows a.table.now (omega arith) (omega arith) l.invariant.0.0
          l.q.command l.q.rows l.table _ _ (omega arith) l.invariant.1 (omega arith) step.lists),
    )

pub returns-else-q-self : goal.returns-else-q-self
returns-else-q-self c =
    let l = c.loop-q in
    let a = c.args in
    let s = a.self.now in
    expanding_cut s.kind s.budget a.row.cells s.commands.now a.p.rows a.table.now l.q.command l.q.rows l.table l.invariant.1 (omega arith)
