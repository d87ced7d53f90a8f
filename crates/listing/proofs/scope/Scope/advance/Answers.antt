-- `listing::scope::Scope::advance` meets its contract: what was listed where the command doesn't fire, and what `put` lists where it does.
-- Assumes nothing.
use mathlib.Core.Path.{refl, sym, ◌∙◌}
use native.Mathlib.Omega.{arith}
use Rattle.model.specs.Words.{groups}
use Rattle.model.specs.Schemes.{command_in}
use Rattle.listing.proofs.Listed.{tried_idle, tried_fires, lists_same}
use Rattle.listing.proofs.scope.Scope.advance.Goals as goal
use Rattle.listing.proofs.scope.Scope.advance.Goals.{then-fires, else-fires}

pub returns : goal.returns
returns c =
    let a = c.args in
    let s = a.self.now in
    let rows = groups 8 a.p.rows a.table.now in
    let command = command_in s.commands.now a.p.command in
    elim c.if-fires.branch [
      | then-fires w ↦ record {
        lists = rw (tried_fires s.kind command a.row.cells rows (sym c.fires.ensures ∙ w.if-fires.true), ← w.moved.ensures, w.rows-is, w.table-is) w.put-rows.ensures;
        row = refl;
        command = refl;
      }
      | else-fires w ↦ record {
        lists = rw (tried_idle s.kind command a.row.cells rows (sym c.fires.ensures ∙ w.if-fires.false), w.rows-is, w.table-is)
            (lists_same s.budget a.p.rows a.table.now (omega arith) (omega arith));
        row = refl;
        command = refl;
      }
    ]
