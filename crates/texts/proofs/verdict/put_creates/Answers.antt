-- `texts::verdict::put_creates` meets its contract: what is left of the commands begins with the one at hand, and what it leaves in the table with it.
-- Assumes nothing.
use mathlib.Core.Path.{◌≡◌, sym, ◌∙◌}
use native.Mathlib.Omega.{arith}
use Rattle.schemes.specs.Loads.{listed, scheme_in}
use Rattle.schemes.proofs.Loads.{listed_few}
use Rattle.texts.proofs.Growing.{part_room, part_put, all_put}
use Rattle.texts.proofs.Creates.{few_types, few_commands, creates_none, tables_none, create_lines_left, create_table_left, other_lines_left, other_table_left}
use Rattle.texts.proofs.verdict.put_creates.Goals.{After-kept-c-items, then-is_create, else-is_create}
use Rattle.texts.proofs.verdict.put_creates.Goals as goal

-- the commands that are gone through are all
all : (c : After-kept-c-items) → c.kept-c-items.result.now ≡ listed c.args.l.now
all c = c.kept-c-items.ensures ∙ sym (listed_few c.args.l.now c.requires.1)

pub put_create-end-requires : goal.put_create-end-requires
put_create-end-requires c =
    let l = c.args.l.now in
    let here = c.loop-k in
    let items = all (goal.at.put_create-end-requires c).After-kept-c-items in
    let inside = rw items at c.loop-k-test.true in
    let create = rw items at (sym c.is_create.ensures ∙ c.if-is_create.true) in
    rw items (
      omega (arith, inside, few_commands l c.requires.0),
      few_types l c.requires.0,
      record { kept = c.requires.1; right_below = omega arith; some_budget = omega arith; room = record { most = omega arith; wide = omega (arith, here.auto.table, c.requires.2) } },
      part_room here.invariant.0 _ _ (create_lines_left (scheme_in l) here.k inside create),
    )

pub loop-k-preserved : goal.loop-k-preserved
loop-k-preserved c =
    let l = c.args.l.now in
    let here = c.loop-k in
    let items = all (goal.at.loop-k-preserved c).After-kept-c-items in
    let inside = rw items at c.loop-k-test.true in
    elim c.if-is_create.branch [
      | then-is_create w ↦
          let create = rw items at (sym c.is_create.ensures ∙ w.if-is_create.true) in
          rw (w.end-is, w.text-is, w.table-is) (
            part_put here.invariant.0 _ _ (create_lines_left (scheme_in l) here.k inside create) (rw items at w.put_create-end.ensures.lines),
            sym (create_table_left (scheme_in l) here.k inside create here.table _ (rw items at w.put_create-end.ensures.table)) ∙ here.invariant.1,
          )
      | else-is_create w ↦
          let other = rw items at (sym c.is_create.ensures ∙ w.if-is_create.false) in
          rw (w.end-is, w.text-is, w.table-is) (
            rw (other_lines_left (scheme_in l) here.k inside other) at here.invariant.0,
            sym (other_table_left (scheme_in l) here.k inside other here.table) ∙ here.invariant.1,
          )
    ]

pub returns-clause-lines : goal.returns-clause-lines
returns-clause-lines c =
    let l = c.args.l.now in
    let items = all (goal.at.returns-clause-lines c).After-kept-c-items in
    all_put c.loop-k.invariant.0 (creates_none (scheme_in l) (listed l) c.loop-k.k (rw items at c.loop-k-test.false))

pub returns-clause-table : goal.returns-clause-table
returns-clause-table c =
    let l = c.args.l.now in
    let items = all (goal.at.returns-clause-table c).After-kept-c-items in
    sym (tables_none (listed l) (listed l) c.loop-k.k c.loop-k.table (rw items at c.loop-k-test.false)) ∙ c.loop-k.invariant.1
