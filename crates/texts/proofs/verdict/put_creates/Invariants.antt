use mathlib.Core.Path.{◌≡◌}
use lib.ListN.{drop}
use Rattle.model.specs.Lines.{create_lines, table_after_creates}
use Rattle.schemes.specs.Loads.{listed, scheme_in}
use Rattle.texts.proofs.Growing.{Growing}
use Rattle.texts.proofs.verdict.put_creates.Given as goal

abbrev pub invariant-loop-k : goal.invariant-loop-k
invariant-loop-k l =
    let s = scheme_in l.l in
    let commands = listed l.l in
    Growing (create_lines s 0 commands) 0 l.initial.text (create_lines s l.k (drop l.k commands)) l.end l.text
    × (table_after_creates commands (drop l.k commands) l.table ≡ table_after_creates commands commands l.initial.table)
