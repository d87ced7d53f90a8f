use Rattle.listing.specs.Tables.{rows_of}
use Rattle.texts.specs.Creates.{types_text}
use Rattle.texts.proofs.Growing.{Growing}
use Rattle.texts.proofs.Creates.{types_from}
use Rattle.texts.proofs.verdict.put_types.Given as goal

abbrev pub invariant-loop-t : goal.invariant-loop-t
invariant-loop-t l =
    let rows = rows_of l.rows in
    Growing (types_text rows l.types) l.at l.initial.text (types_from rows l.types l.t) l.end l.text
