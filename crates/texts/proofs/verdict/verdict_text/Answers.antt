-- `texts::verdict::verdict_text` meets its contract: one law for each exit. Assumes nothing.
use native.Mathlib.Omega.{arith}
use mathlib.Core.Path.{sym, ap, ◌∙◌}
use Rattle.model.specs.Cards.{scheme_of, scheme_card_number}
use Rattle.schemes.specs.Loads.{scheme_in}
use Rattle.texts.proofs.Printing.{scheme_read_lem}
use Rattle.texts.proofs.Creates.{read_kept}
use Rattle.texts.proofs.Told.{no_text, no_table, card_refused, card_told}
use Rattle.texts.proofs.verdict.verdict_text.Goals as goal

pub returns-then-text-lt-ROOM : goal.returns-then-text-lt-ROOM
returns-then-text-lt-ROOM c = let a = c.args in no_text a.bytes.now a.table.now a.text.now (omega (arith, c.if-text-lt-ROOM.true))

pub returns-then-table-lt-TABLE_WORDS : goal.returns-then-table-lt-TABLE_WORDS
returns-then-table-lt-TABLE_WORDS c =
    let a = c.args in
    no_table a.bytes.now a.table.now a.text.now c.if-text-lt-ROOM.false c.if-table-lt-TABLE_WORDS.true

pub put_creates-requires : goal.put_creates-requires
put_creates-requires c = (
  rw c.in-Ok.ensures.scheme.1 (scheme_read_lem _ (sym c.in-Ok.ensures.number)),
  read_kept _ c.in-Ok.l (sym c.in-Ok.ensures.number) c.in-Ok.ensures.scheme.0,
  c.if-table-lt-TABLE_WORDS.false,
  c.if-text-lt-ROOM.false,
)

pub returns-in-Ok : goal.returns-in-Ok
returns-in-Ok c =
    let a = c.args in
    card_told a.bytes.now a.table.now a.text.now c.if-text-lt-ROOM.false c.if-table-lt-TABLE_WORDS.false (scheme_in c.in-Ok.l)
    (c.in-Ok.ensures.scheme.1 ∙ ap scheme_of c.split_card.ensures.card)
    (c.in-Ok.ensures.number ∙ ap scheme_card_number c.split_card.ensures.card)
    c.put_creates.ensures.lines c.put_creates.ensures.table

pub returns-in-Err : goal.returns-in-Err
returns-in-Err c =
    let a = c.args in
    card_refused a.bytes.now a.table.now a.text.now c.if-text-lt-ROOM.false c.if-table-lt-TABLE_WORDS.false c.in-Err.refusal
    (c.in-Err.ensures.number ∙ ap scheme_card_number c.split_card.ensures.card)
    (rw c.number.ensures at c.print_refusal.ensures)
