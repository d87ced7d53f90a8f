-- `texts::batch::batch_text` meets its contract: what is printed is the batch's text or the refusal's. Assumes nothing.
use mathlib.Core.Path.{refl}
use Rattle.texts.proofs.Printing.{no_room, all_printed, refusal_text}
use Rattle.texts.proofs.batch.batch_text.Goals as goal

pub returns-then-text-lt-ROOM : goal.returns-then-text-lt-ROOM
returns-then-text-lt-ROOM c = no_room c.args.bytes.now c.args.text.now c.if-text-lt-ROOM.true

pub returns-in-Ok : goal.returns-in-Ok
returns-in-Ok c = all_printed c.args.bytes.now c.if-text-lt-ROOM.false c.in-Ok.ensures.printed refl

pub returns-in-Err : goal.returns-in-Err
returns-in-Err c =
    all_printed c.args.bytes.now c.if-text-lt-ROOM.false (rw c.in-Err.ensures.left at c.print_refusal.ensures) (rw c.number.ensures (refusal_text c.args.bytes.now c.in-Err.refusal c.in-Err.ensures.number))
