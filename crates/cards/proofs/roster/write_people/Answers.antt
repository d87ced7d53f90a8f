-- `cards::roster::write_people` meets its contract: what is written so far, and what the entries that are left will write, is the goal. Assumes nothing.
use native.Mathlib.Omega.{arith}
use Rattle.cards.proofs.Places.{person_parts}
use Rattle.cards.proofs.Writing.{written_next, written_last}
use Rattle.cards.proofs.roster.write_people.Goals as goal

pub loop-i-preserved : goal.loop-i-preserved
loop-i-preserved c =
    let (whole, (entry, after)) = c.in-Some.ensures in
    let person = person_parts c.in-Some.field-0-0.now c.in-Some.code.now _ (omega arith) entry in
    rw after (written_next _ _ _ _ _ _ c.loop-i.invariant c.requires.1 c.loop-i-test.true _ _ person c.write_person.ensures)

pub returns : goal.returns
returns c = written_last _ _ _ _ _ _ c.loop-i.invariant c.requires.1 c.loop-i-test.false c.loop-i.auto.i-end
