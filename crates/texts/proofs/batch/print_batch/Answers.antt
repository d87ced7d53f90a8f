-- `texts::batch::print_batch` meets its contract: a refused card's number is the stream's, and what the call of the batch leaves is what is printed.
-- Assumes nothing.
use Prim.Native.Nat.{ℕ}
use mathlib.Core.List.{List}
use mathlib.Core.Path.{◌≡◌, refl, sym, ap, ◌∙◌}
use native.Mathlib.Omega.{arith}
use borrow.Author.Rules.{rules}
use lib.ListN.{replicate, length-replicate}
use lib.Seq.{length-take-le}
use Rattle.model.specs.Cards.{scheme_of, scheme_card_number}
use Rattle.model.specs.Lines.{card_of, after_card}
use Rattle.std.specs.Prelude.{Ok, Err}
use Rattle.model.specs.declared.answers.Ran.{Ran}
use Rattle.model.specs.Rosters.{roster_of}
use Rattle.schemes.specs.Loads.{scheme_in}
use Rattle.readers.proofs.Given.{given}
use Rattle.texts.proofs.Running.{Fresh, ran_number, few_people, Left, left_by}
use Rattle.texts.proofs.Printing.{last_card, Read, scheme_refused, roster_refused, read}
use Rattle.texts.proofs.batch.print_batch.Goals.{After-run_batch}
use Rattle.texts.proofs.batch.print_batch.Goals as goal

abbrev words : List ℕ
words = replicate 2305 0

abbrev bytes : List ℕ
bytes = replicate 256 0

-- the first two cards are read
both_read : (c : After-run_batch) → Read c.args.bytes.now (scheme_in c.in_ok-l.l) c.in_ok-people.people c.read_roster.new.roster
both_read c =
    let ok : c.read_roster.result ≡ Ok c.in_ok-people.people = search rules in
    let second = c.split_card-2.ensures.card ∙ ap card_of c.split_card.ensures.after in
    read c.args.bytes.now (scheme_in c.in_ok-l.l)
    (c.in_ok-l.ensures.number ∙ ap scheme_card_number c.split_card.ensures.card)
    (c.in_ok-l.ensures.scheme.1 ∙ ap scheme_of c.split_card.ensures.card)
    (omega arith) (rw (second, ok) at c.read_roster.ensures)

pub returns-in_err-l-clause-number : goal.returns-in_err-l-clause-number
returns-in_err-l-clause-number c =
    let e = scheme_refused c.args.bytes.now c.in_err-l.field-0.0 (c.in_err-l.ensures.number ∙ ap scheme_card_number c.split_card.ensures.card) in
    search (rules, e)

pub returns-in_err-people-clause-number : goal.returns-in_err-people-clause-number
returns-in_err-people-clause-number c =
    let err : c.read_roster.result ≡ Err c.in_err-people.field-0.0 = search rules in
    let second = c.split_card-2.ensures.card ∙ ap card_of c.split_card.ensures.after in
    let e = roster_refused c.args.bytes.now (scheme_in c.in_ok-l.l)
    (c.in_ok-l.ensures.number ∙ ap scheme_card_number c.split_card.ensures.card)
    (c.in_ok-l.ensures.scheme.1 ∙ ap scheme_of c.split_card.ensures.card)
    c.in_err-people.field-0.0 (given (omega arith) (rw (second, err) at c.read_roster.ensures)).number in
    search (rules, e)

-- it begins with an empty store
fresh : (c : After-run_batch) → Fresh (scheme_in c.in_ok-l.l) c.in_ok-people.people c.read_roster.new.roster words (last_card c.args.bytes.now) bytes
fresh c =
    let both = both_read c in
    record {
      scheme = both.scheme;
      roster_is = both.people;
      roster_wide = omega (arith, c.read_roster.auto.roster);
      empty = refl;
      store_long = length-replicate {A = ℕ} 2305 0;
      answers_long = length-replicate {A = ℕ} 256 0;
    }

third : (c : After-run_batch) → c.split_card-3.result.0.now ≡ last_card c.args.bytes.now
third c = c.split_card-3.ensures.card ∙ ap card_of (c.split_card-2.ensures.after ∙ ap after_card c.split_card.ensures.after)

pub returns-in_err-run-clause-number : goal.returns-in_err-run-clause-number
returns-in_err-run-clause-number c =
    let here = (goal.at.returns-in_err-run-clause-number c).After-run_batch in
    let e = ran_number _ _ _ _ _ _ (fresh here) (rw (third here) at c.in_err-run.ensures) ∙ sym (both_read here).number in
    search (rules, e)

-- and what it leaves is printed
left : (c : After-run_batch) (run : Ran) → c.run_batch.result ≡ Ok run
    → Left (scheme_in c.in_ok-l.l) (roster_of c.in_ok-people.people c.read_roster.new.roster) (last_card c.args.bytes.now) c.run_batch.new.store
    c.run_batch.new.answers run.requests run.done
left c run was = left_by (fresh c) (rw (third c) at (rw was at c.run_batch.ensures))

pub invariant_of-roster : goal.invariant_of-roster
invariant_of-roster c = record { wide = omega (arith, c.read_roster.auto.roster); few = few_people (fresh (goal.at.invariant_of-roster c).After-run_batch) }

pub invariant_of-store : goal.invariant_of-store
invariant_of-store c =
    let here = left (goal.at.invariant_of-store c).After-run_batch c.in_ok-run.run' c.in_ok-run.was in
    record { wide = here.store_wide; few = here.few_designs }

pub slice_bounds-answers-end : goal.slice_bounds-answers-end
slice_bounds-answers-end c = (left (goal.at.slice_bounds-answers-end c).After-run_batch c.in_ok-run.run' c.in_ok-run.was).requests_inside

pub slice_bounds-put_run-end : goal.slice_bounds-put_run-end
slice_bounds-put_run-end c = sym (length-take-le _ _ (left (goal.at.slice_bounds-put_run-end c).After-run_batch c.in_ok-run.run' c.in_ok-run.was).requests_inside)

pub put_run-requires : goal.put_run-requires
put_run-requires c =
    let here = left (goal.at.put_run-requires c).After-run_batch c.in_ok-run.run' c.in_ok-run.was in
    (here.kinds_fit, omega (arith, length-take-le _ _ here.requests_inside, here.requests_few), here.done_few, rw here.parts_are (omega (arith, here.room, c.requires)))

pub returns-clause-number : goal.returns-clause-number
returns-clause-number c =
    let here = (goal.at.returns-clause-number c).After-run_batch in
    sym ((both_read here).number ∙ (left here c.in_ok-run.run' c.in_ok-run.was).accepted_card)

pub returns-clause-printed : goal.returns-clause-printed
returns-clause-printed c =
    let here = left (goal.at.returns-clause-printed c).After-run_batch c.in_ok-run.run' c.in_ok-run.was in
    rw ((both_read (goal.at.returns-clause-printed c).After-run_batch).lines here.accepted_card, ← here.parts_are) c.put_run.ensures
