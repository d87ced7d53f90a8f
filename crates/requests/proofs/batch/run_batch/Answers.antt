-- `requests::batch::run_batch` meets its contract: the tests are the definition's, in its order, and then the card's requests are answered.
-- Assumes nothing.
use mathlib.Core.Path.{◌≡◌, sym}
use native.Mathlib.Omega.{arith}
use borrow.Author.Rules.{rules}
use lib.Seq.{length-take-le}
use Rattle.std.specs.Prelude.{Err}
use Rattle.requests.proofs.Answering.{accepts}
use Rattle.requests.proofs.Exits.{few, sized, filled, no_rooms, answers_short, no_batch, not_accepted, all_done}
use Rattle.requests.proofs.batch.run_batch.Goals as goal

pub returns-in_err-rooms : goal.returns-in_err-rooms
returns-in_err-rooms c =
    let is : c.from_residual.result ≡ Err c.in_err-rooms.field-0.0 = search rules in
    rw is (no_rooms _ _ _ _ (search rules))

pub returns-then-answers-lt-MOST_REQUESTS : goal.returns-then-answers-lt-MOST_REQUESTS
returns-then-answers-lt-MOST_REQUESTS c = answers_short _ _ _ (search rules) c.if-answers-lt-MOST_REQUESTS.true

pub returns-in_default : goal.returns-in_default
returns-in_default c = no_batch _ _ _ (search rules) c.if-answers-lt-MOST_REQUESTS.false c.in_default.ensures

pub returns-in_err-accept : goal.returns-in_err-accept
returns-in_err-accept c =
    let is : c.from_residual-in_err-accept.result ≡ Err c.in_err-accept.field-0.0 = search rules in
    rw is (not_accepted _ _ _ (search rules) c.if-answers-lt-MOST_REQUESTS.false c.in-Some.ensures.0 _ (search rules))

pub slice_bounds-answer_all-end : goal.slice_bounds-answer_all-end
slice_bounds-answer_all-end c =
    let (card, (count, rest)) = c.in-Some.ensures in
    let wide = c.if-answers-lt-MOST_REQUESTS.false in
    omega (arith, wide, few _ _ wide card _ count _ rest)

pub slice_bounds-answer_all-end-2 : goal.slice_bounds-answer_all-end-2
slice_bounds-answer_all-end-2 c =
    let (card, (count, rest)) = c.in-Some.ensures in
    let wide = c.if-answers-lt-MOST_REQUESTS.false in
    sym (length-take-le _ _ (omega (arith, wide, few _ _ wide card _ count _ rest)))

pub answer_all-done-requires : goal.answer_all-done-requires
answer_all-done-requires c =
    let (card, (count, rest)) = c.in-Some.ensures in
    let wide = c.if-answers-lt-MOST_REQUESTS.false in (
      accepts _ (search rules) (search rules),
      filled _ _ wide card _ count _ rest,
      omega (arith, sized _ _ wide card _ count _ rest, few _ _ wide card _ count _ rest),
    )

pub returns : goal.returns
returns c =
    let (card, (count, rest)) = c.in-Some.ensures in
    all_done _ _ _ (search rules) c.if-answers-lt-MOST_REQUESTS.false card _ count _ rest (search rules) _ _ _ c.answer_all-done.ensures
