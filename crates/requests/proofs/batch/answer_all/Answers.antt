-- `requests::batch::answer_all` meets its contract. The invariant: the requests so far are answered, and the rest of the body holds those that are left.
-- Assumes nothing.
use Prim.Native.Nat.{ℕ, ◌+◌, ◌≤◌}
use mathlib.Core.Path.{ap, ◌∙◌}
use native.Mathlib.Omega.{arith}
use borrow.Author.Rules.{rules}
use Rattle.requests.proofs.Batching.{ran_none, ran_all, done_few, still, never_past, ran_next, done_one, one_at_most}
use Rattle.requests.proofs.batch.answer_all.Goals as goal

pub loop-answer-init : goal.loop-answer-init
loop-answer-init c = ran_none _ c.requires.0 (λ i. search rules) _ _ c.requires.1

pub unreachable-requires : goal.unreachable-requires
unreachable-requires c =
    never_past _ c.requires.0 (λ i. search rules) _ _ _ _ _ _ _ c.loop-answer.invariant c.loop-answer-test.true c.in_default.ensures

pub answered-given-requires : goal.answered-given-requires
answered-given-requires c = still _ c.requires.0 (λ i. search rules) _ _ _ _ _ _ _ c.loop-answer.invariant

pub overflow_add-done : goal.overflow_add-done
overflow_add-done c =
    let few = done_few _ c.requires.0 (λ i. search rules) _ _ _ _ _ _ _ c.loop-answer.invariant in
    let one : c.from-done.result ≤ 1 = rw c.from-done.ensures (one_at_most _) in
    omega (arith, few, c.loop-answer-test.true, c.requires.2, one)

pub loop-answer-preserved : goal.loop-answer-preserved
loop-answer-preserved c =
    rw c.number_given.ensures
    (ran_next _ c.requires.0 (λ i. search rules) _ _ _ _ _ _ _ c.loop-answer.invariant c.loop-answer-test.true _ _ c.in-Some.ensures _ _ c.answered-given.ensures
    _ (ap (λ (n : ℕ). c.loop-answer.done + n) (c.from-done.ensures ∙ rw c.is_ok.ensures.value (done_one c.answered-given.result))))

pub returns : goal.returns
returns c = ran_all _ c.requires.0 (λ i. search rules) _ _ _ _ _ _ _ c.loop-answer.invariant c.loop-answer-test.false
