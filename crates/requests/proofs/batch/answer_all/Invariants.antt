use Rattle.handed.specs.Handing.{handed_by}
use Rattle.requests.proofs.Batching.{Ran}
use Rattle.requests.proofs.batch.answer_all.Given as goal

abbrev pub invariant-loop-answer : goal.invariant-loop-answer
invariant-loop-answer l =
    Ran (handed_by l.l l.roster.people l.roster.words.now l.initial.store) l.requests l.initial.answers l.store l.answers l.rest l.done l.answer-index
