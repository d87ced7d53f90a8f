-- `texts::verdict::put_create` meets its contract: the create's own line, then with 0 those of the types, for the rows that the call left in the table.
-- Assumes nothing.
use mathlib.Core.Path.{refl}
use native.Mathlib.Omega.{arith}
use Rattle.model.specs.Answers.{judged}
use Rattle.model.specs.Verdicts.{start_of_create}
use Rattle.model.specs.Lines.{whole_question}
use Rattle.schemes.specs.Loads.{listed, scheme_in}
use Rattle.verdicts.specs.Asking.{Answered}
use Rattle.lines.proofs.Texts.{put_said, line_room}
use Rattle.texts.proofs.Growing.{none_put, part_put, last_room, last_put}
use Rattle.texts.proofs.Creates.{own_room, few_number, few_states, own_said, is_alone, is_told}
use Rattle.texts.proofs.verdict.put_create.Goals.{After-from_create-judgement}
use Rattle.texts.proofs.verdict.put_create.Goals as goal

-- the verdict from the create at every state there can be
is_answered : (c : After-from_create-judgement)
    → let a = c.args in
    Answered (listed a.l.now) (start_of_create a.c) whole_question a.table.now (judged c.from_create-judgement.result) c.from_create-judgement.new.table
is_answered c = c.from_create-judgement.ensures

pub line_c-requires : goal.line_c-requires
line_c-requires c =
    let a = c.args in
    let answered = is_answered (goal.at.line_c-requires c).After-from_create-judgement in (
      omega arith,
      omega (arith, c.from.ensures, few_number (scheme_in a.l.now) a.k a.c _ answered c.from-verdict.ensures),
      omega (arith, few_states (scheme_in a.l.now) a.k a.c _ answered c.from-verdict.ensures),
    )

pub put-end-requires : goal.put-end-requires
put-end-requires c =
    let a = c.args in
    let said = own_said (scheme_in a.l.now) a.k a.c _ (is_answered (goal.at.put-end-requires c).After-from_create-judgement) c.from-verdict.ensures c.from.ensures c.line_c.ensures in
    line_room said a.at a.text.now (omega (arith, own_room (scheme_in a.l.now) a.k a.c, c.requires))

pub invariant_of-rows : goal.invariant_of-rows
invariant_of-rows c =
    let a = c.args in
    let told = is_told (scheme_in a.l.now) a.k a.c _ (is_answered (goal.at.invariant_of-rows c).After-from_create-judgement) c.in-Listed.is in
    record { whole = omega (arith, told.0, c.requires.2.room.wide, c.from_create-judgement.auto.table) }

pub put_types-requires : goal.put_types-requires
put_types-requires c =
    let a = c.args in
    let s = scheme_in a.l.now in
    let answered = is_answered (goal.at.put_types-requires c).After-from_create-judgement in
    let said = own_said s a.k a.c _ answered c.from-verdict.ensures c.from.ensures c.line_c.ensures in
    let told = (is_told s a.k a.c _ answered c.in-Listed.is).1 in
    (c.requires.1, last_room (part_put (none_put _ _ _ c.requires.3) _ _ told (put_said c.put-end.ensures said)) _ refl)

pub returns-in-Listed-clause-lines : goal.returns-in-Listed-clause-lines
returns-in-Listed-clause-lines c =
    let a = c.args in
    let s = scheme_in a.l.now in
    let answered = is_answered (goal.at.returns-in-Listed-clause-lines c).After-from_create-judgement in
    let said = own_said s a.k a.c _ answered c.from-verdict.ensures c.from.ensures c.line_c.ensures in
    let told = (is_told s a.k a.c _ answered c.in-Listed.is).1 in
    last_put (part_put (none_put _ _ _ c.requires.3) _ _ told (put_said c.put-end.ensures said)) _ refl c.put_types.ensures

pub returns-in_default : goal.returns-in_default
returns-in_default c =
    let a = c.args in
    let s = scheme_in a.l.now in
    let answered = is_answered (goal.at.returns-in_default c).After-from_create-judgement in
    let said = own_said s a.k a.c _ answered c.from-verdict.ensures c.from.ensures c.line_c.ensures in
    record { lines = rw (is_alone s a.k a.c _ answered c.in_default.not-Listed) (put_said c.put-end.ensures said); table = answered.table_is }
