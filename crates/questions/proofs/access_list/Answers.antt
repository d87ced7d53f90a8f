-- `questions::access_list`: the people of the named design are shown, or why there is none. Assumes nothing.
use Rattle.std.proofs.Common.{rules, arith, refl, ◌≡◌, subst}
use Rattle.model.specs.declared.refusal.Refusal.TheVariants.{NoRoom}
use Rattle.model.specs.Stores.{Design, design_of, design_at}
use Rattle.model.specs.Outcomes.{Handed, designs_in}
use Rattle.handed.specs.Handing.{handed_by}
use Rattle.questions.specs.Shown.{Shows}
use Rattle.questions.proofs.Asked.{list_no_room, list_short, list_not_handed, list_named, list_refused, list_answered}
use Rattle.questions.proofs.access_list.Goals.{Start}
use Rattle.questions.proofs.access_list.Goals as goal

-- what is handed over
abbrev handed : Start → Handed
handed c = handed_by c.args.l.now c.args.people c.args.roster.now c.args.store.now

pub returns-in_err-rooms : goal.returns-in_err-rooms
returns-in_err-rooms c =
    let h = handed (goal.at.returns-in_err-rooms c).Start in
    list_refused h c.args.code.now c.args.list.now c.from_residual.result c.in_err-rooms.field-0.0 (search rules)
    (list_no_room h c.args.code.now c.args.list.now c.in_err-rooms.field-0.0 (search rules))

pub returns-then-list-lt-ACCESS_ROOM : goal.returns-then-list-lt-ACCESS_ROOM
returns-then-list-lt-ACCESS_ROOM c =
    let h = handed (goal.at.returns-then-list-lt-ACCESS_ROOM c).Start in
    list_refused h c.args.code.now c.args.list.now _ NoRoom refl (list_short h c.args.code.now c.args.list.now (search rules) (omega arith))

pub returns-in_err-handed : goal.returns-in_err-handed
returns-in_err-handed c =
    let h = handed (goal.at.returns-in_err-handed c).Start in
    list_refused h c.args.code.now c.args.list.now c.from_residual-in_err-handed.result c.in_err-handed.field-0.0 (search rules)
    (list_not_handed h c.args.code.now c.args.list.now (search rules) (omega arith) c.in_err-handed.field-0.0 (search rules))

pub returns-in_err-design : goal.returns-in_err-design
returns-in_err-design c =
    let h = handed (goal.at.returns-in_err-design c).Start in
    list_refused h c.args.code.now c.args.list.now c.from_residual-in_err-design.result c.in_err-design.field-0.0 (search rules)
    (list_named h c.args.code.now c.args.list.now (search rules) (omega arith) (search rules) _ (search rules))

pub returns : goal.returns
returns c =
    let h = handed (goal.at.returns c).Start in
    let there : design_of c.in_ok-design.design.words.now ≡ design_at c.args.code.now (designs_in h) = search rules in
    list_answered h c.args.code.now c.args.list.now
    (list_named h c.args.code.now c.args.list.now (search rules) (omega arith) (search rules) 0 (search rules))
    c.show.result _
    (subst (λ (d : Design). Shows c.args.people d.cells c.args.list.now c.show.result c.show.new.list) there (rw (← c.cells.ensures) c.show.ensures))
