-- `verdicts::answers::verdict_from` meets its contract: the tests are the definition's, in its order, and each return is one law at those that led there.
-- Assumes nothing.
use Rattle.std.proofs.Common.{rules, ◌≡◌, ◌∙◌, List, sym, subst, length, Some, None, refl}
use lib.Dec.{ltb}
use Rattle.model.specs.declared.Command.{Command}
use Rattle.model.specs.Words.{◌when◌else◌, groups}
use Rattle.model.specs.Answers.{judged}
use Rattle.model.specs.Kinds.{first_not_normal}
use Rattle.laws.proofs.Budgets.{listing_sized}
use Rattle.schemes.specs.Loads.{listed}
use Rattle.schemes.proofs.Loads.{listed_few}
use Rattle.verdicts.specs.Asking.{start_by, question_by, looked_up}
use Rattle.verdicts.proofs.Exits.{below_some, below_none, not_normal, overlapped, cut, whole}
use Rattle.verdicts.proofs.answers.verdict_from.Goals.{Start, After-first_not_normal}
use Rattle.verdicts.proofs.answers.verdict_from.Goals as goal

row_long : (c : Start) → length c.args.start.row.cells ≡ 8
row_long c = search rules

-- all commands are kept
kept_is : (c : After-first_not_normal) → c.kept-commands.result.now ≡ listed c.args.l.now
kept_is c = c.kept-commands.ensures ∙ sym (listed_few c.args.l.now c.requires.kept)

-- the first command that isn't normal, of those
first_is : (c : After-first_not_normal) → c.first_not_normal.result
    ≡ (Some (first_not_normal (listed c.args.l.now) c.args.start.kind)
    when ltb (first_not_normal (listed c.args.l.now) c.args.start.kind) (length (listed c.args.l.now)) else None)
first_is c =
    subst (λ (cs : List Command). c.first_not_normal.result ≡ (Some (first_not_normal cs c.args.start.kind)
    when ltb (first_not_normal cs c.args.start.kind) (length cs) else None)) (kept_is c) c.first_not_normal.ensures

pub returns-in-Some : goal.returns-in-Some
returns-in-Some c =
    let f = first_is (goal.at.returns-in-Some c).After-first_not_normal in
    let (there, first) = below_some _ _ _ f c.in-Some.command c.in-Some.is in
    not_normal (listed c.args.l.now) (start_by c.args.start) (question_by c.args.q.now) c.args.table.now c.in-Some.command first there

pub returns-then-start : goal.returns-then-start
returns-then-start c =
    let normal = below_none _ _ _ (first_is (goal.at.returns-then-start c).After-first_not_normal) c.in_default.is in
    overlapped (listed c.args.l.now) (start_by c.args.start) (question_by c.args.q.now) c.args.table.now _ refl normal c.if-start.true

pub returns-then-q-count : goal.returns-then-q-count
returns-then-q-count c =
    let normal = below_none _ _ _ (first_is (goal.at.returns-then-q-count c).After-first_not_normal) c.in_default.is in
    cut (listed c.args.l.now) (start_by c.args.start) (question_by c.args.q.now) c.args.table.now _ refl normal c.if-start.false _ _
    c.search-count.ensures c.if-q-count.true

pub returns : goal.returns
returns c =
    let here = (goal.at.returns c).After-first_not_normal in
    let normal = below_none _ _ _ (first_is here) c.in_default.is in
    let eight = row_long (goal.at.returns c).Start in
    whole (listed c.args.l.now) (start_by c.args.start) (question_by c.args.q.now) c.args.table.now _ refl normal c.if-start.false _ _
    c.search-count.ensures c.if-q-count.false
    (listing_sized 8 (listed c.args.l.now) c.args.start.kind c.args.start.row.cells eight c.args.q.now.budget)
    (judged c.looked_up.result)
    (subst (λ (cs : List Command). judged c.looked_up.result
    ≡ looked_up cs c.args.start.kind (question_by c.args.q.now) (groups 8 c.search-count.result.rows c.search-count.new.table)) (kept_is here) c.looked_up.ensures)
