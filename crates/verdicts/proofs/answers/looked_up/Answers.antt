-- `verdicts::answers::looked_up` meets its contract: the first row with a duplicate step, and the first command that is one there.
-- Assumes nothing.
use Rattle.std.proofs.Common.{rules, arith, ◌≡◌, ◌∙◌, refl, sym, Some, [], slice_index_or}
use Rattle.model.specs.Listing.{first_duplicate, has_duplicate}
use Rattle.laws.proofs.Lists.{length-groups}
use Rattle.listing.specs.Tables.{rows_of}
use Rattle.verdicts.specs.Asking.{question_by}
use Rattle.verdicts.proofs.Exits.{found_within, found_passes, no_duplicate, one_duplicate}
use Rattle.verdicts.proofs.answers.looked_up.Goals as goal

pub returns-in_default : goal.returns-in_default
returns-in_default c =
    let a = c.args in
    c.reported.ensures
    ∙ no_duplicate a.commands.now a.kind a.set c.requires.1 (question_by a.q.now) (rows_of a.rows.now) (sym c.first_duplicate.ensures ∙ c.in_default.is)

pub row-requires : goal.row-requires
row-requires c =
    let a = c.args in
    let there = found_within (has_duplicate a.set a.commands.now a.kind) (rows_of a.rows.now) c.in-Some.state (sym c.first_duplicate.ensures ∙ c.in-Some.is) in
    omega (arith, there, length-groups 8 a.rows.now.count a.rows.now.table.now)

pub returns : goal.returns
returns c =
    let a = c.args in
    let rows = rows_of a.rows.now in
    let found = sym c.first_duplicate.ensures ∙ c.in-Some.is in
    let passes = found_passes (has_duplicate a.set a.commands.now a.kind) rows c.in-Some.state found [] in
    let command : c.first_duplicate-command.result ≡ Some (first_duplicate a.set a.commands.now a.kind (slice_index_or rows c.in-Some.state [])) =
    c.first_duplicate-command.ensures ∙ rw (c.row.ensures, passes) refl in
    one_duplicate a.commands.now a.kind a.set c.requires.1 (question_by a.q.now) rows c.in-Some.state found a.rows.now.count c.unwrap_or.result
    (sym (length-groups 8 a.rows.now.count a.rows.now.table.now)) (search rules)
