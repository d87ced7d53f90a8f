-- `verdicts::starts::from_design`: the start is the design's, by what its parts were found to be.
-- Assumes nothing.
use Rattle.std.proofs.Common.{◌≡◌, ◌∙◌, ap, ap₂, sym, subst, List, ℕ}
use Rattle.model.specs.declared.Command.{Command}
use Rattle.model.specs.Kinds.{overlaps, row_of_design}
use Rattle.model.specs.Rosters.{roster_of}
use Rattle.model.specs.Stores.{design_of}
use Rattle.model.specs.Verdicts as asked
use Rattle.model.specs.Verdicts.{start_of_design}
use Rattle.model.specs.Answers.{judged}
use Rattle.kinds.specs.Sets.{SetsOf}
use Rattle.schemes.specs.Loads.{listed}
use Rattle.schemes.proofs.Loads.{listed_few}
use Rattle.verdicts.specs.Asking.{question_by, Answered}
use Rattle.verdicts.proofs.starts.from_design.Goals as goal

pub returns : goal.returns
returns c =
    let a = c.args in
    let commands = listed a.l.now in
    let people = roster_of a.roster.now.people a.roster.now.words.now in
    let d = design_of a.design.now.words.now in
    let kept : c.kept.result.now ≡ commands = c.kept.ensures ∙ sym (listed_few a.l.now c.requires.kept) in
    let sets = subst (λ (cs : List Command). SetsOf cs c.kind-kind.result c.sets_of.result) kept c.sets_of.ensures in
    let row : c.row_of_design.result.cells ≡ row_of_design people d.cells = c.row_of_design.ensures ∙ ap (row_of_design people) c.cells.ensures in
    let overlap : c.overlaps.result ≡ overlaps commands d.kind people d.cells =
    c.overlaps.ensures commands c.kind-kind.result (c.both-set.ensures commands c.kind-kind.result sets)
    ∙ ap₂ (λ (kind : ℕ) (cells : List ℕ). overlaps commands kind people cells) c.kind-kind.ensures c.cells-2.ensures in
    let start : asked.Start = record { kind = c.kind-kind.result; row = c.row_of_design.result.cells; overlap = c.overlaps.result } in
    let same : start ≡ start_of_design commands people d =
    λ i. record { kind = c.kind-kind.ensures i; row = row i; overlap = overlap i } in
    subst (λ (s : asked.Start). Answered commands s (question_by a.q.now) a.table.now (judged c.verdict_from.result) c.verdict_from.new.table) same c.verdict_from.ensures
