-- `verdicts::answers::reported` meets its contract: the first row that holds the right is found in the rows that are counted.
-- Assumes nothing.
use Rattle.std.proofs.Common.{sym, ◌∙◌, ap₂, ℕ, Option}
use Rattle.model.specs.declared.answers.Judgement.TheVariants.{Listed}
use Rattle.model.specs.Answers.{judged}
use Rattle.model.specs.Verdicts.{holds}
use Rattle.laws.proofs.Lists.{length-groups}
use Rattle.listing.specs.Tables.{rows_of}
use Rattle.verdicts.specs.Asking.{question_by}
use Rattle.verdicts.proofs.Exits.{reported_is}
use Rattle.verdicts.proofs.answers.reported.Goals as goal

pub returns : goal.returns
unfolding holds
returns c =
    let r = c.args.rows.now in
    ap₂ (λ (n : ℕ) (o : Option ℕ). judged (Listed n o)) (sym (length-groups 8 r.count r.table.now)) c.first_holding.ensures
    ∙ reported_is (question_by c.args.q.now) (rows_of r)
