-- The answers' records, as what a call found out is put into them: the number, and the value that comes with a 0. Fields not named are 0.
-- Assumes nothing.
use Rattle.std.specs.Prelude.{ℕ, Bool, cond, Some, None, Result, Ok, Err}
use Rattle.model.specs.declared.refusal.Refusal.{Refusal}
use Rattle.model.specs.declared.answers.Ran.{Ran}
use Rattle.model.specs.declared.answers.Judgement.{Judgement}
use Rattle.model.specs.declared.answers.Judgement.TheVariants.{NotNormal, Overlap, PastBudget, Duplicate, Listed}
use Rattle.model.specs.declared.SchemeRead.{SchemeRead}
use Rattle.model.specs.declared.RosterRead.{RosterRead}
use Rattle.model.specs.declared.BatchRun.{BatchRun}
use Rattle.model.specs.declared.MayUse.{MayUse}
use Rattle.model.specs.declared.AccessList.{AccessList}
use Rattle.model.specs.declared.Verdict.{Verdict}
use Rattle.model.specs.declared.Text.{Text}
use Rattle.model.specs.Refusals.{number_of_refusal, number_given}
use Rattle.model.specs.Verdicts.{only}

-- a refused scheme card: its number alone
abbrev pub scheme_refused : Refusal → SchemeRead
scheme_refused r = record { number = number_of_refusal r; types = 0; kinds = 0; rights = 0; commands = 0 }

-- the count that comes with a 0
abbrev pub count_given : Result ℕ Refusal → ℕ
count_given (Ok n) = n
count_given (Err r) = 0

abbrev pub roster_given : Result ℕ Refusal → RosterRead
roster_given answer = record { number = number_given answer; people = count_given answer }

abbrev pub list_given : Result ℕ Refusal → AccessList
list_given answer = record { number = number_given answer; people = count_given answer }

abbrev pub text_given : Result ℕ Refusal → Text
text_given answer = record { number = number_given answer; bytes = count_given answer }

abbrev pub may_given : Result Bool Refusal → MayUse
may_given (Ok may) = record { number = 0; may = cond may 1 0 }
may_given (Err r) = record { number = number_given {A = Bool} (Err r); may = 0 }

abbrev pub batch_given : Result Ran Refusal → BatchRun
batch_given (Ok run) = record { number = 0; requests = run.requests; done = run.done }
batch_given (Err r) = record { number = number_given {A = Ran} (Err r); requests = 0; done = 0 }

-- 16 to 19, and 0 with the first state that holds the right
abbrev pub judged : Judgement → Verdict
judged (NotNormal command) = record { number = 16; states = 0; held = 0; state = 0; command = command }
judged Overlap = only 17
judged (PastBudget budget) = record { number = 18; states = budget; held = 0; state = 0; command = 0 }
judged (Duplicate states state command) = record { number = 19; states = states; held = 0; state = state; command = command }
judged (Listed states None) = record { number = 0; states = states; held = 0; state = 0; command = 0 }
judged (Listed states (Some state)) = record { number = 0; states = states; held = 1; state = state; command = 0 }

abbrev pub verdict_given : Result Judgement Refusal → Verdict
verdict_given (Ok judgement) = judged judgement
verdict_given (Err r) = only (number_given {A = Judgement} (Err r))
