-- **once**: for each public call, two outcomes that satisfy its contract on the same input are equal, the answer and all lent memory.
-- Assumes nothing.
use Rattle.std.specs.Prelude.{ℕ, List, ◌≡◌}
use Rattle.model.specs.declared.Command.{Command}
use Rattle.model.specs.Schemes.{Scheme}
use Rattle.model.specs.Requests.{Request}
use Rattle.model.specs.Verdicts.{Question}
use Rattle.model.specs.Outcomes.{Handed, ReadSchemeOutcome, ReadRosterOutcome, RequestOutcome, RunBatchOutcome, MayUseOutcome, AccessListOutcome, VerdictOfCreateOutcome, VerdictOfDesignOutcome}
use Rattle.model.specs.Lines.{BatchTextOutcome, VerdictTextOutcome, BatchWantedOutcome, VerdictWantedOutcome}

-- a contract with an answer alone, and with one or two lent buffers at exit
abbrev pub Once₀ : {A : Type 0} → (A → Type 0) → Type 0
Once₀ {A = A} outcome = (a b : A) → outcome a → outcome b → a ≡ b

abbrev pub Once₁ : {A B : Type 0} → (A → B → Type 0) → Type 0
Once₁ {A = A} {B = B} outcome = (a a' : A) (b b' : B) → outcome a b → outcome a' b' → (a ≡ a') × (b ≡ b')

abbrev pub Once₂ : {A B C : Type 0} → (A → B → C → Type 0) → Type 0
Once₂ {A = A} {B = B} {C = C} outcome = (a a' : A) (b b' : B) (c c' : C) → outcome a b c → outcome a' b' c' → (a ≡ a') × (b ≡ b') × (c ≡ c')

pub record EachOnce : Type 0 where
  pub read_scheme : (card : List ℕ) (commands : List Command) → Once₁ (ReadSchemeOutcome card commands)
  pub read_roster : (s : Scheme) (card roster : List ℕ) → Once₁ (ReadRosterOutcome s card roster)
  pub request : (h : Handed) (q : Request) → Once₁ (RequestOutcome h q)
  pub run_batch : (h : Handed) (card answers : List ℕ) → Once₂ (RunBatchOutcome h card answers)
  pub may_use : (h : Handed) (person right : ℕ) (code : List ℕ) → Once₀ (MayUseOutcome h person right code)
  pub access_list : (h : Handed) (code list : List ℕ) → Once₁ (AccessListOutcome h code list)
  pub verdict_of_create : (s : Scheme) (command : ℕ) (q : Question) (table : List ℕ) → Once₁ (VerdictOfCreateOutcome s command q table)
  pub verdict_of_design : (h : Handed) (code : List ℕ) (q : Question) (table : List ℕ) → Once₁ (VerdictOfDesignOutcome h code q table)
  pub batch_text : (stream text : List ℕ) → Once₁ (BatchTextOutcome stream text)
  pub verdict_text : (stream table text : List ℕ) → Once₂ (VerdictTextOutcome stream table text)
  pub batch_wanted : (stream : List ℕ) → Once₀ (BatchWantedOutcome stream)
  pub verdict_wanted : (stream : List ℕ) → Once₀ (VerdictWantedOutcome stream)
