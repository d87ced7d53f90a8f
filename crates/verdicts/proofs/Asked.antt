-- What is refused before 16, by the tests in their order, and what is answered where nothing is; and what a question in range may assume.
-- Assumes nothing.
use Prim.Native.Nat.{ℕ, ◌≤◌}
use mathlib.Core.Bool.{Bool, true, false, ◌&&◌}
use mathlib.Core.List.{List}
use mathlib.Core.Path.{◌≡◌, refl, sym, ◌∙◌}
use native.Mathlib.Omega.{arith}
use borrow.Author.Tests.{ne_eqb}
use lib.Dec.{ltb}
use lib.ListN.{length}
use Rattle.std.specs.Prelude.{Result, Err, Option, Some, None}
use Rattle.model.specs.declared.Verdict.{Verdict}
use Rattle.model.specs.declared.refusal.Refusal.{Refusal}
use Rattle.model.specs.declared.answers.Judgement.{Judgement}
use Rattle.model.specs.Refusals.{number_of_refusal}
use Rattle.model.specs.Answers.{verdict_given}
use Rattle.model.specs.Schemes.{Scheme, is_create, command_at, scheme_is_valid, scheme_number}
use Rattle.model.specs.Stores.{named_number}
use Rattle.model.specs.Verdicts as asked
use Rattle.model.specs.Verdicts.{start_of_create, is_in_range, create_asked_number, design_asked_number}
use Rattle.model.specs.Outcomes.{Handed, designs_in, handed_number, start_in, verdict_answer, create_call_number, design_call_number, VerdictOfCreateOutcome, VerdictOfDesignOutcome}
use Rattle.laws.proofs.Tests.{passed, accepted, by_test}
use Rattle.std.proofs.lemmas.Option.{none-some}
use Rattle.model.specs.Words.{◌when◌else◌}
use Rattle.laws.proofs.Refusals.{refusal_not_zero, refused_here}
use Rattle.schemes.specs.declared.Loaded.{Loaded}
use Rattle.schemes.specs.Loads.{scheme_in}
use Rattle.handed.specs.Handing.{rooms_number}
use Rattle.handed.proofs.Numbers.{no_room, all_rooms}
use Rattle.verdicts.specs.declared.Question.{Question}
use Rattle.verdicts.specs.Asking.{question_by, Askable, Answered}

pub valid_by : (s : Scheme) → scheme_number s ≡ 0 → scheme_is_valid s ≡ true
unfolding scheme_number
valid_by s e = by_test (scheme_is_valid s) (λ p. p) (λ q. absurd (omega (arith, rw q at e)))

-- nothing is given where the test fails
pub not_there : {A : Type 0} (b : Bool) (x : A) (o : Option A) → o ≡ (Some x when b else None) → o ≡ None → b ≡ false
not_there b x o given e = by_test b (λ p. absurd (none-some x (sym e ∙ given ∙ rw p refl))) (λ q. q)

pub handed_valid : (h : Handed) → handed_number h ≡ 0 → scheme_is_valid h.scheme ≡ true
unfolding handed_number scheme_number
handed_valid h e = (simp accepted at e).0.0

pub askable : (l : Loaded) → scheme_is_valid (scheme_in l) ≡ true → l.count ≤ 64 → (q : Question) (table : List ℕ)
    → is_in_range (scheme_in l) (question_by q) (length table) ≡ true → Askable l q table
unfolding scheme_is_valid is_in_range
askable l valid few q table range =
    let v = simp passed at valid in
    let r = simp passed at range in
    record {
      kept = few;
      right_below = omega (arith, r.0.0.1, v.0.0.1.1);
      some_budget = r.0.1.0;
      room = record { most = r.0.1.1; wide = omega (arith, r.1) };
    }

-- ---- from a create

module _ (s : Scheme) (command : ℕ) (q : asked.Question) (table : List ℕ) where
  pub create_refused : (x : Result Judgement Refusal) (r : Refusal) → x ≡ Err r → number_of_refusal r ≡ create_call_number s command q table
      → VerdictOfCreateOutcome s command q table (verdict_given x) table
  unfolding verdict_answer
  create_refused x r is e =
      let some = ne_eqb (number_of_refusal r) 0 (refusal_not_zero r) in
      rw is (record { answer_is = rw (← e, some); table_is = rw (← e, some) })

  pub create_answered : 0 ≡ create_call_number s command q table → {answer : Verdict} {after : List ℕ}
      → Answered s.commands (start_of_create (command_at s command)) q table answer after → VerdictOfCreateOutcome s command q table answer after
  unfolding verdict_answer
  create_answered e a = record { answer_is = rw (← e) a.answer_is; table_is = rw (← e) a.table_is }

  pub create_invalid : (r : Refusal) → number_of_refusal r ≡ scheme_number s → number_of_refusal r ≡ create_call_number s command q table
  unfolding create_call_number
  create_invalid r e = refused_here _ _ r e

  module _ (valid : 0 ≡ scheme_number s) where
    pub create_out : is_in_range s q (length table) ≡ false → 15 ≡ create_call_number s command q table
    unfolding create_call_number create_asked_number
    create_out r = rw (← valid, r) refl

    module _ (range : is_in_range s q (length table) ≡ true) where
      pub create_other : ltb command (length s.commands) && is_create (command_at s command) ≡ false → 15 ≡ create_call_number s command q table
      unfolding create_call_number create_asked_number
      create_other f = rw (← valid, range, f) refl

      pub create_in : ltb command (length s.commands) && is_create (command_at s command) ≡ true → 0 ≡ create_call_number s command q table
      unfolding create_call_number create_asked_number
      create_in f = rw (← valid, range, f) refl

-- ---- from a design

module _ (h : Handed) (code : List ℕ) (q : asked.Question) (table : List ℕ) where
  pub design_refused : (x : Result Judgement Refusal) (r : Refusal) → x ≡ Err r → number_of_refusal r ≡ design_call_number h code q table
      → VerdictOfDesignOutcome h code q table (verdict_given x) table
  unfolding verdict_answer
  design_refused x r is e =
      let some = ne_eqb (number_of_refusal r) 0 (refusal_not_zero r) in
      rw is (record { answer_is = rw (← e, some); table_is = rw (← e, some) })

  pub design_answered : 0 ≡ design_call_number h code q table → {answer : Verdict} {after : List ℕ}
      → Answered h.scheme.commands (start_in h code) q table answer after → VerdictOfDesignOutcome h code q table answer after
  unfolding verdict_answer
  design_answered e a = record { answer_is = rw (← e) a.answer_is; table_is = rw (← e) a.table_is }

  pub design_no_room : (r : Refusal) → number_of_refusal r ≡ rooms_number h.roster h.store → number_of_refusal r ≡ design_call_number h code q table
  unfolding design_call_number
  design_no_room r e = rw (no_room h r e).0 (sym (no_room h r e).1)

  module _ (room : 0 ≡ rooms_number h.roster h.store) where
    pub design_not_handed : (r : Refusal) → number_of_refusal r ≡ handed_number h → number_of_refusal r ≡ design_call_number h code q table
    unfolding design_call_number
    design_not_handed r e = rw (all_rooms h room) (refused_here _ _ r e)

    module _ (z : handed_number h ≡ 0) where
      pub design_out : is_in_range h.scheme q (length table) ≡ false → 15 ≡ design_call_number h code q table
      unfolding design_call_number design_asked_number
      design_out r = rw (all_rooms h room, z, r) refl

      pub design_named : is_in_range h.scheme q (length table) ≡ true → (n : ℕ) → n ≡ named_number (designs_in h) code → n ≡ design_call_number h code q table
      unfolding design_call_number design_asked_number
      design_named r n e = rw (all_rooms h room, z, r) e
