-- Of a scheme that is not valid, only that matters: a call's outcome is the same whatever its commands are. So a scheme that was loaded from a list that
-- is too long stands for the list. Assumes nothing.
use Prim.Native.Nat.{ℕ}
use mathlib.Core.Bool.{Bool, true, false, not, ◌&&◌}
use mathlib.Core.List.{List}
use mathlib.Core.Logic.{◌⊎◌, ⊎_elim}
use mathlib.Core.Path.{◌≡◌, refl, sym, subst, ◌∙◌}
use lib.Dec.{eqb}
use Rattle.model.specs.declared.RosterRead.{RosterRead}
use Rattle.model.specs.declared.BatchRun.{BatchRun}
use Rattle.model.specs.declared.MayUse.{MayUse}
use Rattle.model.specs.declared.AccessList.{AccessList}
use Rattle.model.specs.declared.Verdict.{Verdict}
use Rattle.model.specs.Words.{◌when◌else◌, ◌then◌}
use Rattle.model.specs.Sizes.{most_requests, roster_room, access_room}
use Rattle.model.specs.Schemes.{Scheme, scheme_number}
use Rattle.model.specs.Requests.{Request}
use Rattle.model.specs.Cards.{is_roster_card, roster_card_number, batch_card_number}
use Rattle.model.specs.Verdicts.{Question}
use Rattle.model.specs.Outcomes.{on_done, has_room, read_roster_number, roster_read, ReadRosterOutcome, handed_from, has_rooms, handed_number, request_call_number, RequestOutcome, run_batch_number, batch_run, RunBatchOutcome, may_use_call_number, may_use_answer, MayUseOutcome, access_list_number, access_list_answer, AccessListOutcome, create_call_number, design_call_number, verdict_answer, VerdictOfCreateOutcome, VerdictOfDesignOutcome}
use Rattle.laws.proofs.Tests.{by_test}

-- two schemes are one for every call: they are the same, or both are refused
abbrev pub AsOne : Scheme → Scheme → Type 0
AsOne s t = (s ≡ t) ⊎ ((scheme_number s ≡ 2) × (scheme_number t ≡ 2))

-- ---- a refusal, whatever comes after it

-- a number that isn't 0 leaves a buffer as found, and answers alone
module _ {A : Type 0} where
  found_left : (n : ℕ) (new found : List A) → eqb n 0 ≡ false → on_done n new found ≡ found
  found_left n new found e = rw e

refused_20 : (b : Bool) (n : ℕ) → eqb n 0 ≡ false → eqb (20 when not b else n) 0 ≡ false
refused_20 true n e = e
refused_20 false n e = refl

refused_then : (m n : ℕ) → eqb n 0 ≡ false → eqb (m then n) 0 ≡ false
refused_then m n e = by_test (eqb m 0) (λ z. rw z e) (λ s. rw s s)

-- ---- each call with a scheme that is refused

module _ (s t : Scheme) (one : AsOne s t) where
  -- what a scheme's number decides is the same for both
  by_one_lem : (P : Scheme → Type 0) → P s → ((scheme_number s ≡ 2) → (scheme_number t ≡ 2) → P t) → P t
  by_one_lem P p refused = ⊎_elim (λ e. subst P e p) (λ bad. refused bad.0 bad.1) one

  module _ (roster : List ℕ) (people : ℕ) (store : List ℕ) where
    handed_two : (r : Scheme) → scheme_number r ≡ 2 → handed_number (handed_from r roster people store) ≡ 2
    unfolding handed_number
    handed_two r bad = rw bad

    -- the number of a call that checks what is handed over after some room, and what it leaves
    pub request_as_one : (q : Request) (answer : ℕ) (exit : List ℕ) → RequestOutcome (handed_from s roster people store) q answer exit
        → RequestOutcome (handed_from t roster people store) q answer exit
    unfolding request_call_number has_rooms
    request_as_one q answer exit o =
        by_one_lem (λ r. RequestOutcome (handed_from r roster people store) q answer exit) o
        (λ bad-s bad-t. record {
          answer_is = o.answer_is ∙ number s bad-s ∙ sym (number t bad-t);
          store_is = rw (some t bad-t) (rw (some s bad-s) at o.store_is);
        })
      where
        number : (r : Scheme) → scheme_number r ≡ 2
            → request_call_number (handed_from r roster people store) q ≡ (20 when not (has_rooms (handed_from s roster people store)) else 2)
        number r bad = rw (handed_two r bad)

        some : (r : Scheme) → scheme_number r ≡ 2 → eqb (request_call_number (handed_from r roster people store) q) 0 ≡ false
        some r bad = rw (number r bad) (refused_20 (has_rooms (handed_from s roster people store)) 2 refl)

    pub run_batch_as_one : (card answers : List ℕ) (answer : BatchRun) (exit answers_exit : List ℕ)
        → RunBatchOutcome (handed_from s roster people store) card answers answer exit answers_exit
        → RunBatchOutcome (handed_from t roster people store) card answers answer exit answers_exit
    unfolding run_batch_number has_rooms batch_run
    run_batch_as_one card answers answer exit answers_exit o =
        by_one_lem (λ r. RunBatchOutcome (handed_from r roster people store) card answers answer exit answers_exit) o
        (λ bad-s bad-t. record {
          answer_is = rw (some t bad-t, number t bad-t) (rw (some s bad-s, number s bad-s) at o.answer_is);
          store_is = rw (some t bad-t) (rw (some s bad-s) at o.store_is);
          answers_are = rw (some t bad-t) (rw (some s bad-s) at o.answers_are);
        })
      where
        number : (r : Scheme) → scheme_number r ≡ 2 → run_batch_number (handed_from r roster people store) card answers
            ≡ (20 when not (has_rooms (handed_from s roster people store) && has_room most_requests answers) else batch_card_number card then 2)
        number r bad = rw (handed_two r bad)

        some : (r : Scheme) → scheme_number r ≡ 2 → eqb (run_batch_number (handed_from r roster people store) card answers) 0 ≡ false
        some r bad =
            rw (number r bad)
            (refused_20 (has_rooms (handed_from s roster people store) && has_room most_requests answers) (batch_card_number card then 2) (refused_then (batch_card_number card) 2 refl))

    pub may_use_as_one : (person right : ℕ) (code : List ℕ) (answer : MayUse) → MayUseOutcome (handed_from s roster people store) person right code answer
        → MayUseOutcome (handed_from t roster people store) person right code answer
    unfolding may_use_call_number has_rooms may_use_answer
    may_use_as_one person right code answer o =
        by_one_lem (λ r. MayUseOutcome (handed_from r roster people store) person right code answer) o
        (λ bad-s bad-t. record { answer_is = rw (some t bad-t, number t bad-t) (rw (some s bad-s, number s bad-s) at o.answer_is) })
      where
        number : (r : Scheme) → scheme_number r ≡ 2 → may_use_call_number (handed_from r roster people store) person right code
            ≡ (20 when not (has_rooms (handed_from s roster people store)) else 2)
        number r bad = rw (handed_two r bad)

        some : (r : Scheme) → scheme_number r ≡ 2 → eqb (may_use_call_number (handed_from r roster people store) person right code) 0 ≡ false
        some r bad = rw (number r bad) (refused_20 (has_rooms (handed_from s roster people store)) 2 refl)

    pub access_list_as_one : (code list : List ℕ) (answer : AccessList) (exit : List ℕ)
        → AccessListOutcome (handed_from s roster people store) code list answer exit
        → AccessListOutcome (handed_from t roster people store) code list answer exit
    unfolding access_list_number has_rooms access_list_answer
    access_list_as_one code list answer exit o =
        by_one_lem (λ r. AccessListOutcome (handed_from r roster people store) code list answer exit) o
        (λ bad-s bad-t. record {
          answer_is = rw (some t bad-t, number t bad-t) (rw (some s bad-s, number s bad-s) at o.answer_is);
          list_is = rw (some t bad-t) (rw (some s bad-s) at o.list_is);
        })
      where
        number : (r : Scheme) → scheme_number r ≡ 2 → access_list_number (handed_from r roster people store) code list
            ≡ (20 when not (has_rooms (handed_from s roster people store) && has_room access_room list) else 2)
        number r bad = rw (handed_two r bad)

        some : (r : Scheme) → scheme_number r ≡ 2 → eqb (access_list_number (handed_from r roster people store) code list) 0 ≡ false
        some r bad = rw (number r bad) (refused_20 (has_rooms (handed_from s roster people store) && has_room access_room list) 2 refl)

    pub verdict_of_design_as_one : (code : List ℕ) (q : Question) (table : List ℕ) (answer : Verdict) (exit : List ℕ)
        → VerdictOfDesignOutcome (handed_from s roster people store) code q table answer exit
        → VerdictOfDesignOutcome (handed_from t roster people store) code q table answer exit
    unfolding design_call_number has_rooms verdict_answer
    verdict_of_design_as_one code q table answer exit o =
        by_one_lem (λ r. VerdictOfDesignOutcome (handed_from r roster people store) code q table answer exit) o
        (λ bad-s bad-t. record {
          answer_is = rw (some t bad-t, number t bad-t) (rw (some s bad-s, number s bad-s) at o.answer_is);
          table_is = rw (some t bad-t) (rw (some s bad-s) at o.table_is);
        })
      where
        number : (r : Scheme) → scheme_number r ≡ 2 → design_call_number (handed_from r roster people store) code q table
            ≡ (20 when not (has_rooms (handed_from s roster people store)) else 2)
        number r bad = rw (handed_two r bad)

        some : (r : Scheme) → scheme_number r ≡ 2 → eqb (design_call_number (handed_from r roster people store) code q table) 0 ≡ false
        some r bad = rw (number r bad) (refused_20 (has_rooms (handed_from s roster people store)) 2 refl)

  pub verdict_of_create_as_one : (command : ℕ) (q : Question) (table : List ℕ) (answer : Verdict) (exit : List ℕ)
      → VerdictOfCreateOutcome s command q table answer exit → VerdictOfCreateOutcome t command q table answer exit
  unfolding create_call_number verdict_answer
  verdict_of_create_as_one command q table answer exit o =
      by_one_lem (λ r. VerdictOfCreateOutcome r command q table answer exit) o
      (λ bad-s bad-t. record { answer_is = rw bad-t (rw bad-s at o.answer_is); table_is = rw bad-t (rw bad-s at o.table_is) })

  pub read_roster_as_one : (card roster : List ℕ) (answer : RosterRead) (exit : List ℕ)
      → ReadRosterOutcome s card roster answer exit → ReadRosterOutcome t card roster answer exit
  unfolding read_roster_number roster_card_number roster_read
  read_roster_as_one card roster answer exit o =
      by_one_lem (λ r. ReadRosterOutcome r card roster answer exit) o
      (λ bad-s bad-t. record {
        answer_is = rw (some t bad-t, number t bad-t) (rw (some s bad-s, number s bad-s) at o.answer_is);
        roster_is = rw (some t bad-t) (rw (some s bad-s) at o.roster_is);
      })
    where
      number : (r : Scheme) → scheme_number r ≡ 2 → read_roster_number r card roster
          ≡ (20 when not (has_room roster_room roster) else 1 when not (is_roster_card card) else 2)
      number r bad = rw bad

      some : (r : Scheme) → scheme_number r ≡ 2 → eqb (read_roster_number r card roster) 0 ≡ false
      some r bad =
          rw (number r bad)
          (refused_20 (has_room roster_room roster) (1 when not (is_roster_card card) else 2) (by_test (is_roster_card card) (λ e. rw e) (λ e. rw e)))
