-- **zero exactly**: each refusal of a verdict from 16 on is a test over all commands or all rows, and it is passed exactly if its premise fails.
-- Assumes nothing.
use Prim.Native.Nat.{ℕ, zero, suc, ◌<◌}
use mathlib.Core.Bool.{Bool, true, false, ◌&&◌, not}
use mathlib.Core.List.{List, []}
use mathlib.Core.Logic.{◌↔◌}
use mathlib.Core.Path.{◌≡◌, refl, sym, ap, ◌∙◌}
use native.Mathlib.Omega.{arith}
use lib.Dec.{ltb}
use lib.ListN.{length, get_or}
use borrow.Author.Tests.{ltb-false, le-ltb, ne_eqb}
use Rattle.model.specs.declared.Command.{Command}
use Rattle.model.specs.declared.Verdict.{Verdict}
use Rattle.model.specs.Words.{any}
use Rattle.model.specs.Schemes.{command_in, command_at, no_command}
use Rattle.model.specs.Kinds.{both, is_step, is_normal, first_not_normal}
use Rattle.model.specs.Listing.{Row, fires, is_duplicate, first_duplicate, has_duplicate}
use Rattle.model.specs.Verdicts.{Question, Start, start_of_create, rows_from, holds, reported, duplicate_found, verdict_from}
use Rattle.model.specs.Outcomes.{verdict_answer, create_call_number, design_call_number, start_in}
use Rattle.laws.proofs.Tests.{by_test, never_both}
use Rattle.laws.proofs.Verdicts.{by_verdict, reported_zero}
use Rattle.laws.proofs.Lists.{none_at, at_none, first_any}
use Rattle.safety.specs.Premises.{Premises}
use Rattle.safety.specs.Promises.{ZeroOfCreate, ZeroOfDesign}

-- of two tests, not both pass
both_false : (a b : Bool) → ((a && b) ≡ false) ↔ (a ≡ true → b ≡ false)
both_false true b = (λ h p. h, λ h. h refl)
both_false false b = (λ h p. absurd (never_both p refl), λ h. refl)

or_not : (a b : Bool) → ((a && not b) ≡ false) ↔ (a ≡ true → b ≡ true)
or_not a true = (λ h p. refl, λ h. (both_false a false).1 (λ p. refl))
or_not a false = (λ h p. absurd (never_both refl ((both_false a true).0 h p)), λ h. (both_false a true).1 (λ p. absurd (never_both (h p) refl)))

module _ (commands : List Command) (kind : ℕ) where
  -- 16 is not given exactly if every step of the kind is normal
  normal_iff : (ltb (first_not_normal commands kind) (length commands) ≡ false)
      ↔ ((k : ℕ) → k < length commands → is_step kind (command_in commands k) ≡ true → is_normal commands kind (command_in commands k) ≡ true)
  unfolding first_not_normal
  normal_iff = (
    λ h k l. (or_not (is_step kind (command_in commands k)) (is_normal commands kind (command_in commands k))).0
        (none_at bad commands no_command (sym (first_any bad commands) ∙ h) k l),
    λ h. first_any bad commands
        ∙ at_none bad commands no_command
        (λ k l. (or_not (is_step kind (command_in commands k)) (is_normal commands kind (command_in commands k))).1 (h k l)),
  )
    where
      bad : Command → Bool
      bad c = is_step kind c && not (is_normal commands kind c)

  -- 19 is not given exactly if no step of a listed state is duplicate
  single_iff : (rows : List Row) → (any (has_duplicate (both commands kind) commands kind) rows ≡ false)
      ↔ ((i k : ℕ) → i < length rows → k < length commands → fires kind (command_in commands k) (get_or rows i []) ≡ true
      → is_duplicate (both commands kind) (command_in commands k) (get_or rows i []) ≡ false)
  unfolding has_duplicate first_duplicate
  single_iff rows = (
    λ h i k l m. (both_false (fires kind (command_in commands k) (get_or rows i [])) (is_duplicate (both commands kind) (command_in commands k) (get_or rows i []))).0
        (none_at (bad (get_or rows i [])) commands no_command
        (sym (first_any (bad (get_or rows i [])) commands) ∙ none_at (has_duplicate (both commands kind) commands kind) rows [] h i l) k m),
    λ h. at_none (has_duplicate (both commands kind) commands kind) rows []
        (λ i l. first_any (bad (get_or rows i [])) commands
        ∙ at_none (bad (get_or rows i [])) commands no_command
        (λ k m. (both_false (fires kind (command_in commands k) (get_or rows i [])) (is_duplicate (both commands kind) (command_in commands k) (get_or rows i []))).1 (h i k l m))),
  )
    where
      bad : Row → Command → Bool
      bad row c = fires kind c row && is_duplicate (both commands kind) c row

-- ---- the verdict's number is 0 exactly if the four premises hold

module _ (commands : List Command) (start : Start) (q : Question) where
  abbrev rows : List Row
  rows = rows_from commands start q.budget

  pub premises_zero : Premises commands start q.budget → verdict_from commands start q ≡ reported q rows
  unfolding verdict_from
  premises_zero p =
      rw (
        (normal_iff commands start.kind).1 p.normal,
        p.apart,
        le-ltb q.budget (length rows) p.fits,
        (single_iff commands start.kind rows).1 p.single,
      )

  pub zero_premises : (verdict_from commands start q).number ≡ 0 → Premises commands start q.budget
  unfolding duplicate_found
  zero_premises =
      by_verdict commands start q (λ v. v.number ≡ 0 → Premises commands start q.budget) (λ a h. absurd (omega arith)) (λ a b h. absurd (omega arith))
      (λ a b c h. absurd (omega arith)) (λ a b c d h. absurd (omega arith))
      (λ a b c d h. record {
        normal = (normal_iff commands start.kind).0 a;
        apart = b;
        fits = ltb-false q.budget (length rows) c;
        single = (single_iff commands start.kind rows).0 d;
      })

  -- held is 1 only with 0, and says that a listed row has the right at the type
  pub held_any : (verdict_from commands start q).held ≡ 1 → any (holds q) rows ≡ true
  unfolding duplicate_found reported
  held_any =
      by_verdict commands start q (λ v. v.held ≡ 1 → any (holds q) rows ≡ true) (λ a h. absurd (omega arith)) (λ a b h. absurd (omega arith))
      (λ a b c h. absurd (omega arith)) (λ a b c d h. absurd (omega arith))
      (λ a b c d h. by_test (any (holds q) rows) (λ e. e) (λ e. absurd (omega (arith, rw e at h))))

  pub zero_iff : ((verdict_from commands start q).number ≡ 0) ↔ Premises commands start q.budget
  zero_iff = (zero_premises, λ p. ap (λ (v : Verdict). v.number) (premises_zero p) ∙ reported_zero q rows)

-- a call answers 0 exactly if it refuses nothing before 16 and its verdict is 0
answer_zero : (n : ℕ) (v : Verdict) → ((verdict_answer n v).number ≡ 0) ↔ ((n ≡ 0) × (v.number ≡ 0))
unfolding verdict_answer
answer_zero zero v = (λ h. (refl, h), λ p. p.1)
answer_zero (suc n) v =
    (λ h. absurd (omega (arith, rw (ne_eqb (suc n) 0 (λ e. omega arith)) at h)), λ p. absurd (omega (arith, p.0)))

asked_zero : (n : ℕ) (commands : List Command) (start : Start) (q : Question) (answer : Verdict)
    → answer ≡ verdict_answer n (verdict_from commands start q)
    → (answer.number ≡ 0) ↔ ((n ≡ 0) × Premises commands start q.budget)
asked_zero n commands start q answer e =
    let v = verdict_from commands start q in (
      λ h.
          let (none, zero_number) = (answer_zero n v).0 (ap (λ (a : Verdict). a.number) (sym e) ∙ h) in
          (none, zero_premises commands start q zero_number),
      λ p. ap (λ (a : Verdict). a.number) e ∙ (answer_zero n v).1 (p.0, (zero_iff commands start q).1 p.1),
    )

pub zero_of_create : ZeroOfCreate
zero_of_create s command q table answer table_exit o =
    asked_zero (create_call_number s command q table) s.commands (start_of_create (command_at s command)) q answer o.answer_is

pub zero_of_design : ZeroOfDesign
zero_of_design h code q table answer table_exit o =
    asked_zero (design_call_number h code q table) h.scheme.commands (start_in h code) q answer o.answer_is
