-- The exits of the verdict from one start: each test that led there gives the verdict's answer, and the number says what the table is then.
-- Assumes nothing.
use Prim.Native.Nat.{ℕ, suc, ◌≤◌, ◌<◌}
use mathlib.Core.Bool.{Bool, true, false}
use mathlib.Core.List.{List, []}
use mathlib.Core.Path.{◌≡◌, refl, sym, ap, ◌∙◌}
use native.Mathlib.Omega.{arith}
use borrow.Author.Tests.{lt-ltb, le-ltb}
use lib.ListN.{length, get_or, take}
use Rattle.model.specs.declared.Command.{Command}
use Rattle.model.specs.declared.Verdict.{Verdict}
use Rattle.model.specs.Words.{◌when◌else◌, any, first_place, joined, groups, written_over}
use Rattle.model.specs.Kinds.{both, first_not_normal}
use Rattle.model.specs.Listing.{Row, first_duplicate, has_duplicate}
use Rattle.model.specs.Verdicts.{Question, Start, rows_from, only, holds, reported, duplicate_found, verdict_from, leaves_rows, table_after}
use Rattle.laws.proofs.Tests.{by_test, passed}
use Rattle.laws.proofs.Lists.{Sized, first_any, at_first, position_is}
use Rattle.std.specs.Prelude.{cond, ltb, Option, Some, None}
use Rattle.std.specs.List.{position}
use Rattle.std.proofs.lemmas.Option.{none-some, cond_some}
use Rattle.model.specs.declared.answers.Judgement.TheVariants.{NotNormal, Overlap, PastBudget, Duplicate, Listed}
use Rattle.model.specs.Answers.{judged}
use Rattle.laws.proofs.Verdicts.{reported_zero}
use Rattle.listing.specs.Searches.{Lists}
use Rattle.listing.proofs.Listed.{lists_rows}
use Rattle.verdicts.specs.Asking.{looked_up, Answered}

-- what is found tells whether one passes, and which is the first
module _ {A : Type 0} (test : A → Bool) (xs : List A) where
  found_by : position test xs ≡ cond (any test xs) (Some (first_place test xs)) None
  found_by = position_is test xs ∙ ap (λ (b : Bool). cond b (Some (first_place test xs)) None) (first_any test xs)

  pub found_none : position test xs ≡ None → any test xs ≡ false
  found_none e = by_test (any test xs) (λ p. absurd (none-some (first_place test xs) (sym e ∙ found_by ∙ rw p refl))) (λ q. q)

  pub found_some : (k : ℕ) → position test xs ≡ Some k → (any test xs ≡ true) × (first_place test xs ≡ k)
  found_some k e = cond_some (any test xs) (first_place test xs) k (sym found_by ∙ e)

  module _ (k : ℕ) (e : position test xs ≡ Some k) where
    within : first_place test xs < length xs
    within = simp passed at (first_any test xs ∙ (found_some k e).0)

    pub found_within : k < length xs
    found_within = omega (arith, within, (found_some k e).1)

    pub found_passes : (d : A) → test (get_or xs k d) ≡ true
    found_passes d = ap (λ (i : ℕ). test (get_or xs i d)) (sym (found_some k e).1) ∙ at_first test xs d within

-- a place that is given only if it is below a count
module _ (f n : ℕ) (o : Option ℕ) (given : o ≡ (Some f when ltb f n else None)) where
  pub below_some : (k : ℕ) → o ≡ Some k → (k < n) × (k ≡ f)
  below_some k e =
      let (b, same) = cond_some (ltb f n) f k (sym given ∙ e) in
      let l : f < n = simp passed at b in
      (omega (arith, same), sym same)

  pub below_none : o ≡ None → n ≤ f
  below_none e = by_test (ltb f n) (λ p. absurd (none-some f (sym e ∙ given ∙ rw p refl))) (λ q. let h : n < suc f = simp passed at q in omega (arith, h))

-- ---- 0, by the first row that holds the right

pub reported_is : (q : Question) (rows : List Row) → judged (Listed (length rows) (position (holds q) rows)) ≡ reported q rows
unfolding reported
reported_is q rows = by_test (any (holds q) rows) (λ p. rw (found_by (holds q) rows, p)) (λ e. rw (found_by (holds q) rows, e))

-- ---- 19, by the first row that has a duplicate step

module _ (commands : List Command) (kind set : ℕ) (is-both : set ≡ both commands kind) (q : Question) (rows : List Row) where
  pub no_duplicate : position (has_duplicate set commands kind) rows ≡ None → reported q rows ≡ looked_up commands kind q rows
  no_duplicate e = rw (← is-both, found_none (has_duplicate set commands kind) rows e)

  pub one_duplicate : (k : ℕ) → position (has_duplicate set commands kind) rows ≡ Some k → (n j : ℕ) → n ≡ length rows
      → j ≡ first_duplicate set commands kind (get_or rows k []) → judged (Duplicate n k j) ≡ looked_up commands kind q rows
  unfolding duplicate_found
  one_duplicate k e n j count command =
      let (some, first) = found_some (has_duplicate set commands kind) rows k e in
      rw (← is-both, some, first, ← count, ← command)

looked_leaves : (commands : List Command) (kind : ℕ) (q : Question) (rows : List Row) → leaves_rows (looked_up commands kind q rows).number ≡ true
unfolding leaves_rows duplicate_found
looked_leaves commands kind q rows =
    by_test (any (has_duplicate (both commands kind) commands kind) rows) (λ e. rw e) (λ e. rw (e, reported_zero q rows))

-- ---- the verdict

module _ (commands : List Command) (start : Start) (q : Question) (table : List ℕ) where
  abbrev rows : List Row
  rows = rows_from commands start q.budget

  left : (v : Verdict) → v ≡ verdict_from commands start q → leaves_rows v.number ≡ false → Answered commands start q table v table
  unfolding table_after
  left v is e = record { answer_is = is; table_is = rw (← is, e) }

  written : (v : Verdict) (after : List ℕ) → v ≡ verdict_from commands start q → leaves_rows v.number ≡ true
      → after ≡ written_over (joined (take q.budget rows)) table → Answered commands start q table v after
  unfolding table_after
  written v after is e now = record { answer_is = is; table_is = rw (← is, e) now }

  module _ (k : ℕ) (first : k ≡ first_not_normal commands start.kind) where
    pub not_normal : k < length commands → Answered commands start q table (judged (NotNormal k)) table
    unfolding verdict_from leaves_rows
    not_normal h =
        left (record { number = 16; states = 0; held = 0; state = 0; command = k }) (rw (← first, lt-ltb k (length commands) h)) refl

    module _ (normal : length commands ≤ k) where
      pub overlapped : start.overlap ≡ true → Answered commands start q table (judged Overlap) table
      unfolding verdict_from leaves_rows
      overlapped o = left (only 17) (rw (← first, le-ltb k (length commands) normal, o)) refl

      module _ (apart : start.overlap ≡ false) (n : ℕ) (after : List ℕ) (has : Lists rows q.budget table n after) where
        pub cut : q.budget < n → Answered commands start q table (judged (PastBudget q.budget)) after
        unfolding verdict_from leaves_rows
        cut h =
            written (record { number = 18; states = q.budget; held = 0; state = 0; command = 0 }) after
            (rw (← first, le-ltb k (length commands) normal, apart, lt-ltb q.budget (length rows) (omega (arith, has.counted)))) refl has.written

        pub whole : n ≤ q.budget → Sized 8 rows [] → (v : Verdict) → v ≡ looked_up commands start.kind q (groups 8 n after)
            → Answered commands start q table v after
        unfolding verdict_from
        whole h eight v is =
            let is-rows : v ≡ looked_up commands start.kind q rows = is ∙ ap (looked_up commands start.kind q) (lists_rows q.budget table eight has h) in
            written v after
            (is-rows ∙ rw (← first, le-ltb k (length commands) normal, apart, le-ltb q.budget (length rows) (omega (arith, has.counted))))
            (rw is-rows (looked_leaves commands start.kind q rows)) has.written
