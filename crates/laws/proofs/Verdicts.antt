-- The verdict from 16 on, by its cases: each with the tests that led to it. Assumes nothing.
use mathlib.Core.Bool.{Bool, true, false}
use mathlib.Core.List.{List}
use mathlib.Core.Path.{◌≡◌}
use lib.Dec.{ltb}
use lib.ListN.{length}
use Rattle.model.specs.declared.Command.{Command}
use Rattle.model.specs.declared.Verdict.{Verdict}
use Rattle.model.specs.Words.{any}
use Rattle.model.specs.Kinds.{both, first_not_normal}
use Rattle.model.specs.Listing.{Row, has_duplicate}
use Rattle.model.specs.Verdicts.{Question, Start, rows_from, only, holds, reported, duplicate_found, verdict_from}
use Rattle.laws.proofs.Tests.{by_test}

-- what is answered when nothing is refused has the number 0
pub reported_zero : (q : Question) (rows : List Row) → (reported q rows).number ≡ 0
unfolding reported
reported_zero q rows = by_test (any (holds q) rows) (λ t. rw t) (λ t. rw t)

module _ (commands : List Command) (start : Start) (q : Question) where
  abbrev rows : List Row
  rows = rows_from commands start q.budget

  -- the four tests
  abbrev pub NotNormal : Bool → Type 0
  NotNormal b = ltb (first_not_normal commands start.kind) (length commands) ≡ b

  abbrev pub Overlaps : Bool → Type 0
  Overlaps b = start.overlap ≡ b

  abbrev pub Cut : Bool → Type 0
  Cut b = ltb q.budget (length rows) ≡ b

  abbrev pub Doubles : Bool → Type 0
  Doubles b = any (has_duplicate (both commands start.kind) commands start.kind) rows ≡ b

  pub by_verdict : (P : Verdict → Type 0)
      → (NotNormal true → P (record { number = 16; states = 0; held = 0; state = 0; command = first_not_normal commands start.kind }))
      → (NotNormal false → Overlaps true → P (only 17))
      → (NotNormal false → Overlaps false → Cut true → P (record { number = 18; states = q.budget; held = 0; state = 0; command = 0 }))
      → (NotNormal false → Overlaps false → Cut false → Doubles true → P (duplicate_found commands start.kind rows))
      → (NotNormal false → Overlaps false → Cut false → Doubles false → P (reported q rows))
      → P (verdict_from commands start q)
  unfolding verdict_from
  by_verdict P p16 p17 p18 p19 p0 =
      by_test (ltb (first_not_normal commands start.kind) (length commands)) (λ a. rw a (p16 a))
      (λ a.
      by_test start.overlap (λ b. rw (a, b) (p17 a b))
      (λ b.
      by_test (ltb q.budget (length rows)) (λ c. rw (a, b, c) (p18 a b c))
      (λ c.
      by_test (any (has_duplicate (both commands start.kind) commands start.kind) rows) (λ d. rw (a, b, c, d) (p19 a b c d)) (λ d. rw (a, b, c, d) (p0 a b c d)))))
