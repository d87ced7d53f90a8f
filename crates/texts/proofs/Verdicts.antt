-- What the verdict from a start says of the listing: how large its numbers are, and with 0 that the table holds exactly the listed rows.
-- Assumes nothing.
use Prim.Native.Nat.{ℕ, ◌≤◌}
use mathlib.Core.List.{List}
use mathlib.Core.Path.{◌≡◌, refl}
use native.Mathlib.Omega.{arith}
use borrow.Author.Tests.{ltb-false}
use lib.ListN.{length}
use Rattle.model.specs.declared.Command.{Command}
use Rattle.model.specs.Words.{any, groups}
use Rattle.model.specs.Listing.{Row}
use Rattle.model.specs.Verdicts.{Question, Start, rows_from, holds, reported, duplicate_found, verdict_from, leaves_rows, table_after}
use Rattle.laws.proofs.Tests.{by_test}
use Rattle.laws.proofs.Verdicts.{reported_zero, by_verdict}
use Rattle.laws.proofs.Budgets.{listing_sized}
use Rattle.listing.proofs.Listed.{lists_rows}

reported_states : (q : Question) (rows : List Row) → (reported q rows).states ≡ length rows
unfolding reported
reported_states q rows = by_test (any (holds q) rows) (λ t. rw t) (λ t. rw t)

module _ (commands : List Command) (start : Start) (q : Question) where
  abbrev rows : List Row
  rows = rows_from commands start q.budget

  pub number_few : (verdict_from commands start q).number ≤ 19
  unfolding duplicate_found
  number_few =
      by_verdict commands start q (λ v. v.number ≤ 19) (λ a. omega arith) (λ a b. omega arith) (λ a b c. omega arith) (λ a b c d. omega arith)
      (λ a b c d. rw (reported_zero q rows) (omega arith))

  pub states_few : (verdict_from commands start q).states ≤ q.budget
  unfolding duplicate_found
  states_few =
      by_verdict commands start q (λ v. v.states ≤ q.budget) (λ a. omega arith) (λ a b. omega arith) (λ a b c. omega arith)
      (λ a b c d. ltb-false q.budget (length rows) c)
      (λ a b c d. rw (reported_states q rows) (ltb-false q.budget (length rows) c))

  module _ (zero : (verdict_from commands start q).number ≡ 0) where
    -- the states are those of the listing
    pub states_are : (verdict_from commands start q).states ≡ length rows
    unfolding duplicate_found
    states_are =
        by_verdict commands start q (λ v. v.number ≡ 0 → v.states ≡ length rows) (λ a e. absurd (omega arith)) (λ a b e. absurd (omega arith))
        (λ a b c e. absurd (omega arith)) (λ a b c d e. refl) (λ a b c d e. reported_states q rows) zero

    -- and the table begins with them
    pub table_rows : length start.row ≡ 8 → (table : List ℕ) → groups 8 (verdict_from commands start q).states (table_after commands start q table) ≡ rows
    unfolding table_after leaves_rows
    table_rows wide table =
        lists_rows q.budget table (listing_sized 8 commands start.kind start.row wide q.budget)
        (record { counted = omega (arith, states_are, states_few); written = rw zero refl }) states_few
