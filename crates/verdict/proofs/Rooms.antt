-- What is still wanted fits behind the bytes that were read, and what is printed is within the text. Assumes nothing.
use Rattle.std.proofs.Common.{ℕ, ◌+◌, ◌≤◌, List, length, arith}
use Rattle.model.specs.declared.Text.{Text}
use Rattle.model.specs.Lines.{verdict_wanted, VerdictTextOutcome, VerdictWantedOutcome}
use Rattle.streams.proofs.Fits.{card_fits, text_within}

pub wanted_fits : (read : List ℕ) (more : ℕ) → VerdictWantedOutcome read more → length read ≤ 65536 → length read + more ≤ 65536
unfolding verdict_wanted
wanted_fits read more outcome within = omega (arith, outcome.answer_is, card_fits read)

pub printed_fits : {stream table text : List ℕ} {answer : Text} {table_exit text_exit : List ℕ} → VerdictTextOutcome stream table text answer table_exit text_exit → answer.bytes ≤ length text_exit
printed_fits outcome = rw (outcome.answer_is, outcome.text_is) (text_within _ _ _)
