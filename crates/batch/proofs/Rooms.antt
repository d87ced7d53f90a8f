-- What is still wanted fits behind the bytes that were read, and what is printed is within the text. Assumes nothing.
use Rattle.std.proofs.Common.{ℕ, ◌+◌, ◌≤◌, List, length, arith}
use Rattle.model.specs.declared.Text.{Text}
use Rattle.model.specs.Lines.{BatchTextOutcome, BatchWantedOutcome}
use Rattle.streams.proofs.Fits.{cards_fit, text_within}

pub wanted_fits : (read : List ℕ) (more : ℕ) → BatchWantedOutcome read more → length read ≤ 196608 → length read + more ≤ 196608
wanted_fits read more outcome within = omega (arith, outcome.answer_is, cards_fit read)

pub printed_fits : {stream text : List ℕ} {answer : Text} {text_exit : List ℕ} → BatchTextOutcome stream text answer text_exit → answer.bytes ≤ length text_exit
printed_fits outcome = rw (outcome.answer_is, outcome.text_is) (text_within _ _ _)
