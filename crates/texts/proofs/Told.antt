-- What is printed at each exit of the verdict program's text, whose tests are the definition's, in its order.
-- Assumes nothing.
use Prim.Native.Nat.{ℕ, ◌*◌, ◌≤◌, ◌<◌}
use mathlib.Core.List.{List}
use mathlib.Core.Path.{◌≡◌, refl, ◌∙◌}
use native.Mathlib.Omega.{arith}
use borrow.Author.Tests.{le-leb, lt-leb, ne_eqb}
use lib.ListN.{length}
use Rattle.model.specs.declared.refusal.Refusal.{Refusal}
use Rattle.model.specs.Refusals.{number_of_refusal}
use Rattle.laws.proofs.Refusals.{refusal_not_zero}
use Rattle.model.specs.Sizes.{most_states, row_words}
use Rattle.model.specs.Schemes.{Scheme}
use Rattle.model.specs.Cards.{scheme_of, scheme_card_number}
use Rattle.model.specs.Lines.{line_x, card_of, create_lines, table_after_creates, verdict_text, table_of_stream, verdict_text_room, text_answer, verdict_text_number, VerdictTextOutcome}
use Rattle.lines.specs.Lines.{Put}
use Rattle.texts.proofs.Printing.{printed, put_ends}

module _ (stream table text : List ℕ) where
  refused : (n : ℕ) → verdict_text_number table text ≡ n → (n ≡ 0 → ⊥) → VerdictTextOutcome stream table text (record { number = n; bytes = 0 }) table text
  unfolding text_answer
  refused n e some =
      let test = ne_eqb n 0 some in
      record { answer_is = rw (e, test) refl; table_is = rw (e, test) refl; text_is = rw (e, test) refl }

  pub no_text : length text < verdict_text_room → VerdictTextOutcome stream table text (record { number = 20; bytes = 0 }) table text
  unfolding verdict_text_number
  no_text h = refused 20 (rw (lt-leb verdict_text_room (length text) h) refl) (λ e. absurd (omega arith))

  module _ (wide : verdict_text_room ≤ length text) where
    pub no_table : length table < row_words * most_states → VerdictTextOutcome stream table text (record { number = 15; bytes = 0 }) table text
    unfolding verdict_text_number
    no_table h =
        refused 15 (rw (le-leb verdict_text_room (length text) wide, lt-leb (row_words * most_states) (length table) h) refl) (λ e. absurd (omega arith))

    module _ (long : row_words * most_states ≤ length table) where
      not_refused : verdict_text_number table text ≡ 0
      unfolding verdict_text_number
      not_refused = rw (le-leb verdict_text_room (length text) wide, le-leb (row_words * most_states) (length table) long) refl

      all_told : {lines : List ℕ} {end : ℕ} {table_exit exit : List ℕ} → Put lines 0 text end exit → lines ≡ verdict_text stream
          → table_exit ≡ table_of_stream stream table → VerdictTextOutcome stream table text (printed end) table_exit exit
      unfolding text_answer
      all_told p e f = record {
        answer_is = put_ends p ∙ rw (not_refused, e) refl;
        table_is = f ∙ rw not_refused refl;
        text_is = p.wrote ∙ rw (not_refused, e) refl;
      }

      pub card_refused : (r : Refusal) → number_of_refusal r ≡ scheme_card_number (card_of stream) → {end : ℕ} {exit : List ℕ}
          → Put (line_x (number_of_refusal r)) 0 text end exit → VerdictTextOutcome stream table text (printed end) table exit
      unfolding verdict_text table_of_stream
      card_refused r e p =
          let some = ne_eqb (number_of_refusal r) 0 (refusal_not_zero r) in
          all_told p (rw (← e, some) refl) (rw (← e, some) refl)

      pub card_told : (s : Scheme) → s ≡ scheme_of (card_of stream) → 0 ≡ scheme_card_number (card_of stream) → {end : ℕ} {table_exit exit : List ℕ}
          → Put (create_lines s 0 s.commands) 0 text end exit → table_exit ≡ table_after_creates s.commands s.commands table
          → VerdictTextOutcome stream table text (printed end) table_exit exit
      unfolding verdict_text table_of_stream
      card_told s is none p f = all_told p (rw (← none, ← is) refl) (f ∙ rw (← none, ← is) refl)
