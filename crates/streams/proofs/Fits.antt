-- What a program's buffers have room for: what is still wanted never takes a stream past the most bytes of its cards, and a text is within the buffer
-- that it was written into. Assumes nothing.
use Prim.Native.Nat.{ℕ, ◌+◌, ◌-◌, ◌≤◌}
use mathlib.Core.Path.{◌≡◌, sym, ap, ◌∙◌}
use mathlib.Core.Bool.{true}
use mathlib.Core.List.{List}
use mathlib.Core.Logic.{by_cases}
use native.Mathlib.Omega.{arith}
use native.Mathlib.Decide.{ℕ_discrete, dec_lt}
use lib.Dec.{eqb}
use lib.ListN.{length, drop, length-append, take-append-drop}
use Rattle.model.specs.Words.{written_over}
use Rattle.model.specs.Schemes.{Scheme}
use Rattle.model.specs.Cards.{version, scheme_of, is_card, is_scheme_card, is_roster_card, scheme_card_number, roster_card_number}
use Rattle.model.specs.Outcomes.{on_done}
use Rattle.model.specs.Lines.{card_length, card_of, after_card, card_wanted, batch_wanted, text_answer}
use Rattle.laws.proofs.Tests.{by_test, passed, accepted}
use Rattle.streams.proofs.Wanted.{wanted_none_yet, wanted_version, wanted_header, wanted_long, wanted_rest, first_wanted, scheme_refused, second_wanted, roster_refused, third_wanted}

-- ---- a card that is read has at most 65,536 bytes

module _ (card : List ℕ) where
  most_of_card : is_card card ≡ true → length card ≤ 65536
  unfolding is_card
  most_of_card h = let facts = simp passed at h in facts.0.0.1

  most_of_scheme : scheme_card_number card ≡ 0 → length card ≤ 65536
  unfolding scheme_card_number is_scheme_card
  most_of_scheme h = most_of_card (simp accepted at h).0.0.0

  most_of_roster : (s : Scheme) → roster_card_number s card ≡ 0 → length card ≤ 65536
  unfolding roster_card_number is_roster_card
  most_of_roster s h = most_of_card (simp accepted at h).0.0.0

module _ (stream : List ℕ) where
  -- a card and what follows it
  both_parts : length stream ≡ length (card_of stream) + length (after_card stream)
  both_parts = ap length (sym (take-append-drop (card_length stream) stream)) ∙ length-append (card_of stream) (after_card stream)

  -- ---- one card, and three

  pub card_fits : card_wanted stream ≤ 65536 - length stream
  card_fits =
      by_cases (dec_lt (length stream) 1) (λ none. omega (arith, wanted_none_yet stream none, none))
      (λ n.
      let some : 1 ≤ length stream = omega arith in
      by_cases (ℕ_discrete (version stream) 1)
      (λ v.
      by_cases (dec_lt (length stream) 3) (λ short. omega (arith, wanted_header stream some v short, short))
      (λ m.
      let head : 3 ≤ length stream = omega arith in
      by_cases (dec_lt 65536 (card_length stream)) (λ long. omega (arith, wanted_long stream some v head long))
      (λ k. let most : card_length stream ≤ 65536 = omega arith in omega (arith, wanted_rest stream some v head most, most))))
      (λ other. omega (arith, wanted_version stream some other)))

module _ (stream : List ℕ) where
  abbrev rest : List ℕ
  rest = after_card stream

  pub cards_fit : batch_wanted stream ≤ 196608 - length stream
  cards_fit =
      by_cases (ℕ_discrete (card_wanted stream) 0)
      (λ first.
      by_cases (ℕ_discrete (scheme_card_number (card_of stream)) 0)
      (λ scheme.
      let most = most_of_scheme (card_of stream) scheme in
      by_cases (ℕ_discrete (card_wanted rest) 0)
      (λ second.
      by_cases (ℕ_discrete (roster_card_number (scheme_of (card_of stream)) (card_of rest)) 0)
      (λ roster.
      let most₂ = most_of_roster (card_of rest) (scheme_of (card_of stream)) roster in
      omega (arith, third_wanted stream first scheme second roster, card_fits (after_card rest), both_parts stream, most, both_parts rest, most₂))
      (λ n. omega (arith, roster_refused stream first scheme second n)))
      (λ n. omega (arith, second_wanted stream first scheme n, card_fits rest, both_parts stream, most)))
      (λ n. omega (arith, scheme_refused stream first n)))
      (λ n. omega (arith, first_wanted stream n, card_fits stream))

-- ---- a text, in the buffer that holds it

pub text_within : (number : ℕ) (lines found : List ℕ) → (text_answer number lines).bytes ≤ length (on_done number (written_over lines found) found)
unfolding text_answer written_over
text_within number lines found =
    by_test (eqb number 0)
    (λ done. rw done (omega (arith, length-append lines (drop (length lines) found))))
    (λ refused. rw refused (omega arith))
