-- What the three cards of the batch program tell, one after the other: the number of the first that is refused, and what is printed.
-- Assumes nothing.
use Prim.Native.Nat.{ℕ, ◌≤◌, ◌<◌}
use mathlib.Core.List.{List}
use mathlib.Core.Path.{◌≡◌, refl, sym, ap, ◌∙◌}
use native.Mathlib.Nat.{zero-add}
use borrow.Author.Tests.{le-leb, lt-leb, ne_eqb}
use lib.ListN.{length}
use Rattle.model.specs.declared.refusal.Refusal.{Refusal}
use Rattle.model.specs.declared.RosterRead.{RosterRead}
use Rattle.model.specs.declared.Text.{Text}
use Rattle.model.specs.Words.{written_over}
use Rattle.model.specs.Refusals.{number_of_refusal}
use Rattle.model.specs.Schemes.{Scheme, scheme_number}
use Rattle.model.specs.Rosters.{Person, roster_of, roster_words, roster_number}
use Rattle.model.specs.Cards.{scheme_of, people_of, requests_of, scheme_card_number, roster_card_number, batch_card_number}
use Rattle.model.specs.Outcomes.{ReadRosterOutcome}
use Rattle.model.specs.Lines.{line_x, run_lines, card_of, after_card, batch_stream_number, batch_text, batch_text_room, text_answer, batch_text_number, BatchTextOutcome}
use Rattle.laws.proofs.Tests.{accepted}
use Rattle.laws.proofs.Refusals.{refusal_not_zero, refused_here, passed_here}
use Rattle.cards.proofs.People.{same_people, roster_held}
use Rattle.lines.specs.Lines.{Put}
use Rattle.readers.proofs.Given.{given}

-- so many bytes are printed
abbrev pub printed : ℕ → Text
printed bytes = record { number = 0; bytes = bytes }

pub put_ends : {lines text : List ℕ} {end : ℕ} {exit : List ℕ} → Put lines 0 text end exit → printed end ≡ printed (length lines)
put_ends {lines} p = ap printed (p.ends ∙ zero-add (length lines))

-- ---- what the cards that were read tell

pub scheme_read_lem : (card : List ℕ) → scheme_card_number card ≡ 0 → scheme_number (scheme_of card) ≡ 0
unfolding scheme_card_number
scheme_read_lem card h = (simp accepted at h).1

pub roster_read_lem : (s : Scheme) (card : List ℕ) → roster_card_number s card ≡ 0 → roster_number s.types (people_of card) ≡ 0
unfolding roster_card_number
roster_read_lem s card h = (simp accepted at h).1.1

pub people_held : (types : ℕ) (people : List Person) (words : List ℕ) → roster_number types people ≡ 0
    → roster_of (length people) (written_over (roster_words people) words) ≡ people
people_held types people words h =
    let same = same_people types people h in
    ap (λ (ps : List Person). roster_of (length people) (written_over (roster_words ps) words)) (sym same) ∙ roster_held people words ∙ same

pub roster_given : {s : Scheme} {card roster : List ℕ} {r : RosterRead} {exit : List ℕ} → 128 ≤ length roster → ReadRosterOutcome s card roster r exit
    → r.number ≡ 0 → (roster_of r.people exit ≡ people_of card) × (roster_number s.types (people_of card) ≡ 0)
roster_given {s} {card} {roster} room o none =
    let g = given room o in
    let valid = roster_read_lem s card (sym g.number ∙ none) in
    (rw (g.people none, g.words none) (people_held s.types (people_of card) roster valid), valid)

-- ---- the three cards

module _ (stream : List ℕ) where
  abbrev rest : List ℕ
  rest = after_card stream

  abbrev pub last_card : List ℕ
  last_card = card_of (after_card rest)

  pub scheme_refused : (r : Refusal) → number_of_refusal r ≡ scheme_card_number (card_of stream) → number_of_refusal r ≡ batch_stream_number stream
  unfolding batch_stream_number
  scheme_refused r e = refused_here _ _ r e

  -- the first two are read
  pub record Read (s : Scheme) (count : ℕ) (roster : List ℕ) : Type 0 where
    pub scheme : scheme_number s ≡ 0
    pub people : roster_number s.types (roster_of count roster) ≡ 0
    pub number : batch_stream_number stream ≡ batch_card_number last_card
    pub lines : batch_card_number last_card ≡ 0 → batch_text stream ≡ run_lines s (roster_of count roster) (requests_of last_card)

  module _ (s : Scheme) (first : 0 ≡ scheme_card_number (card_of stream)) (is : s ≡ scheme_of (card_of stream)) where
    pub roster_refused : (r : Refusal) → number_of_refusal r ≡ roster_card_number s (card_of rest) → number_of_refusal r ≡ batch_stream_number stream
    unfolding batch_stream_number
    roster_refused r e = refused_here _ _ r (e ∙ ap (λ (t : Scheme). roster_card_number t (card_of rest)) is) ∙ sym (passed_here _ _ first)

    pub read : {roster : List ℕ} {count : ℕ} {exit : List ℕ} → 128 ≤ length roster
        → ReadRosterOutcome s (card_of rest) roster (record { number = 0; people = count }) exit → Read s count exit
    unfolding batch_text batch_stream_number
    read room o =
        let second : 0 ≡ roster_card_number (scheme_of (card_of stream)) (card_of rest) = (given room o).number ∙ ap (λ (t : Scheme). roster_card_number t (card_of rest)) is in
        let known = roster_given room o refl in
        let number = passed_here _ _ first ∙ passed_here _ _ second in
        record {
          scheme = rw is (scheme_read_lem (card_of stream) (sym first));
          people = rw known.0 known.1;
          number = number;
          lines = λ third. rw (← first, ← second, third, known.0, is);
        }

  -- ---- the outcome

  pub refusal_text : (r : Refusal) → number_of_refusal r ≡ batch_stream_number stream → line_x (number_of_refusal r) ≡ batch_text stream
  unfolding batch_text
  refusal_text r e = rw (← e, ne_eqb (number_of_refusal r) 0 (refusal_not_zero r))

  pub no_room : (text : List ℕ) → length text < batch_text_room → BatchTextOutcome stream text (record { number = 20; bytes = 0 }) text
  unfolding batch_text_number text_answer
  no_room text h = let test = lt-leb batch_text_room (length text) h in record { answer_is = rw test refl; text_is = rw test refl }

  pub all_printed : {lines text : List ℕ} {end : ℕ} {exit : List ℕ} → batch_text_room ≤ length text → Put lines 0 text end exit → lines ≡ batch_text stream
      → BatchTextOutcome stream text (printed end) exit
  unfolding batch_text_number text_answer
  all_printed {lines} {text} h p e =
      let test = le-leb batch_text_room (length text) h in
      record {
        answer_is = put_ends p ∙ rw (test, e) refl;
        text_is = p.wrote ∙ rw (test, e) refl;
      }
