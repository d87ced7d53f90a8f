-- What a batch that starts with an empty store leaves, by the outcome of its call: the text's parts, and that they have room.
-- Assumes nothing.
use Prim.Native.Nat.{ℕ, ◌≤◌, ◌<◌}
use mathlib.Core.List.{List, [], ◌++◌}
use mathlib.Core.Path.{◌≡◌, refl, sym, ap, ◌∙◌}
use native.Mathlib.Omega.{arith}
use borrow.Author.Tests.{eqb-true, le-leb}
use lib.Dec.{eqb}
use lib.ListN.{length, get_or, take, drop, length-append, length-map}
use Rattle.model.specs.declared.BatchRun.{BatchRun}
use Rattle.model.specs.Words.{◌then◌, written_over}
use Rattle.model.specs.Schemes.{Scheme, scheme_number}
use Rattle.model.specs.Rosters.{Person, roster_of, roster_number}
use Rattle.model.specs.Stores.{Design, no_design, store_of, store_words, is_sound, store_number}
use Rattle.model.specs.Requests.{batch_numbers, batched, count_done}
use Rattle.model.specs.Cards.{body, request_count, requests_of, is_batch_card, batch_card_number}
use Rattle.model.specs.Outcomes.{Handed, has_rooms, handed_number, run_batch_number, batch_run, RunBatchOutcome}
use Rattle.model.specs.Lines.{lines_r, line_e, run_lines, batch_text_room}
use Rattle.laws.proofs.Tests.{by_test, accepted}
use Rattle.laws.proofs.Lists.{Each, those-length, length-written, take-written}
use Rattle.laws.proofs.Checks.{valid_scheme, valid_roster}
use Rattle.laws.proofs.Stores.{store_of_words, store_words_length}
use Rattle.laws.proofs.Requests.{numbers_length}
use Rattle.laws.proofs.Kept.{Good, good, good_batched, whole, roster_length}
use Rattle.readers.proofs.Exits.{length-entries}
use Rattle.texts.specs.Parts.{designs_text, KindsFit, run_parts}
use Rattle.texts.proofs.Lengths.{length-answers, length-designs, length-end}

-- ---- a batch card's requests are few

pub few_requests : (card : List ℕ) → batch_card_number card ≡ 0 → length (requests_of card) ≤ 256
unfolding batch_card_number is_batch_card requests_of
few_requests card h =
    let facts = simp accepted at h in
    simp length-map (omega (arith, length-entries 4 (request_count card) (drop 2 (body card)), facts))

-- ---- what the call of an empty store's batch gives

then_zero : (m : ℕ) → (m then 0) ≡ m
then_zero m = by_test (eqb m 0) (λ p. rw p (sym (eqb-true m 0 p))) (λ q. rw q)

number_of : (n : ℕ) (numbers : List ℕ) → (batch_run n numbers).number ≡ n
unfolding batch_run
number_of n numbers = by_test (eqb n 0) (λ p. rw p (sym (eqb-true n 0 p))) (λ q. rw q)

module _ (s : Scheme) (count : ℕ) (roster store card answers : List ℕ) where
  abbrev pub people : List Person
  people = roster_of count roster

  abbrev pub numbers : List ℕ
  numbers = batch_numbers s people [] (requests_of card)

  abbrev pub designs : List Design
  designs = batched s people [] (requests_of card)

  abbrev handed : Handed
  handed = record { scheme = s; count = count; roster = roster; store = store }

  -- what is handed to the call
  pub record Fresh : Type 0 where
    pub scheme : scheme_number s ≡ 0
    pub roster_is : roster_number s.types people ≡ 0
    pub roster_wide : 128 ≤ length roster
    pub empty : get_or store 0 0 ≡ 0
    pub store_long : length store ≡ 2305
    pub answers_long : length answers ≡ 256

  module _ (fresh : Fresh) where
    no_designs : store_of store ≡ []
    unfolding store_of
    no_designs = rw fresh.empty

    no_refusal : store_number s.kinds s.rights count (store_of store) ≡ 0
    unfolding store_number is_sound
    no_refusal = rw no_designs

    handed_zero : handed_number handed ≡ 0
    unfolding handed_number
    handed_zero = rw (fresh.scheme, fresh.roster_is) no_refusal

    run_number : run_batch_number handed card answers ≡ batch_card_number card
    unfolding run_batch_number has_rooms
    run_number =
        rw (le-leb 128 (length roster) fresh.roster_wide, fresh.store_long, fresh.answers_long, handed_zero) (then_zero (batch_card_number card))

    -- the designs that it leaves
    left_good : Good s people designs
    left_good =
        good_batched s people (valid_scheme s fresh.scheme) []
        (good s people [] (rw (roster_length count roster) (rw no_designs at no_refusal)) (λ i l. absurd (omega arith))) (requests_of card)

    module _ {r : BatchRun} {store_exit answers_exit : List ℕ} (o : RunBatchOutcome handed card answers r store_exit answers_exit) where
      pub ran_number : r.number ≡ batch_card_number card
      ran_number = ap (λ (x : BatchRun). x.number) o.answer_is ∙ number_of _ (batch_numbers s people (store_of store) (requests_of card)) ∙ run_number

pub few_people : {s : Scheme} {count : ℕ} {roster store card answers : List ℕ} → Fresh s count roster store card answers → count ≤ 32
few_people {s} {count} {roster} fresh = omega (arith, (valid_roster s.types (roster_of count roster) fresh.roster_is).few, roster_length count roster)

-- what it leaves, if the card isn't refused
pub record Left (s : Scheme) (people : List Person) (card store answers : List ℕ) (requests done : ℕ) : Type 0 where
  pub accepted_card : batch_card_number card ≡ 0
  pub store_wide : 2305 ≤ length store
  pub few_designs : length (store_of store) ≤ 64
  pub kinds_fit : KindsFit (store_of store)
  pub requests_few : requests ≤ 256
  pub requests_inside : requests ≤ length answers
  pub done_few : done ≤ 256
  pub parts_are : run_parts people (store_of store) (take requests answers) done ≡ run_lines s people (requests_of card)
  pub room : length (run_lines s people (requests_of card)) ≤ batch_text_room

module _ {s : Scheme} {count : ℕ} {roster store card answers : List ℕ} (fresh : Fresh s count roster store card answers) {requests done : ℕ}
    {store_exit answers_exit : List ℕ}
    (o : RunBatchOutcome (handed s count roster store card answers) card answers (record { number = 0; requests = requests; done = done }) store_exit answers_exit) where
  abbrev who : List Person
  who = people s count roster store card answers

  abbrev told : List ℕ
  told = numbers s count roster store card answers

  abbrev kept : List Design
  kept = designs s count roster store card answers

  none : batch_card_number card ≡ 0
  none = sym (ran_number s count roster store card answers fresh o)

  is_zero : run_batch_number (handed s count roster store card answers) card answers ≡ 0
  is_zero = run_number s count roster store card answers fresh ∙ none

  nothing : store_of store ≡ []
  nothing = no_designs s count roster store card answers fresh

  few : length told ≤ 256
  few = rw (numbers_length s who [] (requests_of card)) (few_requests card none)

  pub requests_are : requests ≡ length told
  unfolding batch_run
  requests_are = ap (λ (x : BatchRun). x.requests) o.answer_is ∙ rw (is_zero, nothing) refl

  pub done_are : done ≡ count_done told
  unfolding batch_run
  done_are = ap (λ (x : BatchRun). x.done) o.answer_is ∙ rw (is_zero, nothing) refl

  store_is : store_exit ≡ store_words kept store
  store_is = o.store_is ∙ rw (is_zero, nothing) refl

  answers_are : answers_exit ≡ written_over told answers
  answers_are = o.answers_are ∙ rw (is_zero, nothing) refl

  kept_good : Good s who kept
  kept_good = left_good s count roster store card answers fresh

  pub designs_are : store_of store_exit ≡ kept
  designs_are = rw store_is (store_of_words kept store (whole s who kept kept_good))

  shown_parts : run_parts who (store_of store_exit) (take requests answers_exit) done ≡ run_lines s who (requests_of card)
  unfolding run_lines line_e
  shown_parts =
      let first : take requests answers_exit ≡ told = rw (answers_are, requests_are) (take-written told answers) in
      rw (first, designs_are, done_are)

  pub run_room : length (run_lines s who (requests_of card)) ≤ batch_text_room
  unfolding run_lines
  run_room =
      let valid = valid_scheme s fresh.scheme in
      let known = valid_roster s.types who fresh.roster_is in
      let check = kept_good.check in
      let kinds : Each (λ d. d.kind < 10) kept no_design = λ i l. omega (arith, (check.fit i l).kind_below, valid.kinds_are) in
      let answered = lines_r 0 told in
      let shown = designs_text who kept in
      omega (
        arith,
        length-append (answered ++ shown) (line_e told),
        length-append answered shown,
        length-answers s who [] 0 (requests_of card) (omega (arith, few, numbers_length s who [] (requests_of card))),
        length-designs who known.spelt known.few kept check.spelt kinds,
        check.few,
        length-end told few,
        few,
        numbers_length s who [] (requests_of card),
      )

  pub left_by : Left s who card store_exit answers_exit requests done
  left_by =
      let long = store_words_length kept store kept_good.celled kept_good.check.few (omega (arith, fresh.store_long)) in
      let written = length-written told answers (omega (arith, few, fresh.answers_long)) in
      record {
        accepted_card = none;
        store_wide = rw store_is (omega (arith, long, fresh.store_long));
        few_designs = rw designs_are kept_good.check.few;
        kinds_fit = λ place l.
            let inside : place < length kept = rw designs_are at l in
            rw designs_are (omega (arith, (kept_good.check.fit place inside).kind_below, (valid_scheme s fresh.scheme).kinds_are));
        requests_few = omega (arith, requests_are, few);
        requests_inside = rw answers_are (omega (arith, requests_are, few, written, fresh.answers_long));
        done_few = omega (arith, done_are, few, those-length (λ n. eqb n 0) told);
        parts_are = shown_parts;
        room = run_room;
      }
