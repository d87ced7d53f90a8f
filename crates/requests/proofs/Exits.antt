-- A batch's outcome at each exit of its call: the tests are the definition's, in its order, and a refusal leaves store and answers as found.
-- Assumes nothing.
use Prim.Native.Nat.{ℕ, ◌≤◌, ◌<◌}
use mathlib.Core.Path.{◌≡◌, sym, ap, ◌∙◌}
use mathlib.Core.Bool.{true, false}
use mathlib.Core.List.{List, ◌++◌, append-nil}
use native.Mathlib.Omega.{arith}
use borrow.Author.Tests.{le-leb, lt-leb, ne_eqb}
use lib.ListN.{length, take, drop, drop_of_length-le}
use lib.Seq.{length-take-le}
use Rattle.std.specs.Prelude.{Ok, Err}
use Rattle.model.specs.declared.refusal.Refusal.{Refusal}
use Rattle.model.specs.declared.refusal.Refusal.TheVariants.{BadCard, NoRoom}
use Rattle.model.specs.Words.{◌then◌, written_over}
use Rattle.model.specs.Sizes.{most_requests}
use Rattle.model.specs.Refusals.{number_of_refusal}
use Rattle.model.specs.Answers.{batch_given}
use Rattle.model.specs.Cards.{body, entries_fill, request_count, requests_of, is_batch_card, batch_card_number}
use Rattle.model.specs.Outcomes.{Handed, people_in, designs_in, handed_number, run_batch_number, numbers_in, batch_run, RunBatchOutcome}
use Rattle.laws.proofs.Tests.{passed}
use Rattle.laws.proofs.Refusals.{refusal_not_zero}
use Rattle.laws.proofs.Requests.{numbers_length}
use Rattle.handed.specs.Handing.{rooms_number}
use Rattle.handed.proofs.Numbers.{no_room, all_rooms}
use Rattle.requests.specs.Running.{AllAnswered}
use Rattle.requests.proofs.Batching.{requests_in, length-requests}

-- ---- a batch card

-- what is written over a part is written over the whole
written_part : (xs words : List ℕ) → length xs ≤ length words → written_over xs (take (length xs) words) ++ drop (length xs) words ≡ written_over xs words
unfolding written_over
written_part xs words l =
    rw (drop_of_length-le (take (length xs) words) {i = length xs} (omega (arith, length-take-le (length xs) words l)), append-nil xs)

-- the part of the answers that a batch card's requests fill, by the count and the rest of the body as they were read
module _ (card answers : List ℕ) (wide : most_requests ≤ length answers) (is : is_batch_card card ≡ true)
    (n : ℕ) (en : n ≡ request_count card) (rest : List ℕ) (er : rest ≡ drop 2 (body card)) where
  fills : (request_count card ≤ most_requests) × (entries_fill 4 (request_count card) (drop 2 (body card)) ≡ true)
  unfolding is_batch_card
  fills = let facts = simp passed at is in (facts.0.1, facts.1)

  pub few : n ≤ most_requests
  few = omega (arith, fills.0)

  pub sized : length (take n answers) ≡ n
  sized = length-take-le n answers (omega (arith, few))

  pub filled : entries_fill 4 (length (take n answers)) rest ≡ true
  filled = rw (sized, en, er) fills.1

  pub requests_are : requests_in (length (take n answers)) rest ≡ requests_of card
  unfolding requests_of
  requests_are = rw (sized, en, er)

-- ---- the call

module _ (h : Handed) (card answers : List ℕ) where
  -- a refusal is given alone, and nothing is changed
  refusal : (r : Refusal) → number_of_refusal r ≡ run_batch_number h card answers → RunBatchOutcome h card answers (batch_given (Err r)) h.store answers
  unfolding batch_run
  refusal r e =
      let some = ne_eqb (number_of_refusal r) 0 (refusal_not_zero r) in
      record { answer_is = rw (← e, some); store_is = rw (← e, some); answers_are = rw (← e, some) }

  pub no_rooms : (r : Refusal) → number_of_refusal r ≡ rooms_number h.roster h.store → RunBatchOutcome h card answers (batch_given (Err r)) h.store answers
  unfolding run_batch_number
  no_rooms r e = let off = no_room h r e in refusal r (sym off.1 ∙ rw off.0)

  module _ (rooms : 0 ≡ rooms_number h.roster h.store) where
    pub answers_short : length answers < most_requests → RunBatchOutcome h card answers (batch_given (Err NoRoom)) h.store answers
    unfolding run_batch_number
    answers_short l = refusal NoRoom (rw (all_rooms h rooms, lt-leb most_requests (length answers) l))

    module _ (wide : most_requests ≤ length answers) where
      number_is : run_batch_number h card answers ≡ (batch_card_number card then handed_number h)
      unfolding run_batch_number
      number_is = rw (all_rooms h rooms, le-leb most_requests (length answers) wide)

      pub no_batch : is_batch_card card ≡ false → RunBatchOutcome h card answers (batch_given (Err BadCard)) h.store answers
      unfolding batch_card_number
      no_batch e = refusal BadCard (sym (number_is ∙ rw e))

      module _ (is : is_batch_card card ≡ true) where
        accepted_is : run_batch_number h card answers ≡ handed_number h
        unfolding batch_card_number
        accepted_is = number_is ∙ rw is

        pub not_accepted : (r : Refusal) → number_of_refusal r ≡ handed_number h → RunBatchOutcome h card answers (batch_given (Err r)) h.store answers
        not_accepted r e = refusal r (e ∙ sym accepted_is)

        module _ (n : ℕ) (en : n ≡ request_count card) (rest : List ℕ) (er : rest ≡ drop 2 (body card)) where
          numbered : length (numbers_in h card) ≡ n
          unfolding requests_of
          numbered =
              numbers_length h.scheme (people_in h) (designs_in h) (requests_of card)
              ∙ length-requests (request_count card) (drop 2 (body card)) ∙ sym en

          pub all_done : 0 ≡ handed_number h → (done : ℕ) (store now : List ℕ) → AllAnswered h (requests_in (length (take n answers)) rest) (take n answers) done store now
              → RunBatchOutcome h card answers (batch_given (Ok (record { requests = n; done = done }))) store (now ++ drop n answers)
          unfolding batch_run
          all_done z done store now all =
              let each : AllAnswered h (requests_of card) (take n answers) done store now = rw (requests_are card answers wide is n en rest er) at all in
              record {
                answer_is = rw (accepted_is, ← z) (λ t. record { number = 0; requests = sym numbered t; done = each.done_is t });
                store_is = each.store_is ∙ rw (accepted_is, ← z);
                answers_are =
                    rw (accepted_is, ← z)
                    (ap (λ (given : List ℕ). given ++ drop n answers) each.answers_are
                    ∙ rw numbered at (written_part (numbers_in h card) answers (omega (arith, numbered, few card answers wide is n en rest er))));
              }
