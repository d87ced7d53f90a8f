-- **kept**, **untouched** and **meaning** of the outcomes, from the laws of stores and requests. Assumes nothing.
use Prim.Native.Nat.{ℕ}
use mathlib.Core.Bool.{true}
use mathlib.Core.List.{List, [], ◌∷◌}
use mathlib.Core.Logic.{by_cases}
use mathlib.Core.Path.{◌≡◌, sym, ap, ◌∙◌}
use native.Mathlib.Decide.{ℕ_discrete}
use native.Mathlib.Omega.{arith}
use lib.ListN.{length}
use borrow.Author.Tests.{ne_eqb}
use Rattle.model.specs.declared.BatchRun.{BatchRun}
use Rattle.model.specs.Schemes.{Scheme}
use Rattle.model.specs.Rosters.{Person}
use Rattle.model.specs.Stores.{Design, store_of, store_words}
use Rattle.model.specs.Requests.{Request, request_number, requested, batched}
use Rattle.model.specs.Cards.{requests_of}
use Rattle.model.specs.Outcomes.{Handed, people_in, designs_in, has_rooms, handed_number, request_call_number, run_batch_number, numbers_in, batch_run, RequestOutcome, RunBatchOutcome}
use Rattle.laws.proofs.Tests.{accepted, passed}
use Rattle.laws.proofs.Stores.{store_words_length}
use Rattle.laws.proofs.Checks.{checked_zero, store_grown}
use Rattle.laws.proofs.Requests.{creates, acts, requested_refused}
use Rattle.laws.proofs.Kept.{Good, good_requested, good_batched, meaning_requested, meaning_batched, handed_scheme, handed_people, handed_good, handed_lent, roster_length}
use Rattle.laws.proofs.Untouched.{create_untouched, act_untouched}
use Rattle.safety.specs.Histories.{Later, first, asks}
use Rattle.safety.specs.Stores.{with_store, KeptByRequest, KeptByBatch, KeptByJoining, MeaningOfRequest, MeaningOfBatch, BatchIsHistory, UntouchedByAct, UntouchedByCreate}

pub kept_by_joining : KeptByJoining
kept_by_joining kinds rights types before after designs joined = store_grown kinds rights (length before) (length after) designs joined.longer

-- ---- a batch is the history of its requests

later_asks : (s : Scheme) (people₀ people : List Person) (designs₀ designs : List Design) (requests : List Request)
    → Later s people₀ designs₀ people designs → Later s people₀ designs₀ people (batched s people designs requests)
unfolding batched
later_asks s people₀ people designs₀ designs [] later = later
later_asks s people₀ people designs₀ designs (q ∷ qs) later = later_asks s people₀ people designs₀ (requested s people designs q) qs (asks later q)

pub batch_is_history : BatchIsHistory
batch_is_history s people designs requests = later_asks s people people designs designs requests first

-- ---- words that mean a good store are accepted again

module _ (h : Handed) (rooms : has_rooms h ≡ true) (handed : handed_number h ≡ 0) where
  accepted_again : (designs : List Design) → Good h.scheme (people_in h) designs → store_of (store_words designs h.store) ≡ designs
      → (has_rooms (with_store h (store_words designs h.store)) ≡ true) × (handed_number (with_store h (store_words designs h.store)) ≡ 0)
  unfolding has_rooms handed_number
  accepted_again designs good means =
      let facts = simp accepted at handed in
      let rooms-facts = simp passed at rooms in
      let store-zero = checked_zero h.scheme.kinds h.scheme.rights (length (people_in h)) designs good.check in (
        simp passed (rooms-facts.0, rw (store_words_length designs h.store good.celled good.check.few rooms-facts.1) rooms-facts.1),
        simp accepted (facts.0, (facts.1.0, rw (means, ← roster_length h.count h.roster) store-zero)),
      )

  good : Good h.scheme (people_in h) (designs_in h)
  good = handed_good h handed rooms

  -- a call that accepts what is handed over gives the request's own number
  call_number : (q : Request) → request_call_number h q ≡ request_number h.scheme (people_in h) (designs_in h) q
  unfolding request_call_number
  call_number q = rw (rooms, handed)

  -- by the two cases of a request: the store is left with the request carried out, or as found
  by_outcome : (P : List ℕ → Type 0) (q : Request) (answer : ℕ) (exit : List ℕ) → RequestOutcome h q answer exit
      → (request_number h.scheme (people_in h) (designs_in h) q ≡ 0 → P (store_words (requested h.scheme (people_in h) (designs_in h) q) h.store))
      → ((request_number h.scheme (people_in h) (designs_in h) q ≡ 0 → ⊥) → P h.store) → P exit
  by_outcome P q answer exit o done refused =
      by_cases (ℕ_discrete (request_number h.scheme (people_in h) (designs_in h) q) 0)
      (λ e. rw (o.store_is, call_number q, e) (done e))
      (λ ne. rw (o.store_is, call_number q, ne_eqb (request_number h.scheme (people_in h) (designs_in h) q) 0 ne) (refused ne))

  batch_cases : (P : List ℕ → Type 0) (card answers : List ℕ) (answer : BatchRun) (exit answers_exit : List ℕ)
      → RunBatchOutcome h card answers answer exit answers_exit
      → P (store_words (batched h.scheme (people_in h) (designs_in h) (requests_of card)) h.store) → P h.store → P exit
  batch_cases P card answers answer exit answers_exit o done refused =
      by_cases (ℕ_discrete (run_batch_number h card answers) 0)
      (λ e. rw (o.store_is, e) done)
      (λ ne. rw (o.store_is, ne_eqb (run_batch_number h card answers) 0 ne) refused)

-- ---- kept and meaning

pub kept_by_request : KeptByRequest
kept_by_request h q answer exit o rooms handed =
    let s = h.scheme in
    let valid = handed_scheme h handed in
    let g = good h rooms handed in
    by_outcome h rooms handed (λ w. (has_rooms (with_store h w) ≡ true) × (handed_number (with_store h w) ≡ 0)) q answer exit o
    (λ e. accepted_again h rooms handed (requested s (people_in h) (designs_in h) q) (good_requested s (people_in h) valid (designs_in h) g q) (meaning_requested s (people_in h) valid h.store g q))
    (λ ne. (rooms, handed))

pub kept_by_batch : KeptByBatch
kept_by_batch h card answers answer exit answers_exit o rooms handed =
    let s = h.scheme in
    let valid = handed_scheme h handed in
    let g = good h rooms handed in
    batch_cases h rooms handed (λ w. (has_rooms (with_store h w) ≡ true) × (handed_number (with_store h w) ≡ 0)) card answers answer exit answers_exit o
    (accepted_again h rooms handed (batched s (people_in h) (designs_in h) (requests_of card)) (good_batched s (people_in h) valid (designs_in h) g (requests_of card))
    (meaning_batched s (people_in h) valid h.store g (requests_of card)))
    (rooms, handed)

pub meaning_of_request : MeaningOfRequest
meaning_of_request h q answer exit o rooms handed =
    let s = h.scheme in
    by_outcome h rooms handed (λ w. store_of w ≡ requested s (people_in h) (designs_in h) q) q answer exit o
    (λ e. meaning_requested s (people_in h) (handed_scheme h handed) h.store (good h rooms handed) q)
    (λ ne. sym (requested_refused s (people_in h) (designs_in h) q ne))

-- a batch's number is the call's
batch_number : (n : ℕ) (numbers : List ℕ) → (batch_run n numbers).number ≡ 0 → n ≡ 0
unfolding batch_run
batch_number n numbers h = by_cases (ℕ_discrete n 0) (λ e. e) (λ ne. rw (ne_eqb n 0 ne) at h)

pub meaning_of_batch : MeaningOfBatch
unfolding run_batch_number
meaning_of_batch h card answers answer exit answers_exit o zero_number =
    let s = h.scheme in
    let done = batch_number (run_batch_number h card answers) (numbers_in h card) (ap (λ (b : BatchRun). b.number) (sym o.answer_is) ∙ zero_number) in
    let facts = simp accepted at done in
    let rooms = facts.0.0 in
    let handed = facts.1.1 in
    rw (o.store_is, done) (meaning_batched s (people_in h) (handed_scheme h handed) h.store (good h rooms handed) (requests_of card))

-- ---- untouched

pub untouched_by_act : UntouchedByAct
unfolding request_call_number
untouched_by_act h q exit words o other i ns nd =
    let facts = simp accepted at (sym o.answer_is) in
    let handed = facts.1.0 in
    let lent = handed_lent h handed facts.0 words in
    rw (o.store_is, ← o.answer_is)
    (act_untouched h.scheme (people_in h) h.store lent q (handed_people h handed) (acts h.scheme (people_in h) (designs_in h) q other facts.1.1) i
    (λ e. ns (omega arith)) (λ e. nd (omega arith)))

pub untouched_by_create : UntouchedByCreate
unfolding request_call_number
untouched_by_create h q exit words o create i later outside =
    let facts = simp accepted at (sym o.answer_is) in
    let lent = handed_lent h facts.1.0 facts.0 words in
    rw (o.store_is, ← o.answer_is)
    (create_untouched h.scheme (people_in h) h.store lent q (creates h.scheme (people_in h) (designs_in h) q create facts.1.1) i later outside)
