-- A batch, one request after the other: the requests so far are answered, and what is left of the body holds the others.
-- Assumes nothing.
use Prim.Native.Nat.{ℕ, zero, suc, ◌+◌, ◌-◌, ◌≤◌, ◌<◌}
use mathlib.Core.Path.{◌≡◌, refl, sym, ap, ◌∙◌}
use mathlib.Core.Bool.{Bool, true, false}
use mathlib.Core.List.{List, [], ◌∷◌, ◌++◌, map}
use native.Mathlib.Nat.{sub-zero}
use native.Mathlib.Numerals.{add-one}
use native.Mathlib.Omega.{arith}
use borrow.Author.Tests.{ne_eqb}
use mir.Val.{bool_byte}
use lib.Dec.{eqb}
use lib.ListN.{length, get_or, take, drop, set, length-append, length-map}
use lib.Seq.{drop-cons, take-suc, take_all, length-take-le}
use Rattle.std.specs.Prelude.{Option, Some, None, Result, Ok, Err, is_ok, unwrap_or}
use Rattle.model.specs.declared.refusal.Refusal.{Refusal}
use Rattle.model.specs.Words.{those, written_over}
use Rattle.model.specs.Refusals.{number_of_refusal, number_given}
use Rattle.model.specs.Stores.{Design, store_words, store_number}
use Rattle.model.specs.Requests.{Request, batch_numbers, batched, count_done}
use Rattle.model.specs.Cards.{entry_size, entries_fill, entries, request_of_entry}
use Rattle.model.specs.Outcomes.{Handed, people_in, designs_in, has_rooms, handed_number}
use Rattle.laws.proofs.Tests.{passed, accepted}
use Rattle.laws.proofs.Refusals.{refusal_not_zero}
use Rattle.laws.proofs.Lists.{those-append, those-length, written_snoc}
use Rattle.laws.proofs.Stores.{Words, words_of_store, store_words_length}
use Rattle.laws.proofs.Requests.{numbers_length}
use Rattle.laws.proofs.Kept.{Good, good_batched, good_zero, roster_length, meaning_batched, batch_step, number_step, handed_scheme, handed_good, handed_lent}
use Rattle.cards.specs.Entries.{is_whole, next_of}
use Rattle.cards.proofs.Filling.{fill_next}
use Rattle.cards.proofs.Places.{next_whole}
use Rattle.handed.specs.Handing.{Accepted}
use Rattle.handed.proofs.Numbers.{sized}
use Rattle.requests.specs.Asking.{Answered}
use Rattle.requests.specs.Running.{AllAnswered}

-- ---- those answered 0

pub done_one : {A : Type 0} (given : Result A Refusal) → bool_byte (is_ok given) ≡ count_done (number_given given ∷ [])
done_one (Ok x) = refl
done_one (Err r) = rw (ne_eqb (number_of_refusal r) 0 (refusal_not_zero r)) refl

pub one_at_most : (b : Bool) → bool_byte b ≤ 1
one_at_most true = omega arith
one_at_most false = omega arith

done_snoc : (ns : List ℕ) (n : ℕ) → count_done (ns ++ n ∷ []) ≡ count_done ns + count_done (n ∷ [])
done_snoc ns n =
    let zero : ℕ → Bool = λ m. eqb m 0 in
    rw (those-append zero ns (n ∷ [])) (length-append (those zero ns) (those zero (n ∷ [])))

-- ---- the entries

length-entries : (n : ℕ) (rest : List ℕ) → length (entries 4 n rest) ≡ n
length-entries zero rest = refl
length-entries (suc n) rest = ap suc (length-entries n (drop (entry_size 4 rest) rest))

abbrev pub requests_in : ℕ → List ℕ → List Request
requests_in n rest = map request_of_entry (entries 4 n rest)

pub length-requests : (n : ℕ) (rest : List ℕ) → length (requests_in n rest) ≡ n
length-requests n rest = length-map (entries 4 n rest) request_of_entry ∙ length-entries n rest

-- the request whose entry begins the rest
abbrev pub request_at : List ℕ → Request
request_at rest = request_of_entry (take (entry_size 4 rest) rest)

-- ---- what is handed over, with the words that some requests left

abbrev pub left_by : Handed → List ℕ → Handed
left_by h store = record { scheme = h.scheme; count = h.count; roster = h.roster; store = store }

module _ (h : Handed) (a : Accepted h) (fit : Words h.store) where
  good : Good h.scheme (people_in h) (designs_in h)
  good = handed_good h a.number a.rooms

  abbrev after : List Request → List Design
  after qs = batched h.scheme (people_in h) (designs_in h) qs

  good_after : (qs : List Request) → Good h.scheme (people_in h) (after qs)
  good_after qs = good_batched h.scheme (people_in h) (handed_scheme h a.number) (designs_in h) good qs

  still_roomy : (qs : List Request) → has_rooms (left_by h (store_words (after qs) h.store)) ≡ true
  unfolding has_rooms
  still_roomy qs =
      let g = good_after qs in
      let s = sized h a in
      simp passed (s.roster_wide, rw (store_words_length (after qs) h.store g.celled g.check.few s.store_wide) s.store_wide)

  still_zero : (qs : List Request) → handed_number (left_by h (store_words (after qs) h.store)) ≡ 0
  unfolding handed_number
  still_zero qs =
      let p = simp accepted at a.number in
      let kept : store_number h.scheme.kinds h.scheme.rights h.count (after qs) ≡ 0 =
      rw (roster_length h.count h.roster) at (good_zero h.scheme (people_in h) (after qs) (good_after qs)) in
      let meant = meaning_batched h.scheme (people_in h) (handed_scheme h a.number) h.store good qs in
      simp accepted (p.0, (p.1.0, rw meant kept))

  pub still_accepted : (qs : List Request) (store : List ℕ) → store ≡ store_words (after qs) h.store → Accepted (left_by h store)
  still_accepted qs store e = rw e (record { rooms = still_roomy qs; number = still_zero qs })

-- ---- the requests so far, and those that are left

pub record Ran (h : Handed) (body : List ℕ) (answers store now rest : List ℕ) (done i : ℕ) : Type 0 where
  pub count : i ≤ length answers
  pub filled : entries_fill 4 (length answers - i) rest ≡ true
  pub left : drop i (requests_in (length answers) body) ≡ requests_in (length answers - i) rest
  pub so_far : AllAnswered h (take i (requests_in (length answers) body)) answers done store now

module _ (h : Handed) (a : Accepted h) (fit : Words h.store) (body answers : List ℕ) where
  abbrev n : ℕ
  n = length answers

  abbrev qs : List Request
  qs = requests_in n body

  abbrev numbers_to : ℕ → List ℕ
  numbers_to i = batch_numbers h.scheme (people_in h) (designs_in h) (take i qs)

  pub ran_none : entries_fill 4 n body ≡ true → Ran h body answers h.store answers body 0 0
  unfolding batch_numbers batched written_over
  ran_none filled = record {
    count = omega arith;
    filled = rw (sub-zero n) filled;
    left = rw (sub-zero n);
    so_far = record { done_is = refl; store_is = sym (words_of_store h.store (handed_lent h a.number a.rooms fit)); answers_are = refl };
  }

  module _ (store now rest : List ℕ) (done i : ℕ) (ran : Ran h body answers store now rest done i) where
    pub ran_all : n ≤ i → AllAnswered h qs answers done store now
    ran_all l = let all : take i qs ≡ qs = take_all i qs (omega (arith, length-requests n body)) in rw all at ran.so_far

    numbered : length (numbers_to i) ≡ i
    numbered =
        numbers_length h.scheme (people_in h) (designs_in h) (take i qs)
        ∙ length-take-le i qs (omega (arith, ran.count, length-requests n body))

    pub done_few : done ≤ i
    done_few = let zero : ℕ → Bool = λ m. eqb m 0 in omega (arith, ran.so_far.done_is, those-length zero (numbers_to i), numbered)

    pub still : Accepted (left_by h store)
    still = still_accepted h a fit (take i qs) store ran.so_far.store_is

    module _ (l : i < n) where
      one_left : n - i ≡ suc (n - (i + 1))
      one_left = omega arith

      opened : (is_whole 4 rest ≡ true) × (entries_fill 4 (n - (i + 1)) (drop (entry_size 4 rest) rest) ≡ true)
      opened = simp passed at (sym (fill_next 4 rest n i l) ∙ ran.filled)

      pub next_is : next_of rest ≡ Some (request_at rest, drop (entry_size 4 rest) rest)
      next_is = next_whole rest opened.0

      pub never_past : None ≡ next_of rest → ⊥
      never_past e = let both : ◌≡◌ {A = Option (Request × List ℕ)} None (Some (request_at rest, drop (entry_size 4 rest) rest)) = e ∙ next_is in absurd cc

      headed : (get_or qs i (request_of_entry []) ≡ request_at rest) × (drop (suc i) qs ≡ requests_in (n - (i + 1)) (drop (entry_size 4 rest) rest))
      headed =
          let cut = drop-cons qs i (request_of_entry []) (omega (arith, length-requests n body)) in
          let met : drop i qs ≡ request_at rest ∷ requests_in (n - (i + 1)) (drop (entry_size 4 rest) rest) = ran.left ∙ rw one_left in
          (cc, cc)

      taken : take (i + 1) qs ≡ take i qs ++ request_at rest ∷ []
      taken =
          rw (add-one i)
          (take-suc qs i (request_of_entry []) (omega (arith, length-requests n body)) ∙ ap (λ (q : Request). take i qs ++ (q ∷ [])) headed.0)

      module _ (q : Request) (behind : List ℕ) (found : Some (q, behind) ≡ next_of rest) (number : ℕ) (exit : List ℕ)
          (st : Answered (left_by h store) q number exit) where
        next : (q ≡ request_at rest) × (behind ≡ drop (entry_size 4 rest) rest)
        next =
            let pair = ap (λ (o : Option (Request × List ℕ)). unwrap_or o (q, behind)) (found ∙ next_is) in
            (ap (λ (p : Request × List ℕ). p.0) pair, ap (λ (p : Request × List ℕ). p.1) pair)

        abbrev written : List ℕ
        written = store_words (after h a fit (take i qs)) h.store

        on_written : Answered (left_by h written) (request_at rest) number exit
        on_written = rw (ran.so_far.store_is, next.0) at st

        store_next : exit ≡ store_words (after h a fit (take (i + 1) qs)) h.store
        store_next =
            rw taken
            (on_written.store_is
            ∙ batch_step h.scheme (people_in h) (handed_scheme h a.number) h.store (good h a fit) (take i qs) (request_at rest))

        numbers_next : numbers_to (i + 1) ≡ numbers_to i ++ number ∷ []
        numbers_next =
            rw (taken, on_written.number_is)
            (number_step h.scheme (people_in h) (handed_scheme h a.number) h.store (good h a fit) (take i qs) (request_at rest))

        answers_next : set now i number ≡ written_over (numbers_to (i + 1)) answers
        answers_next =
            rw (ran.so_far.answers_are, numbers_next)
            (ap (λ (k : ℕ). set (written_over (numbers_to i) answers) k number) (sym numbered)
            ∙ sym (written_snoc (numbers_to i) answers number (omega (arith, numbered))))

        pub ran_next : (more : ℕ) → more ≡ done + count_done (number ∷ []) → Ran h body answers exit (set now i number) behind more (i + 1)
        ran_next more em = record {
          count = omega arith;
          filled = rw next.1 opened.1;
          left = ap (λ (k : ℕ). drop k qs) (add-one i) ∙ headed.1 ∙ rw next.1;
          so_far = record {
            done_is = em ∙ rw (ran.so_far.done_is, numbers_next) (sym (done_snoc (numbers_to i) number));
            store_is = store_next;
            answers_are = answers_next;
          };
        }
