-- The numbers of the question and of the access list at each exit of their checks, with the answers of the calls on the way; and that a right that is asked is below 32.
-- Assumes nothing.
use Prim.Native.Nat.{ℕ, suc, ◌+◌, ◌*◌, ◌≤◌, ◌<◌}
use mathlib.Core.Bool.{Bool, true, false, not}
use mathlib.Core.List.{List, [], ◌∷◌, ◌++◌, map, append-nil, map-append}
use mathlib.Core.Path.{◌≡◌, refl, sym, ap, ◌∙◌}
use native.Mathlib.Nat.{zero-add}
use native.Mathlib.Numerals.{add-one}
use native.Mathlib.Omega.{arith}
use lib.Dec.{eqb}
use lib.ListN.{length, set, length-append}
use lib.Seq.{append_snoc}
use borrow.Author.Tests.{le-ltb, lt-ltb, le-leb, lt-leb, eq-eqb, ne_eqb}
use Rattle.model.specs.Words.{those, joined, numbers_from, written_over}
use Rattle.model.specs.Rights.{has}
use Rattle.model.specs.Forms.{cell_at}
use Rattle.model.specs.Stores.{named_number}
use Rattle.model.specs.Questions.{may_use_number, may_use, shown, access_words}
use Rattle.model.specs.Outcomes.{Handed, people_in, designs_in, handed_number, may_use_call_number, may_use_answer, MayUseOutcome, access_list_number, access_list_answer, AccessListOutcome, cells_in}
use Rattle.laws.proofs.Tests.{by_test}
use Rattle.laws.proofs.Lists.{those-append, those-length, length-numbers, numbers_last, joined-append, written_snoc}
use Rattle.laws.proofs.Kept.{roster_length}
use Rattle.handed.specs.Handing.{rooms_number}
use Rattle.questions.specs.Shown.{counted_with, paired_with, Shows}
use Rattle.handed.proofs.Numbers.{no_room, all_rooms, checked}
use Rattle.laws.proofs.Refusals.{refusal_not_zero, refused_here}
use Rattle.model.specs.declared.refusal.Refusal.{Refusal}
use Rattle.model.specs.Refusals.{number_of_refusal}
use Rattle.model.specs.Answers.{may_given, list_given}
use Rattle.std.specs.Prelude.{Result, Ok, Err}

-- ---- the question

module _ (h : Handed) (person right : ℕ) (code : List ℕ) where
  pub may_no_room : (r : Refusal) → number_of_refusal r ≡ rooms_number h.roster h.store → number_of_refusal r ≡ may_use_call_number h person right code
  unfolding may_use_call_number
  may_no_room r e = rw (no_room h r e).0 (sym (no_room h r e).1)

  module _ (room : 0 ≡ rooms_number h.roster h.store) where
    pub may_not_handed : (r : Refusal) → number_of_refusal r ≡ handed_number h → number_of_refusal r ≡ may_use_call_number h person right code
    unfolding may_use_call_number
    may_not_handed r e = rw (all_rooms h room) (refused_here _ _ r e)

    module _ (z : handed_number h ≡ 0) where
      on_words : may_use_call_number h person right code ≡ may_use_number h.scheme (people_in h) (designs_in h) person right code
      unfolding may_use_call_number
      on_words = rw (all_rooms h room, z) refl

      pub may_no_right : h.scheme.rights ≤ right → 15 ≡ may_use_call_number h person right code
      unfolding may_use_number
      may_no_right l = rw (on_words, le-ltb right h.scheme.rights l)

      pub may_no_person : right < h.scheme.rights → h.count ≤ person → 7 ≡ may_use_call_number h person right code
      unfolding may_use_number
      may_no_person r l = rw (on_words, lt-ltb right h.scheme.rights r, le-ltb person (length (people_in h)) (omega (arith, roster_length h.count h.roster)))

      pub may_named : right < h.scheme.rights → person < h.count → (k : ℕ) → k ≡ named_number (designs_in h) code → k ≡ may_use_call_number h person right code
      unfolding may_use_number
      may_named r l k ek =
          rw (on_words, lt-ltb right h.scheme.rights r, lt-ltb person (length (people_in h)) (omega (arith, roster_length h.count h.roster)), ← ek)

  pub right_below : handed_number h ≡ 0 → right < h.scheme.rights → right < 32
  right_below z l = omega (arith, (checked h z).rights)

  pub may_refused : (x : Result Bool Refusal) (r : Refusal) → x ≡ Err r → number_of_refusal r ≡ may_use_call_number h person right code
      → MayUseOutcome h person right code (may_given x)
  unfolding may_use_answer
  may_refused x r is e = rw is (record { answer_is = rw (← e, ne_eqb (number_of_refusal r) 0 (refusal_not_zero r)) })

  pub may_answered : 0 ≡ may_use_call_number h person right code → (b : Bool) → b ≡ has (cell_at (cells_in h code) person) right
      → MayUseOutcome h person right code (may_given (Ok b))
  unfolding may_use_answer may_use
  may_answered z b eb = record { answer_is = rw (← z, ← eb) refl }

-- ---- the access list

pairs_length : (f : ℕ → ℕ) (xs : List ℕ) → length (joined (map (λ p. p ∷ f p ∷ []) xs)) ≡ length xs * 2
pairs_length f [] = refl
pairs_length f (x ∷ xs) = omega (arith, pairs_length f xs)

-- two words more at the end
written_pair : (new old : List ℕ) (a b : ℕ) → suc (length new) < length old
    → written_over (new ++ (a ∷ b ∷ [])) old ≡ set (set (written_over new old) (length new) a) (length new + 1) b
written_pair new old a b l =
    let first : length (new ++ (a ∷ [])) ≡ length new + 1 = length-append new (a ∷ []) in
    ap (λ (r : List ℕ). written_over r old) (sym (append_snoc new a (b ∷ [])))
    ∙ written_snoc (new ++ (a ∷ [])) old b (omega arith)
    ∙ rw (first, written_snoc new old a (omega arith)) refl

-- one person more: shown and written, unless the cell is empty
module _ (cells old : List ℕ) (i : ℕ) where
  shown_next : shown (suc i) cells ≡ shown i cells ++ (those (λ p. not (eqb (cell_at cells p) 0)) (i ∷ []))
  unfolding shown
  shown_next =
      ap (those (λ p. not (eqb (cell_at cells p) 0))) (numbers_last 0 i ∙ ap (λ (k : ℕ). numbers_from 0 i ++ (k ∷ [])) (zero-add i))
      ∙ those-append (λ p. not (eqb (cell_at cells p) 0)) (numbers_from 0 i) (i ∷ [])

  shown_few : length (shown i cells) ≤ i
  unfolding shown
  shown_few = omega (arith, those-length (λ p. not (eqb (cell_at cells p) 0)) (numbers_from 0 i), length-numbers 0 i)

  words_length : length (access_words i cells) ≡ length (shown i cells) * 2
  unfolding access_words
  words_length = pairs_length (cell_at cells) (shown i cells)

  shown_not : eqb (cell_at cells i) 0 ≡ true → shown (suc i) cells ≡ shown i cells
  shown_not e = shown_next ∙ rw e (append-nil (shown i cells))

  shown_too : eqb (cell_at cells i) 0 ≡ false → shown (suc i) cells ≡ shown i cells ++ (i ∷ [])
  shown_too e = shown_next ∙ rw e

  words_too : eqb (cell_at cells i) 0 ≡ false → access_words (suc i) cells ≡ access_words i cells ++ (i ∷ cell_at cells i ∷ [])
  unfolding access_words
  words_too e =
      ap (λ (xs : List ℕ). joined (map (λ p. p ∷ cell_at cells p ∷ []) xs)) (shown_too e)
      ∙ ap joined (map-append (λ p. p ∷ cell_at cells p ∷ []) (shown i cells) (i ∷ []))
      ∙ joined-append (map (λ p. p ∷ cell_at cells p ∷ []) (shown i cells)) ((i ∷ cell_at cells i ∷ []) ∷ [])

  pub shows_next : (n : ℕ) (list : List ℕ) → suc i ≤ 32 → 64 ≤ length old → Shows i cells old n list
      → Shows (suc i) cells old (counted_with (cell_at cells i) n) (paired_with i (cell_at cells i) n list)
  unfolding access_words
  shows_next n list l room s =
      by_test (eqb (cell_at cells i) 0)
      (λ e. record {
        counted = rw (e, shown_not e) s.counted;
        written = rw e (s.written ∙ ap (λ (xs : List ℕ). written_over (joined (map (λ p. p ∷ cell_at cells p ∷ []) xs)) old) (sym (shown_not e)));
      })
      (λ e.
      let place : length (access_words i cells) ≡ n * 2 = words_length ∙ ap (λ (k : ℕ). k * 2) (sym s.counted) in
      record {
        counted = rw (e, shown_too e) (omega (arith, s.counted, length-append (shown i cells) (i ∷ [])));
        written =
            rw (e, words_too e, s.written)
            (rw (← place) (sym (written_pair (access_words i cells) old i (cell_at cells i) (omega (arith, shown_few, s.counted)))));
      })

-- a turn of the loop, with an empty cell and with another
module _ (cells old list : List ℕ) (i n : ℕ) (l : i < 32) (room : 64 ≤ length old) (s : Shows i cells old n list) where
  pub shows_empty : cell_at cells i ≡ 0 → Shows (i + 1) cells old n list
  shows_empty e = rw add-one (rw (eq-eqb (cell_at cells i) 0 e) at (shows_next cells old i n list l room s))

  pub shows_cell : (cell_at cells i ≡ 0 → ⊥) → Shows (i + 1) cells old (n + 1) (set (set list (n * 2) i) (n * 2 + 1) (cell_at cells i))
  shows_cell some = rw add-one (rw (ne_eqb (cell_at cells i) 0 some) at (shows_next cells old i n list l room s))

pub shows_none : (cells old : List ℕ) → Shows 0 cells old 0 old
unfolding shown access_words written_over
shows_none cells old = record { counted = refl; written = refl }

-- ---- the number of an access list at each end of its checks

module _ (h : Handed) (code list : List ℕ) where
  pub list_no_room : (r : Refusal) → number_of_refusal r ≡ rooms_number h.roster h.store → number_of_refusal r ≡ access_list_number h code list
  unfolding access_list_number
  list_no_room r e = rw (no_room h r e).0 (sym (no_room h r e).1)

  module _ (room : 0 ≡ rooms_number h.roster h.store) where
    pub list_short : length list < 64 → 20 ≡ access_list_number h code list
    unfolding access_list_number
    list_short s = rw (all_rooms h room, lt-leb 64 (length list) s)

    module _ (long : 64 ≤ length list) where
      pub list_not_handed : (r : Refusal) → number_of_refusal r ≡ handed_number h → number_of_refusal r ≡ access_list_number h code list
      unfolding access_list_number
      list_not_handed r e = rw (all_rooms h room, le-leb 64 (length list) long) (refused_here _ _ r e)

      pub list_named : handed_number h ≡ 0 → (k : ℕ) → k ≡ named_number (designs_in h) code → k ≡ access_list_number h code list
      unfolding access_list_number
      list_named z k ek = rw (all_rooms h room, le-leb 64 (length list) long, z) ek

  pub list_refused : (x : Result ℕ Refusal) (r : Refusal) → x ≡ Err r → number_of_refusal r ≡ access_list_number h code list
      → AccessListOutcome h code list (list_given x) list
  unfolding access_list_answer
  list_refused x r is e =
      let some = ne_eqb (number_of_refusal r) 0 (refusal_not_zero r) in
      rw is (record { answer_is = rw (← e, some); list_is = rw (← e, some) })

  pub list_answered : 0 ≡ access_list_number h code list → (count : ℕ) (exit : List ℕ) → Shows h.count (cells_in h code) list count exit
      → AccessListOutcome h code list (list_given (Ok count)) exit
  unfolding access_list_answer
  list_answered z count exit s = record { answer_is = rw (← z, ← s.counted); list_is = rw (← z) s.written }
