-- What reading a roster card gives at each of its exits, whose tests are the definition's, in its order.
-- Assumes nothing.
use Prim.Native.Nat.{ℕ, zero, suc, ◌≤◌, ◌<◌}
use mathlib.Core.Path.{◌≡◌, refl, sym, ap, ◌∙◌}
use mathlib.Core.Bool.{true, false}
use mathlib.Core.List.{List, map}
use native.Mathlib.Omega.{arith}
use borrow.Author.Tests.{le-leb, lt-leb, ne_eqb}
use lib.ListN.{length, get_or, drop, length-map}
use Rattle.model.specs.Words.{written_over, between}
use Rattle.model.specs.declared.refusal.Refusal.{Refusal}
use Rattle.model.specs.Refusals.{number_of_refusal}
use Rattle.model.specs.Schemes.{Scheme, scheme_is_valid, scheme_number}
use Rattle.model.specs.Rosters.{Person, out_of_range, roster_number, roster_of, roster_words}
use Rattle.model.specs.Cards.{body, entry_size, entries, people_of, is_roster_card, roster_card_number}
use Rattle.model.specs.Outcomes.{read_roster_number, roster_read, ReadRosterOutcome}
use Rattle.laws.proofs.Tests.{by_test, passed, accepted}
use Rattle.laws.proofs.Refusals.{refusal_not_zero}
use Rattle.cards.specs.People.{readable}
use Rattle.cards.proofs.People.{same_number, same_people, roster_held}

-- ---- how many people a card has

pub length-entries : (fixed n : ℕ) (rest : List ℕ) → length (entries fixed n rest) ≡ n
length-entries fixed zero rest = refl
length-entries fixed (suc n) rest = ap suc (length-entries fixed n (drop (entry_size fixed rest) rest))

pub people_count : (card : List ℕ) → length (people_of card) ≡ get_or (body card) 0 0
unfolding people_of
people_count card = length-map (entries 2 (get_or (body card) 0 0) (drop 1 (body card))) _ ∙ length-entries 2 (get_or (body card) 0 0) (drop 1 (body card))

-- ---- their number, by their words

pub words_number : (types n : ℕ) (people : List Person) (words : List ℕ) → n ≡ length people
    → roster_number types (roster_of n (written_over (roster_words (map readable people)) words)) ≡ roster_number types people
words_number types n people words e = rw (e, roster_held people words) (same_number types people)

-- ---- the card's number

module _ (s : Scheme) (card : List ℕ) where
  abbrev number : ℕ
  number = roster_card_number s card

  pub no_card : is_roster_card card ≡ false → number ≡ 1
  unfolding roster_card_number
  no_card h = rw h

  module _ (is_card_lem : is_roster_card card ≡ true) where
    pub scheme_refused : (r : Refusal) → number_of_refusal r ≡ scheme_number s → number_of_refusal r ≡ number
    unfolding roster_card_number scheme_number
    scheme_refused r e =
        by_test (scheme_is_valid s)
        (λ p. absurd (refusal_not_zero r (rw p at e)))
        (λ q. rw (is_card_lem, q) (rw q at e))

    pub by_people : 0 ≡ scheme_number s → number ≡ roster_number s.types (people_of card)
    unfolding roster_card_number
    by_people e = rw (is_card_lem, ← e)

    pub count_refused : 0 ≡ scheme_number s → between 1 32 (get_or (body card) 0 0) ≡ false → number ≡ 3
    unfolding roster_number out_of_range
    count_refused e h = by_people e ∙ rw (people_count card, h)

  pub accepted_card : 0 ≡ number → (is_roster_card card ≡ true) × (between 1 32 (get_or (body card) 0 0) ≡ true)
  unfolding roster_card_number roster_number out_of_range
  accepted_card e =
      let facts = simp accepted at (sym e) in
      let n = people_count card in
      (facts.0, simp passed (omega (arith, facts.1.1.0.0.0), omega (arith, facts.1.1.0.0.1)))

-- ---- the call

module _ (s : Scheme) (card roster : List ℕ) where
  pub no_room : length roster < 128 → ReadRosterOutcome s card roster (record { number = 20; people = 0 }) roster
  unfolding read_roster_number roster_read
  no_room h = let room = lt-leb 128 (length roster) h in record { answer_is = rw room refl; roster_is = rw room refl }

  module _ (room : 128 ≤ length roster) where
    by_card : read_roster_number s card roster ≡ roster_card_number s card
    unfolding read_roster_number
    by_card = rw (le-leb 128 (length roster) room)

    pub card_refused : (r : Refusal) → number_of_refusal r ≡ roster_card_number s card
        → ReadRosterOutcome s card roster (record { number = number_of_refusal r; people = 0 }) roster
    unfolding roster_read
    card_refused r e =
        let some = ne_eqb (number_of_refusal r) 0 (refusal_not_zero r) in
        record { answer_is = rw (by_card, ← e, some) refl; roster_is = rw (by_card, ← e, some) refl }

    pub card_read : 0 ≡ roster_card_number s card → (n : ℕ) → n ≡ length (people_of card) → (exit : List ℕ)
        → exit ≡ written_over (roster_words (map readable (people_of card))) roster → ReadRosterOutcome s card roster (record { number = 0; people = n }) exit
    unfolding roster_read roster_card_number
    card_read e n is exit words =
        let number : read_roster_number s card roster ≡ 0 = by_card ∙ sym e in
        let people = (simp accepted at (sym e)).1.1 in
        record { answer_is = rw (number, is) refl; roster_is = words ∙ rw (number, same_people s.types (people_of card) people) refl }
