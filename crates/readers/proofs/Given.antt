-- What the outcome of reading a roster card tells, where the lent words have room: the card's number, and with 0 the people and their words.
-- Assumes nothing.
use Prim.Native.Nat.{ℕ, ◌≤◌}
use mathlib.Core.Path.{◌≡◌, sym, ap, ◌∙◌}
use mathlib.Core.List.{List}
use borrow.Author.Tests.{le-leb, eqb-true}
use lib.Dec.{eqb}
use lib.ListN.{length}
use Rattle.model.specs.declared.RosterRead.{RosterRead}
use Rattle.model.specs.Words.{written_over}
use Rattle.model.specs.Schemes.{Scheme}
use Rattle.model.specs.Rosters.{Person, roster_words}
use Rattle.model.specs.Cards.{people_of, roster_card_number}
use Rattle.model.specs.Outcomes.{read_roster_number, roster_read, ReadRosterOutcome}
use Rattle.laws.proofs.Tests.{by_test}

number_of : (n : ℕ) (people : List Person) → (roster_read n people).number ≡ n
unfolding roster_read
number_of n people = by_test (eqb n 0) (λ p. rw p (sym (eqb-true n 0 p))) (λ q. rw q)

pub record Given (s : Scheme) (card roster : List ℕ) (r : RosterRead) (exit : List ℕ) : Type 0 where
  pub number : r.number ≡ roster_card_number s card
  pub people : r.number ≡ 0 → r.people ≡ length (people_of card)
  pub words : r.number ≡ 0 → exit ≡ written_over (roster_words (people_of card)) roster

pub given : {s : Scheme} {card roster : List ℕ} {r : RosterRead} {exit : List ℕ} → 128 ≤ length roster → ReadRosterOutcome s card roster r exit
    → Given s card roster r exit
unfolding read_roster_number roster_read
given {s} {card} {roster} {r} {exit} room o =
    let has : read_roster_number s card roster ≡ roster_card_number s card = rw (le-leb 128 (length roster) room) in
    let is : r.number ≡ roster_card_number s card = ap (λ (x : RosterRead). x.number) o.answer_is ∙ number_of (read_roster_number s card roster) (people_of card) ∙ has in
    record {
      number = is;
      people = λ z. let e : read_roster_number s card roster ≡ 0 = has ∙ sym is ∙ z in ap (λ (x : RosterRead). x.people) o.answer_is ∙ rw e;
      words = λ z. let e : read_roster_number s card roster ≡ 0 = has ∙ sym is ∙ z in o.roster_is ∙ rw e;
    }
