-- The people of a roster card, written one after the other: what is written so far and what is left to write, over the words as they are, is the goal.
-- Assumes nothing.
use Prim.Native.Nat.{ℕ, suc, ◌+◌, ◌-◌, ◌*◌, ◌≤◌, ◌<◌}
use mathlib.Core.Path.{◌≡◌, refl, sym, ap, ◌∙◌}
use mathlib.Core.Bool.{true}
use mathlib.Core.List.{List, [], ◌++◌, map, append_assoc, append-nil}
use native.Mathlib.Nat.{sub-zero}
use native.Mathlib.Omega.{arith}
use lib.ListN.{length, take, drop, length-append, take-append-drop}
use lib.Seq.{length-take-le, drop-drop, drop-append-add}
use Rattle.model.specs.Words.{written_over}
use Rattle.model.specs.Rosters.{Person, words_of_person, roster_words}
use Rattle.model.specs.Cards.{entry_size, entries_fill, entries, person_of_entry}
use Rattle.laws.proofs.Tests.{passed}
use Rattle.laws.proofs.Lists.{length-written, take-written, rest_written}
use Rattle.cards.specs.Entries.{is_whole}
use Rattle.cards.specs.People.{readable}
use Rattle.cards.proofs.Filling.{fill_next}

-- ---- lent memory that is written in parts

-- what is written over a part of it alone is written over the whole
pub written_twice : (xs ys words : List ℕ) → written_over (xs ++ ys) (written_over xs words) ≡ written_over (xs ++ ys) words
unfolding written_over
written_twice xs ys words =
    rw (length-append xs ys, drop-append-add xs (drop (length xs) words) (length ys), drop-drop (length ys) (length xs) words)

-- one part more, of a given length, and what is left to write
pub written_part : (at k : ℕ) (new left words : List ℕ) → at ≤ length words → length new ≡ k
    → let next = written_over (take at words ++ new) words in
    written_over (take (at + k) next ++ left) next ≡ written_over (take at words ++ (new ++ left)) words
written_part at k new left words h e =
    let xs = take at words ++ new in
    let n : length xs ≡ at + k = length-append (take at words) new ∙ omega (arith, length-take-le at words h) in
    let t : take (at + k) (written_over xs words) ≡ xs = ap (λ (m : ℕ). take m (written_over xs words)) (sym n) ∙ take-written xs words in
    rw t (written_twice xs left words ∙ ap (λ (l : List ℕ). written_over l words) (append_assoc (take at words) new left))

pub written_all : (at : ℕ) (words : List ℕ) → at ≤ length words → written_over (take at words ++ []) words ≡ words
unfolding written_over
written_all at words h = rw (append-nil (take at words), length-take-le at words h) (take-append-drop at words)

-- ---- the people of entries, written one after the other

abbrev pub words_of : List (List ℕ) → List ℕ
words_of es = roster_words (map readable (map person_of_entry es))

-- the entry at hand: it stands whole, those behind it fill what follows it, and its person's words come first
module _ (left : List ℕ) (n i : ℕ) (fill : entries_fill 2 (n - i) left ≡ true) (l : i < n) where
  abbrev after : List ℕ
  after = drop (entry_size 2 left) left

  both : (is_whole 2 left ≡ true) × (entries_fill 2 (n - (i + 1)) after ≡ true)
  both = simp passed at (sym (fill_next 2 left n i l) ∙ fill)

  pub whole_at_hand : is_whole 2 left ≡ true
  whole_at_hand = both.0

  pub filled_behind : entries_fill 2 (n - (i + 1)) after ≡ true
  filled_behind = both.1

  pub words_at_hand : (person : Person) → person_of_entry (take (entry_size 2 left) left) ≡ person
      → words_of (entries 2 (n - i) left) ≡ words_of_person (readable person) ++ words_of (entries 2 (n - (i + 1)) after)
  unfolding roster_words
  words_at_hand person is =
      let more : n - i ≡ suc (n - (i + 1)) = omega arith in
      let later = words_of (entries 2 (n - (i + 1)) after) in
      let first : words_of (entries 2 (n - i) left) ≡ words_of_person (readable (person_of_entry (take (entry_size 2 left) left))) ++ later = rw more refl in
      first ∙ ap (λ (p : Person). words_of_person (readable p) ++ later) is

-- i people are written, and what is left of the entries completes the words
pub record Written (rest first : List ℕ) (n : ℕ) (left words : List ℕ) (i : ℕ) : Type 0 where
  pub filled : entries_fill 2 (n - i) left ≡ true
  pub room : length words ≡ length first
  pub completed : written_over (take (4 * i) words ++ words_of (entries 2 (n - i) left)) words ≡ written_over (words_of (entries 2 n rest)) first

module _ (rest first : List ℕ) (n : ℕ) where
  pub written_none : entries_fill 2 n rest ≡ true → Written rest first n rest first 0
  written_none fill = record {
    filled = rw (sub-zero n) fill;
    room = refl;
    completed = rw (sub-zero n) refl;
  }

  module _ (left words : List ℕ) (i : ℕ) (here : Written rest first n left words i) (room : 4 * n ≤ length first) where
    pub written_next : i < n → (person : Person) (part : List ℕ) → person_of_entry (take (entry_size 2 left) left) ≡ person
        → part ≡ written_over (words_of_person (readable person)) (take (length words - 4 * i) (drop (4 * i) words))
        → Written rest first n (drop (entry_size 2 left) left) (take (4 * i) words ++ (part ++ drop (length words - 4 * i) (drop (4 * i) words))) (i + 1)
    written_next l person part is p =
        let new = words_of_person (readable person) in
        let k = length words - 4 * i in
        let e : take (4 * i) words ++ (part ++ drop k (drop (4 * i) words)) ≡ written_over (take (4 * i) words ++ new) words =
        rw p (rest_written (4 * i) words new (omega (arith, here.room))) in
        let four : 4 * (i + 1) ≡ 4 * i + 4 = omega arith in
        rw e
        (record {
          filled = filled_behind left n i here.filled l;
          room = length-written (take (4 * i) words ++ new) words
              (omega (arith, here.room, length-append (take (4 * i) words) new, length-take-le (4 * i) words (omega (arith, here.room))))
              ∙ here.room;
          completed = rw four
              (written_part (4 * i) 4 new (words_of (entries 2 (n - (i + 1)) (drop (entry_size 2 left) left))) words (omega (arith, here.room)) refl
              ∙ rw (sym (words_at_hand left n i here.filled l person is)) here.completed);
        })

    pub written_last : n ≤ i → i ≤ n → words ≡ written_over (words_of (entries 2 n rest)) first
    unfolding roster_words
    written_last h l =
        let none : n - i ≡ 0 = omega arith in
        sym (written_all (4 * i) words (omega (arith, here.room))) ∙ rw none at here.completed
