-- What one entry more says of the entries that fill a rest.
-- Assumes nothing.
use Prim.Native.Nat.{ℕ, suc, ◌+◌, ◌-◌, ◌≤◌, ◌<◌}
use mathlib.Core.Path.{◌≡◌, refl, sym, ap, ◌∙◌}
use mathlib.Core.Bool.{true, false, ◌&&◌}
use mathlib.Core.List.{List, ◌++◌}
use native.Mathlib.Omega.{arith}
use borrow.Author.Tests.{le-leb, lt-leb}
use lib.ListN.{length, get_or, take, drop, length-drop}
use lib.Seq.{take-add, drop-drop, get_or-take}
use Rattle.std.specs.List.{IsSplitAt}
use Rattle.model.specs.Cards.{body, entry_size, entries_fill, is_roster_card}
use Rattle.laws.proofs.Tests.{passed}
use Rattle.cards.specs.Entries.{is_whole}

-- ---- a card

module _ (card : List ℕ) where
  pub roster_filled : is_roster_card card ≡ true → entries_fill 2 (get_or (body card) 0 0) (drop 1 (body card)) ≡ true
  unfolding is_roster_card
  roster_filled h = let facts = simp passed at h in facts.1

-- ---- entries

module _ (fixed : ℕ) (rest : List ℕ) where
  pub short_entry : length rest < fixed → is_whole fixed rest ≡ false
  unfolding is_whole
  short_entry h = rw (lt-leb fixed (length rest) h) refl

  -- entries of which i are passed: the next is whole, and those behind it fill what follows it
  pub fill_next : (n i : ℕ) → i < n
      → entries_fill fixed (n - i) rest ≡ (is_whole fixed rest && entries_fill fixed (n - (i + 1)) (drop (entry_size fixed rest) rest))
  unfolding is_whole
  fill_next n i l = let one_left : n - i ≡ suc (n - (i + 1)) = omega arith in rw one_left

  -- an entry by its fixed bytes and its code, whose length is the last of those
  module _ (some : 1 ≤ fixed) (here : fixed ≤ length rest) where
    code_length : get_or (take fixed rest) (fixed - 1) 0 ≡ get_or rest (fixed - 1) 0
    code_length = get_or-take fixed rest (fixed - 1) 0 (omega arith)

    pub past_entry : length (drop fixed rest) < get_or (take fixed rest) (fixed - 1) 0 → is_whole fixed rest ≡ false
    unfolding is_whole
    past_entry h = rw (le-leb fixed (length rest) here, lt-leb (entry_size fixed rest) (length rest) (omega (arith, code_length, length-drop fixed rest)))

    pub whole_entry : (f r code after : List ℕ) (size : ℕ) → f ≡ take fixed rest → r ≡ drop fixed rest → size ≡ get_or f (fixed - 1) 0 → IsSplitAt r size code after
        → (is_whole fixed rest ≡ true) × ((f ++ code ≡ take (entry_size fixed rest) rest) × (after ≡ drop (entry_size fixed rest) rest))
    unfolding is_whole
    whole_entry f r code after size f_is r_is e (fits, code_is, after_is, _, _) =
        let is : size ≡ get_or rest (fixed - 1) 0 = e ∙ ap (λ (l : List ℕ). get_or l (fixed - 1) 0) f_is ∙ code_length in
        let room = ap length r_is in (
          rw (le-leb fixed (length rest) here, le-leb (entry_size fixed rest) (length rest) (omega (arith, length-drop fixed rest))),
          (
            rw (f_is, code_is, r_is, is) (sym (take-add fixed (get_or rest (fixed - 1) 0) rest)),
            rw (after_is, r_is, is) (drop-drop (get_or rest (fixed - 1) 0) fixed rest),
          ),
        )
