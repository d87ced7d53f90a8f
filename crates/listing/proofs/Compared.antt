-- Two rows that are compared word by word: each law is one turn more of the loop, or its end.
-- Assumes nothing.
use Prim.Native.Nat.{ℕ, ◌+◌, ◌*◌, ◌≤◌, ◌<◌}
use mathlib.Core.Path.{◌≡◌, sym, ap, ◌∙◌}
use mathlib.Core.Bool.{true, false}
use mathlib.Core.List.{List, []}
use native.Mathlib.Numerals.{add-one}
use native.Mathlib.Omega.{arith}
use lib.ListN.{length, get_or, take, drop, length-drop}
use lib.Seq.{take-suc, length-take-le, take_all, get_or-take, get_or-drop}
use Rattle.model.specs.Words.{any, same, groups}
use Rattle.laws.proofs.Lists.{at_any, any_snoc, same_iff, same_iff_false, length-groups, groups_at, groups_last}

-- a row is read off a table by its words
pub read_at : (table : List ℕ) (at k : ℕ) → k < 8 → get_or (take 8 (drop at table)) k 0 ≡ get_or table (at + k) 0
read_at table at k h = get_or-take 8 (drop at table) k 0 h ∙ get_or-drop at table k 0

pub read_length : (table : List ℕ) (at : ℕ) → at + 8 ≤ length table → length (take 8 (drop at table)) ≡ 8
read_length table at h = length-take-le 8 (drop at table) (omega (arith, length-drop at table))

-- one word more that agrees
pub agree_more : (row word : List ℕ) (k : ℕ) → k < length row → k < length word → take k row ≡ take k word → get_or word k 0 ≡ get_or row k 0
    → take (k + 1) row ≡ take (k + 1) word
agree_more row word k h l e w = rw (add-one, take-suc row k 0 h, take-suc word k 0 l, e, w)

pub agree_whole : (row word : List ℕ) (k : ℕ) → length row ≤ k → length word ≤ k → take k row ≡ take k word → row ≡ word
agree_whole row word k h l e = sym (take_all k row h) ∙ e ∙ take_all k word l

-- a row that differs at a word is not that row
pub one_differs : (row other : List ℕ) (k : ℕ) → (get_or other k 0 ≡ get_or row k 0 → ⊥) → same row other ≡ false
one_differs row other k ne = (same_iff_false row other).1 (λ e. ne (ap (λ (l : List ℕ). get_or l k 0) (sym e)))

-- a row that differs from one more row, and was not among those before it
pub not_yet : (row table : List ℕ) (i : ℕ) → any (same row) (groups 8 i table) ≡ false → same row (take 8 (drop (i * 8) table)) ≡ false
    → any (same row) (groups 8 (i + 1) table) ≡ false
not_yet row table i before here =
    ap (λ (n : ℕ). any (same row) (groups 8 n table)) (add-one i) ∙ ap (any (same row)) (groups_last 8 i table)
    ∙ any_snoc (same row) (groups 8 i table) (take 8 (drop (i * 8) table)) ∙ rw (before, here)

-- a row that is the i-th
pub is_there : (row table : List ℕ) (i n : ℕ) → i < n → row ≡ take 8 (drop (i * 8) table) → any (same row) (groups 8 n table) ≡ true
is_there row table i n h e =
    at_any (same row) (groups 8 n table) [] i (omega (arith, length-groups 8 n table))
    ((same_iff row _).1 (e ∙ sym (groups_at 8 n table [] i h)))
