-- The rows of a listing gone through one after the other: what is listed after the first i of them, from the start to the last listed row or to
-- where the search is cut. Assumes nothing.
use Prim.Native.Nat.{ℕ, ◌+◌, ◌≤◌, ◌<◌}
use mathlib.Core.Path.{◌≡◌, refl, ap, ◌∙◌}
use mathlib.Core.List.{List, [], ◌∷◌}
use native.Mathlib.Numerals.{add-one}
use native.Mathlib.Omega.{arith}
use lib.ListN.{length, get_or, take}
use Rattle.model.specs.declared.Command.{Command}
use Rattle.model.specs.Words.{groups}
use Rattle.model.specs.Listing.{Row, put, expanded, listed_from, listing}
use Rattle.laws.proofs.Lists.{Sized}
use Rattle.laws.proofs.Listing.{expanded_grows}
use Rattle.laws.proofs.Budgets.{listing_next, listing_grows, listing_whole, listing_sized}
use Rattle.listing.specs.Searches.{Lists}
use Rattle.listing.proofs.Listed.{lists_same, lists_rows, lists_on, lists_cut}

-- the start, put into no rows, is row 0
pub put_first : (start : Row) (old : List ℕ) → put start (groups 8 0 old) ≡ start ∷ []
unfolding put
put_first start old = refl

one_sized : (start : Row) → length start ≡ 8 → Sized 8 (start ∷ []) []
one_sized start e i l = let first : i ≡ 0 = omega arith in rw first e

-- it is counted, and it stands in the first words
pub first_listed : (start : Row) (budget n : ℕ) (old table : List ℕ) → length start ≡ 8 → 1 ≤ budget → Lists (start ∷ []) budget old n table
    → (n ≡ 1) × (take 8 table ≡ start)
first_listed start budget n old table eight one has =
    let count : n ≡ 1 = omega arith in
    let rows : groups 8 1 table ≡ start ∷ [] =
    rw count at (lists_rows budget old (one_sized start eight) has (omega arith)) in
    (count, cc)

module _ (commands : List Command) (kind : ℕ) (budget : ℕ) where
  pub searching_begins : (table : List ℕ) → 1 ≤ budget → 8 ≤ length table → Lists (listing commands kind (take 8 table) 0) budget table 1 table
  unfolding listing listed_from
  searching_begins table one room = lists_same budget 1 table (omega arith) one

  module _ (start : Row) where
    pub searching_goes_on : length start ≡ 8 → (i n m : ℕ) (old table after : List ℕ) → i < n → n ≤ budget → Lists (listing commands kind start i) budget old n table
        → Lists (expanded kind commands (get_or (groups 8 n table) i []) (groups 8 n table)) budget table m after
        → Lists (listing commands kind start (i + 1)) budget old m after
    searching_goes_on eight i n m old table after h uncut has next =
        let L = listing commands kind start i in
        let rows : groups 8 n table ≡ L = lists_rows budget old (listing_sized 8 commands kind start eight i) has uncut in
        let on : listing commands kind start (i + 1) ≡ expanded kind commands (get_or L i []) L =
        ap (listing commands kind start) (add-one i) ∙ listing_next commands kind start i (omega arith) in
        rw on (lists_on budget old has uncut (expanded_grows kind commands (get_or L i []) L) (rw rows at next))

    pub searching_cut : (i n : ℕ) (old table : List ℕ) → i ≤ budget → budget < n → Lists (listing commands kind start i) budget old n table
        → Lists (listing commands kind start budget) budget old n table
    searching_cut i n old table h cut has = lists_cut budget old has cut (listing_grows commands kind start i budget h)

    pub searching_ends : (i n : ℕ) (old table : List ℕ) → i ≤ budget → n ≤ i → Lists (listing commands kind start i) budget old n table
        → Lists (listing commands kind start budget) budget old n table
    searching_ends i n old table h end has = rw (listing_whole commands kind start i budget (omega arith) h) has

  -- the table as it was before the start was written
  module _ (start : Row) (eight : length start ≡ 8) (one : 1 ≤ budget) (n : ℕ) (old table : List ℕ) (first : Lists (put start (groups 8 0 old)) budget old n table) where
    pub start_listed : (n ≡ 1) × (take 8 table ≡ start)
    start_listed = first_listed start budget n old table eight one (rw put_first at first)

    pub searched : (m : ℕ) (after : List ℕ) → Lists (listing commands kind (take 8 table) budget) budget table m after
        → Lists (listing commands kind start budget) budget old m after
    unfolding listing listed_from
    searched m after has =
        lists_on budget old (rw put_first at first) (omega (arith, start_listed.0)) (listing_grows commands kind start 0 budget (omega arith))
        (rw start_listed.1 at has)
