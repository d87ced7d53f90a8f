-- The rows that a search has listed, and the table that it has written: what each exit of a step gives, that a search goes on from what it has,
-- and that a search that was cut has what a longer one has. Assumes nothing.
use Prim.Native.Nat.{ℕ, ◌+◌, ◌*◌, ◌-◌, ◌≤◌, ◌<◌}
use mathlib.Core.Path.{◌≡◌, sym, ap, ◌∙◌}
use mathlib.Core.Bool.{true, false}
use mathlib.Core.List.{List, [], ◌∷◌, ◌++◌, append-nil}
use native.Mathlib.Omega.{arith}
use lib.ListN.{length, take, drop, length-append}
use lib.Seq.{take_all, take-append-le, take-append-add}
use Rattle.model.specs.declared.Command.{Command}
use Rattle.model.specs.Words.{any, same, groups, joined, written_over}
use Rattle.model.specs.Listing.{Row, fires, moved, put, tried}
use Rattle.laws.proofs.Lists.{Sized, length-groups, joined-groups, joined-append, groups-joined, written_own, written_again}
use Rattle.laws.proofs.Listing.{Grown, grown_longer}
use Rattle.laws.proofs.Budgets.{grown_first}
use Rattle.listing.specs.Searches.{Lists}

-- ---- the exits of a step: `rows` are those that the table holds

pub put_known : (row : Row) (rows : List Row) → any (same row) rows ≡ true → put row rows ≡ rows
unfolding put
put_known row rows h = rw h

pub put_new : (row : Row) (rows : List Row) → any (same row) rows ≡ false → put row rows ≡ rows ++ row ∷ []
unfolding put
put_new row rows h = rw h

pub tried_idle : (kind : ℕ) (c : Command) (row : Row) (rows : List Row) → fires kind c row ≡ false → tried kind c row rows ≡ rows
unfolding tried
tried_idle kind c row rows f = rw f

pub tried_fires : (kind : ℕ) (c : Command) (row : Row) (rows : List Row) → fires kind c row ≡ true → tried kind c row rows ≡ put (moved c row) rows
unfolding tried
tried_fires kind c row rows f = rw f

module _ (budget n : ℕ) (table : List ℕ) (fits : n * 8 ≤ length table) (uncut : n ≤ budget) where
  -- the rows that the table holds, which the budget doesn't shorten
  held_rows : joined (take budget (groups 8 n table)) ≡ take (n * 8) table
  held_rows = ap joined (take_all budget (groups 8 n table) (omega (arith, length-groups 8 n table))) ∙ joined-groups 8 n table

  -- nothing new
  pub lists_same : Lists (groups 8 n table) budget table n table
  lists_same = record {
    counted = omega (arith, length-groups 8 n table);
    written = sym (ap (λ (new : List ℕ). written_over new table) held_rows ∙ written_own (n * 8) table fits);
  }

  -- a new row, and room for it
  pub lists_new : (new : Row) → n < budget → Lists (groups 8 n table ++ new ∷ []) budget table (n + 1) (written_over (take (n * 8) table ++ new) table)
  lists_new new less =
      let rows = groups 8 n table in
      let long : length (rows ++ new ∷ []) ≡ n + 1 = length-append rows (new ∷ []) ∙ omega (arith, length-groups 8 n table) in
      let cells : joined (rows ++ new ∷ []) ≡ take (n * 8) table ++ new =
      joined-append rows (new ∷ []) ∙ rw (joined-groups 8 n table, append-nil) in
      record {
        counted = omega arith;
        written = ap (λ (w : List ℕ). written_over w table) (sym (ap joined (take_all budget (rows ++ new ∷ []) (omega arith)) ∙ cells));
      }

  -- a new row, and no room: the search is cut
  pub lists_cut_off : (new : Row) → budget ≤ n → Lists (groups 8 n table ++ new ∷ []) budget table (n + 1) table
  lists_cut_off new full =
      let rows = groups 8 n table in
      let long : length (rows ++ new ∷ []) ≡ n + 1 = length-append rows (new ∷ []) ∙ omega (arith, length-groups 8 n table) in
      let first : take budget (rows ++ new ∷ []) ≡ take budget rows = take-append-le budget rows (new ∷ []) (omega (arith, length-groups 8 n table)) in
      record {
        counted = omega arith;
        written = sym (ap (λ (w : List ℕ). written_over w table) (ap joined first ∙ held_rows) ∙ written_own (n * 8) table fits);
      }

-- ---- a search that goes on

module _ (budget : ℕ) (old : List ℕ) where
  -- a search that was not cut has its rows in the table
  pub lists_rows : {rows : List Row} {n : ℕ} {table : List ℕ} → Sized 8 rows [] → Lists rows budget old n table → n ≤ budget → groups 8 n table ≡ rows
  unfolding written_over
  lists_rows {rows} {n} {table} sized has uncut =
      let count : n ≡ length rows = omega arith in
      let whole : take budget rows ≡ rows = take_all budget rows (omega arith) in
      let words : table ≡ joined rows ++ drop (length (joined rows)) old = has.written ∙ rw whole in
      rw (count, words) (groups-joined 8 rows [] (drop (length (joined rows)) old) sized)

  -- and it goes on from them
  pub lists_on : {rows more : List Row} {n m : ℕ} {table after : List ℕ} → Lists rows budget old n table → n ≤ budget → Grown rows more
      → Lists more budget table m after → Lists more budget old m after
  lists_on {rows} {more} {n} {m} {table} {after} has uncut g next =
      let whole : take budget rows ≡ rows = take_all budget rows (omega arith) in
      let k = budget - length rows in
      let seam : length rows + k ≡ budget = omega arith in
      let first : take budget more ≡ rows ++ take k g.tail =
      ap (take budget) g.is ∙ ap (λ (b : ℕ). take b (rows ++ g.tail)) (sym seam) ∙ take-append-add rows g.tail k in
      let longer : length (joined (take budget rows)) ≤ length (joined (take budget more)) =
      rw (whole, first, joined-append) (omega (arith, length-append (joined rows) (joined (take k g.tail)))) in
      record {
        counted = next.counted;
        written = next.written ∙ rw has.written (written_again (joined (take budget more)) (joined (take budget rows)) old longer);
      }

  -- a search that was cut has what a longer one has
  pub lists_cut : {rows more : List Row} {n : ℕ} {table : List ℕ} → Lists rows budget old n table → budget < n → Grown rows more
      → Lists more budget old n table
  lists_cut {rows} {more} has cut g =
      let first = grown_first g budget (omega arith) in
      record { counted = omega (arith, grown_longer g); written = has.written ∙ ap (λ (r : List Row). written_over (joined r) old) (sym first) }
