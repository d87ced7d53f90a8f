-- What a longer budget makes of a listing: one row more is gone through, what is listed stays in its place, and a listing whose every row
-- was gone through stays as it is. All rows are as long as the start. By induction on the rows gone through. Assumes nothing.
use Prim.Native.Nat.{ℕ, zero, suc, ◌+◌, ◌≤◌, ◌<◌, ◌-◌}
use mathlib.Core.List.{List, [], ◌∷◌, ◌++◌}
use mathlib.Core.Path.{◌≡◌, refl, sym, ap, ◌∙◌}
use native.Mathlib.Nat.{zero-add, add-zero, add-suc, suc-add, add-sub_of_le}
use native.Mathlib.Omega.{arith}
use borrow.Author.Tests.{ltb-true, ltb-false, lt-ltb, le-ltb}
use lib.Dec.{ltb}
use lib.ListN.{length, get_or, take, length-set}
use lib.Seq.{take-append-le}
use Rattle.model.specs.declared.Command.{Command}
use Rattle.model.specs.Words.{◌when◌else◌, any, same}
use Rattle.model.specs.Forms.{lose, gain, act}
use Rattle.model.specs.Listing.{Row, fires, moved, put, tried, expanded, listed_from, listing}
use Rattle.laws.proofs.Tests.{by_test}
use Rattle.laws.proofs.Lists.{Sized}
use Rattle.laws.proofs.Listing.{Grown, grown_refl, grown_trans, expanded_grows}

-- the first rows of what has grown
pub grown_first : {rows more : List Row} → Grown rows more → (n : ℕ) → n ≤ length rows → take n more ≡ take n rows
grown_first {rows} g n h = ap (take n) g.is ∙ take-append-le n rows g.tail h

module _ (commands : List Command) (kind : ℕ) where
  -- one row is gone through, if it is listed
  abbrev pub gone : ℕ → List Row → List Row
  gone at rows =
      expanded kind commands (get_or rows at []) rows when ltb at (length rows) else
      rows

  listed_past : (n at : ℕ) (rows : List Row) → length rows ≤ at → listed_from commands kind n at rows ≡ rows
  unfolding listed_from
  listed_past zero at rows h = refl
  listed_past (suc n) at rows h = rw (le-ltb at (length rows) h)

  listed_first : (n at : ℕ) (rows : List Row) → listed_from commands kind (suc n) at rows ≡ listed_from commands kind n (suc at) (gone at rows)
  unfolding listed_from
  listed_first n at rows =
      by_test (ltb at (length rows)) (λ p. rw p) (λ q. rw q (sym (listed_past n (suc at) rows (omega (arith, ltb-false at (length rows) q)))))

  listed_last : (n at : ℕ) (rows : List Row) → listed_from commands kind (suc n) at rows ≡ gone (at + n) (listed_from commands kind n at rows)
  unfolding listed_from
  listed_last zero at rows = ap (λ (i : ℕ). gone i rows) (sym (add-zero at))
  listed_last (suc n) at rows =
      listed_first (suc n) at rows ∙ listed_last n (suc at) (gone at rows)
      ∙ ap (λ (i : ℕ). gone i (listed_from commands kind n (suc at) (gone at rows))) (suc-add at n ∙ sym (add-suc at n))
      ∙ ap (gone (at + suc n)) (sym (listed_first n at rows))

  gone_grows : (at : ℕ) (rows : List Row) → Grown rows (gone at rows)
  gone_grows at rows = by_test (ltb at (length rows)) (λ p. rw p (expanded_grows kind commands _ rows)) (λ q. rw q (grown_refl rows))

  module _ (start : Row) where
    -- with one more state the next row is gone through
    pub listing_last : (n : ℕ) → listing commands kind start (suc n) ≡ gone n (listing commands kind start n)
    unfolding listing
    listing_last n = listed_last n 0 (start ∷ []) ∙ ap (λ (i : ℕ). gone i (listed_from commands kind n 0 (start ∷ []))) (zero-add n)

    pub listing_next : (n : ℕ) → n < length (listing commands kind start n)
        → listing commands kind start (suc n) ≡ expanded kind commands (get_or (listing commands kind start n) n []) (listing commands kind start n)
    listing_next n h = listing_last n ∙ rw (lt-ltb n (length (listing commands kind start n)) h)

    -- what is listed stays in its place
    pub listing_more : (n k : ℕ) → Grown (listing commands kind start n) (listing commands kind start (n + k))
    listing_more n zero = rw add-zero (grown_refl (listing commands kind start n))
    listing_more n (suc k) =
        rw (add-suc n k, listing_last (n + k)) (grown_trans (listing_more n k) (gone_grows (n + k) (listing commands kind start (n + k))))

    pub listing_grows : (n m : ℕ) → n ≤ m → Grown (listing commands kind start n) (listing commands kind start m)
    listing_grows n m h = rw add-sub_of_le at (listing_more n (m - n))

    -- a listing whose every row was gone through stays as it is
    whole_more : (n k : ℕ) → length (listing commands kind start n) ≤ n → listing commands kind start (n + k) ≡ listing commands kind start n
    whole_more n zero h = rw add-zero
    whole_more n (suc k) h =
        let e = whole_more n k h in
        rw (add-suc n k, listing_last (n + k), e, le-ltb (n + k) (length (listing commands kind start n)) (omega arith))

    pub listing_whole : (n m : ℕ) → length (listing commands kind start n) ≤ n → n ≤ m → listing commands kind start m ≡ listing commands kind start n
    listing_whole n m h l = rw add-sub_of_le at (whole_more n (m - n) h)

-- ---- rows are all of one length

pub length_moved : (c : Command) (row : Row) → length (moved c row) ≡ length row
unfolding moved act gain lose
length_moved c row = simp length-set

module _ (size : ℕ) where
  sized_snoc : (rows : List Row) (row : Row) → Sized size rows [] → length row ≡ size → Sized size (rows ++ row ∷ []) []
  sized_snoc [] row h e zero l = e
  sized_snoc [] row h e (suc i) l = absurd (omega arith)
  sized_snoc (r ∷ rows) row h e zero l = h 0 (omega arith)
  sized_snoc (r ∷ rows) row h e (suc i) l = sized_snoc rows row (λ j k. h (suc j) (omega arith)) e i (omega arith)

  put_sized : (row : Row) (rows : List Row) → Sized size rows [] → length row ≡ size → Sized size (put row rows) []
  unfolding put
  put_sized row rows h e = by_test (any (same row) rows) (λ p. rw p h) (λ q. rw q (sized_snoc rows row h e))

  pub tried_sized : (kind : ℕ) (c : Command) (row : Row) (rows : List Row) → Sized size rows [] → length row ≡ size → Sized size (tried kind c row rows) []
  unfolding tried
  tried_sized kind c row rows h e =
      by_test (fires kind c row) (λ p. rw p (put_sized (moved c row) rows h (length_moved c row ∙ e))) (λ q. rw q h)

  pub expanded_sized : (kind : ℕ) (cs : List Command) (row : Row) (rows : List Row) → Sized size rows [] → length row ≡ size
      → Sized size (expanded kind cs row rows) []
  unfolding expanded
  expanded_sized kind [] row rows h e = h
  expanded_sized kind (c ∷ cs) row rows h e = expanded_sized kind cs row (tried kind c row rows) (tried_sized kind c row rows h e) e

  gone_sized : (commands : List Command) (kind at : ℕ) (rows : List Row) → Sized size rows [] → Sized size (gone commands kind at rows) []
  gone_sized commands kind at rows h =
      by_test (ltb at (length rows))
      (λ p. rw p (expanded_sized kind commands (get_or rows at []) rows h (h at (ltb-true at (length rows) p))))
      (λ q. rw q h)

  pub listing_sized : (commands : List Command) (kind : ℕ) (start : Row) → length start ≡ size → (n : ℕ) → Sized size (listing commands kind start n) []
  unfolding listing listed_from
  listing_sized commands kind start e zero = sized_snoc [] start (λ i l. absurd (omega arith)) e
  listing_sized commands kind start e (suc n) =
      rw (listing_last commands kind start n) (gone_sized commands kind n (listing commands kind start n) (listing_sized commands kind start e n))
