-- What the listing lists: a listing that is not cut off holds exactly what `Reach` reaches, each state once, the start first; one that is cut off
-- leaves out a reachable state. Each by what one expansion keeps. Assumes nothing.
use Prim.Native.Nat.{ℕ, zero, suc, ◌+◌, ◌≤◌, ◌<◌}
use mathlib.Core.Bool.{true, false}
use mathlib.Core.List.{List, [], ◌∷◌, ◌++◌}
use mathlib.Core.Path.{◌≡◌, refl, sym, ap, subst, ◌∙◌}
use native.Mathlib.Nat.{add-zero, zero-add}
use native.Mathlib.Omega.{arith}
use lib.Dec.{ltb}
use lib.ListN.{length, get_or, take, length-append}
use lib.Seq.{get_or-take, length-take-le, get_or-append_seam}
use borrow.Author.Tests.{ltb-true, ltb-false}
use Rattle.model.specs.declared.Command.{Command}
use Rattle.model.specs.Words.{any, same, all_differ}
use Rattle.model.specs.Schemes.{command_in}
use Rattle.model.specs.Listing.{Row, fires, moved, put, tried, expanded, listed_from, listing, Reach, here, next}
use Rattle.laws.proofs.Tests.{by_test, not_passed, left_or, right_or}
use Rattle.laws.proofs.Lists.{any_at, at_any, any_append, same_iff, same_refl, differ_snoc, differ_at}
use Rattle.laws.proofs.Forms.{act-length}
use Rattle.laws.proofs.Listing.{Grown, expanded_grows, grown_keeps, grown_longer, grown_refl, grown_trans}

-- the row is among the rows
abbrev pub Among : Row → List Row → Type 0
Among row rows = any (same row) rows ≡ true

pub among_at : (row : Row) (rows : List Row) → Among row rows → (i : ℕ) × (i < length rows) × (get_or rows i [] ≡ row)
among_at row rows h = let (i, l, e) = any_at (same row) rows [] h in (i, l, sym ((same_iff row (get_or rows i [])).0 e))

pub at_among : (rows : List Row) (i : ℕ) → i < length rows → Among (get_or rows i []) rows
at_among rows i l = at_any (same (get_or rows i [])) rows [] i l (same_refl (get_or rows i []))

pub grown_among : (row : Row) {rows more : List Row} → Grown rows more → Among row rows → Among row more
grown_among row {rows} g h = rw (g.is, any_append (same row) rows g.tail) (left_or (any (same row) g.tail) h)

-- ---- one state is put

pub put_among : (row : Row) (rows : List Row) → Among row (put row rows)
unfolding put
put_among row rows =
    by_test (any (same row) rows) (λ e. rw e e)
    (λ e. rw (e, any_append (same row) rows (row ∷ [])) (right_or (any (same row) rows) (left_or false (same_refl row))))

pub tried_among : (kind : ℕ) (c : Command) (row : Row) (rows : List Row) → fires kind c row ≡ true → Among (moved c row) (tried kind c row rows)
unfolding tried
tried_among kind c row rows f = rw f (put_among (moved c row) rows)

-- ---- one state is gone through

pub expanded_among : (kind : ℕ) (cs : List Command) (row : Row) (rows : List Row) (k : ℕ) → k < length cs
    → fires kind (command_in cs k) row ≡ true → Among (moved (command_in cs k) row) (expanded kind cs row rows)
unfolding expanded
expanded_among kind [] row rows k l f = absurd (omega arith)
expanded_among kind (c ∷ cs) row rows zero l f =
    grown_among (moved c row) (expanded_grows kind cs row (tried kind c row rows)) (tried_among kind c row rows f)
expanded_among kind (c ∷ cs) row rows (suc k) l f = expanded_among kind cs row (tried kind c row rows) k (omega arith) f

-- what every new successor of the state keeps, going through it keeps
pub expanded_keeps : (Q : List Row → Type 0) (kind : ℕ) (cs : List Command) (row : Row)
    → ((k : ℕ) (rows : List Row) → k < length cs → fires kind (command_in cs k) row ≡ true → any (same (moved (command_in cs k) row)) rows ≡ false
    → Q rows → Q (rows ++ (moved (command_in cs k) row ∷ [])))
    → (rows : List Row) → Q rows → Q (expanded kind cs row rows)
unfolding expanded tried put
expanded_keeps Q kind [] row step rows q = q
expanded_keeps Q kind (c ∷ cs) row step rows q =
    expanded_keeps Q kind cs row (λ k more l. step (suc k) more (omega arith)) (tried kind c row rows)
    (by_test (fires kind c row)
    (λ f. by_test (any (same (moved c row)) rows) (λ a. rw (f, a) q) (λ a. rw (f, a) (step 0 rows (omega arith) f a q)))
    (λ f. rw f q))

-- what holds at every place of a list and of one element more, holds at every place of both
pub at_end : (P : Row → Type 0) (rows : List Row) (row : Row) → ((i : ℕ) → i < length rows → P (get_or rows i [])) → P row
    → (i : ℕ) → i < length (rows ++ (row ∷ [])) → P (get_or (rows ++ (row ∷ [])) i [])
at_end P [] row all last zero l = last
at_end P [] row all last (suc i) l = absurd (omega arith)
at_end P (r ∷ rows) row all last zero l = all 0 (omega arith)
at_end P (r ∷ rows) row all last (suc i) l = at_end P rows row (λ j b. all (suc j) (omega arith)) last i (omega arith)

module _ (commands : List Command) (kind : ℕ) where
  -- ---- the first states have all their successors

  -- every successor of the first n states is among the rows
  abbrev pub Closed : ℕ → List Row → Type 0
  Closed n rows =
      (i : ℕ) → i < n → i < length rows → (k : ℕ) → k < length commands → fires kind (command_in commands k) (get_or rows i []) ≡ true
      → Among (moved (command_in commands k) (get_or rows i [])) rows

  expanded_closed : (rows : List Row) (at : ℕ) → at < length rows → Closed at rows
      → Closed (suc at) (expanded kind commands (get_or rows at []) rows)
  expanded_closed rows at l closed i n m k b f =
      let more = expanded kind commands (get_or rows at []) rows in
      let g = expanded_grows kind commands (get_or rows at []) rows in
      let j : i < length rows = omega arith in
      let e : get_or more i [] ≡ get_or rows i [] = grown_keeps g i j in
      by_test (ltb i at)
      (λ t. rw e (grown_among (moved (command_in commands k) (get_or rows i [])) g (closed i (ltb-true i at t) j k b (rw e at f))))
      (λ t.
      let q : i ≡ at = omega (arith, ltb-false i at t) in
      let here : get_or more i [] ≡ get_or rows at [] = e ∙ ap (λ (n : ℕ). get_or rows n []) q in
      rw here (expanded_among kind commands (get_or rows at []) rows k b (rw here at f)))

  -- ---- a listing goes on with the next state, or is done

  -- what every expansion keeps, a listing keeps
  listed_keeps : (P : ℕ → List Row → Type 0)
      → ((at : ℕ) (rows : List Row) → at < length rows → P at rows → P (suc at) (expanded kind commands (get_or rows at []) rows))
      → ((at at' : ℕ) (rows : List Row) → length rows ≤ at → P at rows → P at' rows)
      → (n at m : ℕ) (rows : List Row) → at + n ≡ m → P at rows → P m (listed_from commands kind n at rows)
  unfolding listed_from
  listed_keeps P step done zero at m rows e p = subst (λ (k : ℕ). P k rows) (sym (add-zero at) ∙ e) p
  listed_keeps P step done (suc n) at m rows e p =
      by_test (ltb at (length rows))
      (λ t.
      let l : at < length rows = ltb-true at (length rows) t in
      rw t (listed_keeps P step done n (suc at) m (expanded kind commands (get_or rows at []) rows) (omega arith) (step at rows l p)))
      (λ t. rw t (done at m rows (ltb-false at (length rows) t) p))

  -- ---- from the start

  module _ (start : Row) where
    listing_keeps : (P : ℕ → List Row → Type 0)
        → ((at : ℕ) (rows : List Row) → at < length rows → P at rows → P (suc at) (expanded kind commands (get_or rows at []) rows))
        → ((at at' : ℕ) (rows : List Row) → length rows ≤ at → P at rows → P at' rows)
        → P 0 (start ∷ []) → (n : ℕ) → P n (listing commands kind start n)
    unfolding listing
    listing_keeps P step done p n = listed_keeps P step done n 0 n (start ∷ []) (zero-add n) p

    -- the successors of the states that were gone through are listed
    pub listing_closed : (n : ℕ) → Closed n (listing commands kind start n)
    listing_closed =
        listing_keeps Closed (λ at rows l closed. expanded_closed rows at l closed) (λ at at' rows l closed i b m. closed i (omega arith) m)
        (λ i b. absurd (omega arith))

    -- the start is state 0
    pub listing_begins : (n : ℕ) → Grown (start ∷ []) (listing commands kind start n)
    listing_begins =
        listing_keeps (λ at rows. Grown (start ∷ []) rows) (λ at rows l g. grown_trans g (expanded_grows kind commands (get_or rows at []) rows))
        (λ at at' rows l g. g) (grown_refl (start ∷ []))

    pub listing_first : (n : ℕ) → get_or (listing commands kind start n) 0 [] ≡ start
    listing_first n = grown_keeps (listing_begins n) 0 (omega arith)

    pub listing_some : (n : ℕ) → 0 < length (listing commands kind start n)
    listing_some n = omega (arith, grown_longer (listing_begins n))

    -- every listed state is reached
    pub listed_reached : (n i : ℕ) → i < length (listing commands kind start n) → Reach commands kind start (get_or (listing commands kind start n) i [])
    listed_reached =
        listing_keeps (λ at rows. (i : ℕ) → i < length rows → Reach commands kind start (get_or rows i []))
        (λ at rows l r.
        expanded_keeps (λ more. (i : ℕ) → i < length more → Reach commands kind start (get_or more i [])) kind commands (get_or rows at [])
        (λ k more b f a reached. at_end (Reach commands kind start) more (moved (command_in commands k) (get_or rows at [])) reached (next k (r at l) b f)) rows r)
        (λ at at' rows l r. r)
        (λ i l. subst (Reach commands kind start) (only_one i l) here)
      where
        only_one : (i : ℕ) → i < 1 → start ≡ get_or (start ∷ []) i []
        only_one zero l = refl
        only_one (suc i) l = absurd (omega arith)

    -- no state is listed twice
    pub listing_differs : (n : ℕ) → all_differ (listing commands kind start n) ≡ true
    listing_differs =
        listing_keeps (λ at rows. all_differ rows ≡ true)
        (λ at rows l d. expanded_keeps (λ more. all_differ more ≡ true) kind commands (get_or rows at [])
        (λ k more b f a e. rw (differ_snoc more (moved (command_in commands k) (get_or rows at [])), e, a)) rows d)
        (λ at at' rows l d. d) refl

    -- a listing that is not cut off lists every state that is reached
    pub reached_listed : (n : ℕ) → length (listing commands kind start n) ≤ n → {row : Row} → Reach commands kind start row
        → Among row (listing commands kind start n)
    reached_listed n fits here = subst (λ (r : Row). Among r (listing commands kind start n)) (listing_first n) (at_among (listing commands kind start n) 0 (listing_some n))
    reached_listed n fits (next {row = row} k r b f) =
        let rows = listing commands kind start n in
        let (i, l, e) = among_at row rows (reached_listed n fits r) in
        subst (λ (r : Row). Among (moved (command_in commands k) r) rows) e (listing_closed n i (omega arith) l k b (rw e f))

    -- one that is cut off leaves out a reachable state among its first n: the next one
    pub cut_off_leaves_out : (n : ℕ) → n < length (listing commands kind start n)
        → Reach commands kind start (get_or (listing commands kind start n) n []) × (any (same (get_or (listing commands kind start n) n [])) (take n (listing commands kind start n)) ≡ false)
    cut_off_leaves_out n l =
        let rows = listing commands kind start n in (
          listed_reached n n l,
          not_passed (any (same (get_or rows n [])) (take n rows))
              (λ h.
              let (i, b, e) = among_at (get_or rows n []) (take n rows) h in
              let short : length (take n rows) ≡ n = length-take-le n rows (omega arith) in
              let same_place : i ≡ n = differ_at rows [] (listing_differs n) i n (omega arith) l (sym (get_or-take n rows i [] (omega arith)) ∙ e) in
              omega arith),
        )

    -- each listed state but the first has an earlier one and a command that gave it
    pub record Origin (rows : List Row) (i : ℕ) : Type 0 where
      pub from : ℕ
      pub by : ℕ
      pub earlier : from < i
      pub command : by < length commands
      pub fired : fires kind (command_in commands by) (get_or rows from []) ≡ true
      pub gave : get_or rows i [] ≡ moved (command_in commands by) (get_or rows from [])

    origin_grown : {rows more : List Row} → Grown rows more → (i : ℕ) → i < length rows → Origin rows i → Origin more i
    origin_grown {rows} {more} g i l o =
        let there : get_or more o.from [] ≡ get_or rows o.from [] = grown_keeps g o.from (omega arith) in
        record {
          from = o.from;
          by = o.by;
          earlier = o.earlier;
          command = o.command;
          fired = rw there o.fired;
          gave = rw there (grown_keeps g i l ∙ o.gave);
        }

    Origins : List Row → Type 0
    Origins rows = (i : ℕ) → 0 < i → i < length rows → Origin rows i

    origin_put : (rows more : List Row) (at k : ℕ) → at < length rows → Grown rows more → k < length commands
        → fires kind (command_in commands k) (get_or rows at []) ≡ true → Origins more
        → Origins (more ++ (moved (command_in commands k) (get_or rows at []) ∷ []))
    unfolding Origins
    origin_put rows more at k l g b f origins i p m =
        let new = moved (command_in commands k) (get_or rows at []) in
        let longer : Grown more (more ++ (new ∷ [])) = record { tail = new ∷ []; is = refl } in
        by_test (ltb i (length more))
        (λ t. let j : i < length more = ltb-true i (length more) t in origin_grown longer i j (origins i p j))
        (λ t.
        let last : i ≡ length more = omega (arith, ltb-false i (length more) t, length-append more (new ∷ [])) in
        let there : get_or (more ++ (new ∷ [])) at [] ≡ get_or rows at [] = grown_keeps (grown_trans g longer) at l in
        record {
          from = at;
          by = k;
          earlier = omega (arith, grown_longer g);
          command = b;
          fired = rw there f;
          gave = rw (there, last) (get_or-append_seam more new [] []);
        })

    pub listing_origins : (n i : ℕ) → 0 < i → i < length (listing commands kind start n) → Origin (listing commands kind start n) i
    unfolding Origins
    listing_origins =
        listing_keeps (λ at rows. Origins rows)
        (λ at rows l o.
        (expanded_keeps (λ more. Grown rows more × Origins more) kind commands (get_or rows at [])
        (λ k more b f a q. (
          grown_trans q.0 (record { tail = moved (command_in commands k) (get_or rows at []) ∷ []; is = refl }),
          origin_put rows more at k l q.0 b f q.1,
        )) rows (grown_refl rows, o)).1)
        (λ at at' rows l o. o)
        (λ i p l. absurd (omega arith))

-- every state that is reached has as many cells as the start
pub reach_length : {commands : List Command} {kind : ℕ} {start row : Row} → Reach commands kind start row → length row ≡ length start
unfolding moved
reach_length here = refl
reach_length {commands} {kind} {start} (next {row = row} k r b f) =
    act-length (command_in commands k) (command_in commands k).source (command_in commands k).destination row ∙ reach_length r
