-- The listing as the rules give it and the small steps of a search agree: rows are only put at the end, so the row at hand stays as it is
-- while its commands are tried, and one row takes as many small steps as there are commands, and one more. Assumes nothing.
use Prim.Native.Nat.{ℕ, zero, suc, ◌+◌, ◌*◌, ◌≤◌, ◌<◌}
use mathlib.Core.Bool.{Bool, true, false}
use mathlib.Core.List.{List, [], ◌∷◌, ◌++◌, append-nil, append_assoc}
use mathlib.Core.Path.{◌≡◌, refl, sym, ap, ◌∙◌}
use native.Mathlib.Nat.{zero-add, suc-add, suc-mul, zero-mul, add_comm}
use native.Mathlib.Omega.{arith}
use lib.Dec.{ltb}
use lib.ListN.{length, get_or, drop, length-append, drop_of_length-le, get_or-append}
use lib.Seq.{drop-cons}
use borrow.Author.Tests.{le-leb, lt-leb, ltb-true, ltb-false}
use Rattle.model.specs.declared.Command.{Command}
use Rattle.model.specs.Words.{◌when◌else◌, any, same}
use Rattle.model.specs.Schemes.{command_in, no_command}
use Rattle.model.specs.Listing.{Row, fires, moved, put, tried, expanded, listed_from, listing, Search, small_step, small_steps}

-- rows, with more put at the end
pub record Grown (rows more : List Row) : Type 0 where
  pub tail : List Row
  pub is : more ≡ rows ++ tail

pub grown_refl : (rows : List Row) → Grown rows rows
grown_refl rows = record { tail = []; is = sym (append-nil rows) }

pub grown_trans : {a b c : List Row} → Grown a b → Grown b c → Grown a c
grown_trans {a} g h =
    record { tail = g.tail ++ h.tail; is = h.is ∙ ap (λ (l : List Row). l ++ h.tail) g.is ∙ append_assoc a g.tail h.tail }

put_cases : (t : Bool) (row : Row) (rows : List Row) → Grown rows (rows when t else rows ++ (row ∷ []))
put_cases true row rows = grown_refl rows
put_cases false row rows = record { tail = row ∷ []; is = refl }

pub put_grows : (row : Row) (rows : List Row) → Grown rows (put row rows)
unfolding put
put_grows row rows = put_cases (any (same row) rows) row rows

tried_cases : (t : Bool) (row : Row) (rows : List Row) → Grown rows (put row rows when t else rows)
tried_cases true row rows = put_grows row rows
tried_cases false row rows = grown_refl rows

pub tried_grows : (kind : ℕ) (c : Command) (row : Row) (rows : List Row) → Grown rows (tried kind c row rows)
unfolding tried
tried_grows kind c row rows = tried_cases (fires kind c row) (moved c row) rows

pub expanded_grows : (kind : ℕ) (cs : List Command) (row : Row) (rows : List Row) → Grown rows (expanded kind cs row rows)
unfolding expanded
expanded_grows kind [] row rows = grown_refl rows
expanded_grows kind (c ∷ cs) row rows = grown_trans (tried_grows kind c row rows) (expanded_grows kind cs row (tried kind c row rows))

-- what is listed stays in its place
pub grown_keeps : {rows more : List Row} → Grown rows more → (i : ℕ) → i < length rows → get_or more i [] ≡ get_or rows i []
grown_keeps {rows} g i h = ap (λ (l : List Row). get_or l i []) g.is ∙ get_or-append rows g.tail [] i h

pub grown_longer : {rows more : List Row} → Grown rows more → length rows ≤ length more
grown_longer {rows} g = omega (arith, ap (λ (l : List Row). length l) g.is ∙ length-append rows g.tail)

-- ---- small steps

steps_add : (commands : List Command) (kind m n : ℕ) (p : Search) → small_steps commands kind (m + n) p ≡ small_steps commands kind n (small_steps commands kind m p)
unfolding small_steps
steps_add commands kind zero n p = rw zero-add
steps_add commands kind (suc m) n p = rw suc-add (steps_add commands kind m n (small_step commands kind p))

abbrev pub at : List Row → ℕ → ℕ → Search
at rows row command = record { rows = rows; row = row; command = command }

-- past the last listed row nothing moves
pub step_done : (commands : List Command) (kind : ℕ) (p : Search) → length p.rows ≤ p.row → small_step commands kind p ≡ p
unfolding small_step
step_done commands kind p h = rw (le-leb (length p.rows) p.row h)

pub steps_done : (commands : List Command) (kind n : ℕ) (p : Search) → length p.rows ≤ p.row → small_steps commands kind n p ≡ p
unfolding small_steps
steps_done commands kind zero p h = refl
steps_done commands kind (suc n) p h = rw (step_done commands kind p h) (steps_done commands kind n p h)

pub step_next_row : (commands : List Command) (kind : ℕ) (rows : List Row) (row command : ℕ) → row < length rows → length commands ≤ command
    → small_step commands kind (at rows row command) ≡ at rows (suc row) 0
unfolding small_step
step_next_row commands kind rows row command h l = rw (lt-leb (length rows) row h, le-leb (length commands) command l)

pub step_tries : (commands : List Command) (kind : ℕ) (rows : List Row) (row command : ℕ) → row < length rows → command < length commands
    → small_step commands kind (at rows row command) ≡ at (tried kind (command_in commands command) (get_or rows row []) rows) row (suc command)
unfolding small_step
step_tries commands kind rows row command h l = rw (lt-leb (length rows) row h, lt-leb (length commands) command l)

-- the commands that are left of a row, j of them, and the step to the next row
row_done : (commands : List Command) (kind j k : ℕ) (rows : List Row) (row : ℕ) → row < length rows → k + j ≡ length commands
    → small_steps commands kind (suc j) (at rows row k) ≡ at (expanded kind (drop k commands) (get_or rows row []) rows) (suc row) 0
unfolding small_steps expanded
row_done commands kind zero k rows row h e =
    rw (step_next_row commands kind rows row k h (omega arith), drop_of_length-le commands {i = k} (omega arith))
row_done commands kind (suc j) k rows row h e =
    let more = tried kind (command_in commands k) (get_or rows row []) rows in
    let g = tried_grows kind (command_in commands k) (get_or rows row []) rows in
    let l : k < length commands = omega arith in
    rw (step_tries commands kind rows row k h l, drop-cons commands k no_command l)
    (row_done commands kind j (suc k) more row (omega (arith, grown_longer g)) (omega arith)
    ∙ ap (λ (r : Row). at (expanded kind (drop (suc k) commands) r more) (suc row) 0) (grown_keeps g row h))

-- a listed row is gone through in one small step for each command, and one more
row_first : (commands : List Command) (kind n : ℕ) (rows : List Row) (row : ℕ) → row < length rows
    → small_steps commands kind (suc n * suc (length commands)) (at rows row 0)
    ≡ small_steps commands kind (n * suc (length commands)) (at (expanded kind commands (get_or rows row []) rows) (suc row) 0)
row_first commands kind n rows row h =
    let m = suc (length commands) in
    ap (λ (k : ℕ). small_steps commands kind k (at rows row 0)) (suc-mul n m ∙ add_comm (n * m) m)
    ∙ steps_add commands kind m (n * m) (at rows row 0)
    ∙ ap (small_steps commands kind (n * m)) (row_done commands kind (length commands) 0 rows row h (zero-add (length commands)))

-- the next n rows, from any row on
listed_by_steps : (commands : List Command) (kind n : ℕ) (rows : List Row) (row : ℕ)
    → (small_steps commands kind (n * suc (length commands)) (at rows row 0)).rows ≡ listed_from commands kind n row rows
unfolding listed_from small_steps
listed_by_steps commands kind zero rows row = rw (zero-mul (suc (length commands)))
listed_by_steps commands kind (suc n) rows row =
    by_test (ltb row (length rows)) refl (listed_by_steps commands kind n (expanded kind commands (get_or rows row []) rows) (suc row))
  where
    more : List Row
    more = listed_from commands kind n (suc row) (expanded kind commands (get_or rows row []) rows)

    by_test : (t : Bool) → ltb row (length rows) ≡ t
        → (small_steps commands kind (n * suc (length commands)) (at (expanded kind commands (get_or rows row []) rows) (suc row) 0)).rows ≡ more
        → (small_steps commands kind (suc n * suc (length commands)) (at rows row 0)).rows ≡ (more when ltb row (length rows) else rows)
    by_test true e ih = rw (e, row_first commands kind n rows row (ltb-true row (length rows) e)) ih
    by_test false e ih = rw (e, steps_done commands kind (suc n * suc (length commands)) (at rows row 0) (ltb-false row (length rows) e))

-- The small steps of a search list what the listing lists: so many rows take that many times the commands and one.
pub small_steps_list : (commands : List Command) (kind n : ℕ) (start : Row)
    → (small_steps commands kind (n * suc (length commands)) (at (start ∷ []) 0 0)).rows ≡ listing commands kind start n
unfolding listing
small_steps_list commands kind n start = listed_by_steps commands kind n (start ∷ []) 0
