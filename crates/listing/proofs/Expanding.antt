-- The commands of a scheme tried on one row, one after the other: what is listed after the first k of them, from the first to the last or to
-- where the search is cut. Assumes nothing.
use Prim.Native.Nat.{ℕ, ◌+◌, ◌*◌, ◌≤◌, ◌<◌}
use mathlib.Core.Path.{◌≡◌, refl, sym, ap, ◌∙◌}
use mathlib.Core.List.{List, [], ◌∷◌, ◌++◌}
use native.Mathlib.Numerals.{add-one}
use native.Mathlib.Omega.{arith}
use lib.ListN.{length, take, drop, length-drop, take-append-drop}
use lib.Seq.{take-suc, length-take-le}
use Rattle.model.specs.declared.Command.{Command}
use Rattle.model.specs.Words.{groups}
use Rattle.model.specs.Schemes.{no_command, command_in}
use Rattle.model.specs.Listing.{Row, tried, expanded}
use Rattle.laws.proofs.Lists.{Sized, length-groups, groups_at}
use Rattle.laws.proofs.Listing.{Grown, tried_grows, expanded_grows}
use Rattle.laws.proofs.Budgets.{expanded_sized}
use Rattle.listing.specs.Searches.{Lists}
use Rattle.listing.proofs.Listed.{lists_same, lists_rows, lists_on, lists_cut}

expanded-append : (kind : ℕ) (cs ds : List Command) (row : Row) (rows : List Row)
    → expanded kind (cs ++ ds) row rows ≡ expanded kind ds row (expanded kind cs row rows)
unfolding expanded
expanded-append kind [] ds row rows = refl
expanded-append kind (c ∷ cs) ds row rows = expanded-append kind cs ds row (tried kind c row rows)

expanded_one : (kind : ℕ) (c : Command) (row : Row) (rows : List Row) → expanded kind (c ∷ []) row rows ≡ tried kind c row rows
unfolding expanded
expanded_one kind c row rows = refl

expanded_none : (kind : ℕ) (row : Row) (rows : List Row) → expanded kind [] row rows ≡ rows
unfolding expanded
expanded_none kind row rows = refl

groups_sized : (n : ℕ) (table : List ℕ) → n * 8 ≤ length table → Sized 8 (groups 8 n table) []
groups_sized n table fits i l =
    let h : i < n = omega (arith, length-groups 8 n table) in
    ap length (groups_at 8 n table [] i h) ∙ length-take-le 8 (drop (i * 8) table) (omega (arith, length-drop (i * 8) table))

module _ (kind budget : ℕ) (row : Row) (commands : List Command) (n : ℕ) (old : List ℕ) where
  -- what is listed after the first k commands
  abbrev pub after_first : ℕ → List Row
  after_first k = expanded kind (take k commands) row (groups 8 n old)

  first_grows : (k : ℕ) → Grown (after_first k) (expanded kind commands row (groups 8 n old))
  first_grows k =
      rw (sym (ap (λ (cs : List Command). expanded kind cs row (groups 8 n old)) (take-append-drop k commands))
      ∙ expanded-append kind (take k commands) (drop k commands) row (groups 8 n old))
      (expanded_grows kind (drop k commands) row (after_first k))

  first_next : (k : ℕ) → k < length commands → after_first (k + 1) ≡ tried kind (command_in commands k) row (after_first k)
  first_next k h =
      ap (λ (cs : List Command). expanded kind cs row (groups 8 n old)) (ap (λ (j : ℕ). take j commands) (add-one k) ∙ take-suc commands k no_command h)
      ∙ expanded-append kind (take k commands) (command_in commands k ∷ []) row (groups 8 n old)
      ∙ expanded_one kind (command_in commands k) row (after_first k)

  module _ (fits : n * 8 ≤ length old) (uncut : n ≤ budget) where
    pub expanding_begins : Lists (after_first 0) budget old n old
    expanding_begins = rw expanded_none (lists_same budget n old fits uncut)

    pub expanding_goes_on : length row ≡ 8 → (k m : ℕ) (table : List ℕ) (r : ℕ) (after : List ℕ) → k < length commands
        → Lists (after_first k) budget old m table → m ≤ budget → Lists (tried kind (command_in commands k) row (groups 8 m table)) budget table r after
        → Lists (after_first (k + 1)) budget old r after
    expanding_goes_on eight k m table r after h has whole next =
        let sized = expanded_sized 8 kind (take k commands) row (groups 8 n old) (groups_sized n old fits) eight in
        let rows : groups 8 m table ≡ after_first k = lists_rows budget old sized has whole in
        let more = tried_grows kind (command_in commands k) row (after_first k) in
        rw (first_next k h) (lists_on budget old has whole more (rw rows at next))

  pub expanding_cut : (k m : ℕ) (table : List ℕ) → Lists (after_first k) budget old m table → budget < m
      → Lists (expanded kind commands row (groups 8 n old)) budget old m table
  expanding_cut k m table has cut = lists_cut budget old has cut (first_grows k)
