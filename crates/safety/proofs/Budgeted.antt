-- **budgets**: a listing that fits stays as it is under a larger budget, and one that is cut off has its first rows. Assumes nothing.
use Prim.Native.Nat.{ℕ, ◌*◌, ◌-◌, ◌≤◌, ◌<◌}
use mathlib.Core.Bool.{true, false}
use mathlib.Core.List.{List, [], ◌++◌, append-nil, append_assoc}
use mathlib.Core.Path.{◌≡◌, refl, sym, ap, ◌∙◌}
use native.Mathlib.Nat.{add-sub_of_le}
use native.Mathlib.Omega.{arith}
use lib.Dec.{ltb}
use lib.ListN.{length, take, drop}
use lib.Seq.{take_all, take-add, take-append-le, take_at, length-take-le, get_or-take}
use borrow.Author.Tests.{ltb-true, ltb-false, le-ltb}
use Rattle.model.specs.declared.Command.{Command}
use Rattle.model.specs.declared.Verdict.{Verdict}
use Rattle.model.specs.Words.{joined, written_over}
use Rattle.model.specs.Sizes.{row_words}
use Rattle.model.specs.Schemes.{command_at}
use Rattle.model.specs.Kinds.{first_not_normal, row_of_create, row_of_design}
use Rattle.model.specs.Listing.{Row}
use Rattle.model.specs.Verdicts.{Question, Start, start_of_create, rows_from, holds, reported, duplicate_found, verdict_from, leaves_rows, table_after}
use Rattle.model.specs.Outcomes.{on_done, verdict_answer, start_in}
use Rattle.laws.proofs.Tests.{by_test, never_both}
use Rattle.laws.proofs.Forms.{created_length}
use Rattle.laws.proofs.Verdicts.{by_verdict, reported_zero}
use Rattle.laws.proofs.Lists.{length-joined, joined-append}
use Rattle.laws.proofs.Listing.{Grown}
use Rattle.laws.proofs.Budgets.{listing_whole, listing_grows, listing_sized}
use Rattle.safety.specs.Promises.{with_budget, SameUnlessCut, BudgetsOfCreate, BudgetsOfDesign}

-- what is written first is found first
front : (size : ℕ) (new more old : List ℕ) → length new ≡ size → take size (written_over (new ++ more) old) ≡ new
unfolding written_over
front size new more old e = rw append_assoc (take_at new (more ++ drop (length (new ++ more)) old) size e)

module _ (commands : List Command) (start : Start) (q : Question) (table : List ℕ) (m n : ℕ) (l : m ≤ n) where
  abbrev rows_m : List Row
  rows_m = rows_from commands start m

  abbrev rows_n : List Row
  rows_n = rows_from commands start n

  -- a listing that fits the smaller budget is the larger's
  fits_both : length rows_m ≤ m → rows_n ≡ rows_m
  fits_both h = listing_whole commands start.kind start.row m n h l

  fits_more : ltb m (length rows_m) ≡ false → ltb n (length rows_n) ≡ false
  fits_more c =
      let fits : length rows_m ≤ m = ltb-false m (length rows_m) c in
      rw (fits_both fits) (le-ltb n (length rows_m) (omega arith))

  -- what is reported speaks of the rows alone
  same_reported : (rows : List Row) → reported (with_budget q m) rows ≡ reported (with_budget q n) rows
  unfolding reported holds
  same_reported rows = refl

  same_verdict : ((verdict_from commands start (with_budget q m)).number ≡ 18 → ⊥)
      → verdict_from commands start (with_budget q m) ≡ verdict_from commands start (with_budget q n)
  unfolding verdict_from
  same_verdict =
      by_verdict commands start (with_budget q m) (λ v. (v.number ≡ 18 → ⊥) → v ≡ verdict_from commands start (with_budget q n)) (λ a uncut. rw a)
      (λ a b uncut. rw (a, b)) (λ a b c uncut. absurd (uncut refl))
      (λ a b c d uncut. let same = fits_both (ltb-false m (length rows_m) c) in rw (a, b, fits_more c, same, d))
      (λ a b c d uncut. let same = fits_both (ltb-false m (length rows_m) c) in rw (a, b, fits_more c, same, d) (same_reported rows_m))

  -- an answer that is not cut off and leaves rows has gone through all of them
  uncut_fits : ((verdict_from commands start (with_budget q m)).number ≡ 18 → ⊥) → leaves_rows (verdict_from commands start (with_budget q m)).number ≡ true
      → length rows_m ≤ m
  unfolding leaves_rows
  uncut_fits =
      by_verdict commands start (with_budget q m) (λ v. (v.number ≡ 18 → ⊥) → leaves_rows v.number ≡ true → length rows_m ≤ m)
      (λ a uncut leaves. absurd (never_both leaves refl)) (λ a b uncut leaves. absurd (never_both leaves refl)) (λ a b c uncut leaves. absurd (uncut refl))
      (λ a b c d uncut leaves. ltb-false m (length rows_m) c) (λ a b c d uncut leaves. ltb-false m (length rows_m) c)

  same_table_after : ((verdict_from commands start (with_budget q m)).number ≡ 18 → ⊥)
      → table_after commands start (with_budget q m) table ≡ table_after commands start (with_budget q n) table
  unfolding table_after
  same_table_after uncut =
      by_test (leaves_rows (verdict_from commands start (with_budget q m)).number)
      (λ t.
      let fits : length rows_m ≤ m = uncut_fits uncut t in
      rw (← same_verdict uncut, t, fits_both fits, take_all m rows_m fits, take_all n rows_m (omega arith)))
      (λ t. rw (← same_verdict uncut, t))

  -- ---- where the smaller one is cut off

  -- 18 comes after 16 and 17, and only where there are more rows
  cut_past : (verdict_from commands start (with_budget q m)).number ≡ 18
      → (ltb (first_not_normal commands start.kind) (length commands) ≡ false) × (start.overlap ≡ false) × (m < length rows_m)
  unfolding duplicate_found
  cut_past =
      by_verdict commands start (with_budget q m)
      (λ v. v.number ≡ 18 → (ltb (first_not_normal commands start.kind) (length commands) ≡ false) × (start.overlap ≡ false) × (m < length rows_m))
      (λ a cut. absurd (omega arith)) (λ a b cut. absurd (omega arith)) (λ a b c cut. (a, b, ltb-true m (length rows_m) c))
      (λ a b c d cut. absurd (omega arith)) (λ a b c d cut. absurd (omega (arith, reported_zero (with_budget q m) rows_m)))

  -- the larger one leaves rows too
  cut_leaves : (verdict_from commands start (with_budget q m)).number ≡ 18 → (k : ℕ) → leaves_rows (verdict_from commands start (with_budget q k)).number ≡ true
  unfolding leaves_rows duplicate_found
  cut_leaves cut k =
      let (normal, apart, longer) = cut_past cut in
      by_verdict commands start (with_budget q k) (λ v. leaves_rows v.number ≡ true) (λ a. absurd (never_both a normal)) (λ a b. absurd (never_both b apart))
      (λ a b c. refl) (λ a b c d. refl) (λ a b c d. rw (reported_zero (with_budget q k) (rows_from commands start k)))

  cut_first_rows : length start.row ≡ 8 → (verdict_from commands start (with_budget q m)).number ≡ 18
      → take (m * row_words) (table_after commands start (with_budget q m) table) ≡ take (m * row_words) (table_after commands start (with_budget q n) table)
  unfolding table_after
  cut_first_rows wide cut =
      let longer = (cut_past cut).2 in
      let sized = listing_sized 8 commands start.kind start.row wide m in
      let few : length (take m rows_m) ≡ m = length-take-le m rows_m (omega arith) in
      let size : length (joined (take m rows_m)) ≡ m * row_words =
      length-joined 8 (take m rows_m) [] (λ i h. rw (get_or-take m rows_m i [] (omega arith)) (sized i (omega arith))) ∙ ap (λ (k : ℕ). k * 8) few in
      let first : take n rows_n ≡ take m rows_m ++ take (n - m) (drop m rows_n) = first_of (listing_grows commands start.kind start.row m n l) (omega arith) in
      rw (cut_leaves cut m, cut_leaves cut n, first, joined-append (take m rows_m) (take (n - m) (drop m rows_n)))
      (ap (λ (new : List ℕ). take (m * row_words) (written_over new table)) (sym (append-nil (joined (take m rows_m))))
      ∙ front (m * row_words) (joined (take m rows_m)) [] table size
      ∙ sym (front (m * row_words) (joined (take m rows_m)) (joined (take (n - m) (drop m rows_n))) table size))
    where
      first_of : {rows more : List Row} → Grown rows more → m ≤ length rows → take n more ≡ take m rows ++ take (n - m) (drop m more)
      first_of {rows} {more} g h =
          ap (λ (k : ℕ). take k more) (sym (add-sub_of_le l)) ∙ take-add m (n - m) more
          ∙ ap (λ (r : List Row). r ++ take (n - m) (drop m more)) (ap (take m) g.is ∙ take-append-le m rows g.tail h)

-- ---- the two calls

same_unless_cut : (commands : List Command) (start : Start) (q : Question) (table : List ℕ) (m n i j : ℕ) → m ≤ n → i ≡ 0 → j ≡ 0 → length start.row ≡ 8
    → (a b : Verdict) (table_a table_b : List ℕ)
    → a ≡ verdict_answer i (verdict_from commands start (with_budget q m)) → b ≡ verdict_answer j (verdict_from commands start (with_budget q n))
    → table_a ≡ on_done i (table_after commands start (with_budget q m) table) table → table_b ≡ on_done j (table_after commands start (with_budget q n) table) table
    → SameUnlessCut m a b table_a table_b
unfolding verdict_answer
same_unless_cut commands start q table m n i j l zi zj wide a b table_a table_b ea eb ta tb =
    let is-a : a ≡ verdict_from commands start (with_budget q m) = rw zi at ea in
    let is_b : b ≡ verdict_from commands start (with_budget q n) = rw zj at eb in
    let table-a : table_a ≡ table_after commands start (with_budget q m) table = rw zi at ta in
    let table-b : table_b ≡ table_after commands start (with_budget q n) table = rw zj at tb in
    let number : a.number ≡ (verdict_from commands start (with_budget q m)).number = ap (λ (v : Verdict). v.number) is-a in
    record {
      same_answer = λ uncut. is-a ∙ same_verdict commands start q table m n l (λ e. uncut (number ∙ e)) ∙ sym is_b;
      same_table = λ uncut. table-a ∙ same_table_after commands start q table m n l (λ e. uncut (number ∙ e)) ∙ sym table-b;
      first_rows = λ cut. rw (table-a, table-b) (cut_first_rows commands start q table m n l wide (sym number ∙ cut));
    }

pub budgets_of_create : BudgetsOfCreate
unfolding row_of_create
budgets_of_create s command q table m n l zm zn a b table_a table_b oa ob =
    let c = command_at s command in
    same_unless_cut s.commands (start_of_create c) q table m n _ _ l zm zn (created_length c c.source 8) a b table_a table_b oa.answer_is ob.answer_is
    oa.table_is ob.table_is

pub budgets_of_design : BudgetsOfDesign
unfolding row_of_design
budgets_of_design h code q table m n l zm zn a b table_a table_b oa ob =
    same_unless_cut h.scheme.commands (start_in h code) q table m n _ _ l zm zn refl a b table_a table_b oa.answer_is ob.answer_is oa.table_is
    ob.table_is
