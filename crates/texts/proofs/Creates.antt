-- The parts of the verdict program's text: what is left of each begins with the next line, and the table with it, what a create's lines are, and that
-- they have room in what the sizes allow.
-- Assumes nothing.
use Prim.Native.Nat.{ℕ, suc, ◌+◌, ◌-◌, ◌*◌, ◌≤◌, ◌<◌}
use mathlib.Core.Bool.{true, false}
use mathlib.Core.List.{List, [], ◌∷◌, ◌++◌, map, append-nil}
use mathlib.Core.Path.{◌≡◌, refl, sym, ap, ◌∙◌}
use native.Mathlib.Nat.{sub-zero}
use native.Mathlib.Numerals.{add-one}
use native.Mathlib.Omega.{arith}
use borrow.Author.Tests.{eqb-true, eqb-false, ne_eqb}
use lib.Dec.{eqb}
use Rattle.std.specs.Prelude.{Option, Some, None}
use lib.ListN.{length, get_or, drop, length-append, drop_of_length-le}
use lib.Seq.{drop-cons}
use Rattle.model.specs.declared.Command.{Command}
use Rattle.model.specs.declared.Verdict.{Verdict}
use Rattle.model.specs.declared.answers.Judgement.{Judgement}
use Rattle.model.specs.declared.answers.Judgement.TheVariants.{NotNormal, Overlap, PastBudget, Duplicate, Listed}
use Rattle.model.specs.Answers.{judged}
use Rattle.model.specs.Words.{joined, numbers_from, groups}
use Rattle.model.specs.Schemes.{Scheme, no_command, is_create, scheme_number}
use Rattle.model.specs.Rights.{together}
use Rattle.model.specs.Forms.{cell_at}
use Rattle.model.specs.Kinds.{row_of_create}
use Rattle.model.specs.Listing.{Row}
use Rattle.model.specs.Verdicts.{start_of_create, rows_from, verdict_from, table_after}
use Rattle.model.specs.Cards.{scheme_of, scheme_card_number}
use Rattle.model.specs.Lines.{decimal, hexadecimal, line, whole_question, line_t, lines_t, lines_c, command_lines, create_lines, table_after_command, table_after_creates}
use Rattle.laws.proofs.Tests.{by_test}
use Rattle.laws.proofs.Lists.{length-numbers, numbers_at}
use Rattle.laws.proofs.Forms.{created_length}
use Rattle.laws.proofs.Checks.{ValidScheme, valid_scheme}
use Rattle.schemes.specs.declared.Loaded.{Loaded}
use Rattle.schemes.specs.Loads.{listed, scheme_in, loaded_from}
use Rattle.verdicts.specs.Asking.{Answered}
use Rattle.lines.proofs.Figures.{length-decimal, length-hexadecimal}
use Rattle.texts.specs.Creates.{types_text}
use Rattle.texts.proofs.Lines.{numbers_left}
use Rattle.texts.proofs.Lengths.{line_length, one_figure, two_figures, length-joined_each}
use Rattle.texts.proofs.Printing.{scheme_read_lem}
use Rattle.texts.proofs.Verdicts.{number_few, states_few, table_rows}

-- ---- types

-- all rights that the rows hold at a type
abbrev pub union : List Row → ℕ → ℕ
union rows t = together (map (λ row. cell_at row t) rows)

-- of the types from t on, below n
abbrev pub types_from : List Row → ℕ → ℕ → List ℕ
types_from rows n t = joined (map (line_t rows) (numbers_from t (n - t)))

pub types_whole : (rows : List Row) (n : ℕ) → types_text rows n ≡ types_from rows n 0
types_whole rows n = rw (sub-zero n) refl

pub types_left : (rows : List Row) (n t : ℕ) → t < n → types_from rows n t ≡ line_t rows t ++ types_from rows n (t + 1)
types_left rows n t l = rw (numbers_left t n l) refl

pub type_said : {l : List ℕ} (rows : List Row) (t rights : ℕ) → l ≡ (line "T" (decimal t ∷ hexadecimal rights ∷ [])) → rights ≡ union rows t
    → l ≡ (line_t rows t)
unfolding line_t
type_said rows t rights says e = rw (← e) says

-- ---- commands

module _ (s : Scheme) (k : ℕ) (c : Command) where
  pub no_lines : is_create c ≡ false → command_lines s k c ≡ []
  unfolding command_lines
  no_lines e = rw e refl

  pub its_lines : is_create c ≡ true → command_lines s k c ≡ lines_c s k c
  unfolding command_lines
  its_lines e = rw e refl

pub creates_none : (s : Scheme) (cs : List Command) (k : ℕ) → length cs ≤ k → create_lines s k (drop k cs) ≡ []
unfolding create_lines
creates_none s cs k h = rw (drop_of_length-le cs h) refl

pub tables_none : (commands cs : List Command) (k : ℕ) (table : List ℕ) → length cs ≤ k → table_after_creates commands (drop k cs) table ≡ table
unfolding table_after_creates
tables_none commands cs k table h = rw (drop_of_length-le cs h) refl

module _ (s : Scheme) (k : ℕ) (inside : k < length s.commands) where
  abbrev at_hand : Command
  at_hand = get_or s.commands k no_command

  -- what is left behind it
  abbrev lines_behind : List ℕ
  lines_behind = create_lines s (k + 1) (drop (k + 1) s.commands)

  abbrev table_behind : List ℕ → List ℕ
  table_behind table = table_after_creates s.commands (drop (k + 1) s.commands) table

  lines_left : create_lines s k (drop k s.commands) ≡ command_lines s k at_hand ++ lines_behind
  unfolding create_lines
  lines_left = rw (drop-cons s.commands k no_command inside, add-one k) refl

  table_left : (table : List ℕ) → table_after_creates s.commands (drop k s.commands) table ≡ table_behind (table_after_command s.commands at_hand table)
  unfolding table_after_creates
  table_left table = rw (drop-cons s.commands k no_command inside, add-one k) refl

  pub create_lines_left : is_create at_hand ≡ true → create_lines s k (drop k s.commands) ≡ lines_c s k at_hand ++ lines_behind
  create_lines_left e = lines_left ∙ ap (λ (t : List ℕ). t ++ lines_behind) (its_lines s k at_hand e)

  pub create_table_left : is_create at_hand ≡ true → (table after : List ℕ) → after ≡ table_after s.commands (start_of_create at_hand) whole_question table
      → table_after_creates s.commands (drop k s.commands) table ≡ table_behind after
  unfolding table_after_command
  create_table_left e table after is = table_left table ∙ rw (e, is) refl

  pub other_lines_left : is_create at_hand ≡ false → create_lines s k (drop k s.commands) ≡ lines_behind
  other_lines_left e = lines_left ∙ ap (λ (t : List ℕ). t ++ lines_behind) (no_lines s k at_hand e)

  pub other_table_left : is_create at_hand ≡ false → (table : List ℕ) → table_after_creates s.commands (drop k s.commands) table ≡ table_behind table
  unfolding table_after_command
  other_table_left e table = table_left table ∙ rw e refl

-- ---- a create

module _ (s : Scheme) (k : ℕ) (c : Command) where
  abbrev verdict : Verdict
  verdict = verdict_from s.commands (start_of_create c) whole_question

  -- its own line, and those of the types
  abbrev pub own_text : List ℕ
  own_text = line "C" (decimal k ∷ decimal verdict.number ∷ decimal verdict.states ∷ [])

  abbrev pub their_text : List ℕ
  their_text = types_text (rows_from s.commands (start_of_create c) whole_question.budget) s.types

  create_alone : (verdict.number ≡ 0 → ⊥) → lines_c s k c ≡ own_text
  unfolding lines_c
  create_alone some = rw (ne_eqb verdict.number 0 some) (append-nil own_text)

  create_told : verdict.number ≡ 0 → lines_c s k c ≡ own_text ++ their_text
  unfolding lines_c lines_t
  create_told zero = rw zero refl

  pub own_room : length own_text ≤ length (lines_c s k c)
  own_room =
      by_test (eqb verdict.number 0)
      (λ p. omega (arith, ap length (create_told (eqb-true verdict.number 0 p)), length-append own_text their_text))
      (λ q. omega (arith, ap length (create_alone (eqb-false verdict.number 0 q))))

-- ---- what the call of a create's verdict gives

listed_is : (states : ℕ) (held : Option ℕ) → ((judged (Listed states held)).number ≡ 0) × ((judged (Listed states held)).states ≡ states)
listed_is states None = (refl, refl)
listed_is states (Some state) = (refl, refl)

other_is : (j : Judgement) → ((states : ℕ) (held : Option ℕ) → j ≡ Listed states held → ⊥) → (judged j).number ≡ 0 → ⊥
other_is (NotNormal command) not e = omega (arith, e)
other_is Overlap not e = omega (arith, e)
other_is (PastBudget budget) not e = omega (arith, e)
other_is (Duplicate states state command) not e = omega (arith, e)
other_is (Listed states held) not e = not states held refl

module _ (s : Scheme) (k : ℕ) (c : Command) {table : List ℕ} (j : Judgement) {after : List ℕ}
    (answered : Answered s.commands (start_of_create c) whole_question table (judged j) after) where
  abbrev asked : Verdict
  asked = verdict_from s.commands (start_of_create c) whole_question

  pub few_number : {v : Verdict} → v ≡ judged j → v.number ≤ 19
  few_number e = rw (e, answered.answer_is) (number_few s.commands (start_of_create c) whole_question)

  pub few_states : {v : Verdict} → v ≡ judged j → v.states ≤ 2048
  few_states e = rw (e, answered.answer_is) (states_few s.commands (start_of_create c) whole_question)

  pub own_said : {l : List ℕ} {v : Verdict} {n : ℕ} → v ≡ judged j → n ≡ v.number
      → l ≡ (line "C" (decimal k ∷ decimal n ∷ decimal v.states ∷ [])) → l ≡ own_text s k c
  own_said e is says = rw (is, e, answered.answer_is) at says

  pub is_alone : ((states : ℕ) (held : Option ℕ) → j ≡ Listed states held → ⊥) → lines_c s k c ≡ own_text s k c
  is_alone not = create_alone s k c (rw answered.answer_is at (other_is j not))

  -- with 0 the rows that the table begins with are the listing
  pub is_told : {states : ℕ} {held : Option ℕ} → j ≡ Listed states held
      → (states ≤ 2048) × (lines_c s k c ≡ own_text s k c ++ types_text (groups 8 states after) s.types)
  unfolding row_of_create
  is_told {states} {held} is =
      let zero : asked.number ≡ 0 = sym (ap (λ (v : Verdict). v.number) answered.answer_is) ∙ rw is (listed_is states held).0 in
      let count : asked.states ≡ states = sym (ap (λ (v : Verdict). v.states) answered.answer_is) ∙ rw is (listed_is states held).1 in
      let rows = table_rows s.commands (start_of_create c) whole_question zero (created_length c c.source 8) table in (
        omega (arith, count, states_few s.commands (start_of_create c) whole_question),
        create_told s k c zero ∙ rw (answered.table_is, ← count, rows) refl,
      )

-- ---- how long the lines are: "C 63 18 2048" and "T"

length-type : (rows : List Row) (t : ℕ) → t < 10 → length (line_t rows t) ≤ 13
unfolding line_t
length-type rows t few =
    omega (arith, line_length "T" (decimal t ∷ hexadecimal (union rows t) ∷ []), one_figure t few, length-hexadecimal (union rows t))

length_types : (rows : List Row) (n : ℕ) → n ≤ 8 → length (types_text rows n) ≤ n * 13
length_types rows n few =
    omega (
      arith,
      length-joined_each (line_t rows) 13 (numbers_from 0 n) 0
          (λ i l. rw (numbers_at 0 n 0 i (omega (arith, length-numbers 0 n))) (length-type rows (0 + i) (omega (arith, length-numbers 0 n)))),
      length-numbers 0 n,
    )

module _ (s : Scheme) (few : s.types ≤ 8) where
  length-create : (k : ℕ) (c : Command) → k < 100 → length (lines_c s k c) ≤ 117
  length-create k c small =
      let v = verdict_from s.commands (start_of_create c) whole_question in
      let own : length (own_text s k c) ≤ 13 =
      omega (
        arith,
        line_length "C" (decimal k ∷ decimal v.number ∷ decimal v.states ∷ []),
        two_figures k small,
        two_figures v.number (omega (arith, number_few s.commands (start_of_create c) whole_question)),
        length-decimal v.states,
      ) in
      by_test (eqb v.number 0)
      (λ p.
      omega (
        arith,
        ap length (create_told s k c (eqb-true v.number 0 p)),
        length-append (own_text s k c) (their_text s k c),
        length_types (rows_from s.commands (start_of_create c) whole_question.budget) s.types few,
      ))
      (λ q. omega (arith, ap length (create_alone s k c (eqb-false v.number 0 q))))

  length-command : (k : ℕ) (c : Command) → k < 100 → length (command_lines s k c) ≤ 117
  length-command k c small =
      by_test (is_create c)
      (λ p. rw (its_lines s k c p) (length-create k c small))
      (λ q. rw (no_lines s k c q) (omega arith))

  length-creates : (k : ℕ) (cs : List Command) → k + length cs ≤ 64 → length (create_lines s k cs) ≤ length cs * 117
  unfolding create_lines
  length-creates k [] h = omega arith
  length-creates k (c ∷ cs) h =
      omega (
        arith,
        length-append (command_lines s k c) (create_lines s (suc k) cs),
        length-command k c (omega arith),
        length-creates (suc k) cs (omega arith),
      )

-- ---- a scheme without fault

-- a scheme that was read keeps every command
pub read_kept : (card : List ℕ) (l : Loaded) → scheme_card_number card ≡ 0 → l ≡ loaded_from (scheme_of card) → l.count ≤ 64
unfolding loaded_from
read_kept card l none is =
    let count : l.count ≡ length (scheme_of card).commands = ap (λ (x : Loaded). x.count) is in
    omega (arith, count, (valid_scheme (scheme_of card) (scheme_read_lem card none)).commands_few)

module _ (l : Loaded) (none : scheme_number (scheme_in l) ≡ 0) where
  valid : ValidScheme (scheme_in l)
  valid = valid_scheme (scheme_in l) none

  pub few_types : l.types ≤ 8
  few_types = valid.types_are.1

  pub few_commands : length (listed l) ≤ 64
  few_commands = valid.commands_few

  pub creates_room : length (create_lines (scheme_in l) 0 (listed l)) ≤ 7488
  creates_room = omega (arith, length-creates (scheme_in l) valid.types_are.1 0 (listed l) (omega (arith, valid.commands_few)), valid.commands_few)
