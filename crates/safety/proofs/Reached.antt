-- **reached**: a stand-in step is a request of person t of type t, so the run of steps to a listed state is a run of requests, each answered 0.
-- Assumes nothing.
use Prim.Native.Nat.{ℕ, ◌<◌}
use mathlib.Core.Bool.{true, false}
use mathlib.Core.List.{List, [], ◌∷◌, ◌++◌}
use mathlib.Core.Logic.{by_cases, ⊎_elim}
use mathlib.Core.Path.{◌≡◌, refl, sym, ap, ◌∙◌}
use native.Mathlib.Decide.{ℕ_discrete}
use native.Mathlib.Omega.{arith}
use lib.Dec.{eqb}
use lib.ListN.{length, get_or, set}
use lib.Seq.{get_or-set_same, get_or-set_other, lt-length-set}
use borrow.Author.Tests.{eq-eqb, ne_eqb, eqb-true, lt-ltb, ltb-true}
use Rattle.model.specs.declared.Command.{Command}
use Rattle.model.specs.Words.{all}
use Rattle.model.specs.Sizes.{most_designs}
use Rattle.model.specs.Rights.{has, without, with_those}
use Rattle.model.specs.Codes.{spelled}
use Rattle.model.specs.Schemes.{Scheme, is_create, is_grant, is_internal, command_at}
use Rattle.model.specs.Rosters.{Person, type_at}
use Rattle.model.specs.Forms.{cell_at, held, lose, gain, act, created}
use Rattle.model.specs.Stores.{Design, place_of, exists, design_at}
use Rattle.model.specs.Requests.{Request, two_people, new_design, acted_on, request_number, requested, batch_numbers, batched}
use Rattle.model.specs.Kinds.{is_step, row_of_create, row_of_design}
use Rattle.model.specs.Listing.{Row, fires, moved, Reach, here, next}
use Rattle.model.specs.Verdicts.{Question, Start, start_of_create, rows_from, holds, verdict_from, create_asked_number}
use Rattle.model.specs.Outcomes.{create_call_number, design_call_number, start_in}
use Rattle.laws.proofs.Tests.{by_test, or_true, passed, accepted}
use Rattle.laws.proofs.Lists.{all_snoc, any_at}
use Rattle.laws.proofs.Forms.{act-length, created_here, created_other, created_length}
use Rattle.laws.proofs.Checks.{ValidScheme, valid_scheme, checked}
use Rattle.laws.proofs.Requests.{Acts, acts_zero, Creates, creates_zero, batched_snoc, numbers_snoc}
use Rattle.laws.proofs.Untouched.{acted_at, found_after_act, acted_count, found_new, created_at, created_count}
use Rattle.laws.proofs.Kept.{Good, good_requested, handed_scheme}
use Rattle.laws.proofs.Reach.{listed_reached}
use Rattle.safety.specs.Promises.{cells_of, OneOfEach, Admits, create_by, Reached, ReachedOfCreate, ReachedOfDesign}
use Rattle.safety.proofs.Zero.{held_any}
use Rattle.safety.proofs.Follow.{code_there}

-- the cells of the people are those of the row, and there are no others
abbrev Agree : List ℕ → Row → Type 0
Agree cells row = (p : ℕ) → cell_at cells p ≡ cell_at row p

set_agrees : (cells : List ℕ) (row : Row) (i v w : ℕ) → i < length cells → i < length row → v ≡ w → Agree cells row → Agree (set cells i v) (set row i w)
set_agrees cells row i v w l m e agree p =
    by_cases (ℕ_discrete p i)
    (λ q. rw q (get_or-set_same cells i v 0 l ∙ e ∙ sym (get_or-set_same row i w 0 m)))
    (λ ne. get_or-set_other cells i p v 0 ne ∙ agree p ∙ sym (get_or-set_other row i p w 0 ne))

act_agrees : (c : Command) (a d : ℕ) (cells : List ℕ) (row : Row) → a < length cells → d < length cells → a < length row → d < length row
    → Agree cells row → Agree (act c a d cells) (act c a d row)
unfolding act lose gain
act_agrees c a d cells row al dl ar dr agree =
    let lost : Agree (lose c a cells) (lose c a row) =
    set_agrees cells row a _ _ al ar (ap (λ (x : ℕ). without x c.y) (agree a)) agree in
    set_agrees (lose c a cells) (lose c a row) d _ _ (lt-length-set cells a _ dl) (lt-length-set row a _ dr) (ap (λ (x : ℕ). with_those x c.z) (lost d)) lost

-- ---- one step

module _ (s : Scheme) (valid : ValidScheme s) (people : List Person) (each : OneOfEach s.types people) (code : List ℕ) (kind : ℕ) where
  -- a store that holds the design with the cells of a row
  record Stands (designs : List Design) (row : Row) : Type 0 where
    good : Good s people designs
    present : place_of code designs < length designs
    kind_is : (design_at code designs).kind ≡ kind
    agree : Agree (cells_of code designs) row
    wide : length row ≡ 8

  -- the request of the persons of a command's types
  abbrev by_types : ℕ → Request
  by_types k = record { command = k; source = (command_at s k).source; destination = (command_at s k).destination; code = code }

  -- a step that fires on the row is a request that is answered 0
  step_acts : (designs : List Design) (row : Row) → Stands designs row → (k : ℕ) → k < length s.commands → fires kind (command_at s k) row ≡ true
      → Acts s people designs (by_types k)
  unfolding fires is_step held two_people
  step_acts designs row st k l f =
      let c = command_at s k in
      let v = valid.commands_valid k l in
      let facts = simp passed at f in
      record {
        admitted = record {
          named = l;
          source = omega (arith, v.source_below, each.as_many);
          destination = omega (arith, v.destination_below, each.as_many);
          source_type = each.each c.source v.source_below;
          destination_type = each.each c.destination v.destination_below;
          allowed = by_test (is_grant c) (λ e. rw e) (λ e. rw (e, eq-eqb c.source c.destination (sym (v.one_type e))));
          spelt = rw (code_there code designs st.present) at (st.good.check.spelt (place_of code designs) st.present);
        };
        other = ne_eqb c.form 1
            (λ one. ⊎_elim (λ e. omega (arith, eqb-true c.form 2 e)) (λ e. omega (arith, eqb-true c.form 3 e)) (or_true (is_grant c) (is_internal c) facts.0.1));
        present = st.present;
        kind_is = st.kind_is ∙ sym facts.0.0;
        holds = rw (st.agree c.source) facts.1;
      }

  -- and after it the store holds the design with the cells of the row after the step
  step_stands : (designs : List Design) (row : Row) → Stands designs row → (k : ℕ) → k < length s.commands → fires kind (command_at s k) row ≡ true
      → Stands (requested s people designs (by_types k)) (moved (command_at s k) row)
  unfolding moved
  step_stands designs row st k l f =
      let c = command_at s k in
      let v = valid.commands_valid k l in
      let types = valid.types_are.1 in
      let acts = step_acts designs row st k l f in
      let after = requested s people designs (by_types k) in
      let place : place_of code after ≡ place_of code designs = found_after_act s people designs (by_types k) acts code in
      let there : design_at code after ≡ acted_on c (by_types k) (design_at code designs) = rw place (acted_at s people designs (by_types k) acts) in
      let cells32 = st.good.celled (place_of code designs) st.present in
      record {
        good = good_requested s people valid designs st.good (by_types k);
        present = omega (arith, st.present, place, acted_count s people designs (by_types k) acts);
        kind_is = ap (λ (d : Design). d.kind) there ∙ st.kind_is;
        agree = λ p.
            ap (λ (d : Design). cell_at d.cells p) there
            ∙ (act_agrees c c.source c.destination (cells_of code designs) row (omega (arith, v.source_below)) (omega (arith, v.destination_below))
            (omega (arith, v.source_below, st.wide)) (omega (arith, v.destination_below, st.wide)) st.agree p);
        wide = act-length c c.source c.destination row ∙ st.wide;
      }

  -- ---- a run

  record Ran (designs : List Design) (row : Row) : Type 0 where
    requests : List Request
    answered : all (λ n. eqb n 0) (batch_numbers s people designs requests) ≡ true
    stands : Stands (batched s people designs requests) row

  run : (designs : List Design) (start row : Row) → Stands designs start → Reach s.commands kind start row → Ran designs row
  unfolding batch_numbers batched
  run designs start row st here = record { requests = []; answered = refl; stands = st }
  run designs start row st (next {row = before} k r l f) =
      let ran = run designs start before st r in
      let between = batched s people designs ran.requests in
      let q = by_types k in
      let zero_number : request_number s people between q ≡ 0 = acts_zero s people between q (step_acts between before ran.stands k l f) in
      record {
        requests = ran.requests ++ q ∷ [];
        answered = rw (numbers_snoc s people designs ran.requests q, all_snoc (λ n. eqb n 0) (batch_numbers s people designs ran.requests) (request_number s people between q), ran.answered, zero_number);
        stands = rw (batched_snoc s people designs ran.requests q) (step_stands between before ran.stands k l f);
      }

-- ---- held 1: some listed row has the right at the type

held_row : (commands : List Command) (start : Start) (q : Question) → (verdict_from commands start q).held ≡ 1
    → (row : Row) × Reach commands start.kind start.row row × (has (cell_at row q.type) q.right ≡ true)
unfolding holds
held_row commands start q h =
    let rows = rows_from commands start q.budget in
    let (i, l, right) = any_at (holds q) rows [] (held_any commands start q h) in
    (get_or rows i [], listed_reached commands start.kind start.row q.budget i l, right)

module _ (s : Scheme) (valid : ValidScheme s) (people : List Person) (each : OneOfEach s.types people) (code : List ℕ) (start : Start) (q : Question)
    (is_held : (verdict_from s.commands start q).held ≡ 1) (wide : length start.row ≡ 8) where
  reached : (designs : List Design) → Good s people designs → place_of code designs < length designs → (design_at code designs).kind ≡ start.kind
      → Agree (cells_of code designs) start.row → (requests : List Request) × Reached s people designs code q requests
  reached designs good present kind agree =
      let (row, r, right) = held_row s.commands start q is_held in
      let st : Stands s valid people each code start.kind designs start.row =
      record { good = good; present = present; kind_is = kind; agree = agree; wide = wide } in
      let ran = run s valid people each code start.kind designs start.row row st r in
      (ran.requests, record { answered = ran.answered; held = rw (ran.stands.agree q.type) right })

good_admitted : (s : Scheme) (people : List Person) (designs : List Design) → Admits s people designs → Good s people designs
good_admitted s people designs a = record { check = checked s.kinds s.rights (length people) designs a.passes; celled = a.cells }

pub reached_of_design : ReachedOfDesign
unfolding design_call_number row_of_design
reached_of_design h code q table asked is_held people each designs admits there kind agree =
    let facts = simp accepted at asked in
    reached h.scheme (handed_scheme h facts.1.0) people each code (start_in h code) q is_held refl designs (good_admitted h.scheme people designs admits)
    (ltb-true (place_of code designs) (length designs) there) kind agree

-- ---- a create by the person of its type

created_agree : (c : Command) (a m n : ℕ) → a < m → a < n → Agree (created c a m) (created c a n)
created_agree c a m n l k p =
    by_cases (ℕ_discrete p a) (λ e. rw e (created_here c a m l ∙ sym (created_here c a n k)))
    (λ ne. created_other c a m p ne ∙ sym (created_other c a n p ne))

module _ (s : Scheme) (valid : ValidScheme s) (people : List Person) (each : OneOfEach s.types people) (k : ℕ) (l : k < length s.commands)
    (create : is_create (command_at s k) ≡ true) (designs : List Design) (code : List ℕ) where
  create_answered : spelled code ≡ true → exists code designs ≡ false → length designs < most_designs → Creates s people designs (create_by s k code)
  unfolding two_people
  create_answered spelt absent room =
      let c = command_at s k in
      let v = valid.commands_valid k l in
      let form : c.form ≡ 1 = eqb-true c.form 1 create in
      let no_grant : is_grant c ≡ false = ne_eqb c.form 2 (λ e. omega arith) in
      let own-type : type_at people c.source ≡ c.source = each.each c.source v.source_below in
      record {
        admitted = record {
          named = l;
          source = omega (arith, v.source_below, each.as_many);
          destination = omega (arith, v.source_below, each.as_many);
          source_type = own-type;
          destination_type = own-type ∙ sym (v.one_type no_grant);
          allowed = rw (no_grant, eq-eqb c.source c.source refl);
          spelt = spelt;
        };
        create = create;
        absent = absent;
        room = room;
      }

pub reached_of_create : ReachedOfCreate
unfolding create_call_number create_asked_number row_of_create batch_numbers batched
reached_of_create s k q table asked is_held people each designs admits code spelt absent room =
    let facts = simp accepted at asked in
    let valid = valid_scheme s facts.0 in
    let types = valid.types_are.1 in
    let l : k < length s.commands = ltb-true k (length s.commands) (lt-ltb k (length s.commands) facts.1.0.0.1) in
    let create : is_create (command_at s k) ≡ true = eq-eqb (command_at s k).form 1 facts.1.0.1 in
    let c = command_at s k in
    let first = create_by s k code in
    let made = create_answered s valid people each k l create designs code spelt absent room in
    let after = requested s people designs first in
    let zero_number : request_number s people designs first ≡ 0 = creates_zero s people designs first made in
    let place : place_of code after ≡ length designs = found_new s people designs first made in
    let there : design_at code after ≡ new_design c first = rw place (created_at s people designs first made) in
    let good = good_requested s people valid designs (good_admitted s people designs admits) first in
    let small : c.source < 8 = omega (arith, (valid.commands_valid k l).source_below) in
    let (requests, done) =
    reached s valid people each code (start_of_create c) q is_held (created_length c c.source 8) after good
    (omega (arith, place, created_count s people designs first made)) (ap (λ (d : Design). d.kind) there)
    (λ p. ap (λ (d : Design). cell_at d.cells p) there ∙ created_agree c c.source 32 8 (omega arith) small p) in
    (requests, record { answered = rw (zero_number) done.answered; held = done.held })
