-- At every moment of every history the invariant holds of the design that the verdict spoke of: the start has it, people who join keep it, and so does
-- every request, by the command that it carries out. Assumes nothing.
use Prim.Native.Nat.{ℕ, ◌<◌}
use mathlib.Core.Bool.{Bool, true, false}
use mathlib.Core.List.{List, [], ◌∷◌, ◌++◌}
use mathlib.Core.Logic.{⊎_elim, by_cases}
use mathlib.Core.Path.{◌≡◌, refl, sym, ap, subst, ◌∙◌}
use native.Mathlib.Decide.{ℕ_discrete}
use native.Mathlib.Nat.{add-zero}
use native.Mathlib.Omega.{arith}
use lib.ListN.{length, length-append}
use lib.Seq.{get_or-append_seam}
use borrow.Author.Tests.{eq-eqb, eqb-false}
use Rattle.model.specs.declared.Command.{Command}
use Rattle.model.specs.Words.{any, same}
use Rattle.model.specs.Schemes.{Scheme, is_create, is_grant, is_internal, command_at}
use Rattle.model.specs.Rosters.{Person}
use Rattle.model.specs.Forms.{act}
use Rattle.model.specs.Stores.{Design, no_design, place_of, design_at, named_number}
use Rattle.model.specs.Requests.{Request, new_design, request_number, requested}
use Rattle.model.specs.Kinds.{is_step, row_of_create, row_of_design}
use Rattle.model.specs.Listing.{Row}
use Rattle.model.specs.Verdicts.{Start, rows_from, start_of_create}
use Rattle.model.specs.Outcomes.{Handed, people_in, designs_in, has_rooms, handed_number, request_call_number, start_in}
use Rattle.laws.proofs.Tests.{left_or, right_or, accepted}
use Rattle.laws.proofs.Lists.{first_append_none, first_any, same_refl}
use Rattle.laws.proofs.Forms.{created_length}
use Rattle.laws.proofs.Checks.{ValidScheme, ValidRoster, valid_roster, checked, grown}
use Rattle.laws.proofs.Requests.{Acts, creates, requested_create}
use Rattle.laws.proofs.Kept.{Good, good_requested, handed_scheme, handed_roster, handed_good}
use Rattle.laws.proofs.Reach.{Among, among_at, at_among, listing_closed, listing_first, listing_some, listed_reached, reach_length}
use Rattle.safety.specs.Histories.{Joined, Later, first, joins, asks}
use Rattle.safety.specs.Premises.{Premises, Begins, with_design, with_create}
use Rattle.safety.proofs.Invariant.{Ground, Inv, act_keeps}
use Rattle.safety.proofs.Starts.{create_has, design_has, joined_keeps}
use Rattle.safety.proofs.Follow.{followed}

-- ---- the rows of a listing with a verdict

module _ (commands : List Command) (start : Start) (budget : ℕ) (premises : Premises commands start budget) (wide : length start.row ≡ 8) where
  ground : Ground commands start.kind (rows_from commands start budget)
  ground =
      let rows = rows_from commands start budget in
      record {
        normal = premises.normal;
        closed = λ row among j l f.
            let (i, il, e) = among_at row rows among in
            rw e at (listing_closed commands start.kind start.row budget i (omega (arith, premises.fits)) il j l (rw e f));
        single = λ row among j l f.
            let (i, il, e) = among_at row rows among in
            rw e at (premises.single i j il l (rw e f));
        sized = λ row among.
            let (i, il, e) = among_at row rows among in
            ap (λ (r : Row). length r) (sym e) ∙ reach_length (listed_reached commands start.kind start.row budget i il) ∙ wide;
      }

-- ---- a request that the call answers 0

record Answered (h : Handed) (q : Request) : Type 0 where
  rooms : has_rooms h ≡ true
  handed : handed_number h ≡ 0
  number : request_number h.scheme (people_in h) (designs_in h) q ≡ 0

answered_zero : (h : Handed) (q : Request) → request_call_number h q ≡ 0 → Answered h q
unfolding request_call_number
answered_zero h q zero_number =
    let facts = simp accepted at zero_number in
    record { rooms = facts.0; handed = facts.1.0; number = facts.1.1 }

-- ---- a moment

-- what holds at every moment since the start
pub record Now (s : Scheme) (code : List ℕ) (start : Start) (budget : ℕ) (people : List Person) (designs : List Design) : Type 0 where
  pub roster : ValidRoster s.types people
  pub good : Good s people designs
  pub present : place_of code designs < length designs
  pub kind_is : (design_at code designs).kind ≡ start.kind
  pub inv : Inv s.commands start.kind people (rows_from s.commands start budget) (design_at code designs).cells

first_listed : (commands : List Command) (start : Start) (budget : ℕ) → Among start.row (rows_from commands start budget)
first_listed commands start budget =
    let rows = rows_from commands start budget in
    subst (λ (r : Row). Among r rows) (listing_first commands start.kind start.row budget)
    (at_among rows 0 (listing_some commands start.kind start.row budget))

begun_wide : {s : Scheme} {people : List Person} {designs : List Design} {code : List ℕ} {start : Start} → Begins s people designs code start
    → length start.row ≡ 8
unfolding row_of_create row_of_design
begun_wide (with_design h code rooms checked named) = refl
begun_wide (with_create h q answered create) = created_length (command_at h.scheme q.command) (command_at h.scheme q.command).source 8

begun_valid : {s : Scheme} {people : List Person} {designs : List Design} {code : List ℕ} {start : Start} → Begins s people designs code start → ValidScheme s
begun_valid (with_design h code rooms checked named) = handed_scheme h checked
begun_valid (with_create h q answered create) = handed_scheme h (answered_zero h q answered).handed

-- a design in the store
design_now : (h : Handed) (code : List ℕ) (rooms : has_rooms h ≡ true) (handed : handed_number h ≡ 0) → named_number (designs_in h) code ≡ 0 → (budget : ℕ)
    → Premises h.scheme.commands (start_in h code) budget → Now h.scheme code (start_in h code) budget (people_in h) (designs_in h)
unfolding named_number
design_now h code rooms handed named budget premises =
    let s = h.scheme in
    let roster = valid_roster s.types (people_in h) (handed_roster h handed) in
    let valid = handed_scheme h handed in
    let there : place_of code (designs_in h) < length (designs_in h) = (simp accepted at named).1.0 in
    record {
      roster = roster;
      good = handed_good h handed rooms;
      present = there;
      kind_is = refl;
      inv = design_has s.commands (start_in h code).kind (people_in h) (rows_from s.commands (start_in h code) budget) (design_at code (designs_in h)).cells
          premises.apart (λ p l. omega (arith, roster.type_below p l, valid.types_are.1)) (first_listed s.commands (start_in h code) budget);
    }

-- a create that is answered 0
create_now : (h : Handed) (q : Request) (rooms : has_rooms h ≡ true) (handed : handed_number h ≡ 0) (is_c : is_create (command_at h.scheme q.command) ≡ true)
    → request_number h.scheme (people_in h) (designs_in h) q ≡ 0 → (budget : ℕ)
    → Now h.scheme q.code (start_of_create (command_at h.scheme q.command)) budget (people_in h) (requested h.scheme (people_in h) (designs_in h) q)
create_now h q rooms handed is_c answered budget =
    let s = h.scheme in
    let c = command_at s q.command in
    let new = new_design c q in
    let roster = valid_roster s.types (people_in h) (handed_roster h handed) in
    let valid = handed_scheme h handed in
    let made = creates s (people_in h) (designs_in h) q is_c answered in
    let rows = rows_from s.commands (start_of_create c) budget in
    let after : requested s (people_in h) (designs_in h) q ≡ designs_in h ++ (new ∷ []) = requested_create s (people_in h) (designs_in h) q made in
    let test : Design → Bool = λ d. same d.code q.code in
    let none : any test (designs_in h) ≡ false = sym (first_any test (designs_in h)) ∙ made.absent in
    let last : place_of q.code (designs_in h ++ (new ∷ [])) ≡ length (designs_in h) =
    first_append_none test (designs_in h) (new ∷ []) none ∙ rw (same_refl q.code) (add-zero (length (designs_in h))) in
    let there : design_at q.code (designs_in h ++ (new ∷ [])) ≡ new = rw last (get_or-append_seam (designs_in h) new [] no_design) in
    let types = valid.types_are.1 in
    let small : c.source < 8 = omega (arith, (valid.commands_valid q.command made.admitted.named).source_below) in
    record {
      roster = roster;
      good = good_requested s (people_in h) valid (designs_in h) (handed_good h handed rooms) q;
      present = rw after (omega (arith, last, length-append (designs_in h) (new ∷ [])));
      kind_is = rw (after, there);
      inv = rw (after, there)
          (create_has s.commands c.kind (people_in h) rows c 32 q.source (omega (arith, made.admitted.source, roster.few)) made.admitted.source
          small made.admitted.source_type (first_listed s.commands (start_of_create c) budget));
    }

begun_now : {s : Scheme} {people : List Person} {designs : List Design} {code : List ℕ} {start : Start} → Begins s people designs code start
    → (budget : ℕ) → Premises s.commands start budget → Now s code start budget people designs
begun_now (with_design h code rooms checked named) budget premises = design_now h code rooms checked named budget premises
begun_now (with_create h q answered create) budget premises =
    let a = answered_zero h q answered in
    create_now h q a.rooms a.handed create a.number budget

-- ---- from one moment to the next

module _ (s : Scheme) (valid : ValidScheme s) (code : List ℕ) (start : Start) (budget : ℕ) (ground : Ground s.commands start.kind (rows_from s.commands start budget)) where
  joined_now : (people people' : List Person) (designs : List Design) → Joined s.types people people' → Now s code start budget people designs
      → Now s code start budget people' designs
  joined_now people people' designs joined now =
      let fit = now.good.check.fit (place_of code designs) now.present in
      record {
        roster = valid_roster s.types people' joined.admitted;
        good = record { check = grown s.kinds s.rights designs joined.longer now.good.check; celled = now.good.celled };
        present = now.present;
        kind_is = now.kind_is;
        inv = joined_keeps s.commands start.kind s.types people people' (rows_from s.commands start budget) (design_at code designs).cells joined
            fit.empty_past now.inv;
      }

  -- the command of a request on this design is a step of the start's kind
  acts_step : (people : List Person) (designs : List Design) (q : Request) → Acts s people designs q → (design_at q.code designs).kind ≡ start.kind
      → is_step start.kind (command_at s q.command) ≡ true
  unfolding is_step
  acts_step people designs q k kind =
      let c = command_at s q.command in
      let form = (valid.commands_valid q.command k.admitted.named).form_is in
      let other : c.form ≡ 1 → ⊥ = eqb-false c.form 1 k.other in
      rw (eq-eqb c.kind start.kind (sym k.kind_is ∙ kind))
      (by_cases (ℕ_discrete c.form 2) (λ e. left_or (is_internal c) (eq-eqb c.form 2 e))
      (λ ne. right_or (is_grant c) (eq-eqb c.form 3 (omega arith))))

  asked_now : (people : List Person) (designs : List Design) (q : Request) → Now s code start budget people designs
      → Now s code start budget people (requested s people designs q)
  asked_now people designs q now =
      let (there, what) = followed s people designs q code now.present in
      let c = command_at s q.command in
      let cells = (design_at code designs).cells in
      let act-now : Acts s people designs q → q.code ≡ code
      → Inv s.commands start.kind people (rows_from s.commands start budget) (act c q.source q.destination cells) =
      λ k e.
      let v = valid.commands_valid q.command k.admitted.named in
      let types = valid.types_are.1 in
      act_keeps s.commands start.kind people (rows_from s.commands start budget) ground q.command q.source q.destination cells
      (record {
        command = k.admitted.named;
        step = acts_step people designs q k (rw e now.kind_is);
        source = k.admitted.source;
        destination = k.admitted.destination;
        source_type = k.admitted.source_type;
        destination_type = k.admitted.destination_type;
        source_small = omega (arith, v.source_below);
        destination_small = omega (arith, v.destination_below);
        room = omega (arith, now.roster.few, now.good.celled (place_of code designs) now.present);
        has_x = rw e at k.holds;
      }) now.inv in
      record {
        roster = now.roster;
        good = good_requested s people valid designs now.good q;
        present = there;
        kind_is = ⊎_elim (λ e. ap (λ (d : Design). d.kind) e ∙ now.kind_is) (λ acted. ap (λ (d : Design). d.kind) acted.2 ∙ now.kind_is) what;
        inv = ⊎_elim (λ e. rw e now.inv) (λ acted. rw acted.2 (act-now acted.0 acted.1)) what;
      }

  later_now : {people₀ : List Person} {designs₀ : List Design} {people : List Person} {designs : List Design} → Now s code start budget people₀ designs₀
      → Later s people₀ designs₀ people designs → Now s code start budget people designs
  later_now now first = now
  later_now now (joins {people = people} {designs = designs} before people' joined) = joined_now people people' designs joined (later_now now before)
  later_now now (asks {people = people} {designs = designs} before q) = asked_now people designs q (later_now now before)

-- at every moment since the start
pub always_now : {s : Scheme} {people₀ people : List Person} {designs₀ designs : List Design} {code : List ℕ} {start : Start}
    → Begins s people₀ designs₀ code start → (budget : ℕ) → Premises s.commands start budget → Later s people₀ designs₀ people designs
    → Now s code start budget people designs
always_now {s = s} {code = code} {start = start} begins budget premises later =
    later_now s (begun_valid begins) code start budget (ground s.commands start budget premises (begun_wide begins)) (begun_now begins budget premises) later
