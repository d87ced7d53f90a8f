-- What the checks of a scheme and of a store tell where they give 0, as records of plain facts, and the store's check from its facts: each test of the
-- chain is read at every place. Assumes nothing.
use Prim.Native.Nat.{ℕ, ◌+◌, ◌-◌, ◌^◌, ◌≤◌, ◌<◌}
use mathlib.Core.Path.{◌≡◌, refl, sym, ap, ◌∙◌}
use mathlib.Core.Bool.{Bool, true, false, not}
use mathlib.Core.List.{List, [], ◌∷◌, ◌++◌, map, map-append}
use native.Mathlib.Nat.{add-sub_of_le}
use native.Mathlib.Omega.{arith}
use borrow.Author.Tests.{eqb-true, eq-eqb, ltb-true, not-false}
use lib.Dec.{eqb, ltb}
use lib.ListN.{length, get_or, drop, set, length-map, length-set, length-append}
use lib.Pow.{pow_pos}
use lib.Seq.{get_or-drop, map-set_same}
use Rattle.model.specs.declared.Command.{Command}
use Rattle.model.specs.Words.{any, same, all_differ}
use Rattle.model.specs.Rights.{fits_rights}
use Rattle.model.specs.Codes.{spelled}
use Rattle.model.specs.Schemes.{Scheme, is_create, is_grant, no_command, command_is_valid, scheme_is_valid, scheme_number}
use Rattle.model.specs.Rosters.{Person, nobody, type_at, out_of_range, roster_number}
use Rattle.model.specs.Stores.{Design, no_design, exists, is_sound, fits_design, store_number}
use Rattle.laws.proofs.Tests.{passed, accepted}
use Rattle.laws.proofs.Lists.{all_at, at_all, all_get, none_at, at_none, Each, each_set, each_snoc, map_at, any-map, first_any, same_sym, differ_at, differ_snoc}
use Rattle.laws.proofs.Bits.{fits_true, lt_fits}
use Rattle.laws.proofs.Stores.{with_cells}

-- ---- a scheme

pub record ValidCommand (types kinds rights : ℕ) (c : Command) : Type 0 where
  pub form_is : (1 ≤ c.form) × (c.form ≤ 3)
  pub source_below : c.source < types
  pub destination_below : c.destination < types
  pub kind_below : c.kind < kinds
  pub x_below : c.x < 2 ^ rights
  pub y_below : c.y < 2 ^ rights
  pub z_below : c.z < 2 ^ rights
  pub one_type : is_grant c ≡ false → c.destination ≡ c.source
  pub asks_nothing : is_create c ≡ true → (c.x ≡ 0) × (c.y ≡ 0)

pub valid_command : (types kinds rights : ℕ) (c : Command) → command_is_valid types kinds rights c ≡ true → ValidCommand types kinds rights c
unfolding command_is_valid fits_rights
valid_command types kinds rights c h =
    let p = simp passed at h in
    record {
      form_is = p.0.0.0.0.0.0.0.0;
      source_below = p.0.0.0.0.0.0.0.1;
      destination_below = p.0.0.0.0.0.0.1;
      kind_below = p.0.0.0.0.0.1;
      x_below = p.0.0.0.0.1;
      y_below = p.0.0.0.1;
      z_below = p.0.0.1;
      one_type = λ e. eqb-true c.destination c.source (rw e at p.0.1);
      asks_nothing = λ e. simp passed at (rw e at p.1);
    }

pub record ValidScheme (s : Scheme) : Type 0 where
  pub types_are : (1 ≤ s.types) × (s.types ≤ 8)
  pub kinds_are : (1 ≤ s.kinds) × (s.kinds ≤ 4)
  pub rights_are : (1 ≤ s.rights) × (s.rights ≤ 32)
  pub commands_few : length s.commands ≤ 64
  pub commands_valid : Each (ValidCommand s.types s.kinds s.rights) s.commands no_command

pub valid_scheme : (s : Scheme) → scheme_number s ≡ 0 → ValidScheme s
unfolding scheme_number scheme_is_valid
valid_scheme s h =
    let p = simp accepted at h in
    record {
      types_are = p.0.0.0.0.0;
      kinds_are = p.0.0.0.0.1;
      rights_are = p.0.0.0.1;
      commands_few = p.0.0.1;
      commands_valid = λ i l.
          valid_command s.types s.kinds s.rights _ (all_at (command_is_valid s.types s.kinds s.rights) s.commands no_command p.0.1 i l);
    }

-- ---- a store

-- a design against a scheme's kinds and rights and a roster's people: also past its cells, where nothing stands
pub record Fits (kinds rights people : ℕ) (d : Design) : Type 0 where
  pub kind_below : d.kind < kinds
  pub cell_below : (p : ℕ) → get_or d.cells p 0 < 2 ^ rights
  pub empty_past : (p : ℕ) → people ≤ p → get_or d.cells p 0 ≡ 0

pub fits : (kinds rights people : ℕ) (d : Design) → fits_design kinds rights people d ≡ true → Fits kinds rights people d
unfolding fits_design
fits kinds rights people d h =
    let p = simp passed at h in
    record {
      kind_below = p.0.0;
      cell_below = λ i. fits_true rights (get_or d.cells i 0) (all_get (fits_rights rights) d.cells 0 (lt_fits rights 0 (pow_pos rights)) p.0.1 i);
      empty_past = λ i l.
          ap (λ (k : ℕ). get_or d.cells k 0) (sym (add-sub_of_le l)) ∙ sym (get_or-drop people d.cells (i - people) 0)
          ∙ eqb-true (get_or (drop people d.cells) (i - people) 0) 0 (all_get (λ cell. eqb cell 0) (drop people d.cells) 0 refl p.1 (i - people));
    }

pub fits_design_lem : (kinds rights people : ℕ) (d : Design) → Fits kinds rights people d → fits_design kinds rights people d ≡ true
unfolding fits_design
fits_design_lem kinds rights people d f =
    simp passed (
      (f.kind_below, at_all (fits_rights rights) d.cells 0 (λ i l. lt_fits rights (get_or d.cells i 0) (f.cell_below i))),
      at_all (λ cell. eqb cell 0) (drop people d.cells) 0
          (λ i l. eq-eqb (get_or (drop people d.cells) i 0) 0 (get_or-drop people d.cells i 0 ∙ f.empty_past (people + i) (omega arith))),
    )

abbrev pub codes : List Design → List (List ℕ)
codes designs = map (λ d. d.code) designs

pub record Checked (kinds rights people : ℕ) (designs : List Design) : Type 0 where
  pub few : length designs ≤ 64
  pub spelt : Each (λ d. spelled d.code ≡ true) designs no_design
  pub differ : all_differ (codes designs) ≡ true
  pub fit : Each (Fits kinds rights people) designs no_design

module _ (kinds rights people : ℕ) (designs : List Design) where
  pub checked : store_number kinds rights people designs ≡ 0 → Checked kinds rights people designs
  unfolding store_number is_sound
  checked h =
      let p = simp accepted at h in
      record {
        few = p.0.0.0.0;
        spelt = all_at (λ d. spelled d.code) designs no_design p.0.0.0.1;
        differ = p.0.0.1;
        fit = λ i l. fits kinds rights people (get_or designs i no_design) (all_at (fits_design kinds rights people) designs no_design p.0.1 i l);
      }

  pub checked_zero : Checked kinds rights people designs → store_number kinds rights people designs ≡ 0
  unfolding store_number is_sound
  checked_zero c =
      simp accepted (
        (
          ((c.few, at_all (λ d. spelled d.code) designs no_design c.spelt), c.differ),
          at_all (fits_design kinds rights people) designs no_design (λ i l. fits_design_lem kinds rights people (get_or designs i no_design) (c.fit i l)),
        ),
        refl,
      )

  -- one code, one place
  pub one_place : Checked kinds rights people designs → (i j : ℕ) → i < length designs → j < length designs
      → (get_or designs i no_design).code ≡ (get_or designs j no_design).code → i ≡ j
  one_place c i j l m e =
      let size = length-map designs (λ d. d.code) in
      let at = map_at (λ d. d.code) designs no_design [] in
      differ_at (codes designs) [] c.differ i j (omega (arith, size)) (omega (arith, size)) (at i l ∙ e ∙ sym (at j m))

-- a store that fits a roster fits every longer one
pub grown : (kinds rights : ℕ) {n m : ℕ} (designs : List Design) → n ≤ m → Checked kinds rights n designs → Checked kinds rights m designs
grown kinds rights designs l c = record {
  few = c.few;
  spelt = c.spelt;
  differ = c.differ;
  fit = λ i h. let f = c.fit i h in record { kind_below = f.kind_below; cell_below = f.cell_below; empty_past = λ p past. f.empty_past p (omega arith) };
}

pub store_grown : (kinds rights n m : ℕ) (designs : List Design) → n ≤ m → store_number kinds rights n designs ≡ 0 → store_number kinds rights m designs ≡ 0
store_grown kinds rights n m designs l h = checked_zero kinds rights m designs (grown kinds rights designs l (checked kinds rights n designs h))

-- a code that names no design is none of the store's
pub absent_code : (code : List ℕ) (designs : List Design) → exists code designs ≡ false → any (same code) (codes designs) ≡ false
absent_code code designs h =
    let named : Design → Bool = λ d. same d.code code in
    let none : any named designs ≡ false = sym (first_any named designs) ∙ h in
    any-map (λ d. d.code) (same code) designs
    ∙ at_none (λ d. same code d.code) designs no_design
    (λ i l. same_sym code (get_or designs i no_design).code ∙ none_at named designs no_design none i l)

module _ (kinds rights people : ℕ) (designs : List Design) (c : Checked kinds rights people designs) where
  -- a design more
  pub checked_more : (d : Design) → length designs < 64 → spelled d.code ≡ true → exists d.code designs ≡ false → Fits kinds rights people d
      → Checked kinds rights people (designs ++ d ∷ [])
  checked_more d room spelt absent f = record {
    few = omega (arith, length-append designs (d ∷ []));
    spelt = each_snoc (λ d. spelled d.code ≡ true) designs no_design d c.spelt spelt;
    differ =
        rw (map-append (λ d. d.code) designs (d ∷ []), differ_snoc (codes designs) d.code, c.differ, absent_code d.code designs absent) refl;
    fit = each_snoc (Fits kinds rights people) designs no_design d c.fit f;
  }

  -- a design's cells anew
  pub checked_anew : (place : ℕ) (cells : List ℕ) → place < length designs → Fits kinds rights people (with_cells (get_or designs place no_design) cells)
      → Checked kinds rights people (set designs place (with_cells (get_or designs place no_design) cells))
  checked_anew place cells l f =
      let d = with_cells (get_or designs place no_design) cells in
      record {
        few = omega (arith, length-set designs place d, c.few);
        spelt = each_set (λ d. spelled d.code ≡ true) designs no_design place d c.spelt (c.spelt place l);
        differ = rw (map-set_same (λ d. d.code) designs place d no_design refl) c.differ;
        fit = each_set (Fits kinds rights people) designs no_design place d c.fit f;
      }

-- ---- a roster

pub record ValidRoster (types : ℕ) (people : List Person) : Type 0 where
  pub some_people : 1 ≤ length people
  pub few : length people ≤ 32
  pub type_below : (p : ℕ) → p < length people → type_at people p < types
  pub spelt : Each (λ p. spelled p.code ≡ true) people nobody
  pub differ : all_differ (map (λ p. p.code) people) ≡ true

pub valid_roster : (types : ℕ) (people : List Person) → roster_number types people ≡ 0 → ValidRoster types people
unfolding roster_number out_of_range
valid_roster types people h =
    let p = simp accepted at h in
    record {
      some_people = p.0.0.0;
      few = p.0.0.1;
      type_below = λ i l. ltb-true (type_at people i) types (not-false (ltb (type_at people i) types) (none_at (λ q. not (ltb q.type types)) people nobody p.0.1 i l));
      spelt = λ i l. not-false (spelled (get_or people i nobody).code) (none_at (λ q. not (spelled q.code)) people nobody p.1.0 i l);
      differ = p.1.1.0;
    }
