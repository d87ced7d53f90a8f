-- **needed**: none of the four premises can be left out, nor the word "propagation".
-- Assumes nothing.
use Rattle.std.specs.Prelude.{ℕ, ◌<◌, Bool, true, false, not, List, ◌≡◌, leb, ltb, length}
use Rattle.model.specs.Words.{any, same}
use Rattle.model.specs.Rights.{has}
use Rattle.model.specs.Schemes.{Scheme}
use Rattle.model.specs.Rosters.{Person, type_at}
use Rattle.model.specs.Forms.{cell_at}
use Rattle.model.specs.Stores.{Design}
use Rattle.model.specs.Kinds.{both, first_not_normal, overlaps, row_of_design}
use Rattle.model.specs.Listing.{has_duplicate}
use Rattle.model.specs.Verdicts.{Start, rows_from, holds}
use Rattle.safety.specs.Histories.{Later}
use Rattle.safety.specs.Premises.{Begins}
use Rattle.safety.specs.Promises.{cells_of}

-- a start at which the four premises are true or false as given, and a real moment after it
pub record Moment (normal apart fits single : Bool) : Type 0 where
  pub scheme : Scheme
  pub people₀ : List Person
  pub designs₀ : List Design
  pub code : List ℕ
  pub start : Start
  pub begins : Begins scheme people₀ designs₀ code start
  pub budget : ℕ
  pub is_normal : not (ltb (first_not_normal scheme.commands start.kind) (length scheme.commands)) ≡ normal
  pub is_apart : not start.overlap ≡ apart
  pub is_fitting : leb (length (rows_from scheme.commands start budget)) budget ≡ fits
  pub is_single : not (any (has_duplicate (both scheme.commands start.kind) scheme.commands start.kind) (rows_from scheme.commands start budget)) ≡ single
  pub people : List Person
  pub designs : List Design
  pub later : Later scheme people₀ designs₀ people designs

-- *never* breaks: the listing lacks a right at a type, and a person of that type holds it
pub record Breaks (normal apart fits single : Bool) : Type 0 where
  pub moment : Moment normal apart fits single
  pub type : ℕ
  pub right : ℕ
  pub not_listed : any (holds (record { type = type; right = right; budget = moment.budget })) (rows_from moment.scheme.commands moment.start moment.budget) ≡ false
  pub person : ℕ
  pub present : person < length moment.people
  pub of_type : type_at moment.people person ≡ type
  pub holds_it : has (cell_at (cells_of moment.code moment.designs) person) right ≡ true

-- *apart* breaks, where *never* need not
pub record Overlapping (normal apart fits single : Bool) : Type 0 where
  pub moment : Moment normal apart fits single
  pub overlap : overlaps moment.scheme.commands moment.start.kind moment.people (cells_of moment.code moment.designs) ≡ true

-- all premises hold, and *all* rights of each type's people are not those of one listed row
pub record NotOneRow : Type 0 where
  pub moment : Moment true true true true
  pub no_row : any (same (row_of_design moment.people (cells_of moment.code moment.designs))) (rows_from moment.scheme.commands moment.start moment.budget) ≡ false
