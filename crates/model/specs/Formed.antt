-- The byte of each form, and what reading such a byte gives.
-- Assumes nothing.
use Rattle.std.specs.Prelude.{ℕ, false, ◌≡◌, Result, MatchResult}
use Rattle.model.specs.declared.form.Form.{Form}
use Rattle.model.specs.declared.form.Form.TheVariants.{Create, Grant, Internal}
use Rattle.model.specs.declared.form.NoForm.{NoForm}
use Rattle.model.specs.Words.{between}

abbrev pub byte_of : Form → ℕ
byte_of Create = 1
byte_of Grant = 2
byte_of Internal = 3

-- the form with this byte, or else the byte is none of the three
abbrev pub FormOf : ℕ → Result Form NoForm → Type 0
FormOf byte read = MatchResult read (λ form. byte_of form ≡ byte) (λ e. (e.0 ≡ byte) × (between 1 3 byte ≡ false))
