-- The answer of a reader whose bytes may not be what it reads.
-- Assumes nothing.
use Rattle.std.specs.Prelude.{Bool, true, false, Option, MatchOption, ◌≡◌}

-- a value is given exactly if the test passes, and then this is said of it
abbrev pub GivenIf : {A : Type 0} → Bool → Option A → (A → Type 0) → Type 0
GivenIf test answer Says = MatchOption answer (test ≡ false) (λ value. (test ≡ true) × Says value)
