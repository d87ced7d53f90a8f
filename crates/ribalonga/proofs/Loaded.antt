-- A scheme that was loaded from the lent list is one with the list for every call: up to 64 commands it is the list's, and past that both are refused.
-- Assumes nothing.
use Prim.Native.Nat.{ℕ}
use mathlib.Core.Bool.{false}
use mathlib.Core.List.{List}
use mathlib.Core.Logic.{inl, inr, by_cases}
use mathlib.Core.Path.{◌≡◌}
use native.Mathlib.Decide.{dec_le}
use native.Mathlib.Omega.{arith}
use lib.ListN.{length}
use Rattle.model.specs.declared.Command.{Command}
use Rattle.model.specs.Schemes.{scheme_is_valid, scheme_number}
use Rattle.model.specs.Outcomes.{scheme_from}
use Rattle.laws.proofs.Invalid.{AsOne}
use Rattle.schemes.specs.declared.Loaded.{Loaded}
use Rattle.schemes.specs.Loads.{scheme_in, loaded_from}
use Rattle.schemes.proofs.Loads.{loaded_stands, loaded_valid}
use Rattle.schemes.proofs.Rules.{long}

pub as_one : (commands : List Command) (types kinds rights : ℕ)
    → AsOne (scheme_in (loaded_from (scheme_from commands types kinds rights))) (scheme_from commands types kinds rights)
unfolding scheme_number
as_one commands types kinds rights =
    let s = scheme_from commands types kinds rights in
    by_cases (dec_le (length commands) 64) (λ few. inl (loaded_stands s few))
    (λ many.
    let bad : scheme_is_valid s ≡ false = long s (omega arith) in
    inr (rw (loaded_valid s, bad), rw bad))

-- the same of what the loading call answered
pub loaded_as_one : (l : Loaded) (commands : List Command) (types kinds rights : ℕ) → l ≡ loaded_from (scheme_from commands types kinds rights)
    → AsOne (scheme_in l) (scheme_from commands types kinds rights)
loaded_as_one l commands types kinds rights e = rw e (as_one commands types kinds rights)
