-- A design is followed by its code: a request leaves it as it was, or acts on it by that very request. By the cases of a request.
-- Assumes nothing.
use Prim.Native.Nat.{ℕ, ◌<◌}
use mathlib.Core.Bool.{Bool}
use mathlib.Core.List.{List, [], ◌∷◌, ◌++◌}
use mathlib.Core.Logic.{◌⊎◌, inl, inr, by_cases}
use mathlib.Core.Path.{◌≡◌, refl, sym, ap, ◌∙◌}
use native.Mathlib.Decide.{ℕ_discrete}
use native.Mathlib.Omega.{arith}
use lib.ListN.{length, get_or, set, length-append, length-set, get_or-append}
use lib.Seq.{get_or-set_same, get_or-set_other}
use borrow.Author.Tests.{lt-ltb}
use Rattle.model.specs.Words.{same}
use Rattle.model.specs.Schemes.{Scheme, command_at}
use Rattle.model.specs.Rosters.{Person}
use Rattle.model.specs.Stores.{Design, no_design, place_of, design_at}
use Rattle.model.specs.Requests.{Request, new_design, acted_on, requested}
use Rattle.laws.proofs.Lists.{at_first, first_any, first_append_some, first-set, same_iff}
use Rattle.laws.proofs.Requests.{Creates, Acts, by_request}

abbrev named : List ℕ → Design → Bool
named code d = same d.code code

-- the design with a code that is there has that code
pub code_there : (code : List ℕ) (designs : List Design) → place_of code designs < length designs → (design_at code designs).code ≡ code
code_there code designs l = (same_iff (design_at code designs).code code).0 (at_first (named code) designs no_design l)

module _ (s : Scheme) (people : List Person) (designs : List Design) (q : Request) (code : List ℕ) (there : place_of code designs < length designs) where
  -- the design is there afterwards, as it was, or as this request acts on it
  abbrev pub Followed : List Design → Type 0
  Followed after =
      (place_of code after < length after)
      × ((design_at code after ≡ design_at code designs)
      ⊎ (Acts s people designs q × (q.code ≡ code) × (design_at code after ≡ acted_on (command_at s q.command) q (design_at code designs))))

  after_create : Creates s people designs q → Followed (designs ++ new_design (command_at s q.command) q ∷ [])
  after_create k =
      let new = new_design (command_at s q.command) q in
      let place : place_of code (designs ++ new ∷ []) ≡ place_of code designs =
      first_append_some (named code) designs (new ∷ []) (sym (first_any (named code) designs) ∙ lt-ltb (place_of code designs) (length designs) there) in (
        omega (arith, length-append designs (new ∷ []), place),
        inl (rw place (get_or-append designs (new ∷ []) no_design (place_of code designs) there)),
      )

  after_act : Acts s people designs q
      → Followed (set designs (place_of q.code designs) (acted_on (command_at s q.command) q (design_at q.code designs)))
  after_act k =
      let i = place_of q.code designs in
      let acted = acted_on (command_at s q.command) q (design_at q.code designs) in
      let place : place_of code (set designs i acted) ≡ place_of code designs = first-set (named code) designs i acted no_design refl in (
        omega (arith, length-set designs i acted, place),
        by_cases (ℕ_discrete i (place_of code designs))
            (λ e.
            let here : design_at q.code designs ≡ design_at code designs = ap (λ (j : ℕ). get_or designs j no_design) e in
            inr (
              k,
              sym (code_there q.code designs k.present) ∙ ap (λ (d : Design). d.code) here ∙ code_there code designs there,
              rw (place, ← e) (get_or-set_same designs i acted no_design k.present ∙ ap (acted_on (command_at s q.command) q) (ap (λ (j : ℕ). get_or designs j no_design) refl)),
            ))
            (λ ne. inl (rw place (get_or-set_other designs i (place_of code designs) acted no_design (λ e. ne (sym e))))),
      )

  pub followed : Followed (requested s people designs q)
  followed = by_request s people designs q Followed (there, inl refl) after_create after_act
