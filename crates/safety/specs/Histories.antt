-- Histories of a store: people join the roster, and anybody asks anything, on this design or another, refused requests among them.
-- Assumes nothing.
use Rattle.std.specs.Prelude.{ℕ, ◌≤◌, ◌<◌, List, ◌≡◌, length}
use Rattle.model.specs.Schemes.{Scheme}
use Rattle.model.specs.Rosters.{Person, type_at, roster_number}
use Rattle.model.specs.Stores.{Design}
use Rattle.model.specs.Requests.{Request, requested}

-- people join at the end, nobody changes place or type, and there are at most 32: the roster afterwards is one that the check admits
pub record Joined (types : ℕ) (before after : List Person) : Type 0 where
  pub admitted : roster_number types after ≡ 0
  pub longer : length before ≤ length after
  pub stay : (p : ℕ) → p < length before → type_at after p ≡ type_at before p

-- Every roster and store that some history leads to from a first roster and store. The store moves by the definition that the contract of `request`
-- cites, on the whole store, with its other designs.
pub data Later (s : Scheme) (people₀ : List Person) (designs₀ : List Design) : List Person → List Design → Type 0 where
  first : Later s people₀ designs₀ people₀ designs₀
  joins : {people : List Person} {designs : List Design} → Later s people₀ designs₀ people designs
      → (people' : List Person) → Joined s.types people people' → Later s people₀ designs₀ people' designs
  asks : {people : List Person} {designs : List Design} → Later s people₀ designs₀ people designs
      → (q : Request) → Later s people₀ designs₀ people (requested s people designs q)
