-- What the three forms do to a list of cells, by one cell and by two, what they leave alone and how large they let a cell grow: each is one store or
-- two into the list. Assumes nothing.
use Prim.Native.Nat.{ℕ, zero, suc, ◌^◌, ◌<◌}
use mathlib.Core.Path.{◌≡◌, refl, ◌∙◌}
use mathlib.Core.Logic.{◌≢◌}
use mathlib.Core.List.{List}
use lib.ListN.{length, get_or, replicate, length-set, length-replicate}
use lib.Pow.{pow_pos}
use lib.Seq.{get_or-set_same, get_or-set_other}
use Rattle.model.specs.declared.Command.{Command}
use Rattle.model.specs.Rights.{without, with_those}
use Rattle.model.specs.Forms.{cell_at, lose, gain, act, created}
use Rattle.laws.proofs.Lists.{every_set}
use Rattle.laws.proofs.Bits.{without_lt, with_lt}

module _ (c : Command) (a d : ℕ) (cells : List ℕ) where
  pub act-length : length (act c a d cells) ≡ length cells
  unfolding act gain lose
  act-length = simp length-set

  pub act_other : (p : ℕ) → p ≢ a → p ≢ d → get_or (act c a d cells) p 0 ≡ get_or cells p 0
  unfolding act gain lose
  act_other p na nd =
      get_or-set_other (lose c a cells) d p (with_those (cell_at (lose c a cells) d) c.z) 0 nd
      ∙ get_or-set_other cells a p (without (cell_at cells a) c.y) 0 na

  pub act_below : (n : ℕ) → c.z < 2 ^ n → ((p : ℕ) → get_or cells p 0 < 2 ^ n) → (p : ℕ) → get_or (act c a d cells) p 0 < 2 ^ n
  unfolding act gain lose
  act_below n z h =
      let lost = every_set (λ v. v < 2 ^ n) cells 0 a (without (cell_at cells a) c.y) h (without_lt n c.y (h a)) in
      every_set (λ v. v < 2 ^ n) (lose c a cells) 0 d (with_those (cell_at (lose c a cells) d) c.z) lost (with_lt n (lost d) z)

pub get_or-copies : {A : Type 0} (n i : ℕ) (a : A) → get_or (replicate n a) i a ≡ a
get_or-copies zero i a = refl
get_or-copies (suc n) zero a = refl
get_or-copies (suc n) (suc i) a = get_or-copies n i a

module _ (c : Command) (a count : ℕ) where
  pub created_length : length (created c a count) ≡ count
  unfolding created
  created_length = length-set (replicate count 0) a c.z ∙ length-replicate count 0

  pub created_here : a < count → cell_at (created c a count) a ≡ c.z
  unfolding created
  created_here l = get_or-set_same (replicate count 0) a c.z 0 (rw (length-replicate {A = ℕ} count 0) l)

  pub created_other : (p : ℕ) → p ≢ a → get_or (created c a count) p 0 ≡ 0
  unfolding created
  created_other p na = get_or-set_other (replicate count 0) a p c.z 0 na ∙ get_or-copies count p 0

  pub created_below : (n : ℕ) → c.z < 2 ^ n → (p : ℕ) → get_or (created c a count) p 0 < 2 ^ n
  unfolding created
  created_below n z = every_set (λ v. v < 2 ^ n) (replicate count 0) 0 a c.z (λ p. rw (get_or-copies {A = ℕ} count p 0) (pow_pos n)) z
