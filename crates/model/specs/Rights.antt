-- Sets of rights: "A set of rights is a 32-bit number, right k being the bit of weight 2^k."
-- Assumes nothing.
use Rattle.std.specs.Prelude.{ℕ, ◌-◌, ◌/◌, ◌%◌, ◌^◌, Bool, not, List, [], ◌∷◌, eqb, ltb}
use Rattle.std.specs.Int.Bits.{bit_and, bit_or}

-- the bit of weight 2^k, as a number 0 or 1
unfoldable pub bit : ℕ → ℕ → ℕ
bit s k = s / 2 ^ k % 2

-- the set holds right k
unfoldable pub has : ℕ → ℕ → Bool
has s k = eqb (bit s k) 1

-- "X is within the source cell"
unfoldable pub within : ℕ → ℕ → Bool
within x s = eqb (bit_and x s) x

-- the rights of s that are not in y
unfoldable pub without : ℕ → ℕ → ℕ
without s y = s - bit_and s y

-- the rights of s with those of z
unfoldable pub with_those : ℕ → ℕ → ℕ
with_those s z = bit_or s z

-- the rights that are in both
unfoldable pub common : ℕ → ℕ → ℕ
common s t = bit_and s t

-- the two sets share a right
unfoldable pub meets : ℕ → ℕ → Bool
meets s t = not (eqb (common s t) 0)

-- all rights of the sets put together
unfoldable pub together : List ℕ → ℕ
together [] = 0
together (s ∷ ss) = with_those s (together ss)

-- "Bits at or above the scheme's count of rights are zero."
unfoldable pub fits_rights : ℕ → ℕ → Bool
fits_rights rights s = ltb s (2 ^ rights)
