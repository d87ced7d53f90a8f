-- Where the card that begins a stream ends.
-- Assumes nothing.
use Rattle.std.specs.Prelude.{ℕ, ◌≤◌, List, ◌≡◌, length, take, drop}
use Rattle.model.specs.Lines.{card_of, after_card}

-- the bytes before the place are the card, and those from it on are what follows
pub record CardEnd (stream : List ℕ) (end : ℕ) : Type 0 where
  pub inside : end ≤ length stream
  pub card : take end stream ≡ card_of stream
  pub after : drop end stream ≡ after_card stream
