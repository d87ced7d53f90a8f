-- How many bytes are wanted at each exit, whose tests are the definitions', in their order.
-- Assumes nothing.
use Prim.Native.Nat.{ℕ, ◌-◌, ◌≤◌, ◌<◌}
use mathlib.Core.Path.{◌≡◌}
use mathlib.Core.List.{List}
use native.Mathlib.Omega.{arith}
use borrow.Author.Tests.{lt-ltb, le-ltb, le-leb, ne_eqb}
use lib.ListN.{length, get_or}
use Rattle.model.specs.Cards.{version, scheme_of, scheme_card_number, roster_card_number}
use Rattle.model.specs.Lines.{card_length, card_of, after_card, card_wanted, batch_wanted}

module _ (stream : List ℕ) where
  -- ---- one card

  pub wanted_none_yet : length stream < 1 → 3 ≡ card_wanted stream
  unfolding card_wanted
  wanted_none_yet h =
      let n : length stream ≡ 0 = omega arith in
      rw n

  pub wanted_version : 1 ≤ length stream → (get_or stream 0 0 ≡ 1 → ⊥) → 0 ≡ card_wanted stream
  unfolding card_wanted
  wanted_version h v = rw (le-leb 1 (length stream) h, ne_eqb (version stream) 1 v)

  module _ (some : 1 ≤ length stream) (v : get_or stream 0 0 ≡ 1) where
    pub wanted_header : length stream < 3 → 3 - length stream ≡ card_wanted stream
    unfolding card_wanted
    wanted_header h = rw (le-leb 1 (length stream) some, v, lt-ltb (length stream) 3 h)

    module _ (head : 3 ≤ length stream) where
      pub wanted_long : 65536 < card_length stream → 0 ≡ card_wanted stream
      unfolding card_wanted
      wanted_long h = rw (le-leb 1 (length stream) some, v, le-ltb (length stream) 3 head, lt-ltb 65536 (card_length stream) h)

      pub wanted_rest : card_length stream ≤ 65536 → card_wanted stream ≡ card_length stream - length stream
      unfolding card_wanted
      wanted_rest h = rw (le-leb 1 (length stream) some, v, le-ltb (length stream) 3 head, le-ltb 65536 (card_length stream) h)

  -- ---- the three cards

  abbrev rest : List ℕ
  rest = after_card stream

  pub first_wanted : (card_wanted stream ≡ 0 → ⊥) → batch_wanted stream ≡ card_wanted stream
  unfolding batch_wanted
  first_wanted h = rw (ne_eqb (card_wanted stream) 0 h)

  module _ (first : card_wanted stream ≡ 0) where
    pub scheme_refused : (scheme_card_number (card_of stream) ≡ 0 → ⊥) → batch_wanted stream ≡ 0
    unfolding batch_wanted
    scheme_refused h = rw (first, ne_eqb (scheme_card_number (card_of stream)) 0 h)

    module _ (scheme : scheme_card_number (card_of stream) ≡ 0) where
      pub second_wanted : (card_wanted rest ≡ 0 → ⊥) → batch_wanted stream ≡ card_wanted rest
      unfolding batch_wanted
      second_wanted h = rw (first, scheme, ne_eqb (card_wanted rest) 0 h)

      module _ (second : card_wanted rest ≡ 0) where
        pub roster_refused : (roster_card_number (scheme_of (card_of stream)) (card_of rest) ≡ 0 → ⊥) → batch_wanted stream ≡ 0
        unfolding batch_wanted
        roster_refused h = rw (first, scheme, second, ne_eqb (roster_card_number (scheme_of (card_of stream)) (card_of rest)) 0 h)

        pub third_wanted : roster_card_number (scheme_of (card_of stream)) (card_of rest) ≡ 0 → batch_wanted stream ≡ card_wanted (after_card rest)
        unfolding batch_wanted
        third_wanted h = rw (first, scheme, second, h)
