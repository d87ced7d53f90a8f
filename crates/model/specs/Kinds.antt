-- What the commands of one kind say together: "For one kind, only its commands count." And where a design may start the listing.
-- Assumes nothing.
use Rattle.std.specs.Prelude.{ℕ, Bool, not, ◌&&◌, ◌||◌, List, map, ltb, eqb, length}
use Rattle.model.specs.declared.Command.{Command}
use Rattle.model.specs.Words.{any, those, first_place, numbers_from}
use Rattle.model.specs.Sizes.{row_words}
use Rattle.model.specs.Rights.{within, common, meets, together}
use Rattle.model.specs.Schemes.{is_grant, is_internal}
use Rattle.model.specs.Rosters.{Person, type_at}
use Rattle.model.specs.Forms.{cell_at, created}

-- a grant or an internal of the kind
unfoldable pub is_step : ℕ → Command → Bool
is_step kind c = eqb c.kind kind && (is_grant c || is_internal c)

unfoldable pub steps_of : List Command → ℕ → List Command
steps_of commands kind = those (is_step kind) commands

-- "A *propagation* right stands in X of one of its grants or internals."
unfoldable pub propagation : List Command → ℕ → ℕ
propagation commands kind = together (map (λ c. c.x) (steps_of commands kind))

-- "A *deletable* right stands in Y of one."
unfoldable pub deletable : List Command → ℕ → ℕ
deletable commands kind = together (map (λ c. c.y) (steps_of commands kind))

-- the rights that are both propagation and deletable
unfoldable pub both : List Command → ℕ → ℕ
both commands kind = common (propagation commands kind) (deletable commands kind)

-- "A command is *normal* if every propagation right in its Y is also in its X."
unfoldable pub is_normal : List Command → ℕ → Command → Bool
is_normal commands kind c = within (common c.y (propagation commands kind)) c.x

-- 16: "a command of the kind isn't normal (command: the first)"
unfoldable pub first_not_normal : List Command → ℕ → ℕ
first_not_normal commands kind = first_place (λ c. is_step kind c && not (is_normal commands kind c)) commands

-- "*Overlap*: in such a design, two people of one type hold the same right that is both propagation and deletable."
unfoldable pub clash : List Command → ℕ → List Person → List ℕ → ℕ → ℕ → Bool
clash commands kind people cells a b =
    ltb a b
    && eqb (type_at people a) (type_at people b)
    && meets (common (cell_at cells a) (cell_at cells b)) (both commands kind)

unfoldable pub overlaps : List Command → ℕ → List Person → List ℕ → Bool
overlaps commands kind people cells =
    let everybody = numbers_from 0 (length people) in
    any (λ a. any (clash commands kind people cells a) everybody) everybody

-- "for each type, all rights of its people put together"
unfoldable pub of_type : List Person → List ℕ → ℕ → ℕ
of_type people cells t = together (map (cell_at cells) (those (λ p. eqb (type_at people p) t) (numbers_from 0 (length people))))

-- The start of the listing: "either a create command of the scheme (Z at its source type) or a design in the store".
unfoldable pub row_of_create : Command → List ℕ
row_of_create c = created c c.source row_words

unfoldable pub row_of_design : List Person → List ℕ → List ℕ
row_of_design people cells = map (of_type people cells) (numbers_from 0 row_words)
