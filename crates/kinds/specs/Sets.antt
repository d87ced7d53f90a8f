-- The two sets of a kind, as they are put together from the last command on.
-- Assumes nothing.
use Rattle.std.specs.Prelude.{ℕ, List, ◌≡◌}
use Rattle.model.specs.declared.Command.{Command}
use Rattle.model.specs.Words.{◌when◌else◌}
use Rattle.model.specs.Rights.{with_those}
use Rattle.model.specs.Kinds.{is_step, propagation, deletable}
use Rattle.kinds.specs.declared.sets.Sets.{Sets}

-- the sets are those of these commands, for the kind
pub record SetsOf (commands : List Command) (kind : ℕ) (sets : Sets) : Type 0 where
  pub propagation_is : sets.propagation ≡ propagation commands kind
  pub deletable_is : sets.deletable ≡ deletable commands kind

-- the sets with what one command more, before the others, puts to them
unfoldable pub with_command : ℕ → Sets → Command → Sets
with_command kind sets c =
    record { propagation = with_those c.x sets.propagation; deletable = with_those c.y sets.deletable } when is_step kind c else
    sets
