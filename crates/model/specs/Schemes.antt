-- A scheme: its three counts and its list of commands, and what makes it valid.
-- Assumes nothing.
use Rattle.std.specs.Prelude.{ℕ, Bool, not, ◌&&◌, ◌||◌, List, leb, ltb, eqb, length, get_or}
use Rattle.model.specs.declared.Command.{Command}
use Rattle.model.specs.Words.{◌when◌else◌, between, all}
use Rattle.model.specs.Sizes.{most_types, most_kinds, most_rights, most_commands}
use Rattle.model.specs.Rights.{fits_rights}

-- "A scheme is handed over as a lent list of command records with its three counts."
pub record Scheme : Type 0 where
  pub types : ℕ
  pub kinds : ℕ
  pub rights : ℕ
  pub commands : List Command

-- "form (1 create, 2 grant, 3 internal)"
abbrev pub is_create : Command → Bool
is_create c = eqb c.form 1

abbrev pub is_grant : Command → Bool
is_grant c = eqb c.form 2

abbrev pub is_internal : Command → Bool
is_internal c = eqb c.form 3

-- what stands past the end of a list of commands
abbrev pub no_command : Command
no_command = record { form = 0; source = 0; destination = 0; kind = 0; x = 0; y = 0; z = 0 }

abbrev pub command_in : List Command → ℕ → Command
command_in commands k = get_or commands k no_command

abbrev pub command_at : Scheme → ℕ → Command
command_at s k = command_in s.commands k

-- "For forms 1 and 3 the destination byte equals the source byte. For form 1, X and Y are 0. Equal commands may stand twice."
unfoldable pub command_is_valid : ℕ → ℕ → ℕ → Command → Bool
command_is_valid types kinds rights c =
    between 1 3 c.form
    && ltb c.source types
    && ltb c.destination types
    && ltb c.kind kinds
    && fits_rights rights c.x
    && fits_rights rights c.y
    && fits_rights rights c.z
    && (is_grant c || eqb c.destination c.source)
    && (not (is_create c) || eqb c.x 0 && eqb c.y 0)

-- 2: "a scheme breaks its sizes or card rules"
unfoldable pub scheme_is_valid : Scheme → Bool
scheme_is_valid s =
    between 1 most_types s.types
    && between 1 most_kinds s.kinds
    && between 1 most_rights s.rights
    && leb (length s.commands) most_commands
    && all (command_is_valid s.types s.kinds s.rights) s.commands

unfoldable pub scheme_number : Scheme → ℕ
scheme_number s =
    2 when not (scheme_is_valid s) else
    0
