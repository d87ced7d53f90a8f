-- The scheme that a loaded one stands for, and what a whole scheme is, loaded.
-- Assumes nothing.
use Rattle.std.specs.Prelude.{ℕ, ◌-◌, List, ◌++◌, length, take, replicate}
use Rattle.model.specs.declared.Command.{Command}
use Rattle.model.specs.Words.{written_over}
use Rattle.model.specs.Sizes.{most_commands}
use Rattle.model.specs.Schemes.{Scheme, no_command}
use Rattle.schemes.specs.declared.Loaded.{Loaded}

-- its commands: those that are kept, and as many more as were counted; of those only the count matters, which is 2
unfoldable pub listed : Loaded → List Command
listed l = take l.count l.commands ++ replicate (l.count - most_commands) no_command

abbrev pub scheme_in : Loaded → Scheme
scheme_in l = record { types = l.types; kinds = l.kinds; rights = l.rights; commands = listed l }

-- a scheme with these counts and no command yet
unfoldable pub unloaded : ℕ → ℕ → ℕ → Loaded
unloaded types kinds rights = record { types = types; kinds = kinds; rights = rights; count = 0; commands = replicate most_commands no_command }

-- a whole scheme, loaded
unfoldable pub loaded_from : Scheme → Loaded
loaded_from s = record {
  types = s.types;
  kinds = s.kinds;
  rights = s.rights;
  count = length s.commands;
  commands = written_over (take most_commands s.commands) (replicate most_commands no_command);
}
