-- How a table of numbers stands for commands: a command a line, in the order of a card. Assumes nothing.
use Rattle.std.specs.Prelude.{ℕ}
use Rattle.model.specs.declared.Command.{Command}

-- form, source, destination, kind, X, Y, Z
abbrev pub Line : Type 0
Line = ℕ × ℕ × ℕ × ℕ × ℕ × ℕ × ℕ

abbrev pub command_of : Line → Command
command_of (form, source, destination, kind, x, y, z) = record {
  form = form;
  source = source;
  destination = destination;
  kind = kind;
  x = x;
  y = y;
  z = z;
}
