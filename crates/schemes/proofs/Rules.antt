-- A scheme of more commands than its size is not valid, whatever they are.
-- Assumes nothing.
use Prim.Native.Nat.{◌<◌}
use mathlib.Core.Path.{◌≡◌}
use mathlib.Core.Bool.{false, ◌&&◌, and-false}
use borrow.Author.Tests.{lt-leb}
use lib.ListN.{length}
use Rattle.model.specs.Words.{between}
use Rattle.model.specs.Sizes.{most_commands}
use Rattle.model.specs.Schemes.{Scheme, scheme_is_valid}

module _ (s : Scheme) where
  pub long : most_commands < length s.commands → scheme_is_valid s ≡ false
  unfolding scheme_is_valid
  long h = rw (lt-leb (length s.commands) 64 h, and-false (between 1 8 s.types && between 1 4 s.kinds && between 1 32 s.rights))
