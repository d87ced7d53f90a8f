-- The scope that a search goes over: its commands are those that are kept of a loaded scheme, which counts no more than a scheme may have.
-- Assumes nothing.
use Prim.Native.Nat.{◌≤◌}
use mathlib.Core.Path.{◌≡◌}
use native.Mathlib.Omega.{arith}
use lib.ListN.{length, take, length-take}
use Rattle.model.specs.Sizes.{most_commands}
use Rattle.schemes.specs.declared.Loaded.{Loaded}
use Rattle.listing.specs.declared.scope.Scope.{Scope}

pub few : (l : Loaded) (s : Scope) → l.count ≤ most_commands → s.commands.now ≡ take l.count l.commands → length s.commands.now ≤ most_commands
few l s counted kept = rw kept (omega (arith, length-take l.count l.commands))
