-- `lent::load` meets its contract: what is written over no commands is the kept part of the list.
-- Assumes nothing.
use Rattle.std.proofs.Common.{◌≡◌, arith, ℕ, List, length, take, min, sym, ◌∙◌, refl, length-take}
use lib.Seq.{take-take, take_all}
use Rattle.model.specs.declared.Command.{Command}
use Rattle.schemes.specs.Loads.{loaded_from, unloaded}
use Rattle.lent.proofs.load.Goals as goal

-- as many as are kept, and 64
kept : (cs : List Command) (n : ℕ) → n ≡ min (length cs) 64 → take n cs ≡ take 64 cs
kept cs n e = sym (take-take n 64 cs (omega (arith, e))) ∙ take_all n (take 64 cs) (omega (arith, e, length-take 64 cs))

pub returns : goal.returns
unfolding loaded_from unloaded
returns c = rw (c.write_over.ensures, c.empty-l.ensures, kept c.args.commands.now c.min-kept.result c.min-kept.ensures) refl
