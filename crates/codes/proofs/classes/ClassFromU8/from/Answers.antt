-- `codes::classes::Class::from` meets its contract: the table is the one that the rule makes, by computing.
-- Assumes nothing.
use mathlib.Core.Path.{◌≡◌, refl, sym, ap, ◌∙◌}
use Prim.Native.Nat.{ℕ}
use mathlib.Core.List.{List, map}
use native.Mathlib.Omega.{arith}
use lib.ListN.{get_or}
use Rattle.model.specs.Words.{numbers_from}
use Rattle.model.specs.Codes.{class_of}
use Rattle.laws.proofs.Lists.{map_at, table_at}
use Rattle.codes.specs.declared.classes.TheConstants.{CLASSES}
use Rattle.codes.specs.declared.classes.Class.TheVariants.{Other}
use Rattle.codes.specs.Classes.{number_of_class}
use Rattle.codes.proofs.classes.ClassFromU8.from.Goals as goal

pub returns : goal.returns
unfolding class_of
returns c =
    let byte = c.args.byte in
    let table : map number_of_class CLASSES ≡ map class_of (numbers_from 0 256) = refl in
    sym (map_at number_of_class CLASSES Other 0 byte (omega arith))
    ∙ ap (λ (numbers : List ℕ). get_or numbers byte 0) table ∙ table_at class_of 256 0 byte (omega arith)
