-- `ribalonga::read_into`: the room, then the card, then its commands are written. Assumes nothing.
use Rattle.std.proofs.Common.{rules, arith, refl}
use Rattle.model.specs.declared.refusal.Refusal.TheVariants.{NoRoom}
use Rattle.ribalonga.proofs.Reading.{refused, no_room, by_card, loaded_few, read}
use Rattle.ribalonga.proofs.read_into.Goals as goal

pub returns-then-commands-lt-MOST_COMMANDS : goal.returns-then-commands-lt-MOST_COMMANDS
returns-then-commands-lt-MOST_COMMANDS c = refused c.args.card.now c.args.commands.now _ NoRoom refl (no_room c.args.card.now c.args.commands.now (omega arith))

pub returns-in_err-scheme : goal.returns-in_err-scheme
returns-in_err-scheme c =
    refused c.args.card.now c.args.commands.now c.from_residual.result c.in_err-scheme.field-0.0 (search rules)
    (by_card c.args.card.now c.args.commands.now (omega arith) _ (search rules))

pub store_all-requires : goal.store_all-requires
store_all-requires c =
    let few = loaded_few c.args.card.now c.in_ok-scheme.ensures.number c.in_ok-scheme.scheme c.in_ok-scheme.ensures.scheme.0 in
    (few, omega (arith, few))

pub returns : goal.returns
returns c =
    read c.args.card.now c.args.commands.now c.in_ok-scheme.ensures.number (omega arith) c.in_ok-scheme.scheme c.in_ok-scheme.ensures.scheme.0 _ c.store_all.ensures
