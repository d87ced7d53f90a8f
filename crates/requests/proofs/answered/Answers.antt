-- `requests::answered` meets its contract: a refused request leaves the words, and one that may be carried out is.
-- Assumes nothing.
use borrow.Author.Rules.{rules}
use Rattle.std.specs.Prelude.{◌≡◌, Err}
use Rattle.model.specs.declared.refusal.Refusal.TheVariants.{NoCommand}
use Rattle.handed.proofs.Numbers.{sized}
use Rattle.requests.proofs.Answering.{refused, unnamed, command_refuses, allowed, done}
use Rattle.requests.proofs.answered.Goals as goal

pub command-requires : goal.command-requires
command-requires c = (sized _ c.requires).commands

pub returns-in_default : goal.returns-in_default
returns-in_default c =
    refused _ _ c.requires (λ i. search rules) NoCommand (unnamed _ _ c.requires (λ i. search rules) _ c.command.ensures c.in_default.is)

pub invariant_of-command_allowed : goal.invariant_of-command_allowed
invariant_of-command_allowed c = let sizes = sized _ c.requires in record { wide = sizes.store_wide; few = sizes.designs }

pub returns-in_err-command_allowed : goal.returns-in_err-command_allowed
returns-in_err-command_allowed c =
    let why = c.in_err-command_allowed.field-0.0 in
    let is : c.from_residual.result ≡ Err why = search rules in
    rw is (command_refuses _ _ c.requires (λ i. search rules) _ c.command.ensures _ c.in-Some.is why (search rules))

pub carry_out-requires : goal.carry_out-requires
carry_out-requires c = allowed _ _ c.requires (λ i. search rules) _ c.command.ensures _ c.in-Some.is (search rules)

pub returns : goal.returns
returns c = done _ _ c.requires (λ i. search rules) _ c.command.ensures _ c.in-Some.is (search rules) _ c.carry_out.ensures
