-- `cards::scheme::write_commands` meets its contract: the places that are written are the first commands, and those are as many as there are bytes for.
-- Assumes nothing.
use mathlib.Core.Logic.{inl, inr}
use mathlib.Core.Path.{◌≡◌, ap, ◌∙◌}
use native.Mathlib.Omega.{arith}
use lib.ListN.{take}
use lib.Seq.{take_all}
use Rattle.std.proofs.lemmas.List.{set-get_or}
use Rattle.model.specs.Cards.{command_of}
use Rattle.cards.proofs.Commands.{loading_next, loading_done}
use Rattle.cards.proofs.scheme.write_commands.Goals as goal

pub returns-in_default : goal.returns-in_default
returns-in_default c n e =
    rw set-get_or (loading_done _ _ _ _ _ c.loop-place.invariant n e (inr c.in_default.ensures.cases) (omega arith))

pub loop-place-preserved : goal.loop-place-preserved
loop-place-preserved c =
    let first : take 16 c.in-Some.first.now ≡ c.in-Some.first.now = take_all 16 c.in-Some.first.now (omega arith) in
    loading_next _ _ _ _ _ c.loop-place.invariant _ _ _ (omega arith) c.in-Some.ensures.cases (c.command_on.ensures ∙ ap command_of first)

pub returns : goal.returns
returns c n e = loading_done _ _ _ _ _ c.loop-place.invariant n e (inl (omega arith)) (omega arith)
