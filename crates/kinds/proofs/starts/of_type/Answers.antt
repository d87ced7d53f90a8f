-- `kinds::starts::of_type` meets its contract. The invariant: the rights of the type's people from the one at hand on are put together.
-- Assumes nothing.
use Prim.Native.Nat.{suc, ◌-◌}
use mathlib.Core.Path.{◌≡◌, sym, ◌∙◌}
use native.Mathlib.Omega.{arith}
use Rattle.model.specs.Rosters.{roster_of}
use Rattle.rosters.proofs.People.{length-roster}
use Rattle.kinds.proofs.People.{rights_of_none, rights_of_all, rights_of_one, rights_of_others}
use Rattle.kinds.proofs.starts.of_type.Goals as goal

pub loop-p-init : goal.loop-p-init
loop-p-init c =
    let r = c.args.roster.now in
    (omega arith, sym (rights_of_none (roster_of r.people r.words.now) c.args.cells.now c.args.t r.people (omega (arith, length-roster r.people r.words.now))))

pub loop-p-preserved-then-type_at-t : goal.loop-p-preserved-then-type_at-t
loop-p-preserved-then-type_at-t c =
    let r = c.args.roster.now in
    let people = roster_of r.people r.words.now in
    let i = c.loop-p.p - 1 in
    let next : suc i ≡ c.loop-p.p = omega arith in
    let type_is = sym (c.type_at.ensures r.people (omega arith)) ∙ c.if-type_at-t.true in
    let one = rights_of_one people c.args.cells.now c.args.t i (omega (arith, length-roster r.people r.words.now)) type_is in
    (omega arith, c.with_those-set.ensures ∙ rw (one, next, c.loop-p.invariant.1))

pub loop-p-preserved : goal.loop-p-preserved
loop-p-preserved c =
    let r = c.args.roster.now in
    let people = roster_of r.people r.words.now in
    let i = c.loop-p.p - 1 in
    let next : suc i ≡ c.loop-p.p = omega arith in
    let type_is = c.type_at.ensures r.people (omega arith) in
    let others = rights_of_others people c.args.cells.now c.args.t i (omega (arith, length-roster r.people r.words.now)) (λ e. c.if-type_at-t.false (type_is ∙ e)) in
    (omega arith, c.loop-p.invariant.1 ∙ rw (others, next))

pub returns : goal.returns
returns c =
    let end : c.loop-p.p ≡ 0 = omega arith in
    rw end at c.loop-p.invariant.1 ∙ rights_of_all _ _ _
