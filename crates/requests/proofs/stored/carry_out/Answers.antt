-- `requests::stored::carry_out` meets its contract: a request that may be carried out has a place to write to, and what is written there is the definition's.
-- Assumes nothing.
use borrow.Author.Rules.{rules}
use mathlib.Core.Path.{◌≡◌, sym, ◌∙◌}
use Rattle.model.specs.Stores.{place_of, store_of}
use Rattle.requests.proofs.Storing.{passed, source_few, destination_few, create_room, create_carried, found, act_place, act_carried}
use Rattle.requests.proofs.stored.carry_out.Goals as goal

pub create-requires : goal.create-requires
create-requires c =
    let k = c.requires in
    (k.room, create_room _ _ _ _ _ k (sym c.is_create.ensures ∙ c.if-is_create.true), source_few _ _ _ _ _ k)

pub returns-then-is_create : goal.returns-then-is_create
returns-then-is_create c = c.create.ensures ∙ create_carried _ _ _ _ _ c.requires (sym c.is_create.ensures ∙ c.if-is_create.true)

pub place_of-requires : goal.place_of-requires
place_of-requires c = (passed _ _ _ _ _ c.requires).spelt

pub act-requires : goal.act-requires
act-requires c =
    let k = c.requires in
    let other = sym c.is_create.ensures ∙ c.if-is_create.false in
    let there = found _ _ _ _ _ k other _ c.place_of.ensures in
    (k.room, act_place _ _ _ _ _ k other _ cc, source_few _ _ _ _ _ k, destination_few _ _ _ _ _ k)

pub returns-in-Some : goal.returns-in-Some
returns-in-Some c =
    let k = c.requires in
    let other = sym c.is_create.ensures ∙ c.if-is_create.false in
    let there = found _ _ _ _ _ k other _ c.place_of.ensures in
    let at : c.in-Some.place ≡ place_of c.args.q.now.code.now (store_of c.args.store.now) = cc in
    c.act.ensures ∙ act_carried _ _ _ _ _ k other _ at (λ i. search rules)

pub returns-in_default : goal.returns-in_default
returns-in_default c =
    let other = sym c.is_create.ensures ∙ c.if-is_create.false in
    absurd (c.in_default.not-Some _ (found _ _ _ _ _ c.requires other _ c.place_of.ensures))
