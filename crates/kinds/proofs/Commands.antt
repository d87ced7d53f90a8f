-- The two sets of a kind, one command after the other from the last on, and the first command that isn't normal, by the set of propagation rights.
-- Assumes nothing.
use Rattle.std.specs.Prelude.{ℕ, not, ◌&&◌, List, [], ◌∷◌, reverse, fold, ◌≡◌}
use mathlib.Core.Path.{refl, ap}
use mathlib.Core.List.{reverse-cons}
use Rattle.model.specs.declared.Command.{Command}
use Rattle.model.specs.Words.{first_place}
use Rattle.model.specs.Rights.{within, common, with_those, together}
use Rattle.model.specs.Kinds.{is_step, steps_of, propagation, deletable, is_normal, first_not_normal}
use Rattle.std.proofs.lemmas.List.Sums.{fold-append}
use Rattle.laws.proofs.Tests.{by_test}
use Rattle.kinds.specs.declared.sets.Sets.{Sets}
use Rattle.kinds.specs.Sets.{SetsOf, with_command}

sets_more : (kind : ℕ) (c : Command) (commands : List Command) (sets : Sets) → SetsOf commands kind sets → SetsOf (c ∷ commands) kind (with_command kind sets c)
unfolding with_command propagation deletable steps_of together
sets_more kind c commands sets known =
    by_test (is_step kind c)
    (λ p. rw p (record {
      propagation_is = rw p (ap (with_those c.x) known.propagation_is);
      deletable_is = rw p (ap (with_those c.y) known.deletable_is);
    }))
    (λ q. rw q (record { propagation_is = rw q known.propagation_is; deletable_is = rw q known.deletable_is }))

pub sets_folded : (kind : ℕ) (commands : List Command)
    → SetsOf commands kind (fold (with_command kind) (record { propagation = 0; deletable = 0 }) (reverse commands))
unfolding propagation deletable steps_of together
sets_folded kind [] = record { propagation_is = refl; deletable_is = refl }
sets_folded kind (c ∷ commands) =
    rw (reverse-cons c commands, fold-append (with_command kind) (record { propagation = 0; deletable = 0 }) (reverse commands) (c ∷ []))
    (sets_more kind c commands _ (sets_folded kind commands))

pub first_by_set : (commands : List Command) (kind set : ℕ) → set ≡ propagation commands kind
    → first_place (λ c. is_step kind c && not (within (common c.y set) c.x)) commands ≡ first_not_normal commands kind
unfolding first_not_normal is_normal
first_by_set commands kind set e = ap (λ (s : ℕ). first_place (λ (c : Command). is_step kind c && not (within (common c.y s) c.x)) commands) e
