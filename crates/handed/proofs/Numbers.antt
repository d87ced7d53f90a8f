-- Whether what is handed over has room, and what an accepted one tells.
-- Assumes nothing.
use Prim.Native.Nat.{ℕ, ◌≤◌}
use mathlib.Core.Path.{◌≡◌, sym, ◌∙◌}
use mathlib.Core.Bool.{true, false}
use native.Mathlib.Omega.{arith}
use lib.ListN.{length}
use Rattle.model.specs.Sizes.{roster_room, store_room}
use Rattle.model.specs.declared.refusal.Refusal.{Refusal}
use Rattle.model.specs.Refusals.{number_of_refusal}
use Rattle.model.specs.Schemes.{scheme_number}
use Rattle.model.specs.Rosters.{roster_number}
use Rattle.model.specs.Stores.{store_number}
use Rattle.model.specs.Outcomes.{Handed, people_in, designs_in, has_rooms, handed_number}
use Rattle.laws.proofs.Refusals.{refusal_not_zero, refused_here, passed_here}
use Rattle.laws.proofs.Checks.{valid_scheme}
use Rattle.laws.proofs.Tests.{passed, by_test}
use Rattle.laws.proofs.Kept.{roster_length, handed_scheme, handed_people, handed_store}
use Rattle.handed.specs.Handing.{rooms_number, Accepted}

pub rooms : (h : Handed) → has_rooms h ≡ true → (roster_room ≤ length h.roster) × (store_room ≤ length h.store)
unfolding has_rooms
rooms h e = simp passed at e

-- ---- the rooms, which begin the chain of each call that takes a store

module _ (h : Handed) where
  pub no_room : (r : Refusal) → number_of_refusal r ≡ rooms_number h.roster h.store → (has_rooms h ≡ false) × (20 ≡ number_of_refusal r)
  unfolding has_rooms
  no_room r e =
      by_test (has_rooms h)
      (λ p. absurd (refusal_not_zero r (e ∙ rw p)))
      (λ q. (q, sym (e ∙ rw q)))

  pub all_rooms : 0 ≡ rooms_number h.roster h.store → has_rooms h ≡ true
  unfolding has_rooms
  all_rooms e = by_test (has_rooms h) (λ p. p) (λ q. absurd (omega (arith, rw q at e)))

-- ---- the number at each end of the checks, which are the definition's, in its order

module _ (h : Handed) where
  pub scheme_ends : (r : Refusal) → number_of_refusal r ≡ scheme_number h.scheme → number_of_refusal r ≡ handed_number h
  unfolding handed_number
  scheme_ends r e = refused_here _ _ r e

  module _ (scheme : 0 ≡ scheme_number h.scheme) where
    pub roster_ends : (r : Refusal) → number_of_refusal r ≡ roster_number h.scheme.types (people_in h) → number_of_refusal r ≡ handed_number h
    unfolding handed_number
    roster_ends r e = refused_here _ _ r e ∙ sym (passed_here _ _ scheme)

    pub rights_few : h.scheme.rights ≤ 32
    rights_few = (valid_scheme h.scheme (sym scheme)).rights_are.1

    pub store_ends : 0 ≡ roster_number h.scheme.types (people_in h) → (n : ℕ) → n ≡ store_number h.scheme.kinds h.scheme.rights h.count (designs_in h) → n ≡ handed_number h
    unfolding handed_number
    store_ends roster n e = e ∙ sym (passed_here _ _ roster) ∙ sym (passed_here _ _ scheme)

-- what the number 0 tells, whatever the rooms
pub record Checked (h : Handed) : Type 0 where
  pub commands : length h.scheme.commands ≤ 64
  pub rights : h.scheme.rights ≤ 32
  pub people : h.count ≤ 32
  pub designs : length (designs_in h) ≤ 64

pub checked : (h : Handed) → handed_number h ≡ 0 → Checked h
checked h z =
    let scheme = handed_scheme h z in
    record {
      commands = scheme.commands_few;
      rights = scheme.rights_are.1;
      people = omega (arith, handed_people h z, roster_length h.count h.roster);
      designs = (handed_store h z).few;
    }

pub record Sized (h : Handed) : Type 0 where
  pub roster_wide : roster_room ≤ length h.roster
  pub store_wide : store_room ≤ length h.store
  pub commands : length h.scheme.commands ≤ 64
  pub rights : h.scheme.rights ≤ 32
  pub people : h.count ≤ 32
  pub designs : length (designs_in h) ≤ 64

pub sized : (h : Handed) → Accepted h → Sized h
sized h a =
    let c = checked h a.number in
    record {
      roster_wide = (rooms h a.rooms).0;
      store_wide = (rooms h a.rooms).1;
      commands = c.commands;
      rights = c.rights;
      people = c.people;
      designs = c.designs;
    }
