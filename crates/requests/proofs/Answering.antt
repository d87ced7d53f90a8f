-- A request's outcome at each exit of its call: what is refused leaves the words as found, by the law that a refused request changes no word.
-- Assumes nothing.
use Prim.Native.Nat.{ℕ, ◌<◌}
use mathlib.Core.Path.{◌≡◌, refl, sym, ◌∙◌}
use mathlib.Core.Logic.{by_cases}
use mathlib.Core.List.{List}
use native.Mathlib.Decide.{ℕ_discrete}
use borrow.Author.Tests.{eq-eqb, ne_eqb, ltb-true}
use lib.Dec.{ltb}
use lib.ListN.{length}
use Rattle.std.specs.Prelude.{Option, Some, None}
use Rattle.model.specs.declared.Command.{Command}
use Rattle.model.specs.declared.refusal.Refusal.{Refusal}
use Rattle.model.specs.Words.{◌when◌else◌, ◌then◌}
use Rattle.model.specs.Refusals.{number_of_refusal}
use Rattle.model.specs.Schemes.{command_at}
use Rattle.model.specs.Stores.{store_words}
use Rattle.model.specs.Requests.{Request, request_number, requested, carried_out}
use Rattle.model.specs.Outcomes.{Handed, request_from, people_in, designs_in, handed_number, request_call_number, RequestOutcome}
use Rattle.laws.proofs.Tests.{by_test}
use Rattle.laws.proofs.Refusals.{refusal_not_zero, refused_here, passed_here}
use Rattle.laws.proofs.Stores.{Words, Lent}
use Rattle.laws.proofs.Requests.{requested_done}
use Rattle.laws.proofs.Kept.{handed_people, handed_lent}
use Rattle.laws.proofs.Untouched.{refused_words}
use Rattle.handed.specs.Handing.{Accepted, rooms_number}
use Rattle.handed.proofs.Numbers.{sized, no_room, all_rooms}
use Rattle.requests.specs.Asking.{command_number, Allowed, Answered}
use Rattle.requests.proofs.Deciding.{command_decides}

-- ---- on what is accepted

module _ (h : Handed) (q : Request) (a : Accepted h) (fit : Words h.store) where
  lent : Lent h.store
  lent = handed_lent h a.number a.rooms fit

  abbrev number : ℕ
  number = request_number h.scheme (people_in h) (designs_in h) q

  pub unchanged : (number ≡ 0 → ⊥) → h.store ≡ store_words (requested h.scheme (people_in h) (designs_in h) q) h.store
  unchanged refused = sym (refused_words h.scheme (people_in h) h.store lent q refused)

  pub refused : (r : Refusal) → number_of_refusal r ≡ number → Answered h q (number_of_refusal r) h.store
  refused r e = record { number_is = e; store_is = unchanged (λ z. refusal_not_zero r (e ∙ z)) }

  module _ (o : Option Command) (eo : o ≡ (Some (command_at h.scheme q.command) when ltb q.command (length h.scheme.commands) else None)) where
    -- no command has this number
    pub unnamed : o ≡ None → 6 ≡ number
    unfolding request_number
    unnamed none =
        by_test (ltb q.command (length h.scheme.commands)) (λ b. let some : o ≡ Some (command_at h.scheme q.command) = rw b at eo in absurd cc) (λ b. rw b)

    module _ (c : Command) (ec : o ≡ Some c) where
      named : (q.command < length h.scheme.commands) × (c ≡ command_at h.scheme q.command)
      named =
          by_test (ltb q.command (length h.scheme.commands))
          (λ b. let some : o ≡ Some (command_at h.scheme q.command) = rw b at eo in (ltb-true _ _ b, cc))
          (λ b. let none : o ≡ None = rw b at eo in absurd cc)

      number_is : command_number c (people_in h) (designs_in h) q.source q.destination q.code ≡ number
      number_is = rw named.1 (sym (command_decides h.scheme (people_in h) (designs_in h) q named.0))

      pub command_refuses : (r : Refusal) → number_of_refusal r ≡ command_number c (people_in h) (designs_in h) q.source q.destination q.code
          → Answered h q (number_of_refusal r) h.store
      command_refuses r e = refused r (e ∙ number_is)

      pub allowed : 0 ≡ command_number c (people_in h) (designs_in h) q.source q.destination q.code
          → Allowed c h.store q.source q.destination q.code
      allowed z =
          let sizes = sized h a in
          record { people = people_in h; most = handed_people h a.number; number = sym z; designs = sizes.designs; room = sizes.store_wide }

      pub done : 0 ≡ command_number c (people_in h) (designs_in h) q.source q.destination q.code → (after : List ℕ)
          → after ≡ store_words (carried_out c (designs_in h) (request_from 0 q.source q.destination q.code)) h.store → Answered h q 0 after
      unfolding carried_out
      done z after e = record {
        number_is = z ∙ number_is;
        store_is = e ∙ rw (requested_done h.scheme (people_in h) (designs_in h) q (sym (z ∙ number_is)), named.1);
      }

-- ---- on whatever is handed over

pub accepts : (h : Handed) → 0 ≡ rooms_number h.roster h.store → 0 ≡ handed_number h → Accepted h
accepts h rooms checked = record { rooms = all_rooms h rooms; number = sym checked }

module _ (h : Handed) (q : Request) where
  refused_call : (r : Refusal) → number_of_refusal r ≡ request_call_number h q → RequestOutcome h q (number_of_refusal r) h.store
  refused_call r e = record { answer_is = e; store_is = rw (← e, ne_eqb (number_of_refusal r) 0 (refusal_not_zero r)) refl }

  pub no_rooms : (r : Refusal) → number_of_refusal r ≡ rooms_number h.roster h.store → RequestOutcome h q (number_of_refusal r) h.store
  unfolding request_call_number
  no_rooms r e = let off = no_room h r e in refused_call r (sym off.1 ∙ rw off.0)

  module _ (rooms : 0 ≡ rooms_number h.roster h.store) where
    number_then : request_call_number h q ≡ (handed_number h then request_number h.scheme (people_in h) (designs_in h) q)
    unfolding request_call_number
    number_then = rw (all_rooms h rooms)

    pub not_accepted : (r : Refusal) → number_of_refusal r ≡ handed_number h → RequestOutcome h q (number_of_refusal r) h.store
    not_accepted r e = refused_call r (refused_here _ _ r e ∙ sym number_then)

    module _ (checked : 0 ≡ handed_number h) where
      is_number : request_call_number h q ≡ request_number h.scheme (people_in h) (designs_in h) q
      is_number = number_then ∙ passed_here _ _ checked

      pub answered_is : Words h.store → (n : ℕ) (after : List ℕ) → Answered h q n after → RequestOutcome h q n after
      answered_is fit n after done = record {
        answer_is = done.number_is ∙ sym is_number;
        store_is =
            done.store_is
            ∙ by_cases (ℕ_discrete (request_number h.scheme (people_in h) (designs_in h) q) 0)
            (λ zero. rw (is_number, eq-eqb _ 0 zero))
            (λ some. rw (is_number, ne_eqb _ 0 some) (sym (unchanged h q (accepts h rooms checked) fit some)));
      }
