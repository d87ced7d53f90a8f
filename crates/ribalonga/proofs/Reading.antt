-- What reading a scheme card into a list gives, at each exit: nothing where it is refused, and else its commands. Assumes nothing.
use Prim.Native.Nat.{ℕ, ◌≤◌, ◌<◌}
use mathlib.Core.List.{List}
use mathlib.Core.Path.{◌≡◌, refl, sym, ap, ◌∙◌}
use lib.ListN.{length, take}
use borrow.Author.Tests.{lt-leb, le-leb, ne_eqb}
use Rattle.std.specs.Prelude.{Result, Err}
use Rattle.model.specs.declared.Command.{Command}
use Rattle.model.specs.declared.refusal.Refusal.{Refusal}
use Rattle.model.specs.Words.{written_over}
use Rattle.model.specs.Refusals.{number_of_refusal}
use Rattle.model.specs.Schemes.{Scheme}
use Rattle.model.specs.Cards.{scheme_of, scheme_card_number}
use Rattle.model.specs.Outcomes.{read_scheme_number, scheme_read, ReadSchemeOutcome}
use Rattle.laws.proofs.Tests.{accepted}
use Rattle.laws.proofs.Checks.{valid_scheme}
use Rattle.laws.proofs.Refusals.{refusal_not_zero}
use Rattle.schemes.specs.declared.Loaded.{Loaded}
use Rattle.schemes.specs.Answers.{scheme_told, scheme_given}
use Rattle.schemes.specs.Loads.{loaded_from}
use Rattle.schemes.proofs.Loads.{listed_few, loaded_stands}

module _ (card : List ℕ) (commands : List Command) where
  pub refused : (x : Result Loaded Refusal) (r : Refusal) → x ≡ Err r → number_of_refusal r ≡ read_scheme_number card commands
      → ReadSchemeOutcome card commands (scheme_given x) commands
  unfolding scheme_read
  refused x r is e =
      let some = ne_eqb (number_of_refusal r) 0 (refusal_not_zero r) in
      rw is (record { answer_is = rw (← e, some); commands_are = rw (← e, some) })

  pub no_room : length commands < 64 → 20 ≡ read_scheme_number card commands
  unfolding read_scheme_number
  no_room short = rw (lt-leb 64 (length commands) short)

  pub by_card : 64 ≤ length commands → (n : ℕ) → n ≡ scheme_card_number card → n ≡ read_scheme_number card commands
  unfolding read_scheme_number
  by_card long n e = rw (le-leb 64 (length commands) long) e

-- a card that is accepted has a valid scheme's commands
few_commands : (card : List ℕ) → 0 ≡ scheme_card_number card → length (scheme_of card).commands ≤ 64
unfolding scheme_card_number
few_commands card h = let facts = simp accepted at (sym h) in (valid_scheme (scheme_of card) facts.1).commands_few

pub loaded_few : (card : List ℕ) → 0 ≡ scheme_card_number card → (l : Loaded) → l ≡ loaded_from (scheme_of card) → l.count ≤ 64
unfolding loaded_from
loaded_few card zero l e = rw e (few_commands card zero)

module _ (card : List ℕ) (commands : List Command) (zero : 0 ≡ scheme_card_number card) (long : 64 ≤ length commands) where
  pub read : (l : Loaded) → l ≡ loaded_from (scheme_of card) → (exit : List Command) → exit ≡ written_over (take l.count l.commands) commands
      → ReadSchemeOutcome card commands (scheme_told l) exit
  unfolding scheme_read loaded_from
  read l el exit ex =
      let s = scheme_of card in
      let few : length s.commands ≤ 64 = few_commands card zero in
      let kept : take (length s.commands) (loaded_from s).commands ≡ s.commands =
      sym (listed_few (loaded_from s) few) ∙ ap (λ (t : Scheme). t.commands) (loaded_stands s few) in
      record {
        answer_is = rw (← by_card card commands long 0 zero, el) refl;
        commands_are = rw (← by_card card commands long 0 zero) (ex ∙ rw el (ap (λ (cs : List Command). written_over cs commands) kept));
      }
