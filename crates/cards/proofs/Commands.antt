-- The commands of a card, written one after the other, and the scheme that they make.
-- Assumes nothing.
use Prim.Native.Nat.{ℕ, ◌+◌, ◌*◌, ◌≤◌, ◌<◌}
use mathlib.Core.Path.{◌≡◌, refl, sym, ap, ◌∙◌}
use mathlib.Core.Bool.{true, false}
use mathlib.Core.List.{List, [], ◌∷◌, ◌++◌, map, map-append}
use mathlib.Core.Logic.{◌⊎◌, ⊎_elim}
use native.Mathlib.Numerals.{add-one}
use native.Mathlib.Omega.{arith}
use lib.ListN.{length, get_or, take, drop, set, replicate, length-map, length-drop}
use lib.Seq.{drop-drop, take_all, get_or-take}
use Rattle.std.proofs.lemmas.List.{take-map}
use Rattle.model.specs.declared.Command.{Command}
use Rattle.model.specs.Words.{groups, written_over}
use Rattle.model.specs.Schemes.{no_command, scheme_is_valid, scheme_number}
use Rattle.model.specs.Cards.{body, command_of, scheme_of, is_scheme_card, scheme_card_number}
use Rattle.schemes.specs.declared.Loaded.{Loaded}
use Rattle.schemes.specs.Loads.{scheme_in, loaded_from}
use Rattle.schemes.proofs.Loads.{loaded_stands, loaded_valid}
use Rattle.laws.proofs.Tests.{passed, accepted}
use Rattle.laws.proofs.Lists.{length-groups, groups_last, groups-take, written_snoc}

-- ---- commands, written one after the other

module _ (bytes : List ℕ) where
  abbrev pub commands_to : ℕ → List Command
  commands_to k = map command_of (groups 16 k bytes)

  pub length-commands_to : (k : ℕ) → length (commands_to k) ≡ k
  length-commands_to k = length-map (groups 16 k bytes) command_of ∙ length-groups 16 k bytes

  one_more_command : (k : ℕ) → commands_to (k + 1) ≡ commands_to k ++ (command_of (take 16 (drop (k * 16) bytes)) ∷ [])
  one_more_command k =
      ap commands_to (add-one k) ∙ ap (map command_of) (groups_last 16 k bytes)
      ∙ map-append command_of (groups 16 k bytes) (take 16 (drop (k * 16) bytes) ∷ [])

  commands_take : (k n : ℕ) → k ≤ n → take k (commands_to n) ≡ commands_to k
  commands_take k n l = take-map command_of k (groups 16 n bytes) ∙ ap (map command_of) (groups-take 16 k n bytes l)

  module _ (old : List Command) where
    -- so many are written, and the bytes of the next begin the rest
    pub record Loading (rest : List ℕ) (places : List Command) (k : ℕ) : Type 0 where
      pub inside : k * 16 ≤ length bytes
      pub rest_is : rest ≡ drop (k * 16) bytes
      pub places_are : places ≡ written_over (commands_to k) old

    pub loading_none : Loading bytes old 0
    unfolding written_over
    loading_none = record { inside = omega arith; rest_is = refl; places_are = refl }

    module _ (rest : List ℕ) (places : List Command) (k : ℕ) (here : Loading rest places k) where
      pub loading_next : (first after : List ℕ) (c : Command) → k < length old
          → (first ≡ take 16 rest) × (after ≡ drop 16 rest) × (length after + 16 ≡ length rest) → c ≡ command_of first → Loading after (set places k c) (k + 1)
      loading_next first after c l (first_is, after_is, room) e =
          let more : (k + 1) * 16 ≡ k * 16 + 16 = omega arith in
          let m : 16 ≤ length (drop (k * 16) bytes) = omega (arith, ap length here.rest_is) in
          record {
            inside = rw more (omega (arith, length-drop (k * 16) bytes, here.inside));
            rest_is = rw (more, after_is, here.rest_is, drop-drop 16 (k * 16) bytes);
            places_are =
                rw (e, first_is, here.rest_is, here.places_are, one_more_command k)
                (let n = length-commands_to k in
                rw n at (sym (written_snoc (commands_to k) old (command_of (take 16 (drop (k * 16) bytes))) (omega arith))));
          }

      pub loading_done : (n : ℕ) → length bytes ≡ 16 * n → (length old ≤ k) ⊎ (length rest < 16) → k ≤ length old
          → places ≡ written_over (take (length old) (commands_to n)) old
      loading_done n e over l =
          here.places_are ∙ ap (λ (cs : List Command). written_over cs old)
          (⊎_elim
          (λ full.
          let is : length old ≡ k = omega arith in
          rw is (sym (commands_take k n (omega (arith, here.inside)))))
          (λ none.
          let is : n ≡ k = omega (arith, here.inside, ap length here.rest_is, length-drop (k * 16) bytes) in
          rw is (sym (take_all (length old) (commands_to k) (omega (arith, length-commands_to k)))))
          over)

-- ---- the card, loaded and checked

module _ (card : List ℕ) where
  -- what is_scheme_card says of the commands' bytes
  pub commands_fill : is_scheme_card card ≡ true → length (drop 4 (body card)) ≡ 16 * get_or (body card) 3 0
  unfolding is_scheme_card
  commands_fill h = let facts = simp passed at h in omega (arith, length-drop 4 (body card), facts.1, facts.0.1)

  pub loaded_as : (commands : List Command)
      → commands ≡ written_over (take 64 (map command_of (groups 16 (get_or (body card) 3 0) (drop 4 (body card))))) (replicate 64 no_command)
      → record {
        types = get_or (take 4 (body card)) 0 0;
        kinds = get_or (take 4 (body card)) 1 0;
        rights = get_or (take 4 (body card)) 2 0;
        count = get_or (take 4 (body card)) 3 0;
        commands = commands;
      } ≡ loaded_from (scheme_of card)
  unfolding scheme_of loaded_from
  loaded_as commands e =
      let b = body card in
      rw (
        e,
        get_or-take 4 b 0 0 (omega arith),
        get_or-take 4 b 1 0 (omega arith),
        get_or-take 4 b 2 0 (omega arith),
        get_or-take 4 b 3 0 (omega arith),
        length-commands_to (drop 4 b) (get_or b 3 0),
      )

  pub no_scheme : is_scheme_card card ≡ false → scheme_card_number card ≡ 1
  unfolding scheme_card_number
  no_scheme e = rw e

  module _ (l : Loaded) (is : is_scheme_card card ≡ true) (e : l ≡ loaded_from (scheme_of card)) where
    pub loaded_number : scheme_number (scheme_in l) ≡ scheme_card_number card
    unfolding scheme_card_number scheme_number
    loaded_number = rw (is, e, loaded_valid (scheme_of card))

    pub loaded_accepted : scheme_number (scheme_in l) ≡ 0 → scheme_in l ≡ scheme_of card
    unfolding scheme_number scheme_is_valid
    loaded_accepted h =
        let facts = simp accepted at (rw (e, loaded_valid (scheme_of card)) at h) in
        ap scheme_in e ∙ loaded_stands (scheme_of card) facts.0.0.1
