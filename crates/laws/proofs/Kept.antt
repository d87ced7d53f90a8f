-- What the calls keep of a store: a store that passes its check passes it after every request and every batch, by the two cases of a request that is
-- answered 0, and lent words mean afterwards what the definition on records gives. Assumes nothing.
use Prim.Native.Nat.{ℕ, ◌≤◌}
use mathlib.Core.Path.{◌≡◌, ◌∙◌}
use mathlib.Core.Bool.{true}
use mathlib.Core.List.{List, [], ◌∷◌, ◌++◌}
use native.Mathlib.Omega.{arith}
use lib.ListN.{length, get_or, set, length-map}
use Rattle.model.specs.Words.{groups}
use Rattle.model.specs.Sizes.{store_room}
use Rattle.model.specs.Schemes.{Scheme, command_at}
use Rattle.model.specs.Rosters.{Person, person_of, roster_of, out_of_range, roster_number}
use Rattle.model.specs.Forms.{act}
use Rattle.model.specs.Stores.{Design, no_design, place_of, design_at, store_of, store_words, store_number}
use Rattle.model.specs.Requests.{Request, new_design, acted_on, request_number, requested, batch_numbers, batched}
use Rattle.model.specs.Outcomes.{Handed, people_in, designs_in, has_rooms, handed_number}
use Rattle.laws.proofs.Tests.{passed, accepted}
use Rattle.laws.proofs.Lists.{each_snoc, length-groups}
use Rattle.laws.proofs.Forms.{act-length, act_other, act_below, created_length, created_other, created_below}
use Rattle.laws.proofs.Stores.{Words, Lent, store_length, Celled, Whole, room_celled, store_of_words, written_twice, cells_celled}
use Rattle.laws.proofs.Checks.{ValidScheme, valid_scheme, Checked, checked, checked_zero, checked_more, checked_anew}
use Rattle.laws.proofs.Requests.{Creates, Acts, by_request, requested_grows, batched_snoc, numbers_snoc, by_requests}

-- ---- a store that passed its check passes it again

-- a store that the calls leave: it passes check 21, and each design has its 32 cells
pub record Good (s : Scheme) (people : List Person) (designs : List Design) : Type 0 where
  pub check : Checked s.kinds s.rights (length people) designs
  pub celled : Celled designs

module _ (s : Scheme) (people : List Person) (valid : ValidScheme s) (designs : List Design) (good : Good s people designs)
    (q : Request) where
  pub good_create : Creates s people designs q → Good s people (designs ++ new_design (command_at s q.command) q ∷ [])
  good_create k =
      let c = command_at s q.command in
      let v = valid.commands_valid q.command k.admitted.named in
      let new = new_design c q in
      record {
        check = checked_more s.kinds s.rights (length people) designs good.check new k.room k.admitted.spelt k.absent (record {
          kind_below = v.kind_below;
          cell_below = created_below c q.source 32 s.rights v.z_below;
          empty_past = λ p past. created_other c q.source 32 p (λ e. omega (arith, k.admitted.source));
        });
        celled = each_snoc (λ d. length d.cells ≡ 32) designs no_design new good.celled (created_length c q.source 32);
      }

  pub good_act : Acts s people designs q
      → Good s people (set designs (place_of q.code designs) (acted_on (command_at s q.command) q (design_at q.code designs)))
  good_act k =
      let c = command_at s q.command in
      let v = valid.commands_valid q.command k.admitted.named in
      let place = place_of q.code designs in
      let cells = (get_or designs place no_design).cells in
      let f = good.check.fit place k.present in
      let after = act c q.source q.destination cells in
      record {
        check = checked_anew s.kinds s.rights (length people) designs good.check place after k.present (record {
          kind_below = f.kind_below;
          cell_below = act_below c q.source q.destination cells s.rights v.z_below f.cell_below;
          empty_past = λ p past.
              act_other c q.source q.destination cells p (λ e. omega (arith, k.admitted.source)) (λ e. omega (arith, k.admitted.destination))
              ∙ f.empty_past p past;
        });
        celled = cells_celled designs good.celled place after
            (act-length c q.source q.destination cells ∙ good.celled place k.present);
      }

  pub good_requested : Good s people (requested s people designs q)
  good_requested = by_request s people designs q (Good s people) good good_create good_act

module _ (s : Scheme) (people : List Person) (valid : ValidScheme s) (designs : List Design) (good : Good s people designs) where
  pub good_batched : (qs : List Request) → Good s people (batched s people designs qs)
  good_batched qs = by_requests s people (Good s people) (λ between q h. good_requested s people valid between h q) designs qs good

-- the same, by the numbers of the checks
module _ (s : Scheme) (people : List Person) (designs : List Design) where
  pub good : store_number s.kinds s.rights (length people) designs ≡ 0 → Celled designs → Good s people designs
  good check celled = record { check = checked s.kinds s.rights (length people) designs check; celled = celled }

  pub good_zero : Good s people designs → store_number s.kinds s.rights (length people) designs ≡ 0
  good_zero g = checked_zero s.kinds s.rights (length people) designs g.check

-- ---- what lent words mean after a request, and after a batch

pub whole : (s : Scheme) (people : List Person) (designs : List Design) → Good s people designs → Whole designs
whole s people designs g = record { few = g.check.few; celled = g.celled; spelt = g.check.spelt }

module _ (s : Scheme) (people : List Person) (valid : ValidScheme s) (w : List ℕ) (g : Good s people (store_of w)) where
  pub meaning_requested : (q : Request) → store_of (store_words (requested s people (store_of w) q) w) ≡ requested s people (store_of w) q
  meaning_requested q = store_of_words (requested s people (store_of w) q) w (whole s people _ (good_requested s people valid (store_of w) g q))

  pub meaning_batched : (qs : List Request) → store_of (store_words (batched s people (store_of w) qs) w) ≡ batched s people (store_of w) qs
  meaning_batched qs = store_of_words (batched s people (store_of w) qs) w (whole s people _ (good_batched s people valid (store_of w) g qs))

  -- one request more, on the words that the requests so far left
  pub batch_step : (qs : List Request) (q : Request)
      → store_words (requested s people (store_of (store_words (batched s people (store_of w) qs) w)) q) (store_words (batched s people (store_of w) qs) w)
      ≡ store_words (batched s people (store_of w) (qs ++ q ∷ [])) w
  batch_step qs q =
      let between = batched s people (store_of w) qs in
      let h = good_batched s people valid (store_of w) g qs in
      rw (meaning_batched qs, batched_snoc s people (store_of w) qs q)
      (written_twice (requested s people between q) between w (good_requested s people valid between h q).celled h.celled
      (requested_grows s people between q))

  pub number_step : (qs : List Request) (q : Request)
      → batch_numbers s people (store_of w) (qs ++ q ∷ [])
      ≡ batch_numbers s people (store_of w) qs ++ request_number s people (store_of (store_words (batched s people (store_of w) qs) w)) q ∷ []
  number_step qs q = rw (meaning_batched qs) (numbers_snoc s people (store_of w) qs q)

-- ---- what is handed over, where it is accepted

pub roster_length : (count : ℕ) (words : List ℕ) → length (roster_of count words) ≡ count
unfolding roster_of
roster_length count words = length-map (groups 4 count words) person_of ∙ length-groups 4 count words

module _ (h : Handed) (handed : handed_number h ≡ 0) where
  pub handed_scheme : ValidScheme h.scheme
  unfolding handed_number
  handed_scheme = valid_scheme h.scheme (simp accepted at handed).0

  pub handed_roster : roster_number h.scheme.types (people_in h) ≡ 0
  unfolding handed_number
  handed_roster = (simp accepted at handed).1.0

  pub handed_people : length (people_in h) ≤ 32
  unfolding roster_number out_of_range
  handed_people = (simp accepted at handed_roster).0.0.1

  pub handed_store : Checked h.scheme.kinds h.scheme.rights (length (people_in h)) (designs_in h)
  unfolding handed_number
  handed_store =
      rw (roster_length h.count h.roster)
      (checked h.scheme.kinds h.scheme.rights h.count (designs_in h) (simp accepted at handed).1.1)

  handed_few : get_or h.store 0 0 ≤ 64
  handed_few = omega (arith, store_length h.store, handed_store.few)

  module _ (rooms : has_rooms h ≡ true) where
    handed_room : store_room ≤ length h.store
    unfolding has_rooms
    handed_room = (simp passed at rooms).1

    pub handed_good : Good h.scheme (people_in h) (designs_in h)
    handed_good = record { check = handed_store; celled = room_celled h.store handed_room handed_few }

    pub handed_lent : Words h.store → Lent h.store
    handed_lent words = record { fit = words; few = handed_few; room = handed_room }
