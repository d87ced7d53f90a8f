-- The lent words of a store after a request that is carried out, from what each function wrote: a new design's place, two cells.
-- Assumes nothing.
use Prim.Native.Nat.{ℕ, ◌+◌, ◌*◌, ◌≤◌, ◌<◌}
use mathlib.Core.Path.{◌≡◌, sym, ap, ◌∙◌}
use mathlib.Core.Bool.{true, false}
use mathlib.Core.List.{List, [], ◌∷◌, ◌++◌, append_assoc}
use native.Mathlib.Omega.{arith}
use borrow.Author.Tests.{lt-ltb}
use lib.ListN.{length, get_or, take, drop, set}
use lib.Seq.{take_all, drop-drop}
use Rattle.std.specs.Prelude.{Option, Some, None}
use Rattle.model.specs.declared.Command.{Command}
use Rattle.model.specs.declared.Code.{Code}
use Rattle.model.specs.Words.{◌when◌else◌}
use Rattle.model.specs.Codes.{packed}
use Rattle.model.specs.Schemes.{Scheme, is_create}
use Rattle.model.specs.Forms.{act, created}
use Rattle.model.specs.Stores.{Design, place_of, exists, store_of, store_words}
use Rattle.model.specs.Requests.{Request, request_number, new_design, carried_out}
use Rattle.model.specs.Outcomes.{request_from}
use Rattle.laws.proofs.Forms.{created_length}
use Rattle.laws.proofs.Stores.{Words, Lent, store_length, create_written}
use Rattle.laws.proofs.Requests.{Admitted, Acts, admits, creates, acts, requested_done}
use Rattle.laws.proofs.Untouched.{act_words}
use Rattle.requests.specs.Asking.{Allowed}
use Rattle.requests.proofs.Deciding.{command_decides}

-- ---- a new design

pub created_words : (w : List ℕ) → Words w → 2305 ≤ length w → length (store_of w) < 64
    → (c : Command) (source : ℕ) (code : List ℕ) (words : Code) → words ≡ packed code
    → (at k : ℕ) (new : List ℕ) → at ≡ 1 + get_or w 0 0 * 36 → k ≡ 36
    → new ≡ c.kind ∷ words.a ∷ words.b ∷ words.c ∷ created c source 32
    → let counted = set w 0 (get_or w 0 0 + 1) in
    take at counted ++ (new ++ drop k (drop at counted)) ≡ store_words (store_of w ++ new_design c (request_from 0 source source code) ∷ []) w
created_words w fit room few c source code words ew at k new ea ek en =
    let lent : Lent w = record { fit = fit; few = omega (arith, store_length w); room = room } in
    let size = created_length c source 32 in
    let n = get_or w 0 0 in
    let place = 1 + n * 36 in
    let design : List ℕ = c.kind ∷ (packed code).a ∷ (packed code).b ∷ (packed code).c ∷ created c source 32 in
    rw (
      en,
      ew,
      ea,
      ek,
      create_written w lent (new_design c (request_from 0 source source code)) size,
      take_all 36 design (omega arith),
      drop-drop 36 place (set w 0 (n + 1)),
    )
    (sym (append_assoc (take place (set w 0 (n + 1))) design (drop (place + 36) (set w 0 (n + 1)))))

-- ---- the request

module _ (c : Command) (w : List ℕ) (a d : ℕ) (code : List ℕ) (k : Allowed c w a d code) where
  -- it is the request of a scheme that has this command alone
  abbrev alone : Scheme
  alone = record { types = 0; kinds = 0; rights = 0; commands = c ∷ [] }

  abbrev q : Request
  q = request_from 0 a d code

  zero : request_number alone k.people (store_of w) q ≡ 0
  zero = command_decides alone k.people (store_of w) q (omega arith) ∙ k.number

  pub passed : Admitted alone k.people q
  passed = admits alone k.people (store_of w) q zero

  pub source_few : a < 32
  source_few = omega (arith, passed.source, k.most)

  pub destination_few : d < 32
  destination_few = omega (arith, passed.destination, k.most)

  pub create_room : is_create c ≡ true → length (store_of w) < 64
  create_room e = (creates alone k.people (store_of w) q e zero).room

  pub create_carried : is_create c ≡ true
      → store_words (store_of w ++ new_design c (request_from 0 a a code) ∷ []) w ≡ store_words (carried_out c (store_of w) q) w
  unfolding carried_out
  create_carried e = rw e

  module _ (e : is_create c ≡ false) where
    acting : Acts alone k.people (store_of w) q
    acting = acts alone k.people (store_of w) q e zero

    -- the design is found
    pub found : (o : Option ℕ) → o ≡ (Some (place_of code (store_of w)) when exists code (store_of w) else None) → o ≡ Some (place_of code (store_of w))
    found o eo = rw (lt-ltb _ _ acting.present) at eo

    module _ (place : ℕ) (ep : place ≡ place_of code (store_of w)) where
      pub act_place : place < 64
      act_place = omega (arith, acting.present, k.designs)

      pub act_carried : Words w → act c (5 + place * 36 + a) (5 + place * 36 + d) w ≡ store_words (carried_out c (store_of w) q) w
      act_carried fit =
          let lent : Lent w = record { fit = fit; few = omega (arith, store_length w, k.designs); room = k.room } in
          rw ep
          (sym (act_words alone k.people w lent q k.most acting)
          ∙ ap (λ (r : List Design). store_words r w) (requested_done alone k.people (store_of w) q zero))
