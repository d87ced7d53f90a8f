-- A request that is answered 0 as a record of facts, and back; the store after a request, by its cases; and a batch as its requests one after the other,
-- by induction on them. Assumes nothing.
use Prim.Native.Nat.{ℕ, suc, ◌≤◌, ◌<◌}
use mathlib.Core.Path.{◌≡◌, refl, ap, ◌∙◌}
use mathlib.Core.Bool.{true, false}
use mathlib.Core.Logic.{by_cases}
use native.Mathlib.Decide.{ℕ_discrete}
use mathlib.Core.List.{List, [], ◌∷◌, ◌++◌}
use native.Mathlib.Omega.{arith}
use borrow.Author.Tests.{lt-ltb, le-ltb, lt-leb, eq-eqb, ne_eqb}
use lib.ListN.{length, set, length-append, length-set}
use Rattle.model.specs.Words.{◌when◌else◌}
use Rattle.model.specs.Codes.{spelled}
use Rattle.model.specs.Schemes.{Scheme, is_create, command_at}
use Rattle.model.specs.Rosters.{Person, type_at}
use Rattle.model.specs.Forms.{held}
use Rattle.model.specs.Stores.{Design, place_of, exists, design_at}
use Rattle.model.specs.Requests.{Request, two_people, create_number, other_number, request_number, new_design, acted_on, carried_out, requested, batch_numbers, batched}
use Rattle.laws.proofs.Tests.{by_test, accepted}

-- ---- a request that is answered 0

-- "6, 7, 8, 9, 4" were not given
pub record Admitted (s : Scheme) (people : List Person) (q : Request) : Type 0 where
  pub named : q.command < length s.commands
  pub source : q.source < length people
  pub destination : q.destination < length people
  pub source_type : type_at people q.source ≡ (command_at s q.command).source
  pub destination_type : type_at people q.destination ≡ (command_at s q.command).destination
  pub allowed : two_people (command_at s q.command) q.source q.destination ≡ false
  pub spelt : spelled q.code ≡ true

-- "a create 10, 11"
pub record Creates (s : Scheme) (people : List Person) (designs : List Design) (q : Request) : Type 0 where
  pub admitted : Admitted s people q
  pub create : is_create (command_at s q.command) ≡ true
  pub absent : exists q.code designs ≡ false
  pub room : length designs < 64

-- "another 12, 13, 14"
pub record Acts (s : Scheme) (people : List Person) (designs : List Design) (q : Request) : Type 0 where
  pub admitted : Admitted s people q
  pub other : is_create (command_at s q.command) ≡ false
  pub present : place_of q.code designs < length designs
  pub kind_is : (design_at q.code designs).kind ≡ (command_at s q.command).kind
  pub holds : held (command_at s q.command) q.source (design_at q.code designs).cells ≡ true

module _ (s : Scheme) (people : List Person) (designs : List Design) (q : Request) where
  pub admits : request_number s people designs q ≡ 0 → Admitted s people q
  unfolding request_number
  admits h =
      let p = simp accepted at h in
      record {
        named = p.0;
        source = p.1.0.0;
        destination = p.1.0.1;
        source_type = p.1.1.0.0;
        destination_type = p.1.1.0.1;
        allowed = p.1.1.1.0;
        spelt = p.1.1.1.1.0;
      }

  pub after_admitted : Admitted s people q
      → request_number s people designs q
      ≡ (create_number designs q.code when is_create (command_at s q.command) else other_number (command_at s q.command) designs q.source q.code)
  unfolding request_number
  after_admitted a =
      rw (lt-ltb _ _ a.named, lt-ltb _ _ a.source, lt-ltb _ _ a.destination, eq-eqb _ _ a.source_type, eq-eqb _ _ a.destination_type, a.allowed, a.spelt)
      refl

  pub creates : is_create (command_at s q.command) ≡ true → request_number s people designs q ≡ 0 → Creates s people designs q
  unfolding create_number
  creates e h =
      let a = admits h in
      let p = simp accepted at (rw (after_admitted a, e) at h) in
      record { admitted = a; create = e; absent = le-ltb (place_of q.code designs) (length designs) (omega arith); room = p.1.0 }

  pub creates_zero : Creates s people designs q → request_number s people designs q ≡ 0
  unfolding create_number
  creates_zero k = after_admitted k.admitted ∙ rw (k.create, k.absent, lt-leb 64 (length designs) k.room) refl

  pub acts : is_create (command_at s q.command) ≡ false → request_number s people designs q ≡ 0 → Acts s people designs q
  unfolding other_number
  acts e h =
      let a = admits h in
      let p = simp accepted at (rw (after_admitted a, e) at h) in
      record { admitted = a; other = e; present = p.0; kind_is = p.1.0; holds = p.1.1.0 }

  pub acts_zero : Acts s people designs q → request_number s people designs q ≡ 0
  unfolding other_number
  acts_zero k =
      after_admitted k.admitted
      ∙ rw (k.other, lt-ltb _ _ k.present, eq-eqb _ _ k.kind_is, k.holds) refl

  -- ---- the store after it

  pub requested_done : request_number s people designs q ≡ 0 → requested s people designs q ≡ carried_out (command_at s q.command) designs q
  unfolding requested
  requested_done h = rw (eq-eqb (request_number s people designs q) 0 h) refl

  pub requested_refused : (request_number s people designs q ≡ 0 → ⊥) → requested s people designs q ≡ designs
  unfolding requested
  requested_refused h = rw (ne_eqb (request_number s people designs q) 0 h) refl

  pub requested_create : Creates s people designs q → requested s people designs q ≡ designs ++ new_design (command_at s q.command) q ∷ []
  unfolding carried_out
  requested_create k = requested_done (creates_zero k) ∙ rw k.create refl

  pub requested_act : Acts s people designs q
      → requested s people designs q ≡ set designs (place_of q.code designs) (acted_on (command_at s q.command) q (design_at q.code designs))
  unfolding carried_out
  requested_act k = requested_done (acts_zero k) ∙ rw k.other refl

  -- what holds of the store before, and is kept by a create and by an act, holds of the store after
  pub by_request : (P : List Design → Type 0) → P designs
      → (Creates s people designs q → P (designs ++ new_design (command_at s q.command) q ∷ []))
      → (Acts s people designs q → P (set designs (place_of q.code designs) (acted_on (command_at s q.command) q (design_at q.code designs))))
      → P (requested s people designs q)
  by_request P before create act =
      by_cases (ℕ_discrete (request_number s people designs q) 0)
      (λ done.
      by_test (is_create (command_at s q.command))
      (λ e. let k = creates e done in rw (requested_create k) (create k))
      (λ e. let k = acts e done in rw (requested_act k) (act k)))
      (λ refused. rw (requested_refused refused) before)

  pub requested_grows : length designs ≤ length (requested s people designs q)
  requested_grows =
      by_request (λ after. length designs ≤ length after) (omega arith)
      (λ k. omega (arith, length-append designs (new_design (command_at s q.command) q ∷ [])))
      (λ k. omega (arith, length-set designs (place_of q.code designs) (acted_on (command_at s q.command) q (design_at q.code designs))))

-- ---- a batch is its requests one after the other

module _ (s : Scheme) (people : List Person) where
  pub batched-append : (designs : List Design) (qs rs : List Request)
      → batched s people designs (qs ++ rs) ≡ batched s people (batched s people designs qs) rs
  unfolding batched
  batched-append designs [] rs = refl
  batched-append designs (q ∷ qs) rs = batched-append (requested s people designs q) qs rs

  pub numbers_append : (designs : List Design) (qs rs : List Request)
      → batch_numbers s people designs (qs ++ rs) ≡ batch_numbers s people designs qs ++ batch_numbers s people (batched s people designs qs) rs
  unfolding batch_numbers batched
  numbers_append designs [] rs = refl
  numbers_append designs (q ∷ qs) rs =
      ap (λ (r : List ℕ). request_number s people designs q ∷ r) (numbers_append (requested s people designs q) qs rs)

  pub numbers_length : (designs : List Design) (qs : List Request) → length (batch_numbers s people designs qs) ≡ length qs
  unfolding batch_numbers
  numbers_length designs [] = refl
  numbers_length designs (q ∷ qs) = ap suc (numbers_length (requested s people designs q) qs)

  pub batched_snoc : (designs : List Design) (qs : List Request) (q : Request)
      → batched s people designs (qs ++ q ∷ []) ≡ requested s people (batched s people designs qs) q
  unfolding batched
  batched_snoc designs qs q = batched-append designs qs (q ∷ [])

  pub numbers_snoc : (designs : List Design) (qs : List Request) (q : Request)
      → batch_numbers s people designs (qs ++ q ∷ [])
      ≡ batch_numbers s people designs qs ++ request_number s people (batched s people designs qs) q ∷ []
  unfolding batch_numbers
  numbers_snoc designs qs q = numbers_append designs qs (q ∷ [])

  -- what each request keeps, a batch keeps
  pub by_requests : (P : List Design → Type 0) → ((designs : List Design) (q : Request) → P designs → P (requested s people designs q))
      → (designs : List Design) (qs : List Request) → P designs → P (batched s people designs qs)
  unfolding batched
  by_requests P step designs [] h = h
  by_requests P step designs (q ∷ qs) h = by_requests P step (requested s people designs q) qs (step designs q h)
