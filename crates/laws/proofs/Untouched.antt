-- What a request answered 0 leaves alone, on records and on words: an act is two stores into one design's cells, a create one record behind the last.
-- Assumes nothing.
use Prim.Native.Nat.{ℕ, ◌+◌, ◌≤◌, ◌<◌}
use mathlib.Core.Path.{◌≡◌, refl, sym, ap, ◌∙◌}
use mathlib.Core.Bool.{Bool}
use mathlib.Core.Logic.{◌≢◌, ◌⊎◌}
use mathlib.Core.List.{List, [], ◌∷◌}
use native.Mathlib.Nat.{add-zero}
use native.Mathlib.Omega.{arith}
use lib.ListN.{length, get_or, set, length-append, length-set}
use lib.Seq.{get_or-append_seam, get_or-set_same, get_or-set_other, paste}
use Rattle.model.specs.Words.{same}
use Rattle.model.specs.Rights.{without, with_those}
use Rattle.model.specs.Schemes.{Scheme, command_at}
use Rattle.model.specs.Rosters.{Person}
use Rattle.model.specs.Forms.{cell_at, lose, gain, act}
use Rattle.model.specs.Stores.{Design, no_design, place_of, design_at, words_of_design, store_of, store_words}
use Rattle.model.specs.Requests.{Request, request_number, new_design, acted_on, requested}
use Rattle.laws.proofs.Lists.{first_any, first_append_none, first-set, same_refl, paste_outside}
use Rattle.laws.proofs.Forms.{act_other, created_length}
use Rattle.laws.proofs.Stores.{Lent, record_place, cell_place, store_length, cell_at_lem, words_of_store, cell_set_at, cells_written, create_written}
use Rattle.laws.proofs.Requests.{Creates, Acts, requested_refused, requested_create, requested_act}

-- ---- on records

module _ (s : Scheme) (people : List Person) (designs : List Design) (q : Request) where
  module _ (k : Acts s people designs q) where
    pub acted_at : get_or (requested s people designs q) (place_of q.code designs) no_design
        ≡ acted_on (command_at s q.command) q (design_at q.code designs)
    acted_at = rw (requested_act s people designs q k) (get_or-set_same designs (place_of q.code designs) _ no_design k.present)

    pub acted_count : length (requested s people designs q) ≡ length designs
    acted_count = rw (requested_act s people designs q k) (length-set designs (place_of q.code designs) _)

  module _ (k : Creates s people designs q) where
    pub created_count : length (requested s people designs q) ≡ length designs + 1
    created_count = rw (requested_create s people designs q k) (length-append designs (_ ∷ []))

    pub created_at : get_or (requested s people designs q) (length designs) no_design ≡ new_design (command_at s q.command) q
    created_at = rw (requested_create s people designs q k) (get_or-append_seam designs _ [] no_design)

-- ---- where a code is found afterwards

module _ (s : Scheme) (people : List Person) (designs : List Design) (q : Request) where
  pub found_after_act : Acts s people designs q → (code : List ℕ) → place_of code (requested s people designs q) ≡ place_of code designs
  found_after_act k code =
      rw (requested_act s people designs q k) (first-set (λ d. same d.code code) designs (place_of q.code designs) _ no_design refl)

  pub found_new : Creates s people designs q → place_of q.code (requested s people designs q) ≡ length designs
  found_new k =
      let named : Design → Bool = λ d. same d.code q.code in
      rw (requested_create s people designs q k)
      (first_append_none named designs _ (sym (first_any named designs) ∙ k.absent) ∙ rw (same_refl q.code) (add-zero (length designs)))

-- ---- on words

module _ (s : Scheme) (people : List Person) (w : List ℕ) (lent : Lent w) (q : Request) where
  -- a refused request changes no word
  pub refused_words : (request_number s people (store_of w) q ≡ 0 → ⊥) → store_words (requested s people (store_of w) q) w ≡ w
  refused_words refused = rw (requested_refused s people (store_of w) q refused) (words_of_store w lent)

  module _ (k : Creates s people (store_of w) q) where
    pub create_words : store_words (requested s people (store_of w) q) w
        ≡ paste (set w 0 (get_or w 0 0 + 1)) (record_place (get_or w 0 0)) (words_of_design (new_design (command_at s q.command) q)) 36
    create_words =
        rw (requested_create s people (store_of w) q k)
        (create_written w lent (new_design (command_at s q.command) q) (created_length (command_at s q.command) q.source 32))

    pub create_untouched : (i : ℕ) → i ≢ 0 → (i < record_place (get_or w 0 0)) ⊎ (record_place (get_or w 0 0) + 36 ≤ i)
        → get_or (store_words (requested s people (store_of w) q) w) i 0 ≡ get_or w i 0
    create_untouched i later outside =
        let n = get_or w 0 0 in
        let new = new_design (command_at s q.command) q in
        let cells = created_length (command_at s q.command) q.source 32 in
        ap (λ (r : List ℕ). get_or r i 0) create_words
        ∙ paste_outside (set w 0 (n + 1)) (record_place n) (words_of_design new) 36 0 (omega (arith, length-set w 0 (n + 1))) (omega (arith, cells)) i outside
        ∙ get_or-set_other w 0 i (n + 1) 0 later

  module _ (most : length people ≤ 32) (k : Acts s people (store_of w) q) where
    -- a grant or an internal acts on the store's words as on cells
    pub act_words : store_words (requested s people (store_of w) q) w
        ≡ act (command_at s q.command) (cell_place (place_of q.code (store_of w)) q.source) (cell_place (place_of q.code (store_of w)) q.destination) w
    unfolding act gain lose
    act_words =
        let c = command_at s q.command in
        let place = place_of q.code (store_of w) in
        let cells = (design_at q.code (store_of w)).cells in
        let a = q.source in
        let d = q.destination in
        let inside : place < get_or w 0 0 = omega (arith, store_length w, k.present) in
        let la : a < 32 = omega (arith, k.admitted.source) in
        let ld : d < 32 = omega (arith, k.admitted.destination) in
        let v = without (cell_at cells a) c.y in
        let u = with_those (cell_at (set cells a v) d) c.z in
        rw (requested_act s people (store_of w) q k)
        (cells_written w lent place inside a v d u la ld
        ∙ rw (cell_set_at w lent place inside a v d la ld, cell_at_lem w place inside a la) refl)

    pub act_untouched : (i : ℕ) → i ≢ cell_place (place_of q.code (store_of w)) q.source → i ≢ cell_place (place_of q.code (store_of w)) q.destination
        → get_or (store_words (requested s people (store_of w) q) w) i 0 ≡ get_or w i 0
    act_untouched i ns nd = rw act_words (act_other (command_at s q.command) _ _ w i ns nd)
