-- A store as lent words and as designs: a design is 36 words, so a place in the words is a place in a design, and the two forms go there and back.
-- Assumes nothing.
use Prim.Native.Nat.{ℕ, zero, suc, ◌+◌, ◌*◌, ◌/◌, ◌%◌, ◌^◌, ◌≤◌, ◌<◌}
use mathlib.Core.Path.{◌≡◌, refl, sym, ap, ap₂, ◌∙◌}
use mathlib.Core.Bool.{true}
use mathlib.Core.List.{List, [], ◌∷◌, ◌++◌, map, map-append, append-nil}
use native.Mathlib.Nat.{add-zero}
use mathlib.Core.Logic.{by_cases}
use native.Mathlib.Decide.{dec_lt, ℕ_discrete}
use native.Mathlib.Omega.{arith}
use lib.ListN.{length, get_or, take, drop, set, length-map, length-drop, length-set, length-append}
use lib.Seq.{get_or-take, get_or-drop, drop-drop, drop-cons, length-take-le, lt-length-set, get_or-set_same, get_or-set_other, set-set, paste}
use Rattle.model.specs.declared.Code.{Code}
use Rattle.model.specs.Words.{joined, groups, written_over}
use Rattle.model.specs.Sizes.{store_room}
use Rattle.model.specs.Codes.{spelled, packed, unpacked}
use Rattle.model.specs.Stores.{Design, no_design, design_of, words_of_design, store_of, store_words}
use Rattle.laws.proofs.Lists.{Each, each_set, map_at, map_back, map-set, drop-take, length-groups, groups_at, joined-groups, groups-joined, Sized, joined-append, length-joined, joined_at, joined_set_one, length-written, written_inside, written_past, written_own, written-set, written-append, written_again}
use Rattle.laws.proofs.Codes.{WordsFit, code_at_words, words_of_code_at}

-- every word fits a word
abbrev pub Words : List ℕ → Type 0
Words w = (i : ℕ) → get_or w i 0 < 2 ^ 32

-- lent words that a store may lie in
pub record Lent (w : List ℕ) : Type 0 where
  pub fit : Words w
  pub few : get_or w 0 0 ≤ 64
  pub room : store_room ≤ length w

-- where the words of a design begin, and where its cells stand
abbrev pub record_place : ℕ → ℕ
record_place i = 1 + i * 36

abbrev pub cell_place : ℕ → ℕ → ℕ
cell_place i p = 5 + i * 36 + p

-- ---- what stands in the words

pub store_length : (w : List ℕ) → length (store_of w) ≡ get_or w 0 0
unfolding store_of
store_length w = length-map (groups 36 (get_or w 0 0) (drop 1 w)) design_of ∙ length-groups 36 (get_or w 0 0) (drop 1 w)

-- the three words of a design's code
abbrev pub code_in : List ℕ → ℕ → Code
code_in w i = record { a = get_or w (2 + i * 36) 0; b = get_or w (3 + i * 36) 0; c = get_or w (4 + i * 36) 0 }

module _ (w : List ℕ) (i : ℕ) where
  pub record_word : (j : ℕ) → j < 36 → get_or (take 36 (drop (record_place i) w)) j 0 ≡ get_or w (record_place i + j) 0
  record_word j m = get_or-take 36 (drop (record_place i) w) j 0 m ∙ get_or-drop (record_place i) w j 0

  module _ (l : i < get_or w 0 0) where
    pub design_at_lem : get_or (store_of w) i no_design ≡ design_of (take 36 (drop (record_place i) w))
    unfolding store_of
    design_at_lem =
        let gs = groups 36 (get_or w 0 0) (drop 1 w) in
        map_at design_of gs [] no_design i (omega (arith, length-groups 36 (get_or w 0 0) (drop 1 w)))
        ∙ ap design_of (groups_at 36 (get_or w 0 0) (drop 1 w) [] i l ∙ ap (take 36) (drop-drop (i * 36) 1 w))

    pub kind_at : (get_or (store_of w) i no_design).kind ≡ get_or w (record_place i) 0
    kind_at = ap (λ (d : Design). d.kind) design_at_lem ∙ record_word 0 (omega arith) ∙ ap (λ (k : ℕ). get_or w k 0) (add-zero (record_place i))

    pub code_at_lem : (get_or (store_of w) i no_design).code ≡ unpacked (code_in w i)
    code_at_lem =
        let word : (j k : ℕ) → 1 + j < 36 → record_place i + (1 + j) ≡ k → get_or (drop 1 (take 36 (drop (record_place i) w))) j 0 ≡ get_or w k 0 =
        λ j k m e. get_or-drop 1 (take 36 (drop (record_place i) w)) j 0 ∙ record_word (1 + j) m ∙ ap (λ (n : ℕ). get_or w n 0) e in
        ap (λ (d : Design). d.code) design_at_lem
        ∙ ap unpacked (λ t. record {
          a = word 0 (2 + i * 36) (omega arith) (omega arith) t;
          b = word 1 (3 + i * 36) (omega arith) (omega arith) t;
          c = word 2 (4 + i * 36) (omega arith) (omega arith) t;
        })

    pub cells_at_lem : (get_or (store_of w) i no_design).cells ≡ take 32 (drop (5 + i * 36) w)
    cells_at_lem =
        let e : 1 + i * 36 + 4 ≡ 5 + i * 36 = omega arith in
        ap (λ (d : Design). d.cells) design_at_lem
        ∙ drop-take 4 32 (drop (record_place i) w)
        ∙ ap (take 32) (drop-drop 4 (record_place i) w ∙ ap (λ (k : ℕ). drop k w) e)

    pub cell_at_lem : (p : ℕ) → p < 32 → get_or (get_or (store_of w) i no_design).cells p 0 ≡ get_or w (cell_place i p) 0
    cell_at_lem p m = rw (cells_at_lem, get_or-take 32 (drop (5 + i * 36) w) p 0 m) (get_or-drop (5 + i * 36) w p 0)

    pub cells-length : store_room ≤ length w → i < 64 → length (get_or (store_of w) i no_design).cells ≡ 32
    cells-length room few = rw cells_at_lem (length-take-le 32 (drop (5 + i * 36) w) (omega (arith, length-drop (5 + i * 36) w)))

-- ---- a design and its 36 words

-- every design has a cell for each of the 32 places
abbrev pub Celled : List Design → Type 0
Celled designs = Each (λ d. length d.cells ≡ 32) designs no_design

-- a store that can be written into its words and read again
pub record Whole (designs : List Design) : Type 0 where
  pub few : length designs ≤ 64
  pub celled : Celled designs
  pub spelt : Each (λ d. spelled d.code ≡ true) designs no_design

pub room_celled : (w : List ℕ) → store_room ≤ length w → get_or w 0 0 ≤ 64 → Celled (store_of w)
room_celled w room few i l = let m : i < get_or w 0 0 = omega (arith, store_length w) in cells-length w i m room (omega arith)

pub store_celled : (w : List ℕ) → Lent w → Celled (store_of w)
store_celled w lent = room_celled w lent.room lent.few

pub design_of_words : (d : Design) → spelled d.code ≡ true → design_of (words_of_design d) ≡ d
design_of_words d h = λ t. record { kind = d.kind; code = code_at_words d.code d.cells h t; cells = d.cells }

pub words_of_design_lem : (g : List ℕ) → length g ≡ 36 → ((i : ℕ) → i < 36 → get_or g i 0 < 2 ^ 32) → words_of_design (design_of g) ≡ g
words_of_design_lem g l h =
    let three = words_of_code_at (drop 1 g) (λ i m. rw (get_or-drop 1 g i 0) (h (1 + i) (omega arith))) in
    let four : g ≡ get_or g 0 0 ∷ get_or g 1 0 ∷ get_or g 2 0 ∷ get_or g 3 0 ∷ drop 4 g =
    drop-cons g 0 0 (omega arith) ∙ rw (drop-cons g 1 0 (omega arith), drop-cons g 2 0 (omega arith), drop-cons g 3 0 (omega arith)) in
    ap (λ (c : List ℕ). get_or g 0 0 ∷ c ++ drop 4 g) three ∙ rw (get_or-drop 1 g 0 0, get_or-drop 1 g 1 0, get_or-drop 1 g 2 0) (sym four)

pub words_sized : (designs : List Design) → Celled designs → Sized {A = ℕ} 36 (map words_of_design designs) []
words_sized designs h i l =
    let m : i < length designs = omega (arith, length-map designs words_of_design) in
    rw (map_at words_of_design designs no_design [] i m) (omega (arith, h i m))

-- ---- the words of a store

pub words_length : (designs : List Design) → Celled designs → length (joined (map words_of_design designs)) ≡ length designs * 36
words_length designs h =
    length-joined 36 (map words_of_design designs) [] (words_sized designs h) ∙ ap (λ (n : ℕ). n * 36) (length-map designs words_of_design)

-- what lent words mean, written into them again, changes no word
pub words_of_store : (w : List ℕ) → Lent w → store_words (store_of w) w ≡ w
unfolding store_of store_words
words_of_store w lent =
    let n = get_or w 0 0 in
    let gs = groups 36 n (drop 1 w) in
    let there : (i : ℕ) → i < length gs → words_of_design (design_of (get_or gs i [])) ≡ get_or gs i [] =
    λ i l.
    let m : i < n = omega (arith, length-groups 36 n (drop 1 w)) in
    rw (groups_at 36 n (drop 1 w) [] i m, drop-drop (i * 36) 1 w)
    (words_of_design_lem (take 36 (drop (record_place i) w))
    (length-take-le 36 (drop (record_place i) w) (omega (arith, length-drop (record_place i) w)))
    (λ j k. rw (record_word w i j k) (lent.fit (record_place i + j)))) in
    let own : n ∷ take (n * 36) (drop 1 w) ≡ take (suc (n * 36)) w = ap (take (suc (n * 36))) (sym (drop-cons w 0 0 (omega arith))) in
    rw (store_length w, map_back design_of words_of_design gs [] there, joined-groups 36 n (drop 1 w), own)
    (written_own (suc (n * 36)) w (omega arith))

-- designs written into lent words are read from them again
pub store_of_words : (designs : List Design) (w : List ℕ) → Whole designs → store_of (store_words designs w) ≡ designs
unfolding store_of store_words written_over
store_of_words designs w whole =
    let words = map words_of_design designs in
    let rest = drop (suc (length (joined words))) w in
    let cut : groups 36 (length designs) (joined words ++ rest) ≡ words =
    rw (length-map designs words_of_design) at (groups-joined 36 words [] rest (words_sized designs whole.celled)) in
    ap (map design_of) cut
    ∙ map_back words_of_design design_of designs no_design (λ i l. design_of_words (get_or designs i no_design) (whole.spelt i l))

-- designs that are written over fewer leave no trace of them
pub written_twice : (designs fewer : List Design) (w : List ℕ) → Celled designs → Celled fewer → length fewer ≤ length designs
    → store_words designs (store_words fewer w) ≡ store_words designs w
unfolding store_words
written_twice designs fewer w h k l =
    written_again (length designs ∷ joined (map words_of_design designs)) (length fewer ∷ joined (map words_of_design fewer)) w
    (omega (arith, words_length designs h, words_length fewer k))

pub store_words_length : (designs : List Design) (w : List ℕ) → Celled designs → length designs ≤ 64 → store_room ≤ length w
    → length (store_words designs w) ≡ length w
unfolding store_words
store_words_length designs w h few room =
    length-written (length designs ∷ joined (map words_of_design designs)) w (omega (arith, words_length designs h))

-- ---- one word of a store

pub store_count : (designs : List Design) (w : List ℕ) → get_or (store_words designs w) 0 0 ≡ length designs
unfolding store_words written_over
store_count designs w = refl

module _ (designs : List Design) (w : List ℕ) (celled : Celled designs) where
  pub store_word : (i j : ℕ) → i < length designs → j < 36
      → get_or (store_words designs w) (record_place i + j) 0 ≡ get_or (words_of_design (get_or designs i no_design)) j 0
  unfolding store_words
  store_word i j l m =
      let words = map words_of_design designs in
      let place : record_place i + j ≡ suc (i * 36 + j) = omega arith in
      let n : i < length words = omega (arith, length-map designs words_of_design) in
      written_inside (length designs ∷ joined words) w 0 (record_place i + j) (omega (arith, words_length designs celled))
      ∙ ap (λ (k : ℕ). get_or (length designs ∷ joined words) k 0) place
      ∙ joined_at 36 words [] (words_sized designs celled) i j 0 n m
      ∙ ap (λ (g : List ℕ). get_or g j 0) (map_at words_of_design designs no_design [] i l)

  pub store_word_past : (k : ℕ) → record_place (length designs) ≤ k → get_or (store_words designs w) k 0 ≡ get_or w k 0
  unfolding store_words
  store_word_past k l =
      written_past (length designs ∷ joined (map words_of_design designs)) w 0 k (omega (arith, words_length designs celled))

-- a design whose numbers fit words
pub record Fitting (d : Design) : Type 0 where
  pub kind_fits : d.kind < 2 ^ 32
  pub code_fits : WordsFit (packed d.code)
  pub cells_fit : Words d.cells

pub fitting_words : (d : Design) → Fitting d → Words (words_of_design d)
fitting_words d f zero = f.kind_fits
fitting_words d f (suc zero) = f.code_fits.0
fitting_words d f (suc (suc zero)) = f.code_fits.1
fitting_words d f (suc (suc (suc zero))) = f.code_fits.2
fitting_words d f (suc (suc (suc (suc i)))) = f.cells_fit i

pub words_kept : (designs : List Design) (w : List ℕ) → Celled designs → length designs ≤ 64
    → Each Fitting designs no_design → Words w → Words (store_words designs w)
words_kept designs w celled few fits fit zero = rw (store_count designs w) (omega arith)
words_kept designs w celled few fits fit (suc k) =
    by_cases (dec_lt (k / 36) (length designs))
    (λ inside.
    let place : record_place (k / 36) + k % 36 ≡ suc k = omega arith in
    let word = store_word designs w celled (k / 36) (k % 36) inside (omega arith) in
    rw (← word, place) at (fitting_words (get_or designs (k / 36) no_design) (fits (k / 36) inside) (k % 36)))
    (λ past. rw (store_word_past designs w celled (suc k) (omega arith)) (fit (suc k)))

-- ---- a cell anew, two cells anew, and a design more

-- the design with these cells
abbrev pub with_cells : Design → List ℕ → Design
with_cells d cells = record { kind = d.kind; code = d.code; cells = cells }

pub cells_celled : (designs : List Design) → Celled designs → (place : ℕ) (cells : List ℕ) → length cells ≡ 32
    → Celled (set designs place (with_cells (get_or designs place no_design) cells))
cells_celled designs celled place cells =
    each_set (λ d. length d.cells ≡ 32) designs no_design place (with_cells (get_or designs place no_design) cells) celled

pub cell_set : (designs : List Design) (w : List ℕ) → Celled designs → (place : ℕ) → place < length designs → (p v : ℕ) → p < 32
    → store_words (set designs place (with_cells (get_or designs place no_design) (set (get_or designs place no_design).cells p v))) w
    ≡ set (store_words designs w) (cell_place place p) v
unfolding store_words
cell_set designs w celled place inside p v l =
    let d = get_or designs place no_design in
    let anew = with_cells d (set d.cells p v) in
    let words = map words_of_design designs in
    let q = suc (suc (suc (suc p))) in
    let n : place < length words = omega (arith, length-map designs words_of_design) in
    let one : joined (map words_of_design (set designs place anew)) ≡ set (joined words) (place * 36 + q) v =
    ap joined
    (map-set words_of_design designs place anew
    ∙ ap (λ (g : List ℕ). set words place (set g q v)) (sym (map_at words_of_design designs no_design [] place inside)))
    ∙ joined_set_one 36 words [] (words_sized designs celled) place q v n (omega arith) in
    let e : suc (place * 36 + q) ≡ cell_place place p = omega arith in
    rw (length-set designs place anew, one)
    (written-set (length designs ∷ joined words) w (suc (place * 36 + q)) v (omega (arith, words_length designs celled))
    ∙ ap (λ (k : ℕ). set (written_over (length designs ∷ joined words) w) k v) e)

-- in the order of the two stores, the same cell or another
pub cells_set : (designs : List Design) (w : List ℕ) → Celled designs → (place : ℕ) → place < length designs → (p v q u : ℕ) → p < 32 → q < 32
    → store_words (set designs place (with_cells (get_or designs place no_design) (set (set (get_or designs place no_design).cells p v) q u))) w
    ≡ set (set (store_words designs w) (cell_place place p) v) (cell_place place q) u
cells_set designs w celled place inside p v q u l m =
    let d = get_or designs place no_design in
    let once = with_cells d (set d.cells p v) in
    let both = with_cells d (set (set d.cells p v) q u) in
    let sized = cells_celled designs celled place (set d.cells p v) (length-set d.cells p v ∙ celled place inside) in
    let again : store_words (set (set designs place once) place both) w ≡ set (store_words (set designs place once) w) (cell_place place q) u =
    rw (get_or-set_same designs place once no_design inside) at
    (cell_set (set designs place once) w sized place (lt-length-set designs place once inside) q u m) in
    rw (← set-set designs place once both, again, cell_set designs w celled place inside p v l) refl

pub design_added : (designs : List Design) (w : List ℕ) → Celled designs → (d : Design) → length d.cells ≡ 32
    → store_words (designs ++ d ∷ []) w
    ≡ paste (set (store_words designs w) 0 (length designs + 1)) (record_place (length designs)) (words_of_design d) 36
unfolding store_words written_over
design_added designs w celled d h =
    let words = joined (map words_of_design designs) in
    let more = words_of_design d in
    let count = length designs + 1 in
    let grown : joined (map words_of_design (designs ++ d ∷ [])) ≡ words ++ more =
    ap joined (map-append words_of_design designs (d ∷ [])) ∙ joined-append (map words_of_design designs) (more ∷ [])
    ∙ ap (λ (r : List ℕ). words ++ r) (append-nil more) in
    let place : suc (length words) ≡ record_place (length designs) = omega (arith, words_length designs celled) in
    let size : length more ≡ 36 = omega arith in
    ap₂ (λ (k : ℕ) (r : List ℕ). written_over (k ∷ r) w) (length-append designs (d ∷ [])) grown
    ∙ written-append (count ∷ words) more w
    ∙ ap₂ (λ (k m : ℕ). paste (written_over (count ∷ words) w) k more m) place size

-- the same on lent words and what they mean
module _ (w : List ℕ) (lent : Lent w) where
  module _ (place : ℕ) (inside : place < get_or w 0 0) where
    pub cell_written : (p v : ℕ) → p < 32
        → store_words (set (store_of w) place (with_cells (get_or (store_of w) place no_design) (set (get_or (store_of w) place no_design).cells p v))) w
        ≡ set w (cell_place place p) v
    cell_written p v l =
        cell_set (store_of w) w (store_celled w lent) place (omega (arith, store_length w)) p v l
        ∙ ap (λ (r : List ℕ). set r (cell_place place p) v) (words_of_store w lent)

    -- after the one store, the word of each cell is still that cell's
    pub cell_set_at : (p v q : ℕ) → p < 32 → q < 32
        → get_or (set (get_or (store_of w) place no_design).cells p v) q 0 ≡ get_or (set w (cell_place place p) v) (cell_place place q) 0
    cell_set_at p v q l m =
        let cells = (get_or (store_of w) place no_design).cells in
        let size = cells-length w place inside lent.room (omega arith) in
        by_cases (ℕ_discrete q p)
        (λ here.
        rw here (get_or-set_same cells p v 0 (omega arith) ∙ sym (get_or-set_same w (cell_place place p) v 0 (omega arith))))
        (λ other.
        get_or-set_other cells p q v 0 other ∙ cell_at_lem w place inside q m
        ∙ sym (get_or-set_other w (cell_place place p) (cell_place place q) v 0 (λ e. other (omega arith))))

    pub cells_written : (p v q u : ℕ) → p < 32 → q < 32
        → store_words (set (store_of w) place (with_cells (get_or (store_of w) place no_design) (set (set (get_or (store_of w) place no_design).cells p v) q u))) w
        ≡ set (set w (cell_place place p) v) (cell_place place q) u
    cells_written p v q u l m =
        cells_set (store_of w) w (store_celled w lent) place (omega (arith, store_length w)) p v q u l m
        ∙ ap (λ (r : List ℕ). set (set r (cell_place place p) v) (cell_place place q) u) (words_of_store w lent)

  pub create_written : (d : Design) → length d.cells ≡ 32
      → store_words (store_of w ++ d ∷ []) w ≡ paste (set w 0 (get_or w 0 0 + 1)) (record_place (get_or w 0 0)) (words_of_design d) 36
  create_written d h =
      design_added (store_of w) w (store_celled w lent) d h
      ∙ ap₂ (λ (r : List ℕ) (n : ℕ). paste (set r 0 (n + 1)) (record_place n) (words_of_design d) 36) (words_of_store w lent) (store_length w)
