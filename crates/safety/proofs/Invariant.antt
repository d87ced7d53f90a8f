-- The invariant behind demand 3, on one design's cells: one listed row has, at each type, exactly the propagation rights that its people hold together;
-- those of them that are deletable too are held by one person at most; and every right that a person holds was listed for the person's type.
-- A command keeps it, by the same command on the row. Assumes nothing.
use Prim.Native.Nat.{ℕ, ◌-◌, ◌≤◌, ◌<◌, max}
use mathlib.Core.Bool.{true, false}
use mathlib.Core.List.{List}
use mathlib.Core.Logic.{⊎_elim, ◌⊎◌, inl, inr, ◌≢◌, by_cases}
use mathlib.Core.Path.{◌≡◌, sym, ap, ◌∙◌}
use native.Mathlib.Decide.{ℕ_discrete}
use native.Mathlib.Omega.{arith}
use lib.ListN.{length, length-set}
use lib.Seq.{get_or-set_same, get_or-set_other}
use Rattle.model.specs.declared.Command.{Command}
use Rattle.model.specs.Rights.{bit, without, common}
use Rattle.model.specs.Schemes.{command_in}
use Rattle.model.specs.Rosters.{Person, type_at}
use Rattle.model.specs.Forms.{cell_at, held, lose, gain, act}
use Rattle.model.specs.Kinds.{is_step, propagation, deletable, both, is_normal}
use Rattle.model.specs.Listing.{Row, fires, moved, is_duplicate}
use Rattle.laws.proofs.Bits.{by_bit, max_one, bit_below_two, bit-without, bit_with, bit-common, within_true, bits_within, meets_false}
use Rattle.laws.proofs.KindSets.{x_propagates, y_deletes, bit_both}
use Rattle.laws.proofs.Reach.{Among}

-- ---- one cell at a time

module _ (c : Command) (cells : List ℕ) (k : ℕ) where
  lose_here : (a : ℕ) → a < length cells → bit (cell_at (lose c a cells) a) k ≡ bit (cell_at cells a) k - bit c.y k
  unfolding lose
  lose_here a l = rw get_or-set_same (bit-without (cell_at cells a) c.y k)

  lose_elsewhere : (a p : ℕ) → p ≢ a → bit (cell_at (lose c a cells) p) k ≡ bit (cell_at cells p) k
  unfolding lose
  lose_elsewhere a p ne = rw get_or-set_other

  gain_here : (d : ℕ) → d < length cells → bit (cell_at (gain c d cells) d) k ≡ max (bit (cell_at cells d) k) (bit c.z k)
  unfolding gain
  gain_here d l = rw get_or-set_same (bit_with (cell_at cells d) c.z k)

  gain_elsewhere : (d p : ℕ) → p ≢ d → bit (cell_at (gain c d cells) p) k ≡ bit (cell_at cells p) k
  unfolding gain
  gain_elsewhere d p ne = rw get_or-set_other

  -- a loss only takes, and a gain only gives
  lose_less : (a : ℕ) → a < length cells → (p : ℕ) → bit (cell_at (lose c a cells) p) k ≤ bit (cell_at cells p) k
  lose_less a l p =
      by_cases (ℕ_discrete p a) (λ e. rw e (omega (arith, lose_here a l))) (λ ne. omega (arith, lose_elsewhere a p ne))

  gain_more : (d : ℕ) → d < length cells → (p : ℕ) → bit (cell_at cells p) k ≤ bit (cell_at (gain c d cells) p) k
  gain_more d l p =
      by_cases (ℕ_discrete p d) (λ e. rw e (omega (arith, gain_here d l))) (λ ne. omega (arith, gain_elsewhere d p ne))

-- ---- what the rows of a listing with a verdict are: closed under the kind's steps, none of which is duplicate, and the kind is normal

pub record Ground (commands : List Command) (kind : ℕ) (rows : List Row) : Type 0 where
  pub normal : (j : ℕ) → j < length commands → is_step kind (command_in commands j) ≡ true → is_normal commands kind (command_in commands j) ≡ true
  pub closed : (row : Row) → Among row rows → (j : ℕ) → j < length commands → fires kind (command_in commands j) row ≡ true
      → Among (moved (command_in commands j) row) rows
  pub single : (row : Row) → Among row rows → (j : ℕ) → j < length commands → fires kind (command_in commands j) row ≡ true
      → is_duplicate (both commands kind) (command_in commands j) row ≡ false
  pub sized : (row : Row) → Among row rows → length row ≡ 8

module _ (commands : List Command) (kind : ℕ) (people : List Person) where
  -- the propagation rights of the people are among the row's
  abbrev pub Seen : List ℕ → Row → Type 0
  Seen cells row =
      (p k : ℕ) → p < length people → bit (propagation commands kind) k ≡ 1 → bit (cell_at cells p) k ≡ 1 → bit (cell_at row (type_at people p)) k ≡ 1

  -- the propagation rights of the row are held by somebody of the type
  abbrev pub There : List ℕ → Row → Type 0
  There cells row =
      (t k : ℕ) → bit (propagation commands kind) k ≡ 1 → bit (cell_at row t) k ≡ 1
      → (p : ℕ) × (p < length people) × (type_at people p ≡ t) × (bit (cell_at cells p) k ≡ 1)

  -- no two people of one type hold the same right that is both propagation and deletable
  abbrev pub Apart : List ℕ → Type 0
  Apart cells =
      (a b k : ℕ) → a < length people → b < length people → a ≢ b → type_at people a ≡ type_at people b → bit (both commands kind) k ≡ 1
      → bit (cell_at cells a) k ≡ 1 → bit (cell_at cells b) k ≡ 1 → ⊥

  -- every right that a person holds was listed for the person's type
  abbrev pub Known : List Row → List ℕ → Type 0
  Known rows cells =
      (p k : ℕ) → p < length people → bit (cell_at cells p) k ≡ 1 → (row : Row) × Among row rows × (bit (cell_at row (type_at people p)) k ≡ 1)

  pub record Inv (rows : List Row) (cells : List ℕ) : Type 0 where
    pub row : Row
    pub listed : Among row rows
    pub seen : Seen cells row
    pub there : There cells row
    pub apart : Apart cells
    pub known : Known rows cells

  -- ---- a command of the kind, by two people of its types

  pub record Move (j a d : ℕ) (cells : List ℕ) : Type 0 where
    pub command : j < length commands
    pub step : is_step kind (command_in commands j) ≡ true
    pub source : a < length people
    pub destination : d < length people
    pub source_type : type_at people a ≡ (command_in commands j).source
    pub destination_type : type_at people d ≡ (command_in commands j).destination
    pub source_small : (command_in commands j).source < 8
    pub destination_small : (command_in commands j).destination < 8
    pub room : length people ≤ length cells
    pub has_x : held (command_in commands j) a cells ≡ true

  module _ (rows : List Row) (ground : Ground commands kind rows) (j a d : ℕ) (cells : List ℕ) (m : Move j a d cells) (inv : Inv rows cells) where
    abbrev c : Command
    c = command_in commands j

    abbrev row₀ : Row
    row₀ = inv.row

    wide : length row₀ ≡ 8
    wide = ground.sized row₀ inv.listed

    -- X is propagation, so what the person has of it the row has
    row_fires : fires kind c row₀ ≡ true
    unfolding fires held
    row_fires =
        rw m.step
        (bits_within c.x (cell_at row₀ c.source)
        (λ k.
        let x≤p : bit c.x k ≤ bit (propagation commands kind) k = x_propagates commands kind k j m.command m.step in
        let x≤cell : bit c.x k ≤ bit (cell_at cells a) k = within_true c.x (cell_at cells a) m.has_x k in
        by_bit c.x k
        (λ one.
        let here : bit (cell_at row₀ (type_at people a)) k ≡ 1 =
        inv.seen a k m.source (omega (arith, bit_below_two (propagation commands kind) k)) (omega (arith, bit_below_two (cell_at cells a) k)) in
        omega (arith, rw m.source_type at here))
        (λ none. omega arith)))

    -- a propagation right that is taken was held by the source alone of its type
    alone : (k p : ℕ) → p < length people → type_at people p ≡ c.source → bit (propagation commands kind) k ≡ 1 → bit c.y k ≡ 1
        → bit (cell_at cells p) k ≡ 1 → p ≡ a
    unfolding is_normal held
    alone k p pl tp prop y here =
        let y≤d : bit c.y k ≤ bit (deletable commands kind) k = y_deletes commands kind k j m.command m.step in
        let in_both : bit (both commands kind) k ≡ 1 = omega (arith, bit_both commands kind k, bit_below_two (deletable commands kind) k) in
        let y≤x : bit (common c.y (propagation commands kind)) k ≤ bit c.x k =
        within_true (common c.y (propagation commands kind)) c.x (ground.normal j m.command m.step) k in
        let x≤cell : bit c.x k ≤ bit (cell_at cells a) k = within_true c.x (cell_at cells a) m.has_x k in
        let source-has : bit (cell_at cells a) k ≡ 1 =
        omega (arith, bit-common c.y (propagation commands kind) k, bit_below_two (cell_at cells a) k) in
        by_cases (ℕ_discrete p a) (λ e. e)
        (λ ne. absurd (inv.apart p a k pl m.source ne (tp ∙ sym m.source_type) in_both here source-has))

    source_room : a < length cells
    source_room = omega (arith, m.source, m.room)

    destination_room : d < length cells
    destination_room = omega (arith, m.destination, m.room)

    -- ---- after the loss

    cells₁ : List ℕ
    cells₁ = lose c a cells

    row₁ : Row
    row₁ = lose c c.source row₀

    lost : (p k : ℕ) → bit (cell_at cells₁ p) k ≡ 1 → bit (cell_at cells p) k ≡ 1
    unfolding cells₁
    lost p k h = omega (arith, lose_less c cells k a source_room p, bit_below_two (cell_at cells p) k)

    row_loses : (k : ℕ) → bit (cell_at row₁ c.source) k ≡ bit (cell_at row₀ c.source) k - bit c.y k
    unfolding row₁
    row_loses k = lose_here c row₀ k c.source (omega (arith, wide, m.source_small))

    seen₁ : Seen cells₁ row₁
    unfolding cells₁ row₁
    seen₁ p k pl prop h =
        let before : bit (cell_at cells p) k ≡ 1 = lost p k h in
        let in_row : bit (cell_at row₀ (type_at people p)) k ≡ 1 = inv.seen p k pl prop before in
        by_cases (ℕ_discrete (type_at people p) c.source)
        (λ t.
        let stays : bit c.y k ≡ 0 =
        by_bit c.y k
        (λ y.
        let q : p ≡ a = alone k p pl t prop y before in
        omega (arith, lose_here c cells k a source_room, rw q at h, bit_below_two (cell_at cells a) k)) (λ y. y) in
        rw t (omega (arith, row_loses k, rw t at in_row)))
        (λ ne. rw (lose_elsewhere c row₀ k c.source (type_at people p) ne) in_row)

    apart₁ : Apart cells₁
    apart₁ p q k pl ql ne t b hp hq = inv.apart p q k pl ql ne t b (lost p k hp) (lost q k hq)

    there₁ : There cells₁ row₁
    unfolding cells₁ row₁
    there₁ t k prop h =
        let in_row : bit (cell_at row₀ t) k ≡ 1 =
        omega (arith, lose_less c row₀ k c.source (omega (arith, wide, m.source_small)) t, bit_below_two (cell_at row₀ t) k) in
        let (p, pl, tp, here) = inv.there t k prop in_row in (
          p,
          pl,
          tp,
          by_cases (ℕ_discrete p a)
              (λ q.
              let ts : t ≡ c.source = sym tp ∙ ap (type_at people) q ∙ m.source_type in
              rw q (omega (arith, lose_here c cells k a source_room, row_loses k, rw ts at h, rw ts at in_row, rw q at here)))
              (λ ne. rw (lose_elsewhere c cells k a p ne) here),
        )

    -- ---- after the gain

    row₂ : Row
    row₂ = moved c row₀

    wide₁ : length row₁ ≡ 8
    unfolding row₁ lose
    wide₁ = length-set row₀ c.source (without (cell_at row₀ c.source) c.y) ∙ wide

    room₁ : d < length cells₁
    unfolding cells₁ lose
    room₁ = omega (arith, length-set cells a (without (cell_at cells a) c.y), destination_room)

    row_gains : (k : ℕ) → bit (cell_at row₂ c.destination) k ≡ max (bit (cell_at row₁ c.destination) k) (bit c.z k)
    unfolding row₂ row₁ moved act
    row_gains k = gain_here c row₁ k c.destination (omega (arith, wide₁, m.destination_small))

    row_keeps : (t k : ℕ) → bit (cell_at row₁ t) k ≤ bit (cell_at row₂ t) k
    unfolding row₂ row₁ moved act
    row_keeps t k = gain_more c row₁ k c.destination (omega (arith, wide₁, m.destination_small)) t

    cell_gains : (k : ℕ) → bit (cell_at (act c a d cells) d) k ≡ max (bit (cell_at cells₁ d) k) (bit c.z k)
    unfolding cells₁ act
    cell_gains k = gain_here c cells₁ k d room₁

    cell_stays : (p k : ℕ) → p ≢ d → bit (cell_at (act c a d cells) p) k ≡ bit (cell_at cells₁ p) k
    unfolding cells₁ act
    cell_stays p k ne = gain_elsewhere c cells₁ k d p ne

    -- a right of a cell was there after the loss, or is a new one of the destination
    new_or_old : (p k : ℕ) → bit (cell_at (act c a d cells) p) k ≡ 1 → (bit (cell_at cells₁ p) k ≡ 1) ⊎ ((p ≡ d) × (bit c.z k ≡ 1))
    new_or_old p k h =
        by_cases (ℕ_discrete p d)
        (λ q.
        ⊎_elim (λ old. inl (rw q old)) (λ new. inr (q, new))
        (max_one (cell_at cells₁ d) c.z k (sym (cell_gains k) ∙ rw q at h)))
        (λ ne. inl (sym (cell_stays p k ne) ∙ h))

    seen₂ : Seen (act c a d cells) row₂
    seen₂ p k pl prop h =
        ⊎_elim (λ old. omega (arith, seen₁ p k pl prop old, row_keeps (type_at people p) k, bit_below_two (cell_at row₂ (type_at people p)) k))
        (λ new.
        let t : type_at people p ≡ c.destination = ap (type_at people) new.0 ∙ m.destination_type in
        rw t (omega (arith, row_gains k, new.1, bit_below_two (cell_at row₂ c.destination) k)))
        (new_or_old p k h)

    -- what the destination gains of the rights that are both, nobody of its type has after the loss: no step is duplicate
    new_alone : (p k : ℕ) → p < length people → type_at people p ≡ c.destination → bit (both commands kind) k ≡ 1 → bit c.z k ≡ 1
        → bit (cell_at cells₁ p) k ≡ 1 → ⊥
    unfolding row₁ is_duplicate
    new_alone p k pl tp b z h =
        let prop : bit (propagation commands kind) k ≡ 1 = omega (arith, bit_both commands kind k, bit_below_two (propagation commands kind) k) in
        let in_row : bit (cell_at row₁ c.destination) k ≡ 1 = rw tp at (seen₁ p k pl prop h) in
        let none : bit (both commands kind) k ≡ 0 =
        meets_false (common (cell_at row₁ c.destination) c.z) (both commands kind)
        (ground.single row₀ inv.listed j m.command row_fires) k
        (bit-common (cell_at row₁ c.destination) c.z k ∙ omega arith) in
        omega arith

    apart₂ : Apart (act c a d cells)
    apart₂ p q k pl ql ne t b hp hq =
        ⊎_elim
        (λ old-p.
        ⊎_elim (λ old-q. apart₁ p q k pl ql ne t b old-p old-q)
        (λ new-q. new_alone p k pl (t ∙ ap (type_at people) new-q.0 ∙ m.destination_type) b new-q.1 old-p) (new_or_old q k hq))
        (λ new-p.
        ⊎_elim (λ old-q. new_alone q k ql (sym t ∙ ap (type_at people) new-p.0 ∙ m.destination_type) b new-p.1 old-q)
        (λ new-q. ne (new-p.0 ∙ sym new-q.0)) (new_or_old q k hq))
        (new_or_old p k hp)

    kept_cell : (p k : ℕ) → bit (cell_at cells₁ p) k ≡ 1 → bit (cell_at (act c a d cells) p) k ≡ 1
    unfolding cells₁ act
    kept_cell p k h = omega (arith, gain_more c cells₁ k d room₁ p, bit_below_two (cell_at (act c a d cells) p) k)

    there₂ : There (act c a d cells) row₂
    unfolding row₂ row₁ moved act
    there₂ t k prop h =
        by_cases (ℕ_discrete t c.destination)
        (λ e.
        ⊎_elim (λ old. by_somebody (there₁ t k prop (rw e old)))
        (λ new. (d, m.destination, m.destination_type ∙ sym e, cell_gains k ∙ omega (arith, bit_below_two (cell_at cells₁ d) k)))
        (max_one (cell_at row₁ c.destination) c.z k (sym (row_gains k) ∙ rw e at h)))
        (λ ne. by_somebody (there₁ t k prop (sym (gain_elsewhere c row₁ k c.destination t ne) ∙ h)))
      where
        by_somebody : (p : ℕ) × (p < length people) × (type_at people p ≡ t) × (bit (cell_at cells₁ p) k ≡ 1)
            → (p : ℕ) × (p < length people) × (type_at people p ≡ t) × (bit (cell_at (act c a d cells) p) k ≡ 1)
        by_somebody s = (s.0, s.1, s.2, kept_cell s.0 k s.3)

    known₂ : Known rows (act c a d cells)
    unfolding row₂
    known₂ p k pl h =
        ⊎_elim (λ old. inv.known p k pl (lost p k old))
        (λ new.
        let t : type_at people p ≡ c.destination = ap (type_at people) new.0 ∙ m.destination_type in (
          row₂,
          ground.closed row₀ inv.listed j m.command row_fires,
          rw t (omega (arith, row_gains k, new.1, bit_below_two (cell_at row₂ c.destination) k)),
        ))
        (new_or_old p k h)

    -- a command keeps the invariant, by the same command on the row
    pub act_keeps : Inv rows (act c a d cells)
    unfolding row₂
    act_keeps = record {
      row = row₂;
      listed = ground.closed row₀ inv.listed j m.command row_fires;
      seen = seen₂;
      there = there₂;
      apart = apart₂;
      known = known₂;
    }
