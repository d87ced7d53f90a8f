-- A text that is put part after part: what is put of the whole so far, and what is left of it.
-- Assumes nothing.
use Prim.Native.Nat.{ℕ, ◌+◌, ◌≤◌}
use mathlib.Core.List.{List, [], ◌++◌, append-nil, append_assoc}
use mathlib.Core.Path.{◌≡◌, refl, sym, ap, ◌∙◌}
use native.Mathlib.Omega.{arith}
use lib.ListN.{length, length-append}
use Rattle.lines.specs.Lines.{Put}
use Rattle.lines.proofs.Texts.{put_none, put-put, put_length}

pub record Growing (whole : List ℕ) (at : ℕ) (first left : List ℕ) (end : ℕ) (text : List ℕ) : Type 0 where
  pub room : at + length whole ≤ length first
  pub so_far : List ℕ
  pub whole_is : whole ≡ so_far ++ left
  pub put : Put so_far at first end text

pub none_put : (whole : List ℕ) (at : ℕ) (first : List ℕ) → at + length whole ≤ length first → Growing whole at first whole at first
none_put whole at first h = record { room = h; so_far = []; whole_is = refl; put = put_none at first (omega arith) }

module _ {whole : List ℕ} {at : ℕ} {first left : List ℕ} {end : ℕ} {text : List ℕ} (g : Growing whole at first left end text) where
  -- the next part has room
  pub part_room : (part rest : List ℕ) → left ≡ part ++ rest → end + length part ≤ length text
  part_room part rest e =
      omega (arith, g.room, g.put.ends, put_length g.put, ap length (g.whole_is ∙ ap (λ (t : List ℕ). g.so_far ++ t) e), length-append g.so_far (part ++ rest), length-append part rest)

  pub part_put : (part rest : List ℕ) → left ≡ part ++ rest → {next : ℕ} {exit : List ℕ} → Put part end text next exit → Growing whole at first rest next exit
  part_put part rest e p = record {
    room = g.room;
    so_far = g.so_far ++ part;
    whole_is = rw (g.whole_is, e) (sym (append_assoc g.so_far part rest));
    put = put-put g.put p;
  }

  -- the last part
  pub last_room : (part : List ℕ) → left ≡ part → end + length part ≤ length text
  last_room part e = part_room part [] (e ∙ sym (append-nil part))

  pub last_put : (part : List ℕ) → left ≡ part → {next : ℕ} {exit : List ℕ} → Put part end text next exit → Put whole at first next exit
  last_put part e p = rw (g.whole_is, e) (put-put g.put p)

  pub all_put : left ≡ [] → Put whole at first end text
  all_put e = let same : whole ≡ g.so_far = rw (g.whole_is, e) (append-nil _) in rw same g.put
