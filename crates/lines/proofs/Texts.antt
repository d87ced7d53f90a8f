-- A lent text, with one thing after the other put into it: the parts compose.
-- Assumes nothing.
use Prim.Native.Nat.{ℕ, ◌+◌, ◌-◌, ◌≤◌}
use mathlib.Core.List.{List, [], ◌++◌, append-nil, append_assoc}
use mathlib.Core.Path.{◌≡◌, sym, ap, ◌∙◌}
use native.Mathlib.Omega.{arith}
use borrow.Rule.Slice.PartMut.{put_mid}
use lib.ListN.{length, take, drop, length-append}
use lib.Seq.{length-take-le, drop-drop}
use Rattle.model.specs.Words.{written_over}
use Rattle.laws.proofs.Lists.{length-written, take-written, written_own, written_again}
use Rattle.lines.specs.Lines.{Put}

length-head : (at : ℕ) (text more : List ℕ) → at ≤ length text → length (take at text ++ more) ≡ at + length more
length-head at text more h = length-append (take at text) more ∙ ap (λ (n : ℕ). n + length more) (length-take-le at text h)

pub put_none : (at : ℕ) (text : List ℕ) → at ≤ length text → Put [] at text at text
put_none at text h = record { ends = omega arith; inside = h; wrote = rw append-nil (sym (written_own at text h)) }

-- a part of the text that is copied
pub put_copied : (at end : ℕ) (text more : List ℕ) → end ≡ at + length more → end ≤ length text → Put more at text end (put_mid at (end - at) text more)
unfolding written_over
put_copied at end text more e h =
    let part : end - at ≡ length more = omega arith in
    let head : length (take at text ++ more) ≡ at + length more = length-head at text more (omega arith) in
    record { ends = e; inside = h; wrote = rw (part, head, drop-drop (length more) at text, append_assoc (take at text) more (drop (at + length more) text)) }

module _ {more : List ℕ} {at : ℕ} {text : List ℕ} {end : ℕ} {next : List ℕ} (p : Put more at text end next) where
  -- the text keeps its length
  pub put_length : length next ≡ length text
  put_length = ap length p.wrote ∙ length-written (take at text ++ more) text (omega (arith, length-head at text more (omega arith)))

  put_taken : take end next ≡ take at text ++ more
  put_taken =
      let n : end ≡ length (take at text ++ more) = omega (arith, length-head at text more (omega arith)) in
      rw (n, p.wrote) (take-written (take at text ++ more) text)

  pub put-put : {again : List ℕ} {last : ℕ} {exit : List ℕ} → Put again end next last exit → Put (more ++ again) at text last exit
  put-put {again} {last} {exit} q = record {
    ends = omega (arith, length-append more again);
    inside = omega (arith, put_length);
    wrote = q.wrote ∙ rw (put_taken, p.wrote, append_assoc (take at text) more again)
        (written_again (take at text ++ (more ++ again)) (take at text ++ more) text
        (omega (arith, length-head at text more (omega arith), length-head at text (more ++ again) (omega arith), length-append more again)));
  }

  -- what a line says, put
  pub put_said : {says : List ℕ} → more ≡ says → Put says at text end next
  put_said e = rw (← e) p

-- a line, of which it is known what it says, may be put where there is room for that
pub line_room : {l says : List ℕ} → l ≡ says → (at : ℕ) (text : List ℕ) → at + length says ≤ length text → at + length l ≤ length text
line_room e at text h = rw e h
