-- What a loop of reads keeps: the front of a stream is what the input has lost, and so it is with one read more behind it. Assumes nothing.
use Rattle.std.proofs.Common.{arith, ℕ, ◌+◌, ◌≤◌, ◌≡◌, List, ◌++◌, length, take, sym, ap, ◌∙◌, subst}
use Rattle.std.proofs.lemmas.List.{length-take-le, take-append-le}
use Rattle.std.proofs.Math.Seq.{take-append-add}
use Rattle.std.proofs.KnownBytes.{Consumes-trans}
use Rattle.std.specs.Prelude.{Option}
use Rattle.std.specs.Io.KnownBytes.{Consumes}
use borrow.Rule.Slice.PartMut.{put_mid, post_of}

module _ (n room got : ℕ) (stream part : List ℕ) where
  -- the first n of a stream, and then the first of the part that is read behind them
  joined : n ≤ length stream → got ≤ length part → take (n + got) (put_mid n room stream part) ≡ take n stream ++ take got part
  joined within fits =
      ap (λ m. take (m + got) (put_mid n room stream part)) (sym (length-take-le n stream within))
      ∙ take-append-add (take n stream) (part ++ post_of n room stream) got
      ∙ ap (λ l. take n stream ++ l) (take-append-le got part (post_of n room stream) fits)

  pub read_more : (before here after : Option (List ℕ)) → n ≤ length stream → got ≤ length part
      → Consumes before here (take n stream) → Consumes here after (take got part) → Consumes before after (take (n + got) (put_mid n room stream part))
  read_more before here after within fits had reads = subst (Consumes before after) (sym (joined within fits)) (Consumes-trans before here after _ _ had reads)

-- what is wanted behind the first n of a stream has room, where it has behind those that were read
pub wanted_room : (n more room : ℕ) (stream : List ℕ) → length stream ≡ room → n ≤ length stream
    → (length (take n stream) ≤ room → length (take n stream) + more ≤ room) → n + more ≤ room
wanted_room n more room stream whole within fits =
    let front = length-take-le n stream within in
    let fitting = fits (omega (arith, front)) in
    omega (arith, front, fitting)
