-- `codes::pack` meets its contract: each word of what was copied is the padded code's.
-- Assumes nothing.
use native.Mathlib.Omega.{arith}
use Rattle.model.specs.Codes.{packed}
use Rattle.codes.proofs.Padding.{word_copied}
use Rattle.codes.proofs.pack.Goals as goal

pub returns : goal.returns
unfolding packed
returns c =
    let word = word_copied c.args.code.now c.min-len.result c.min-len.ensures c.copy_from_slice.new.self c.copy_from_slice.ensures.after in
    λ i. record {
      a = word 0 (omega arith) c.word_at.result c.word_at.ensures i;
      b = word 4 (omega arith) c.word_at-2.result c.word_at-2.ensures i;
      c = word 8 (omega arith) c.word_at-3.result c.word_at-3.ensures i;
    }
