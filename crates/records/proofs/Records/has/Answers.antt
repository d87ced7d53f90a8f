-- `Records::has` meets its contract: two codes are the same exactly when their three words are.
-- Assumes nothing.
use Prim.Native.Nat.{ℕ}
use mathlib.Core.Path.{sym, ap, ◌∙◌}
use mathlib.Core.List.{List}
use borrow.Author.Rules.{rules}
use Rattle.model.specs.Words.{same}
use Rattle.model.specs.Codes.{unpacked}
use Rattle.laws.proofs.Codes.{same_unpacked}
use Rattle.records.proofs.Records.has.Goals as goal

pub returns : goal.returns
returns c =
    let v = c.code.result in
    let w = c.args.code in
    c.same_code.ensures ∙ sym (same_unpacked v w (search rules) (search rules))
    ∙ ap (λ (bytes : List ℕ). same bytes (unpacked w)) c.code.ensures.code
