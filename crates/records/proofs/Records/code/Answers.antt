-- `Records::code` meets its contract: a record's code stands behind its first word.
-- Assumes nothing.
use mathlib.Core.Path.{sym, ap, ◌∙◌}
use Rattle.model.specs.Codes.{unpacked}
use Rattle.records.proofs.Codes.{code_at_lem}
use Rattle.records.proofs.Records.code.Goals as goal

pub returns-clause-code : goal.returns-clause-code
returns-clause-code c =
    let r = c.args.self.now in
    ap unpacked c.code_in.ensures ∙ sym (code_at_lem r.size r.count r.words.now r.coded c.args.i c.requires)
