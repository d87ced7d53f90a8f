-- `Line::code`: the code's text is what its three words hold without the zeros at their end, and that is short.
-- Assumes nothing.
use Rattle.std.proofs.Common.{arith, ◌≡◌, ◌∙◌, ap, ◌∷◌, []}
use mathlib.Core.List.{append_assoc}
use Rattle.model.specs.Codes.{unpacked, unpadded}
use Rattle.lines.specs.Lines.{text_of}
use Rattle.lines.proofs.Figures.{unpacked_short}
use Rattle.lines.proofs.line.Line.code.Goals.{After-unpadded}
use Rattle.lines.proofs.line.Line.code.Goals as goal

code_is : (c : After-unpadded) → c.unpadded.result.now ≡ unpacked c.args.w
unfolding unpacked
code_is c = c.unpadded.ensures ∙ ap unpadded c.bytes_of.ensures

pub extend-requires : goal.extend-requires
extend-requires c = rw (code_is c) (omega (arith, unpacked_short c.args.w, c.push.ensures.room))

pub returns-clause-text : goal.returns-clause-text
returns-clause-text c =
    c.extend.ensures.text ∙ rw (c.push.ensures.text, code_is (goal.at.returns-clause-text c).After-unpadded) (append_assoc (text_of c.args.self) (32 ∷ []) (unpacked c.args.w))

pub returns-clause-room : goal.returns-clause-room
returns-clause-room c =
    rw (c.extend.ensures.room, code_is (goal.at.returns-clause-room c).After-unpadded) (omega (arith, unpacked_short c.args.w, c.push.ensures.room))
