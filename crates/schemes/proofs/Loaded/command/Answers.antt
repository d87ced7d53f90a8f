-- `schemes::Loaded::command` meets its contract: of a scheme that is kept whole, the place in the kept commands is the place in the scheme.
-- Assumes nothing.
use Rattle.std.proofs.Common.{rules, ◌≡◌, length, ◌∙◌}
use Rattle.schemes.proofs.Loads.{looked_up}
use Rattle.schemes.proofs.Loaded.command.Goals as goal

pub returns : goal.returns
returns c =
    let l = c.args.self.now in
    let i = c.args.i in
    let whole : length l.commands ≡ 64 = search rules in
    c.copied.ensures ∙ looked_up l whole c.requires i c.kept.ensures c.get.result (search rules) (search rules)
