use Rattle.texts.specs.Parts.{people_in, design_in, access_text}
use Rattle.texts.proofs.Growing.{Growing}
use Rattle.texts.proofs.Lines.{access_from}
use Rattle.texts.proofs.parts.put_access.Given as goal

abbrev pub invariant-loop-p : goal.invariant-loop-p
invariant-loop-p l =
    let people = people_in l.roster in
    let cells = (design_in l.design).cells in
    Growing (access_text people cells) l.at l.initial.text (access_from people cells l.roster.people l.p) l.end l.text
