use lib.ListN.{drop}
use Rattle.texts.specs.Parts.{people_in, designs_in, designs_text}
use Rattle.texts.proofs.Growing.{Growing}
use Rattle.texts.proofs.parts.put_designs.Given as goal

abbrev pub invariant-loop-place : goal.invariant-loop-place
invariant-loop-place l =
    let people = people_in l.roster in
    let designs = designs_in l.store in
    Growing (designs_text people designs) l.at l.initial.text (designs_text people (drop l.place designs)) l.end l.text
