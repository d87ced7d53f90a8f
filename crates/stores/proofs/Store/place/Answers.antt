-- `Store::place` meets its contract: the place among the records is the place among the designs.
-- Assumes nothing.
use Rattle.stores.proofs.Designs.{words_found}
use Rattle.stores.proofs.Store.place.Goals as goal

pub returns : goal.returns
returns c =
    let r = c.records in
    words_found c.args.self.now.words.now r.result.size r.result.count r.result.words.now r.ensures.size r.ensures.count r.ensures.words
    c.args.code c.place_of.result c.place_of.ensures
