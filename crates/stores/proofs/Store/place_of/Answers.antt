-- `Store::place_of` meets its contract: a code that is spelled right is read again from the words that it is packed into.
-- Assumes nothing.
use Rattle.stores.proofs.Designs.{place_packed}
use Rattle.stores.proofs.Store.place_of.Goals as goal

pub returns : goal.returns
returns c = place_packed c.args.self.now.words.now c.args.code.now c.requires c.pack.result c.pack.ensures c.place.result c.place.ensures
