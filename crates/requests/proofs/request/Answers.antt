-- `requests::request` meets its contract: what is handed over is checked in the definition's order, and then the request is answered.
-- Assumes nothing.
use borrow.Author.Rules.{rules}
use Rattle.requests.proofs.Answering.{answered_is}
use Rattle.requests.proofs.request.Goals as goal

pub returns : goal.returns
returns c = answered_is _ _ (search rules) (search rules) (λ i. search rules) _ _ c.answered.ensures
