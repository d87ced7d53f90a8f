-- The request that a record hands over.
-- Assumes nothing.
use Rattle.model.specs.Requests as Asked
use Rattle.cards.specs.declared.batch.Request.{Request}

abbrev pub request_in : Request → Asked.Request
request_in q = record { command = q.command; source = q.source; destination = q.destination; code = q.code.now }
