-- What a list of requests, answered one after the other, gives.
-- Assumes nothing.
use Rattle.std.specs.Prelude.{ℕ, ◌≡◌, List}
use Rattle.model.specs.Words.{written_over}
use Rattle.model.specs.Stores.{store_words}
use Rattle.model.specs.Requests.{Request, batch_numbers, batched, count_done}
use Rattle.model.specs.Outcomes.{Handed, people_in, designs_in}

-- the requests are answered one after the other: those answered 0, the words of the store, and a byte for each answer
pub record AllAnswered (h : Handed) (qs : List Request) (answers : List ℕ) (done : ℕ) (store_exit answers_exit : List ℕ) : Type 0 where
  pub done_is : done ≡ count_done (batch_numbers h.scheme (people_in h) (designs_in h) qs)
  pub store_is : store_exit ≡ store_words (batched h.scheme (people_in h) (designs_in h) qs) h.store
  pub answers_are : answers_exit ≡ written_over (batch_numbers h.scheme (people_in h) (designs_in h) qs) answers
