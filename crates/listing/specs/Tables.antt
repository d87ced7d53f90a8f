-- The rows that stand in a table, as a list of rows.
-- Assumes nothing.
use Rattle.std.specs.Prelude.{List}
use Rattle.model.specs.Words.{groups}
use Rattle.model.specs.Sizes.{row_words}
use Rattle.model.specs.Listing.{Row}
use Rattle.listing.specs.declared.rows.Rows.{Rows}

abbrev pub rows_of : Rows → List Row
rows_of rows = groups row_words rows.count rows.table.now
