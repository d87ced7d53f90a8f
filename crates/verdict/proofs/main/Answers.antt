-- What is printed is within the text.
use Rattle.std.proofs.Common.{sym}
use Rattle.std.proofs.lemmas.List.{length-take-le}
use Rattle.verdict.proofs.Rooms.{printed_fits}
use Rattle.verdict.proofs.main.Goals as goal

pub slice_bounds-text-end : goal.slice_bounds-text-end
slice_bounds-text-end c = printed_fits c.verdict_text-printed.ensures

pub slice_bounds-write_all-end : goal.slice_bounds-write_all-end
slice_bounds-write_all-end c = sym (length-take-le _ _ (printed_fits c.verdict_text-printed.ensures))
