-- `Records::all_spelled` meets its contract: the walk asks at each place, and ends at the first code that isn't spelled right.
-- Assumes nothing.
use Rattle.std.proofs.Common.{rules, ◌≡◌, ◌+◌, true, false, [], Some, arith, ap, ◌∙◌}
use Rattle.std.specs.Option.{option_map}
use Rattle.std.proofs.iter.runs.Sources.{ranges, range_runs}
use Rattle.model.specs.Codes.{spelled}
use Rattle.records.specs.Records.{codes_in}
use Rattle.records.proofs.Codes.{length-codes}
use Rattle.records.proofs.Places.{Everywhere, Somewhere, all_by_places}
use Rattle.records.proofs.Records.all_spelled.Goals as goal

pub returns : goal.returns
returns c =
    let r = c.args.self.now in
    let codes = codes_in r.size r.count r.words.now in
    let size = length-codes r.size r.count r.words.now in
    let p = c.all.ensures.runs.0 in
    let up = range_runs p p.seen in
    let start : p.from.start ≡ 0 = ap (λ x. x.start) c.all.ensures.runs.1 in
    let end : p.from.end ≡ r.count = ap (λ x. x.end) c.all.ensures.runs.1 in
    let passes : c.all.result ≡ true → Everywhere spelled codes [] r.count size true =
    λ e k l.
    let whole : p.whole ≡ true = search (rules, ranges) in
    let long : p.len ≡ r.count = omega (arith, up.1 whole, start, end) in
    let plus : p.from.start + k ≡ k = omega arith in
    let at : option_map (λ y. y) (p.at k) ≡ Some k = up.3 k (omega arith) ∙ ap Some plus in
    search (rules, ranges) in
    let fails : c.all.result ≡ false → Somewhere spelled codes [] r.count size false = search (rules, ranges) in
    all_by_places spelled codes [] r.count size c.all.result passes fails
