-- `Store::designs_fit` meets its contract: the walk asks at each place, and ends at the first design that doesn't fit.
-- Assumes nothing.
use Rattle.std.proofs.Common.{rules, ◌≡◌, ◌+◌, true, false, Some, arith, ap, sym, ◌∙◌}
use Rattle.std.specs.Option.{option_map}
use Rattle.std.proofs.iter.runs.Sources.{ranges, range_runs}
use Rattle.model.specs.Stores.{no_design, fits_design, store_of}
use Rattle.records.proofs.Places.{Everywhere, Somewhere, all_by_places}
use Rattle.stores.proofs.Store.designs_fit.Goals as goal

pub returns : goal.returns
returns c =
    let designs = store_of c.args.self.now.words.now in
    let fits = fits_design c.args.kinds c.args.rights c.args.people in
    let p = c.all.ensures.runs.0 in
    let up = range_runs p p.seen in
    let start : p.from.start ≡ 0 = ap (λ x. x.start) c.all.ensures.runs.1 in
    let end : p.from.end ≡ c.count.result = ap (λ x. x.end) c.all.ensures.runs.1 in
    let passes : c.all.result ≡ true → Everywhere fits designs no_design c.count.result (sym c.count.ensures) true =
    λ e k l.
    let whole : p.whole ≡ true = search (rules, ranges) in
    let long : p.len ≡ c.count.result = omega (arith, up.1 whole, start, end) in
    let plus : p.from.start + k ≡ k = omega arith in
    let at : option_map (λ y. y) (p.at k) ≡ Some k = up.3 k (omega arith) ∙ ap Some plus in
    search (rules, ranges) in
    let fails : c.all.result ≡ false → Somewhere fits designs no_design c.count.result (sym c.count.ensures) false = search (rules, ranges) in
    all_by_places fits designs no_design c.count.result (sym c.count.ensures) c.all.result passes fails
