-- `Roster::some_type_out` meets its contract: the walk asks at each place, and ends at the first type that is out of range.
-- Assumes nothing.
use Rattle.std.proofs.Common.{rules, ◌≡◌, ◌+◌, true, false, Some, arith, ap, ◌∙◌}
use Rattle.std.specs.Option.{option_map}
use Rattle.std.proofs.iter.runs.Sources.{ranges, range_runs}
use Rattle.model.specs.Rosters.{nobody, roster_of}
use Rattle.records.proofs.Places.{Everywhere, Somewhere, any_by_places}
use Rattle.rosters.proofs.People.{out, length-roster}
use Rattle.rosters.proofs.Roster.some_type_out.Goals as goal

pub returns : goal.returns
returns c =
    let r = c.args.self.now in
    let people = roster_of r.people r.words.now in
    let size = length-roster r.people r.words.now in
    let types = c.args.types in
    let p = c.any.ensures.runs.0 in
    let up = range_runs p p.seen in
    let start : p.from.start ≡ 0 = ap (λ x. x.start) c.any.ensures.runs.1 in
    let end : p.from.end ≡ r.people = ap (λ x. x.end) c.any.ensures.runs.1 in
    let passes : c.any.result ≡ true → Somewhere (out types) people nobody r.people size true = search (rules, ranges) in
    let fails : c.any.result ≡ false → Everywhere (out types) people nobody r.people size false =
    λ e k l.
    let whole : p.whole ≡ true = search (rules, ranges) in
    let long : p.len ≡ r.people = omega (arith, up.1 whole, start, end) in
    let plus : p.from.start + k ≡ k = omega arith in
    let at : option_map (λ y. y) (p.at k) ≡ Some k = up.3 k (omega arith) ∙ ap Some plus in
    search (rules, ranges) in
    any_by_places (out types) people nobody r.people size c.any.result passes fails
