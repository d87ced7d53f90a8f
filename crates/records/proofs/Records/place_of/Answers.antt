-- `Records::place_of` meets its contract: the walk asks at each place, and ends at the first record with the code.
-- Assumes nothing.
use Rattle.std.proofs.Common.{rules, ◌≡◌, ◌+◌, ◌<◌, ℕ, true, false, [], Some, None, get_or, arith, ap, ◌∙◌}
use Rattle.std.specs.Option.{option_map}
use Rattle.std.proofs.iter.runs.Sources.{ranges, range_runs}
use Rattle.model.specs.Words.{same}
use Rattle.model.specs.Codes.{unpacked}
use Rattle.records.specs.Records.{codes_in}
use Rattle.records.proofs.Codes.{length-codes}
use Rattle.records.proofs.Places.{Everywhere, first_by_places}
use Rattle.records.proofs.Records.place_of.Goals as goal

pub returns : goal.returns
returns c =
    let r = c.args.self.now in
    let codes = codes_in r.size r.count r.words.now in
    let size = length-codes r.size r.count r.words.now in
    let code = unpacked c.args.code in
    let p = c.position.ensures.runs.0 in
    let up = range_runs p p.seen in
    let start : p.from.start ≡ 0 = ap (λ x. x.start) c.position.ensures.runs.1 in
    let end : p.from.end ≡ r.count = ap (λ x. x.end) c.position.ensures.runs.1 in
    let none : c.position.result ≡ None → Everywhere (λ x. same x code) codes [] r.count size false =
    λ e k l.
    let whole : p.whole ≡ true = search (rules, ranges) in
    let long : p.len ≡ r.count = omega (arith, up.1 whole, start, end) in
    let plus : p.from.start + k ≡ k = omega arith in
    let at : option_map (λ y. y) (p.at k) ≡ Some k = up.3 k (omega arith) ∙ ap Some plus in
    search (rules, ranges) in
    let here : (i : ℕ) → c.position.result ≡ Some i → (i < r.count) × (same (get_or codes i []) code ≡ true) = search (rules, ranges) in
    let before : (i : ℕ) → c.position.result ≡ Some i → (k : ℕ) → k < i → same (get_or codes k []) code ≡ false =
    λ i e k l.
    let long : p.len ≡ i + 1 = search (rules, ranges) in
    let plus : p.from.start + k ≡ k = omega arith in
    let at : option_map (λ y. y) (p.at k) ≡ Some k = up.3 k (omega arith) ∙ ap Some plus in
    search (rules, ranges) in
    first_by_places (λ x. same x code) codes [] r.count size c.position.result none here before
