-- What is wanted behind the bytes that were read ends within the stream.
use Rattle.std.proofs.Common.{arith, rules, ◌≤◌, ◌+◌, length}
use Rattle.input.proofs.Reading.{read_more, wanted_room}
use Rattle.input.proofs.read_wanted.Goals as goal

pub overflow_add-n : goal.overflow_add-n
overflow_add-n g c =
    let room : c.loop-wanted.n + c.wanted-more.result ≤ length c.args.stream.now =
    wanted_room _ _ _ _ c.loop-wanted.auto.stream c.loop-wanted.invariant.within (c.requires.fits _ _ c.wanted-more.ensures) in
    search rules

pub slice_bounds-read_some-end : goal.slice_bounds-read_some-end
slice_bounds-read_some-end g c =
    let room : c.loop-wanted.n + c.wanted-more.result ≤ length c.args.stream.now =
    wanted_room _ _ _ _ c.loop-wanted.auto.stream c.loop-wanted.invariant.within (c.requires.fits _ _ c.wanted-more.ensures) in
    search rules

pub loop-wanted-preserved : goal.loop-wanted-preserved
loop-wanted-preserved g c =
    let room : c.loop-wanted.n + c.wanted-more.result ≤ length c.args.stream.now =
    wanted_room _ _ _ _ c.loop-wanted.auto.stream c.loop-wanted.invariant.within (c.requires.fits _ _ c.wanted-more.ensures) in
    record {
      within = search rules;
      read = read_more _ _ _ c.loop-wanted.stream c.read_some-got.new.part _ _ _ (omega arith) (omega arith) c.loop-wanted.invariant.read c.read_some-got.ensures.bytes;
    }
