use Rattle.std.proofs.Common.{arith, ◌≡◌, ◌∙◌, ◌≤◌, ◌+◌, ap, take, length, List, ℕ}
use Rattle.outside.proofs.Reading.{more_read}
use Rattle.outside.proofs.whole.read_whole.Goals as goal

pub loop-filled-preserved : goal.loop-filled-preserved
loop-filled-preserved g c =
    let filled = c.loop-filled.filled in
    let room = c.deref_mut.result.now in
    let into = c.read_at.new.into in
    let kept : take filled room ≡ take filled c.loop-filled.bytes.items = ap (λ (l : List ℕ). take filled l) c.deref_mut.ensures.value ∙ c.in_ok-make_room.ensures.kept in
    let fits : filled ≤ length room = omega (arith, c.deref_mut.ensures.len, c.in_ok-make_room.ensures.room) in
    let within : c.in_ok-count.count ≤ length into = omega (arith, c.in_ok-count.ensures.within) in
    let ends : filled + c.in_ok-count.count ≤ c.make_room.new.bytes.len = omega (arith, c.in_ok-count.ensures.within, c.deref_mut.ensures.len) in record {
      filled = ends;
      within = c.in_ok-make_room.ensures.within;
      read = more_read (g.F.Files.known c.args.files.now) (g.F.Files.known c.loop-filled.files) c.args.name.now c.loop-filled.bytes.items room into _ _ filled c.in_ok-count.count c.make_room.new.bytes.len c.loop-filled.invariant.kept c.loop-filled.invariant.read kept fits within ends c.in_ok-count.ensures.read;
      kept = c.read_at.ensures.kept ∙ c.loop-filled.invariant.kept;
      calm = c.in_ok-count.ensures.calm ∙ c.loop-filled.invariant.calm;
    }
