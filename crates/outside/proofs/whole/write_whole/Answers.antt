use Rattle.std.proofs.Common.{arith, ◌∙◌}
use Rattle.std.proofs.lemmas.List.{take_rest}
use Rattle.outside.proofs.Writing.{more_written}
use Rattle.outside.proofs.whole.write_whole.Goals as goal

pub loop-added-preserved : goal.loop-added-preserved
loop-added-preserved g c =
    let appended = rw take_rest at c.in_ok-added.ensures.appended in record {
      within = omega (arith, c.in_ok-added.ensures.within);
      written = more_written c.args.name.now c.args.bytes.now c.loop-added.added c.in_ok-added.field-0 (g.F.Files.known c.args.files.now) (g.F.Files.known c.loop-added.files) (g.F.Files.known c.append.new.self) c.loop-added.invariant.written appended;
      calm = c.in_ok-added.ensures.calm ∙ c.loop-added.invariant.calm;
    }
