use Rattle.std.proofs.Common.{◌≤◌, length, subst, arith, refl, ap, Err, ◌∙◌, sym}
use Rattle.std.proofs.lemmas.List.{take_all, length-map}
use Rattle.outside.specs.Known.{WhereKnown}
use Rattle.output_files.specs.declared.output.Output.{Output}
use Rattle.output_files.specs.Outputs.{Texts, texts, HoldEach}
use Rattle.output_files.proofs.Growing.{none_known, more_known, stop_known, failed}
use Rattle.output_files.proofs.writing.write_each.Goals as goal

pub loop-place-init : goal.loop-place-init
loop-place-init g c = record { written = none_known (texts c.args.outputs.now) (g.F.Files.known c.args.files.now); calm = refl }

pub loop-place-preserved : goal.loop-place-preserved
loop-place-preserved g c = record {
  written = more_known c.args.outputs.now c.loop-place.place _ c.loop-place-test.true c.requires (g.F.Files.known c.args.files.now) (g.F.Files.known c.loop-place.files) (g.F.Files.known c.write_whole.new.files)
      c.loop-place.invariant.written c.in_default.ensures.written;
  calm = c.in_default.ensures.calm ∙ c.loop-place.invariant.calm;
}

pub returns-in-Err-clause-stopped : goal.returns-in-Err-clause-stopped
returns-in-Err-clause-stopped g c =
    stop_known c.args.outputs.now c.loop-place.place _ c.loop-place-test.true c.requires (g.F.Files.known c.args.files.now) (g.F.Files.known c.loop-place.files) (g.F.Files.known c.write_whole.new.files)
    c.loop-place.invariant.written c.in-Err.ensures.part

pub returns-in-Err-clause-fault : goal.returns-in-Err-clause-fault
returns-in-Err-clause-fault g c = λ is.
    failed c.args.outputs.now c.loop-place.place _ c.loop-place-test.true (g.F.Files.known c.args.files.now) (g.F.Files.known c.loop-place.files) (g.F.Files.counts c.args.files.now) (g.F.Files.counts c.loop-place.files)
    (g.F.Files.counts c.write_whole.new.files) c.loop-place.invariant.calm c.loop-place.invariant.written (c.in-Err.ensures.fault (ap Err is)) (c.in-Err.ensures.fault_of_name (ap Err is)) c.in-Err.ensures.only

pub returns-clause-written : goal.returns-clause-written
returns-clause-written g c =
    let all = texts c.args.outputs.now in
    let end : length all ≤ c.loop-place.place = subst (λ n. n ≤ c.loop-place.place) (sym (length-map c.args.outputs.now (λ (o : Output). (o.file.now, o.text.now)))) (omega arith) in
    subst (λ (some : Texts). WhereKnown (HoldEach some) (g.F.Files.known c.args.files.now) (g.F.Files.known c.loop-place.files)) (take_all c.loop-place.place all end) c.loop-place.invariant.written

pub returns-clause-calm : goal.returns-clause-calm
returns-clause-calm g c = c.loop-place.invariant.calm
