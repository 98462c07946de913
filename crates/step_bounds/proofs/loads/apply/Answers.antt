use Rattle.std.proofs.Common.{◌≡◌, ◌∙◌, ◌<◌, ap, pos, List, length, get_or, set, rules, to_z, of_z, to_z-of_z, SFits}
use mir.Syntax.{w64}
use Rattle.std.proofs.lemmas.List.{take_all}
use Rattle.grid_net.specs.declared.part.Load.{Load}
use Rattle.wave_file.specs.declared.record.Change.{Change}
use Rattle.step_bounds.specs.inside.Loads.{loads_after}
use Rattle.step_bounds.proofs.Course.{apply_next}
use Rattle.step_bounds.proofs.loads.apply.Goals as goal

abbrev no_change : Change
no_change = record { step = 0; node = 0; low = pos 0; high = pos 0 }

pub loop-change-preserved : goal.loop-change-preserved
loop-change-preserved c = λ f e.
    let cs = c.args.changes.now in
    let k = c.loop-change.change-index in
    let x = get_or cs k no_change in
    let n = length c.args.loads.now in
    let here : x.node < n = c.requires k no_change c.loop-change-test.true in
    let fl : SFits w64 x.low = search rules in
    let fh : SFits w64 x.high = search rules in
    let low : to_z w64 (of_z w64 x.low) ≡ x.low = to_z-of_z fl in
    let high : to_z w64 (of_z w64 x.high) ≡ x.high = to_z-of_z fh in
    ap (λ (l : Load). set c.loop-change.loads x.node l) (λ i. record { node = x.node; low = low i; high = high i })
    ∙ apply_next f cs k no_change c.loop-change-test.true n c.loop-change.loads (c.loop-change.invariant f e) here

pub returns : goal.returns
returns c = λ f e.
    c.loop-change.invariant f e
    ∙ ap (λ (ds : List Change). loads_after f ds (length c.args.loads.now)) (take_all c.loop-change.change-index c.args.changes.now c.loop-change-test.false)
