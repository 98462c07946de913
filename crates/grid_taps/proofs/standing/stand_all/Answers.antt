use Rattle.std.proofs.Common.{sym, ◌∙◌, subst, List}
use Rattle.std.proofs.lemmas.List.{take_all}
use Rattle.bias_file.specs.declared.record.PadAt.{PadAt}
use Rattle.grid_taps.specs.declared.on_piece.Nets.{Nets}
use Rattle.grid_taps.specs.Naming.{IsFirst}
use Rattle.grid_taps.specs.inside.Steps.{NumberAmong}
use Rattle.grid_taps.specs.inside.Standing.{AreNetsOf}
use Rattle.grid_taps.proofs.StandSteps.{IsNowhere, stood_on, stood_off, empty_by, some_by}
use Rattle.grid_taps.proofs.standing.stand_all.Goals as goal
use Rattle.grid_taps.proofs.standing.stand_all.Goals.{then-is_empty, else-is_empty}

pub loop-pad-preserved : goal.loop-pad-preserved
loop-pad-preserved c =
    let grid = c.args.grid.now in
    let tech = c.args.tech.now in
    let bias = c.args.bias.now in
    let lines = c.as_slice-pad-items.result.now in
    let i = c.loop-pad.pad-index in
    let on = c.in_ok-on.on.items in
    let nets_are = subst (λ (nets : Nets). AreNetsOf grid bias nets) (sym c.in_ok-on.ensures.same) c.loop-pad.invariant.nets_are in
    elim c.if-is_empty.branch [
      | then-is_empty w ↦
          rw w.off-is
          (rw w.lesser-off.ensures
          (stood_off grid tech bias c.loop-pad.nets c.stands_on.new.nets lines i c.pad-item.result c.loop-pad.pads.items on c.append.new.self.items c.loop-pad.off
          c.requires.supplied c.loop-pad-test.true c.pad-item.is nets_are c.in_ok-on.ensures.on (empty_by on c.in_ok-on.on.len c.in_ok-on.on.ok.0 (sym c.is_empty.ensures ∙ w.if-is_empty.true))
          c.in_ok-append.ensures.items c.loop-pad.invariant))
      | else-is_empty w ↦
          rw w.off-is
          (stood_on grid tech bias c.loop-pad.nets c.stands_on.new.nets lines i c.pad-item.result c.loop-pad.pads.items on c.append.new.self.items c.loop-pad.off
          c.loop-pad-test.true c.pad-item.is nets_are c.in_ok-on.ensures.on (some_by on c.in_ok-on.on.len c.in_ok-on.on.ok.0 (sym c.is_empty.ensures ∙ w.if-is_empty.false))
          c.in_ok-append.ensures.items c.loop-pad.invariant)
    ]

pub returns-clause-off : goal.returns-clause-off
returns-clause-off c =
    subst (λ (ps : List PadAt). IsFirst (NumberAmong (λ (p : PadAt). p.line) (IsNowhere c.args.grid.now c.args.tech.now) ps) c.loop-pad.off)
    (take_all c.loop-pad.pad-index c.as_slice-pad-items.result.now c.loop-pad-test.false ∙ c.as_slice-pad-items.ensures) c.loop-pad.invariant.first_off
