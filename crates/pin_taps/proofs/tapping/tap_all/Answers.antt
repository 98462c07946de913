use Rattle.std.proofs.Common.{Bool, true, List, sym, subst}
use Rattle.def_design.specs.declared.record.Component.{Component}
use Rattle.grid_taps.specs.Naming.{At, IsLeast}
use Rattle.pin_taps.specs.Taps.{IsMacroLoadOff}
use Rattle.pin_taps.specs.inside.Tapping.{AddsTaps, AreAllTapped, IsOff}
use Rattle.pin_taps.proofs.TapSteps.{tapped_more, first_off, tapped_all}
use Rattle.pin_taps.proofs.tapping.tap_all.Goals as goal

pub returns-then-not-branch : goal.returns-then-not-branch
returns-then-not-branch c =
    let drawn = c.args.drawn.now in
    let cells = c.args.cells.now in
    let bias = c.args.bias.now in
    let components = c.as_slice-components.result.now in
    let i = c.loop-place.place in
    let component = c.index-components-place.result in
    let at : At components i component = (c.loop-place-test.true, sym c.index-components-place.is) in
    let off : IsOff drawn cells bias i component =
    subst (λ (b : Bool). AddsTaps drawn cells bias i component c.loop-place.taps.items c.tap_one.new.taps.items b) c.if-not-branch.true c.in_ok-tap_one.ensures.taps in
    subst (λ (cs : List Component). IsLeast (IsMacroLoadOff drawn cells bias cs) i) c.as_slice-components.ensures
    (first_off drawn cells bias c.loop-place.tables components i component c.loop-place.taps.items at off c.loop-place.invariant)

pub loop-place-preserved : goal.loop-place-preserved
loop-place-preserved c =
    let drawn = c.args.drawn.now in
    let cells = c.args.cells.now in
    let bias = c.args.bias.now in
    let components = c.as_slice-components.result.now in
    let i = c.loop-place.place in
    let component = c.index-components-place.result in
    let at : At components i component = (c.loop-place-test.true, sym c.index-components-place.is) in
    let adds : AddsTaps drawn cells bias i component c.loop-place.taps.items c.tap_one.new.taps.items true =
    subst (λ (b : Bool). AddsTaps drawn cells bias i component c.loop-place.taps.items c.tap_one.new.taps.items b) c.if-not-branch.false c.in_ok-tap_one.ensures.taps in
    tapped_more drawn cells bias c.loop-place.tables c.tap_one.new.tables components i component c.loop-place.taps.items c.tap_one.new.taps.items c.requires.cells
    c.requires.bias at c.in_ok-tap_one.ensures.same adds c.loop-place.invariant

pub returns : goal.returns
returns c =
    subst (λ (cs : List Component). AreAllTapped c.args.drawn.now c.args.cells.now c.args.bias.now cs c.loop-place.taps.items) c.as_slice-components.ensures
    (tapped_all c.args.drawn.now c.args.cells.now c.args.bias.now c.loop-place.tables c.as_slice-components.result.now c.loop-place.place c.loop-place.taps.items
    c.loop-place-test.false c.loop-place.invariant)
