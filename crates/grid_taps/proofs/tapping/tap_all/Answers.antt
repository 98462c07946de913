use Rattle.std.proofs.Common.{Bool, true, List, sym, subst}
use Rattle.def_design.specs.declared.record.Component.{Component}
use Rattle.grid_taps.specs.Naming.{At, IsLeast}
use Rattle.grid_taps.specs.Taps.{IsLoadOff}
use Rattle.grid_taps.specs.Tables.{AddsTaps, IsOff}
use Rattle.grid_taps.specs.inside.Tapping.{AreAllTapped}
use Rattle.grid_taps.proofs.TapSteps.{tapped_more, first_off, tapped_all}
use Rattle.grid_taps.proofs.tapping.tap_all.Goals as goal

pub returns-then-not-branch : goal.returns-then-not-branch
returns-then-not-branch c =
    let grid = c.args.grid.now in
    let cells = c.args.cells.now in
    let bias = c.args.bias.now in
    let components = c.as_slice-components.result.now in
    let i = c.loop-number.number in
    let component = c.index-components-number.result in
    let at : At components i component = (c.loop-number-test.true, sym c.index-components-number.is) in
    let off : IsOff grid cells bias component =
    subst (λ (b : Bool). AddsTaps grid cells bias component c.loop-number.taps.items c.add_taps.new.taps.items b) c.if-not-branch.true c.in_ok-add_taps.ensures.taps in
    subst (λ (cs : List Component). IsLeast (IsLoadOff grid cells bias cs) i) c.as_slice-components.ensures
    (first_off grid cells bias c.loop-number.tables components i component c.loop-number.taps.items at off c.loop-number.invariant)

pub loop-number-preserved : goal.loop-number-preserved
loop-number-preserved c =
    let grid = c.args.grid.now in
    let cells = c.args.cells.now in
    let bias = c.args.bias.now in
    let components = c.as_slice-components.result.now in
    let i = c.loop-number.number in
    let component = c.index-components-number.result in
    let at : At components i component = (c.loop-number-test.true, sym c.index-components-number.is) in
    let adds : AddsTaps grid cells bias component c.loop-number.taps.items c.add_taps.new.taps.items true =
    subst (λ (b : Bool). AddsTaps grid cells bias component c.loop-number.taps.items c.add_taps.new.taps.items b) c.if-not-branch.false c.in_ok-add_taps.ensures.taps in
    tapped_more grid cells bias c.loop-number.tables c.add_taps.new.tables components i component c.loop-number.taps.items c.add_taps.new.taps.items c.requires.cells
    c.requires.bias at c.in_ok-add_taps.ensures.same adds c.loop-number.invariant

pub returns : goal.returns
returns c =
    subst (λ (cs : List Component). AreAllTapped c.args.grid.now c.args.cells.now c.args.bias.now cs c.loop-number.taps.items) c.as_slice-components.ensures
    (tapped_all c.args.grid.now c.args.cells.now c.args.bias.now c.loop-number.tables c.as_slice-components.result.now c.loop-number.number c.loop-number.taps.items
    c.loop-number-test.false c.loop-number.invariant)
