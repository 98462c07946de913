use Rattle.std.proofs.Common.{List, Ok, Err, subst, sym}
use Rattle.grid_network.specs.declared.error.ExtractError.{ExtractError}
use Rattle.grid_network.specs.declared.pad.PadOn.{PadOn}
use Rattle.grid_network.specs.declared.pad.Tap.{Tap}
use Rattle.grid_network.specs.Asked.{IsDrawing}
use Rattle.grid_extract.specs.Extraction.{AllStandWith, drawing_of, IsExtractRefused}
use Rattle.grid_taps.specs.Taps.{AreTaps, IsLoadOff}
use Rattle.grid_extract.specs.Laws.OnPieces.{is_drawing}
use Rattle.grid_extract.specs.Laws.Answers.{pads_refused, taps_refused, all_stand, extracted, handed_on}
use Rattle.grid_extract.proofs.extraction.extract.Goals as goal

pub returns-in-Err : goal.returns-in-Err
returns-in-Err c =
    subst (λ (e : ExtractError). IsExtractRefused c.args.grid.now c.args.tech.now c.args.cells.now c.args.design.now c.args.bias.now e) (sym c.first_with.ensures)
    (pads_refused (IsLoadOff c.args.grid.now c.args.cells.now c.args.bias.now c.args.design.now.components) (AreTaps c.args.grid.now c.args.cells.now c.args.bias.now c.args.design.now.components)
    c.args.grid.now c.args.tech.now c.args.cells.now c.args.design.now c.args.bias.now c.in-Err.error c.taps-taps.result c.in-Err.ensures c.taps-taps.ensures)

pub returns-in_err-taps : goal.returns-in_err-taps
returns-in_err-taps c =
    handed_on (IsLoadOff c.args.grid.now c.args.cells.now c.args.bias.now c.args.design.now.components) (AreTaps c.args.grid.now c.args.cells.now c.args.bias.now c.args.design.now.components)
    c.args.grid.now c.args.tech.now c.args.cells.now c.args.design.now c.args.bias.now c.from_residual.result c.in_err-taps.field-0.0 c.from_residual.ensures.1
    (taps_refused (IsLoadOff c.args.grid.now c.args.cells.now c.args.bias.now c.args.design.now.components) (AreTaps c.args.grid.now c.args.cells.now c.args.bias.now c.args.design.now.components)
    c.args.grid.now c.args.tech.now c.args.cells.now c.args.design.now c.args.bias.now c.in-Ok.pads.items c.in_err-taps.field-0.0 c.in-Ok.ensures c.in_err-taps.ensures)

pub network-requires : goal.network-requires
network-requires c =
    subst (λ (pads : List PadOn). IsDrawing (drawing_of c.args.grid.now pads c.deref-2.result.now) c.args.tech.now) (sym c.deref.ensures.value)
    (subst (λ (taps : List Tap). IsDrawing (drawing_of c.args.grid.now c.in-Ok.pads.items taps) c.args.tech.now) (sym c.deref-2.ensures.value)
    (is_drawing c.args.grid.now c.args.tech.now c.args.cells.now c.args.bias.now c.args.design.now.components c.in-Ok.pads.items c.in_ok-taps.taps.items c.requires.tech c.requires.grid
    c.requires.bias c.in-Ok.ensures.are c.in_ok-taps.ensures.are))

pub returns : goal.returns
returns c =
    let grid = c.args.grid.now in
    let tech = c.args.tech.now in
    let cells = c.args.cells.now in
    let design = c.args.design.now in
    let bias = c.args.bias.now in
    let IsOff = IsLoadOff grid cells bias design.components in
    let AreLoads = AreTaps grid cells bias design.components in
    let stand = all_stand IsOff AreLoads grid tech cells design bias c.in-Ok.pads.items c.in_ok-taps.taps.items c.in-Ok.ensures c.in_ok-taps.ensures in
    let read = subst (λ (pads : List PadOn). AllStandWith IsOff AreLoads grid tech cells design bias pads c.deref-2.result.now) (sym c.deref.ensures.value)
    (subst (λ (taps : List Tap). AllStandWith IsOff AreLoads grid tech cells design bias c.in-Ok.pads.items taps) (sym c.deref-2.ensures.value) stand) in
    extracted IsOff AreLoads grid tech cells design bias c.deref.result.now c.deref-2.result.now c.network.result read c.network.ensures
