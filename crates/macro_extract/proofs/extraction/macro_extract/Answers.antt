use Rattle.std.proofs.Common.{List, subst, sym}
use Rattle.grid_network.specs.declared.error.ExtractError.{ExtractError}
use Rattle.grid_network.specs.declared.pad.PadOn.{PadOn}
use Rattle.grid_network.specs.declared.pad.Tap.{Tap}
use Rattle.grid_network.specs.Asked.{IsDrawing}
use Rattle.grid_extract.specs.Extraction.{AllStandWith, drawing_of}
use Rattle.grid_extract.specs.Laws.Answers.{pads_refused, taps_refused, all_stand, extracted, handed_on}
use Rattle.pin_taps.specs.Taps.{AreMacroTaps, IsMacroLoadOff}
use Rattle.macro_extract.specs.Extraction.{IsMacroExtractRefused}
use Rattle.macro_extract.proofs.Keeps.{grid_keeps, is_drawing}
use Rattle.macro_extract.proofs.extraction.macro_extract.Goals as goal

pub macro_taps-taps-requires-clause-drawn : goal.macro_taps-taps-requires-clause-drawn
macro_taps-taps-requires-clause-drawn c = grid_keeps c.args.drawn.now c.args.tech.now c.requires.drawn

pub pads-requires-clause-pieces : goal.pads-requires-clause-pieces
pads-requires-clause-pieces c = (grid_keeps c.args.drawn.now c.args.tech.now c.requires.drawn).pieces

pub returns-in-Err : goal.returns-in-Err
returns-in-Err c =
    let drawn = c.args.drawn.now in
    let tech = c.args.tech.now in
    let cells = c.args.cells.now in
    let design = c.args.design.now in
    let bias = c.args.bias.now in
    subst (λ (e : ExtractError). IsMacroExtractRefused drawn tech cells design bias e) (sym c.first_with.ensures)
    (pads_refused (IsMacroLoadOff drawn cells bias design.components) (AreMacroTaps drawn cells bias design.components)
    drawn.grid tech cells design bias c.in-Err.error c.macro_taps-taps.result c.in-Err.ensures c.macro_taps-taps.ensures)

pub returns-in_err-taps : goal.returns-in_err-taps
returns-in_err-taps c =
    let drawn = c.args.drawn.now in
    let tech = c.args.tech.now in
    let cells = c.args.cells.now in
    let design = c.args.design.now in
    let bias = c.args.bias.now in
    let IsOff = IsMacroLoadOff drawn cells bias design.components in
    let AreLoads = AreMacroTaps drawn cells bias design.components in
    handed_on IsOff AreLoads drawn.grid tech cells design bias c.from_residual.result c.in_err-taps.field-0.0 c.from_residual.ensures.1
    (taps_refused IsOff AreLoads drawn.grid tech cells design bias c.in-Ok.pads.items c.in_err-taps.field-0.0 c.in-Ok.ensures c.in_err-taps.ensures)

pub network-requires : goal.network-requires
network-requires c =
    let drawn = c.args.drawn.now in
    let tech = c.args.tech.now in
    subst (λ (pads : List PadOn). IsDrawing (drawing_of drawn.grid pads c.deref-2.result.now) tech) (sym c.deref.ensures.value)
    (subst (λ (taps : List Tap). IsDrawing (drawing_of drawn.grid c.in-Ok.pads.items taps) tech) (sym c.deref-2.ensures.value)
    (is_drawing drawn tech c.args.cells.now c.args.bias.now c.args.design.now.components c.in-Ok.pads.items c.in_ok-taps.taps.items c.requires.tech c.requires.drawn
    c.requires.bias c.in-Ok.ensures.are c.in_ok-taps.ensures.are))

pub returns : goal.returns
returns c =
    let drawn = c.args.drawn.now in
    let tech = c.args.tech.now in
    let cells = c.args.cells.now in
    let design = c.args.design.now in
    let bias = c.args.bias.now in
    let IsOff = IsMacroLoadOff drawn cells bias design.components in
    let AreLoads = AreMacroTaps drawn cells bias design.components in
    let stand = all_stand IsOff AreLoads drawn.grid tech cells design bias c.in-Ok.pads.items c.in_ok-taps.taps.items c.in-Ok.ensures c.in_ok-taps.ensures in
    let read = subst (λ (pads : List PadOn). AllStandWith IsOff AreLoads drawn.grid tech cells design bias pads c.deref-2.result.now) (sym c.deref.ensures.value)
    (subst (λ (taps : List Tap). AllStandWith IsOff AreLoads drawn.grid tech cells design bias c.in-Ok.pads.items taps) (sym c.deref-2.ensures.value) stand) in
    extracted IsOff AreLoads drawn.grid tech cells design bias c.deref.result.now c.deref-2.result.now c.network.result read c.network.ensures
