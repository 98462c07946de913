use Rattle.std.proofs.Common.{◌≡◌, refl, sym, ap, subst, ◌∙◌, arith}
use Rattle.std.proofs.lemmas.Result.{IfOk-weaker}
use Rattle.building.specs.Building.{base_of}
use Rattle.building.specs.Laws.Same.{same_outputs}
use Rattle.building.specs.Stages.{outputs_of}
use Rattle.building.proofs.Naming.{are_names}
use Rattle.grid_signing.specs.Basis.{Base, BaseKeeps}
use Rattle.grid_signing.specs.Checked.{Signs}
use Rattle.grid_signing.specs.Refusal.{IsUnsigned}
use Rattle.grid_signing.specs.Signing.{CanBeSigned}
use Rattle.building.proofs.whole.build_grid.Goals as goal

pub sign_grid-requires-clause-keep : goal.sign_grid-requires-clause-keep
sign_grid-requires-clause-keep g c =
    let keep = c.requires.keep in
    subst BaseKeeps (sym c.basis_of.ensures) (record { tech = keep.tech; cells = keep.cells; design = keep.design; bias = keep.bias })

pub sign_grid-requires-clause-grid : goal.sign_grid-requires-clause-grid
sign_grid-requires-clause-grid g c =
    let r = c.args.records.now in
    let grid = c.args.grid.now in
    let keep = c.requires.keep in
    let stands = c.requires.stands in
    let drawing = c.requires.grid in
    let keeps = c.drawings_are_grids.ensures.keeps r.tech r.cells r.design r.script grid keep.tech keep.cells keep.design keep.script drawing stands.pieces stands.stacks stands.few_pieces stands.few_stacks in
    let same = drawing.units in
    let least = keeps.units.0 in
    let most = keeps.units.1 in
    let can : CanBeSigned (base_of r) grid = record {
      keeps = keeps;
      names = are_names r grid keep drawing;
      branches = λ e is. c.branches_are_of_the_grid.ensures.branches r.tech grid drawing.plan.connects drawing.plan.blocks drawing.plan.units e keep.tech (omega arith, omega arith) stands.pieces drawing.stacks
          (record { pads = is.pads; taps = is.taps; network = is.network });
    } in
    subst (λ (b : Base). CanBeSigned b grid) (sym c.basis_of.ensures) can

pub def_text-requires-clause-grid : goal.def_text-requires-clause-grid
def_text-requires-clause-grid g c =
    let r = c.args.records.now in
    let keep = c.requires.keep in
    let stands = c.requires.stands in
    c.drawings_are_grids.ensures.fits r.tech r.cells r.design r.script c.args.grid.now keep.tech keep.cells keep.design keep.script c.requires.grid stands.pieces stands.stacks stands.few_pieces stands.few_stacks

pub returns-in-Ok-def_text-clause-built : goal.returns-in-Ok-def_text-clause-built
returns-in-Ok-def_text-clause-built g c =
    let told = g.V.Solver.told c.args.solver.now in
    let r = c.args.records.now in
    let grid = c.args.grid.now in
    let signed = c.in-Ok.signed in
    let signs = subst (λ (b : Base). Signs told b grid signed) c.basis_of.ensures c.in-Ok.ensures.signed in
    let are = c.outputs_with.ensures in
    (signed, signs, same_outputs c.outputs_with.result (outputs_of r grid signed) (are.def ∙ c.in-Ok-def_text.ensures) are.netlist are.certificate are.report are.numbers)

pub returns-in-Err-clause-refused : goal.returns-in-Err-clause-refused
returns-in-Err-clause-refused g c = subst (λ (b : Base). IsUnsigned b c.args.grid.now c.in-Err.answer) c.basis_of.ensures c.in-Err.ensures.refused
