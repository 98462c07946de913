use Rattle.std.proofs.Common.{◌≡◌, All, inl, inr, sym, subst, ◌∙◌}
use Rattle.building.specs.Laws.Same.{same_outputs}
use Rattle.building.specs.Stages.{outputs_of}
use Rattle.def_writer.specs.Limits.{GridFits}
use Rattle.grid_limits.specs.Limits.{IsBranchOf}
use Rattle.grid_network.specs.Network.{IsNetworkOn}
use Rattle.grid_signing.specs.Basis.{Base, BaseKeeps}
use Rattle.grid_signing.specs.Checked.{SignsWith}
use Rattle.lef_tech.specs.declared.tech.Tech.{Tech}
use Rattle.macro_extract.specs.Extraction.{DrawnKeeps}
use Rattle.macro_grid.specs.declared.record.MacroGrid.{MacroGrid}
use Rattle.macro_grid.specs.Drawing.{all_blocks}
use Rattle.network_texts.specs.Texts.{AreNames}
use Rattle.via_arrays.specs.Lengths.{IsUnits}
use Rattle.macro_building.proofs.Naming.{said_of_drawn, base_keeps, are_names, network_on, signs_over}
use Rattle.macro_building.proofs.network.build_drawn.Goals as goal

pub macro_extract-requires-clause-drawn : goal.macro_extract-requires-clause-drawn
macro_extract-requires-clause-drawn g c =
    said_of_drawn DrawnKeeps c.args.records.now c.args.blocks.now c.args.drawn.now c.drawings_over_blocks_are_grids.ensures.keeps c.requires.keep c.requires.drawn c.requires.stands

pub sign_extracted-requires-clause-keep : goal.sign_extracted-requires-clause-keep
sign_extracted-requires-clause-keep g c = subst BaseKeeps (sym c.basis_of.ensures) (base_keeps c.args.records.now c.requires.keep)

pub sign_extracted-requires-clause-network : goal.sign_extracted-requires-clause-network
sign_extracted-requires-clause-network g c =
    let drawn = c.args.drawn.now in
    let e = c.in-Ok.extracted in
    subst (λ (b : Base). IsNetworkOn drawn.grid b.tech e) (sym c.basis_of.ensures) (network_on c.args.records.now drawn e c.in-Ok.ensures)

pub sign_extracted-requires-clause-units : goal.sign_extracted-requires-clause-units
sign_extracted-requires-clause-units g c =
    let keeps = said_of_drawn DrawnKeeps c.args.records.now c.args.blocks.now c.args.drawn.now c.drawings_over_blocks_are_grids.ensures.keeps c.requires.keep c.requires.drawn c.requires.stands in
    keeps.grid.units

pub sign_extracted-requires-clause-names : goal.sign_extracted-requires-clause-names
sign_extracted-requires-clause-names g c =
    let r = c.args.records.now in
    let drawn = c.args.drawn.now in
    let nets = c.nets_over_blocks_are_named.ensures.nets r.tech r.cells c.args.blocks.now r.design r.script drawn c.requires.drawn in
    subst (λ (b : Base). AreNames b.tech drawn.grid) (sym c.basis_of.ensures) (are_names r drawn.grid c.requires.keep nets)

pub sign_extracted-requires-clause-branches : goal.sign_extracted-requires-clause-branches
sign_extracted-requires-clause-branches g c =
    let r = c.args.records.now in
    let drawn = c.args.drawn.now in
    let is = c.requires.drawn in
    let e = c.in-Ok.extracted in
    let keeps = said_of_drawn DrawnKeeps r c.args.blocks.now drawn c.drawings_over_blocks_are_grids.ensures.keeps c.requires.keep is c.requires.stands in
    let units = subst IsUnits is.grid_is.units keeps.grid.units in
    subst (λ (b : Base). All (IsBranchOf b.tech drawn.grid) e.branches) (sym c.basis_of.ensures)
    (c.branches_are_of_the_grid.ensures.branches r.tech drawn.grid is.plan.connects (all_blocks r.tech is.plan is.placed) is.plan.units e c.requires.keep.tech units c.requires.stands.pieces is.stacks
    (network_on r drawn e c.in-Ok.ensures))

pub def_text-requires-clause-grid : goal.def_text-requires-clause-grid
def_text-requires-clause-grid g c =
    said_of_drawn (λ (drawn : MacroGrid) (tech : Tech). GridFits tech drawn.written) c.args.records.now c.args.blocks.now c.args.drawn.now c.drawings_over_blocks_are_grids.ensures.fits c.requires.keep c.requires.drawn c.requires.stands

pub returns-in-Err-clause-refused : goal.returns-in-Err-clause-refused
returns-in-Err-clause-refused g c =
    elim c.unextracted.ensures [ inl want ↦ inl (inl want) | inr told ↦ inl (inr (c.in-Err.error, c.in-Err.ensures, told)) ]

pub returns-in-Err-sign_extracted-clause-refused : goal.returns-in-Err-sign_extracted-clause-refused
returns-in-Err-sign_extracted-clause-refused g c = inr (c.in-Ok.extracted, c.in-Ok.ensures, c.in-Err-sign_extracted.ensures.refused)

pub returns-in-Ok-def_text-clause-built : goal.returns-in-Ok-def_text-clause-built
returns-in-Ok-def_text-clause-built g c =
    let told = g.V.Solver.told c.args.solver.now in
    let r = c.args.records.now in
    let drawn = c.args.drawn.now in
    let e = c.in-Ok.extracted in
    let signed = c.in-Ok-sign_extracted.signed in
    let signs = subst (λ (b : Base). SignsWith (λ d. d ≡ e) told b drawn.grid signed) c.basis_of.ensures c.in-Ok-sign_extracted.ensures.signed in
    let are = c.outputs_with.ensures in
    record {
      signed = signed;
      signs = signs_over told r drawn e signed c.in-Ok.ensures signs;
      are = same_outputs c.outputs_with.result (outputs_of r drawn.written signed) (are.def ∙ c.in-Ok-def_text.ensures) are.netlist are.certificate are.report are.numbers;
    }
