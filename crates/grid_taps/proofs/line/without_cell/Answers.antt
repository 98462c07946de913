use Rattle.std.proofs.Common.{ℕ, List, map, Option, subst, sym}
use Rattle.lef_cells.specs.declared.record.MacroCell.{MacroCell}
use Rattle.def_design.specs.declared.record.Component.{Component}
use Rattle.bias_file.specs.declared.record.Amps.{Amps}
use Rattle.grid_taps.specs.Naming.{IsFirst, NamesNone, NamesNoCell, macro_names, component_names}
use Rattle.grid_taps.proofs.Firsts.{first_either}
use Rattle.grid_taps.proofs.line.without_cell.Goals as goal

pub returns : goal.returns
returns c =
    let number : Amps → ℕ = λ (a : Amps). a.line in
    let name : Amps → List ℕ = λ (a : Amps). a.name in
    let by_macros = subst (λ (xs : List MacroCell). IsFirst (NamesNone number name (map (λ (z : MacroCell). z.name) xs) c.as_slice-2.result.now) c.in_ok-cell.cell) c.as_slice.ensures c.in_ok-cell.ensures in
    let cell = subst (λ (ls : List Amps). IsFirst (NamesNone number name (macro_names c.args.cells.now) ls) c.in_ok-cell.cell) c.as_slice-2.ensures by_macros in
    let by_components = subst (λ (xs : List Component). IsFirst (NamesNone number name (map (λ (z : Component). z.name) xs) c.as_slice-4.result.now) c.in_ok-instance.instance) c.as_slice-3.ensures c.in_ok-instance.ensures in
    let instance = subst (λ (ls : List Amps). IsFirst (NamesNone number name (component_names c.args.design.now) ls) c.in_ok-instance.instance) c.as_slice-4.ensures by_components in
    subst (λ (o : Option ℕ). IsFirst (NamesNoCell c.args.cells.now c.args.design.now c.args.bias.now) o) (sym c.lesser.ensures)
    (first_either (NamesNone number name (macro_names c.args.cells.now) c.args.bias.now.cells) (NamesNone number name (component_names c.args.design.now) c.args.bias.now.instances)
    c.in_ok-cell.cell c.in_ok-instance.instance cell instance)
