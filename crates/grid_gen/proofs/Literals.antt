-- The fixed texts of the code are those of the definitions.
use Rattle.std.proofs.Common.{◌≡◌, refl}
use Rattle.grid_gen.specs.declared.fixed.TheConstants.{TECHNOLOGY, CELLS, SCRIPT, SUPPLIES, UNITS, END}
use Rattle.grid_gen.specs.Fixed.{technology_text, cells_text, script_text, supply_lines, units_lines, end_lines}

pub technology_is : TECHNOLOGY.now ≡ technology_text
unfolding technology_text
technology_is = refl

pub cells_is : CELLS.now ≡ cells_text
unfolding cells_text
cells_is = refl

pub script_is : SCRIPT.now ≡ script_text
unfolding script_text
script_is = refl

pub supplies_is : SUPPLIES.now ≡ supply_lines
unfolding supply_lines
supplies_is = refl

pub units_is : UNITS.now ≡ units_lines
unfolding units_lines
units_is = refl

pub end_is : END.now ≡ end_lines
unfolding end_lines
end_is = refl
