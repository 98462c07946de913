-- The layers and nets of a grid that is drawn of what was read have names of LEF and DEF.
use Rattle.std.proofs.Common.{All, sym, subst}
use Rattle.text_lex.specs.Name.{IsName}
use Rattle.grid_pieces.specs.declared.grid.Grid.{Grid}
use Rattle.network_texts.specs.Texts.{AreNames}
use Rattle.building.specs.declared.records.Records.{Records}
use Rattle.building.specs.Building.{IsGridOf}
use Rattle.building.specs.Laws.Naming.{nets_are_names}
use Rattle.building.specs.Reading.{RecordsKeep}

pub are_names : (r : Records) (grid : Grid) → RecordsKeep r → IsGridOf r grid → AreNames r.tech grid
are_names r grid keep is = record {
  layers = keep.layer_names;
  nets = subst (All IsName) (sym is.nets) (nets_are_names r.script keep.script is.plan.nets is.is_plan.plans.nets);
}
