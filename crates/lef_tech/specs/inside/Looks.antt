-- What a technology keeps: by its statements, and what is looked at in it once more, since no statement says it by itself.
use Rattle.std.specs.Prelude.{◌<◌, length, List, [], ◌∷◌}
use Rattle.lef_tech.specs.declared.layer.RoutingLayer.{RoutingLayer}
use Rattle.lef_tech.specs.declared.layer.CutLayer.{CutLayer}
use Rattle.lef_tech.specs.declared.rule.ViaRule.{ViaRule}
use Rattle.lef_tech.specs.declared.statement.Statement.{Statement}
use Rattle.lef_tech.specs.declared.statement.Statement.TheVariants.{Spacing, Resistance, Enclosure, Widths, Pitch}
use Rattle.lef_tech.specs.declared.tech.Tech.{Tech}
use Rattle.lef_tech.specs.Limits.{IsLength, IsArea, IsWireDensity, IsCutDensity, IsOhms, AreLengths, DensityKeeps}

-- The density of a routing layer, and that of a cut layer.
abbrev pub WireDensityKeeps : RoutingLayer → Type 0
WireDensityKeeps layer = DensityKeeps IsLength IsWireDensity layer.density

abbrev pub CutDensityKeeps : CutLayer → Type 0
CutDensityKeeps layer = DensityKeeps IsArea IsCutDensity layer.density

-- The upper layer of a rule and its cut layer stand in the technology.
abbrev pub LayersStand : Tech → ViaRule → Type 0
LayersStand tech rule = (rule.upper < length tech.routing) × (rule.cut < length tech.cuts)

-- The numbers of a statement that are asked the same wherever it stands.
abbrev pub StatementKeeps : Statement → Type 0
StatementKeeps (Spacing length) = IsLength length
StatementKeeps (Resistance value) = IsOhms value
StatementKeeps (Enclosure a b) = AreLengths (a, b)
StatementKeeps (Widths a b) = AreLengths (a, b)
StatementKeeps (Pitch a b) = AreLengths (a, b)
StatementKeeps _ = Unit {0}

-- Each of the statements keeps them.
abbrev pub StatementsKeep : List Statement → Type 0
StatementsKeep [] = Unit {0}
StatementsKeep (statement ∷ others) = StatementKeeps statement × StatementsKeep others
