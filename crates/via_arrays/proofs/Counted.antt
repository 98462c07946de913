-- Counts and arrays by the lengths of a rule along an axis.
use Rattle.std.proofs.Common.{◌≡◌, ℕ, max, subst, ◌∙◌, ap}
use Rattle.geom_rect.specs.declared.direction.Axis.{Axis}
use Rattle.geom_rect.specs.declared.direction.Axis.TheVariants.{X, Y}
use Rattle.geom_rect.specs.declared.rect.Rect.{Rect}
use Rattle.lef_tech.specs.declared.rule.ViaRule.{ViaRule}
use Rattle.lef_tech.specs.declared.tech.Tech.{Tech}
use Rattle.via_arrays.specs.declared.cuts.Along.{Along}
use Rattle.via_arrays.specs.declared.parts.CutArray.{CutArray}
use Rattle.via_arrays.specs.Extents.{extent}
use Rattle.via_arrays.specs.Cuts.{IsMost}
use Rattle.via_arrays.specs.Arrays.{IsCount, array_of}
use Rattle.via_arrays.specs.inside.Cuts.{lengths_along, array_along}

-- The greatest number for an extent and lengths is that of the crossing and the rule.
pub count_is : (tech : Tech) (rule : ViaRule) (units : ℕ) (axis : Axis) (crossing : Rect) (limit n reach : ℕ) (along : Along) → reach ≡ extent axis crossing
    → along ≡ lengths_along tech rule units axis → IsMost limit reach along.cut along.pitch (max along.lower along.upper) n → IsCount tech rule units axis crossing limit n
count_is tech rule units axis crossing limit n reach along of_crossing of_rule most =
    subst (λ (a : Along). IsMost limit (extent axis crossing) a.cut a.pitch (max a.lower a.upper) n) of_rule
    (subst (λ r. IsMost limit r along.cut along.pitch (max along.lower along.upper) n) of_crossing most)

-- The array of the lengths along both axes is that of the rule.
pub array_is : (tech : Tech) (rule : ViaRule) (units place columns rows : ℕ) (in_x in_y : Along) (array : CutArray) → in_x ≡ lengths_along tech rule units X
    → in_y ≡ lengths_along tech rule units Y → array ≡ array_along place columns rows in_x in_y → array ≡ array_of tech rule units place columns rows
array_is tech rule units place columns rows in_x in_y array of_x of_y is =
    is ∙ ap (λ (a : Along). array_along place columns rows a in_y) of_x ∙ ap (λ (a : Along). array_along place columns rows (lengths_along tech rule units X) a) of_y
