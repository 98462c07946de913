-- A plan over names, and what refuses it.
use Rattle.std.specs.Prelude.{◌≡◌, ◌⊎◌, Some, None}
use Rattle.lef_tech.specs.declared.tech.Tech.{Tech}
use Rattle.lef_cells.specs.declared.record.Cells.{Cells}
use Rattle.def_design.specs.declared.record.Design.{Design}
use Rattle.pdn_script.specs.declared.record.Script.{Script}
use Rattle.grid_pieces.specs.declared.error.DrawError.{DrawError}
use Rattle.grid_pieces.specs.declared.error.DrawError.TheVariants.{Want}
use Rattle.grid_plan.specs.declared.record.Plan.{Plan}
use Rattle.grid_plan.specs.Names.{Names}
use Rattle.grid_plan.specs.Planning.{Plans, plan_refusal, region_refusal}

pub record IsPlanSo (tech : Tech) (cells : Cells) (names : Names) (design : Design) (script : Script) (plan : Plan)
    : Type 0 where
  pub plans : Plans tech cells names design script plan
  pub allowed : plan_refusal tech cells names design script ≡ None

abbrev pub IsRefusedSo : Tech → Cells → Names → Design → Script → DrawError → Type 0
IsRefusedSo tech cells names design script error =
    (error ≡ Want) ⊎ (plan_refusal tech cells names design script ≡ Some error)

-- Regions, rows and grids fit each other, or do not.
pub record IsFitting (tech : Tech) (cells : Cells) (names : Names) (design : Design) (script : Script) (plan : Plan)
    : Type 0 where
  pub plans : Plans tech cells names design script plan
  pub fits : region_refusal cells names design script ≡ None

abbrev pub IsUnfitting : Cells → Names → Design → Script → DrawError → Type 0
IsUnfitting cells names design script error =
    (error ≡ Want) ⊎ (region_refusal cells names design script ≡ Some error)
