-- Where each grid has its halo, none is bad.
use Rattle.std.proofs.Common.{◌≡◌, ℕ, ◌+◌, ◌⊎◌, inl, inr, List, [], ◌∷◌, cond, refl, ap, ◌∙◌, Option, Some, None}
use Rattle.std.specs.List.{position_from}
use Rattle.std.specs.Option.{is_none}
use Rattle.entry_list.specs.InTurn.{InTurn}
use Rattle.pdn_script.specs.declared.record.GridRule.{GridRule}
use Rattle.block_grids.specs.declared.halo.Halo.{Halo}
use Rattle.pdn_script.specs.declared.record.Script.{Script}
use Rattle.block_grids.specs.declared.halo.HaloError.TheVariants.{Halo as OfHalo, Want}
use Rattle.block_grids.specs.Halo.{is_bad, first_bad, HasHalo}

pub none_bad : (units n : ℕ) (grids : List GridRule) (halos : List Halo) → InTurn (HasHalo units) grids halos
    → position_from (is_bad units) n grids ≡ None
none_bad units n [] halos turn = refl
none_bad units n (grid ∷ grids) [] turn = absurd turn
none_bad units n (grid ∷ grids) (halo ∷ halos) (has, turn) =
    ap (λ (o : Option Halo). cond (is_none o) (Some n) (position_from (is_bad units) (n + 1) grids)) has
    ∙ none_bad units (n + 1) grids halos turn

-- The halo that is told is bad.
pub bad_told : (units told : ℕ) (script : Script)
    → (OfHalo told ≡ Want) ⊎ ((grid : ℕ) × (OfHalo told ≡ OfHalo grid) × (first_bad units script ≡ Some grid)) → first_bad units script ≡ Some told
bad_told units told script (inl is) = absurd (cc)
bad_told units told script (inr (grid, is, bad)) = cc
