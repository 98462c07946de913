-- The first of several refusals, and the plan that none refuses.
use Rattle.std.proofs.Common.{◌≡◌, ◌⊎◌, inl, inr, Option, Some, None, subst, ap, ◌∙◌}
use Rattle.lef_tech.specs.declared.tech.Tech.{Tech}
use Rattle.lef_cells.specs.declared.record.Cells.{Cells}
use Rattle.def_design.specs.declared.record.Design.{Design}
use Rattle.pdn_script.specs.declared.record.Script.{Script}
use Rattle.grid_pieces.specs.declared.error.DrawError.{DrawError}
use Rattle.grid_pieces.specs.declared.error.DrawError.TheVariants.{Want}
use Rattle.grid_plan.specs.declared.record.Plan.{Plan}
use Rattle.grid_plan.specs.Names.{Names, names_of}
use Rattle.grid_plan.specs.Planning.{Plans, IsPlanOf, IsPlanRefused, or_else, plan_refusal, name_refusal, length_refusal, region_refusal}
use Rattle.grid_plan.specs.inside.Plans.{IsPlanSo, IsRefusedSo, IsFitting, IsUnfitting}

module _ (tech : Tech) (cells : Cells) (names : Names) (design : Design) (script : Script) where
  pub by_names : (e : DrawError) → (e ≡ Want) ⊎ (name_refusal tech names design script ≡ Some e) → IsRefusedSo tech cells names design script e
  by_names e (inl want) = inl want
  by_names e (inr is) = inr (ap (λ (o : Option DrawError). or_else o (or_else (length_refusal cells names design script) (region_refusal cells names design script))) is)

  pub by_lengths : (e : DrawError) → name_refusal tech names design script ≡ None → (e ≡ Want) ⊎ (length_refusal cells names design script ≡ Some e) → IsRefusedSo tech cells names design script e
  by_lengths e none (inl want) = inl want
  by_lengths e none (inr is) =
      inr (ap (λ (o : Option DrawError). or_else o (or_else (length_refusal cells names design script) (region_refusal cells names design script))) none
      ∙ ap (λ (o : Option DrawError). or_else o (region_refusal cells names design script)) is)

  last : (o : Option DrawError) → name_refusal tech names design script ≡ None → length_refusal cells names design script ≡ None → region_refusal cells names design script ≡ o → plan_refusal tech cells names design script ≡ o
  last o none short is =
      ap (λ (x : Option DrawError). or_else x (or_else (length_refusal cells names design script) (region_refusal cells names design script))) none
      ∙ ap (λ (x : Option DrawError). or_else x (region_refusal cells names design script)) short ∙ is

  pub by_regions : (e : DrawError) → name_refusal tech names design script ≡ None → length_refusal cells names design script ≡ None → IsUnfitting cells names design script e → IsRefusedSo tech cells names design script e
  by_regions e none short (inl want) = inl want
  by_regions e none short (inr is) = inr (last (Some e) none short is)

  pub by_none : (plan : Plan) → name_refusal tech names design script ≡ None → length_refusal cells names design script ≡ None → IsFitting tech cells names design script plan → IsPlanSo tech cells names design script plan
  by_none plan none short fits = record { plans = fits.plans; allowed = last None none short fits.fits }

  pub is_plan : (plan : Plan) → names ≡ names_of tech cells design script → IsPlanSo tech cells names design script plan → IsPlanOf tech cells design script plan
  is_plan plan e so = record {
    plans = subst (λ (n : Names). Plans tech cells n design script plan) e so.plans;
    allowed = subst (λ (n : Names). plan_refusal tech cells n design script ≡ None) e so.allowed;
  }

  pub is_refused : (error : DrawError) → names ≡ names_of tech cells design script → IsRefusedSo tech cells names design script error → IsPlanRefused tech cells design script error
  is_refused error e so = subst (λ (n : Names). IsRefusedSo tech cells n design script error) e so
