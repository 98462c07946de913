-- A network that is stepped, or stops at a limit.
use Rattle.std.proofs.Common.{◌≡◌, ◌⊎◌, inl, inr, ℕ, ◌+◌, List, subst}
use Rattle.answers.specs.declared.answer.Answer.{Answer}
use Rattle.answers.specs.declared.answer.Answer.TheVariants.{Want}
use Rattle.capacitors.specs.declared.Cap.{Cap}
use Rattle.judging.specs.Stage.{GivesNetwork}
use Rattle.short_merge.specs.declared.merged.Merged.{Merged}
use Rattle.spice_grid.specs.declared.named.Named.{Named}
use Rattle.step_bounds.specs.Capacitors.{companions}
use Rattle.step_bounds.specs.declared.error.StepError.{StepError}
use Rattle.step_bounds.specs.declared.error.StepError.TheVariants as steps
use Rattle.step_bounds.specs.declared.steps.Steps.{Steps}
use Rattle.step_bounds.specs.Refusal.{IsLimitPassed, IsStepRefusal}
use Rattle.step_bounds.specs.StepCertificate.{IsStepCertificate, KeepStepLimits}
use Rattle.step_bounds.specs.SteppedSolution.{SteppedSolutionsLieBetween}
use Rattle.step_texts.specs.Texts.{steps_certificate, steps_report}
use Rattle.wave_file.specs.declared.record.Change.{Change}
use Rattle.wave_file.specs.declared.record.Waves.{Waves}
use Rattle.stepping.specs.declared.stepped.Stepped.{Stepped}
use Rattle.stepping.specs.Inputs.{TwoTexts, GiveWaves, CanBeStepped}
use Rattle.stepping.specs.Refusal.{NamesFloating, NamesSteps, NamesUnsupplied, RefusesToStep, RefusesNetwork, IsUnstepped}
use Rattle.stepping.specs.Stepped.{StepsNetwork, StepsThrough, LieWithinSteps}
use Rattle.stepping.specs.inside.Errors.{error_answer}
use Rattle.stepping.specs.inside.Tested.{IsTested, StopsAtLimit}
use Rattle.stepping.proofs.Within.{within_report}

-- The capacitors and the changes are handed on as they are.
module _ (time last : ℕ) (merged : Merged) (waves : Waves) (caps : List Cap) (changes : List Change) (same_caps : caps ≡ merged.caps) (same_changes : changes ≡ waves.changes) where
  moved : (P : List Cap → List Change → Type 0) → P caps changes → P merged.caps waves.changes
  moved P p = subst (P merged.caps) same_changes (subst (λ (c : List Cap). P c changes) same_caps p)

  pub network_stepped : (lists : Steps) (output : Stepped) → IsStepCertificate merged.net (companions merged.net caps time) changes (last + 1) lists.high lists.low
      → SteppedSolutionsLieBetween merged.net (companions merged.net caps time) changes last lists.high lists.low
      → KeepStepLimits merged.net (companions merged.net caps time) changes last lists.high lists.low
      → output.certificate ≡ steps_certificate merged.names lists.high lists.low → output.report ≡ steps_report merged.names lists.high lists.low → output.nodes ≡ merged.net.nodes → output.steps ≡ last
      → (x : Steps) × StepsNetwork merged waves time last x output × LieWithinSteps time last merged waves x
  network_stepped lists output certificate bounds limits certificate_text report_text nodes count = (
    lists,
    record {
      certified = moved (λ cs ds. IsStepCertificate merged.net (companions merged.net cs time) ds (last + 1) lists.high lists.low) certificate;
      limits = moved (λ cs ds. KeepStepLimits merged.net (companions merged.net cs time) ds last lists.high lists.low) limits;
      certificate = certificate_text;
      report = report_text;
      nodes = nodes;
      steps_are = count;
    },
    within_report time last merged waves lists (moved (λ cs ds. SteppedSolutionsLieBetween merged.net (companions merged.net cs time) ds last lists.high lists.low) bounds),
  )

  pub stops : CanBeStepped merged last → (e : StepError) → IsStepRefusal merged.net (companions merged.net caps time) changes last e → (answer : Answer) → answer ≡ error_answer e → StopsAtLimit merged waves time last answer
  stops can steps.Want why answer told = inl told
  stops can (steps.Range step quantity at number before) why answer told = inr (record {
    can = can;
    step = step;
    quantity = quantity;
    at = at;
    number = number;
    before = before;
    passed = moved (λ cs ds. IsLimitPassed merged.net (companions merged.net cs time) ds last step quantity at number before) why;
    told = told;
  })

-- ---- texts that are accepted
module _ (netlist file : List ℕ) (texts : TwoTexts) (time last : ℕ) (named : Named) (merged : Merged) (waves : Waves) (gives : GiveWaves texts named merged waves) (answer : Answer) where
  refuses : RefusesToStep merged waves time last answer → IsUnstepped netlist file texts time last answer
  refuses why = inr (inr (record { named = named; merged = merged; waves = waves; gives = gives; refused = why }))

  named_so : (NamesFloating merged answer ⊎ (NamesSteps merged last answer ⊎ NamesUnsupplied merged last answer)) → RefusesToStep merged waves time last answer
  named_so (inl x) = inl x
  named_so (inr (inl x)) = inr (inl x)
  named_so (inr (inr x)) = inr (inr (inl x))

  -- A network that cannot be stepped, and one that stops at a limit.
  pub not_tested : (answer ≡ Want) ⊎ (NamesFloating merged answer ⊎ (NamesSteps merged last answer ⊎ NamesUnsupplied merged last answer)) → IsUnstepped netlist file texts time last answer
  not_tested (inl want) = inl (inl want)
  not_tested (inr x) = refuses (named_so x)

  pub not_stepped : StopsAtLimit merged waves time last answer → IsUnstepped netlist file texts time last answer
  not_stepped (inl want) = inl (inl want)
  not_stepped (inr x) = refuses (inr (inr (inr x)))
