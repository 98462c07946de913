-- Of the answers of `build` other than want of memory one alone has its cause, where it is known what the files hold; verdicts
-- and sweeps of a grid that is built are left open.
use Rattle.std.proofs.Common.{◌≡◌, ◌≢◌, ◌≤◌, ◌<◌, ◌⊎◌, inl, inr, ℕ, ℤ, List, Option, Some, length, refl, sym, subst, ◌∙◌}
use Rattle.outside.specs.Files.{Holdings, bytes_in}
use Rattle.outside.specs.Whole.{longest_text}
use Rattle.answers.specs.declared.answer.Answer.{Answer}
use Rattle.answers.specs.declared.answer.Answer.TheVariants.{Usage, Want, ReadFault, WriteFault, TooLong, Refused, NoGrid, Range, TooManySteps, PadConflict, FloatingCapacitor, Unsupplied, Built, SignedOff, Generated, Solved, Stepped, Certified, NotCertified}
use Rattle.answers.specs.declared.built.Built.{Built as Numbers}
use Rattle.building.specs.Inputs.{FiveTexts}
use Rattle.input_files.specs.Inputs.{name_at}
use Rattle.macro_building.specs.Built.{BuiltDesign, IsBuiltDesign}
use Rattle.macro_building.specs.Refusal.{IsUnbuilt}
use Rattle.one_build.specs.Same.{AreBuiltAlike as AreDesignsAlike}
use Rattle.solving.specs.Signed.{IsMadeOf}
use Rattle.pdn_signoff.specs.declared.build_files.BuildFiles.{BuildFiles}
use Rattle.pdn_signoff.specs.Words.{IsBuild}
use Rattle.pdn_signoff.specs.Check.{FilesThen, IsTooLong}
use Rattle.pdn_signoff.specs.Solve.{SolverThen}
use Rattle.pdn_signoff.specs.Build.{files_read, AreInputs, RefusesFiles, AreBuiltAlike, Builds}
use Rattle.pdn_signoff.specs.Inputs.{IsFirstUnread}
use Rattle.pdn_signoff.specs.Command.{IsCause, CanRise}
use Rattle.pdn_signoff.proofs.Alike.{of_two}
use Rattle.pdn_signoff.proofs.Building.{failed_write}
use Rattle.pdn_signoff.proofs.Causes.{AreLaws}
use Rattle.pdn_signoff.proofs.Completing.{build_cause, same_texts, each_fits}
use Rattle.pdn_signoff.proofs.Sizes.{AreSizesOf, one_grid, sizes_of}
use Rattle.pdn_signoff.proofs.Staged.{IsStage, one_of_all}

-- The laws of five texts, as they are handed in.
pub record AreBuildLaws : Type 0 where
  pub refusal : (t : FiveTexts) (a b : Answer) → IsUnbuilt t a → IsUnbuilt t b → a ≢ Want → b ≢ Want → a ≡ b
  pub apart : (told : Option (List ℤ × List ℤ)) (t : FiveTexts) (design : BuiltDesign) (a : Answer) → IsBuiltDesign told t design → IsUnbuilt t a → a ≡ Want
  pub design : (told told' : Option (List ℤ × List ℤ)) (t : FiveTexts) (one other : BuiltDesign) → IsBuiltDesign told t one → IsBuiltDesign told' t other → AreDesignsAlike one other

-- The certificate of what is built is made of its network.
certified : (told : Option (List ℤ × List ℤ)) (t : FiveTexts) (d : BuiltDesign) → IsBuiltDesign told t d → IsMadeOf told d.design.extracted.net d.design.certificate
certified told t d (inl plain) = plain.is_design.certified
certified told t d (inr over) = over.certified

-- Answers that are one are alike.
pub alike_from : (a b : Answer) → a ≡ b → AreBuiltAlike a b
alike_from Usage b e = e
alike_from Want b e = e
alike_from (ReadFault file) b e = e
alike_from (WriteFault file) b e = e
alike_from (TooLong file) b e = e
alike_from (Refused file place kind) b e = e
alike_from (NoGrid refusal) b e = e
alike_from (Range quantity at number) b e = e
alike_from (PadConflict node first second) b e = e
alike_from (Unsupplied node) b e = e
alike_from (Built numbers) b e = (numbers, sym e, record { pieces = refl; stacks = refl; nodes = refl; resistors = refl; pads = refl })
alike_from Generated b e = e
alike_from (FloatingCapacitor node) b e = e
alike_from (TooManySteps number) b e = e
alike_from (Stepped nodes steps) b e = e
alike_from (SignedOff numbers) b e = e
alike_from (Solved nodes resistors sweeps) b e = e
alike_from (Certified nodes) b e = e
alike_from (NotCertified node side found) b e = e

module _ (laws : AreBuildLaws) (before after : FilesThen) (held : Holdings) (f : BuildFiles) (known : before.known ≡ Some held) (can : CanRise after.counts) where
  -- The answers that come of the texts: these are refused, or they are built.
  pub record IsRefused (a : Answer) : Type 0 where
    pub some : a ≢ Want
    pub texts : FiveTexts
    pub are : AreInputs (Some held) f texts
    pub why : IsUnbuilt texts a

  pub record IsBuilt (a : Answer) : Type 0 where
    pub texts : FiveTexts
    pub are : AreInputs (Some held) f texts
    pub solver : Option (List ℤ × List ℤ)
    pub design : BuiltDesign
    pub is : IsBuiltDesign solver texts design
    pub numbers : Numbers
    pub told : a ≡ Built numbers
    pub sizes : AreSizesOf design.design.grid design.design.extracted.net numbers

  abbrev pub IsShort : Answer → Type 0
  IsShort a = IsRefused a ⊎ IsBuilt a

  texts_here : (t t' : FiveTexts) → AreInputs (Some held) f t → AreInputs (Some held) f t' → t ≡ t'
  texts_here t t' = same_texts held f t t'

  one_refused : (a b : Answer) → IsRefused a → IsRefused b → AreBuiltAlike a b
  one_refused a b x y =
      alike_from a b (laws.refusal x.texts a b x.why (subst (λ t. IsUnbuilt t b) (texts_here y.texts x.texts y.are x.are) y.why) x.some y.some)

  one_built : (a b : Answer) → IsBuilt a → IsBuilt b → AreBuiltAlike a b
  one_built a b x y =
      let there : IsBuiltDesign y.solver x.texts y.design = subst (λ t. IsBuiltDesign y.solver t y.design) (texts_here y.texts x.texts y.are x.are) y.is in
      let same = laws.design x.solver y.solver x.texts x.design y.design x.is there in
      subst (λ z. AreBuiltAlike z b) (sym x.told) (y.numbers, y.told, one_grid x.design.design.grid y.design.design.grid x.design.design.extracted y.design.design.extracted x.numbers y.numbers same.design.grid same.design.network x.sizes y.sizes)

  refused_or_built : (a b : Answer) → IsRefused a → IsBuilt b → ⊥
  refused_or_built a b x y = x.some (laws.apart y.solver y.texts y.design a y.is (subst (λ t. IsUnbuilt t a) (texts_here x.texts y.texts x.are y.are) x.why))

  pub one_short : (a b : Answer) → IsShort a → IsShort b → AreBuiltAlike a b
  one_short = of_two AreBuiltAlike IsRefused IsBuilt one_refused one_built refused_or_built

  pub no_long : (a : Answer) → IsShort a → (place : ℕ) → place < 5 → length (bytes_in held (name_at (files_read f) place)) ≤ longest_text
  no_long a (inl x) = each_fits held f x.texts x.are
  no_long a (inr x) = each_fits held f x.texts x.are

  abbrev pub IsBuildStage : Answer → Type 0
  IsBuildStage = IsStage before after held (files_read f) known can AreBuiltAlike alike_from IsShort one_short no_long

  -- ---- the kind of an answer
  refused_stage : (a : Answer) → a ≢ Want → RefusesFiles before after f a → IsBuildStage a
  refused_stage a some (kept, none, (t, are, why)) =
      inr (inr (none, inr (inl (record { some = some; texts = t; are = subst (λ k. AreInputs k f t) known are; why = why }))))

  pub stage_of : (solver solver' : SolverThen) (a : Answer) → a ≢ Want → Builds solver solver' before after f a → IsBuildStage a
  stage_of solver solver' Usage some why = absurd why
  stage_of solver solver' Want some why = absurd (some refl)
  stage_of solver solver' (ReadFault file) some (kept, (place, first, fails)) = inl (record { file = file; told = refl; fails = fails })
  stage_of solver solver' (WriteFault file) some (outputs, builds, stops) =
      inr (inl (record { file = file; told = refl; fails = failed_write solver solver' before after f outputs file stops }))
  stage_of solver solver' (TooLong file) some (kept, none, (place, first, long)) =
      inr (inr (
        none,
        inl (record {
          file = file;
          told = refl;
          place = place;
          first = subst (λ k. IsFirstUnread k (files_read f) file place) known first;
          long = subst (λ k. IsTooLong k file) known long;
        }),
      ))
  stage_of solver solver' (Refused file place kind) some why = refused_stage (Refused file place kind) some why
  stage_of solver solver' (NoGrid words) some why = refused_stage (NoGrid words) some why
  stage_of solver solver' (Range quantity at number) some why = refused_stage (Range quantity at number) some why
  stage_of solver solver' (PadConflict node first second) some why = absurd why
  stage_of solver solver' (Unsupplied node) some why = refused_stage (Unsupplied node) some why
  stage_of solver solver' (Built numbers) some (outputs, builds, same, none, asked, written) =
      let numbers_are = same ∙ builds.are_outputs.numbers in
      let d = builds.design.design in
      let net_is = (certified solver.told builds.texts builds.design builds.is_design).net_is in
      inr (inr (
        none,
        inr (inr (record {
          texts = builds.texts;
          are = subst (λ k. AreInputs k f builds.texts) known builds.are_inputs;
          solver = solver.told;
          design = builds.design;
          is = builds.is_design;
          numbers = numbers;
          told = refl;
          sizes = sizes_of d.grid d.certificate.net d.extracted.net numbers _ numbers_are net_is
              (record { pieces = refl; stacks = refl; nodes = refl; resistors = refl; pads = refl });
        })),
      ))
  stage_of solver solver' Generated some why = absurd why
  stage_of solver solver' (FloatingCapacitor node) some why = absurd why
  stage_of solver solver' (TooManySteps number) some why = absurd why
  stage_of solver solver' (Stepped nodes steps) some why = absurd why
  stage_of solver solver' (SignedOff numbers) some why = absurd why
  stage_of solver solver' (Solved nodes resistors sweeps) some why = absurd why
  stage_of solver solver' (Certified nodes) some why = absurd why
  stage_of solver solver' (NotCertified node side found) some why = absurd why

  pub one_build : (a b : Answer) → IsBuildStage a → IsBuildStage b → AreBuiltAlike a b
  one_build = one_of_all before after held (files_read f) known can AreBuiltAlike alike_from IsShort one_short no_long

pub built_once : AreLaws → AreBuildLaws → (words : List (List ℕ)) (solver solver' : SolverThen) (before after : FilesThen) (held : Holdings) (f : BuildFiles) (a b : Answer) → before.known ≡ Some held → CanRise after.counts → IsBuild words f
    → IsCause words solver solver' before after a → IsCause words solver solver' before after b → a ≢ Want → b ≢ Want → AreBuiltAlike a b
built_once laws build words solver solver' before after held f a b known can is x y some_a some_b =
    elim (build_cause laws words solver solver' before after f a is x).why [
      | inl want ↦ absurd (some_a want.0)
      | inr x_why ↦ elim (build_cause laws words solver solver' before after f b is y).why [
        | inl want ↦ absurd (some_b want.0)
        | inr y_why ↦ one_build build before after held f known can a b (stage_of build before after held f known can solver solver' a some_a x_why) (stage_of build before after held f known can solver solver' b some_b y_why)
      ]
    ]
