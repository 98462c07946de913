-- Why two texts are not stepped: one cause alone, unless a limit is passed at some step.
use Rattle.std.proofs.Common.{◌≡◌, ◌≢◌, ◌⊎◌, inl, inr, ℕ, ◌*◌, ◌<◌, ◌≤◌, List, Option, Some, None, Ok, Err, All, length, min, slice_get, refl, sym, ap, subst, ◌∙◌, arith}
use Rattle.std.proofs.lemmas.Bool.{cases_order}
use Rattle.answers.specs.declared.answer.Answer.{Answer}
use Rattle.answers.specs.declared.answer.Answer.TheVariants.{Usage, Want, ReadFault, WriteFault, TooLong, Refused, NoGrid, Range, TooManySteps, PadConflict, FloatingCapacitor, Unsupplied, Built, SignedOff, Generated, Solved, Stepped, Certified, NotCertified}
use Rattle.grid_net.specs.Level.{IsFirstUnsupplied}
use Rattle.grid_net.specs.Network.{Network}
use Rattle.judging.specs.Texts.{HasNetwork}
use Rattle.judging.specs.Stage.{HasNoNetwork, IsToNetlist}
use Rattle.reading.specs.declared.error.ReadError.{ReadError}
use Rattle.short_merge.specs.declared.merged.Merged.{Merged}
use Rattle.spice_grid.specs.declared.named.Named.{Named}
use Rattle.wave_file.specs.declared.error.WavesKind.{WavesKind}
use Rattle.wave_file.specs.declared.error.WavesKind.TheVariants as waves
use Rattle.wave_file.specs.declared.record.Waves.{Waves}
use Rattle.wave_file.specs.Format.{ReadsWaves}
use Rattle.stepping.specs.Inputs.{TwoTexts, GiveWaves, NoneFloats, CanBeStepped, most_entries}
use Rattle.stepping.specs.Refusal.{waves_answer, RefusesWaves, NamesFloating, NamesSteps, NamesUnsupplied, NamesLimit, RefusesToStep, RefusesNetwork, PassesLimit, IsUnstepped, IsToUnstepped}

-- The laws of netlists, as they are handed in.
pub record AreNetlistLaws : Type 0 where
  pub network : (text : List ℕ) (named other : Named) (merged fellow : Merged) → HasNetwork text named merged → HasNetwork text other fellow → (named ≡ other) × (merged ≡ fellow)
  pub refusal : (file text : List ℕ) (a b : Answer) → HasNoNetwork file text a → HasNoNetwork file text b → a ≢ Want → b ≢ Want → a ≡ b
  pub not_both : (file text : List ℕ) (named : Named) (merged : Merged) (answer : Answer) → HasNetwork text named merged → HasNoNetwork file text answer → answer ≡ Want
  pub sort : (file text : List ℕ) (answer : Answer) → HasNoNetwork file text answer → IsToNetlist answer

some_same : {X : Type 0} (x y : X) → Some x ≡ Some y → x ≡ y
some_same {X} x y e = cc

-- ---- a network that is refused
module _ (merged : Merged) where
  one_floating : (a b : Answer) → NamesFloating merged a → NamesFloating merged b → a ≡ b
  one_floating a b x y =
      let node : x.node ≡ y.node = some_same x.node y.node (sym x.first ∙ y.first) in
      let name : x.name ≡ y.name = some_same x.name y.name (sym x.named_so ∙ ap (slice_get merged.names) node ∙ y.named_so) in
      x.told ∙ ap FloatingCapacitor name ∙ sym y.told

  not_floating : (a : Answer) → NamesFloating merged a → NoneFloats merged → ⊥
  not_floating a x none = let clash : Some x.node ≡ None = sym x.first ∙ none in absurd cc

  one_first : (i j : ℕ) → IsFirstUnsupplied merged.net i → IsFirstUnsupplied merged.net j → i ≡ j
  one_first i j x y =
      elim (cases_order i j) [
        | inl same ↦ same
        | inr (inl less) ↦ absurd (x.unsupplied (y.before i less))
        | inr (inr more) ↦ absurd (y.unsupplied (x.before j more))
      ]

  one_unsupplied : (steps : ℕ) (a b : Answer) → NamesUnsupplied merged steps a → NamesUnsupplied merged steps b → a ≡ b
  one_unsupplied steps a b x y =
      let node : x.node ≡ y.node = one_first x.node y.node x.first y.first in
      let name : x.name ≡ y.name = some_same x.name y.name (sym x.named_so ∙ ap (slice_get merged.names) node ∙ y.named_so) in
      x.told ∙ ap Unsupplied name ∙ sym y.told

  not_supplied : (steps : ℕ) (a : Answer) → NamesUnsupplied merged steps a → CanBeStepped merged steps → ⊥
  not_supplied steps a x can = x.first.unsupplied (can.supplied x.node x.first.is_node)

  too_many : (steps : ℕ) (a : Answer) → NamesSteps merged steps a → steps * merged.net.nodes ≤ most_entries → ⊥
  too_many steps a x few = let many = x.many in omega (arith, many, few)

  -- Two refusals are one, or both are of a limit that a step passes.
  one_to_step : (changes : Waves) (time steps : ℕ) (a b : Answer) → RefusesToStep merged changes time steps a → RefusesToStep merged changes time steps b → (a ≡ b) ⊎ (NamesLimit merged changes time steps a × NamesLimit merged changes time steps b)
  one_to_step changes time steps a b (inl x) (inl y) = inl (one_floating a b x y)
  one_to_step changes time steps a b (inl x) (inr (inl y)) = absurd (not_floating a x y.none_floats)
  one_to_step changes time steps a b (inl x) (inr (inr (inl y))) = absurd (not_floating a x y.none_floats)
  one_to_step changes time steps a b (inl x) (inr (inr (inr y))) = absurd (not_floating a x y.can.none_floats)
  one_to_step changes time steps a b (inr (inl x)) (inl y) = absurd (not_floating b y x.none_floats)
  one_to_step changes time steps a b (inr (inl x)) (inr (inl y)) = inl (x.told ∙ sym y.told)
  one_to_step changes time steps a b (inr (inl x)) (inr (inr (inl y))) = absurd (too_many steps a x y.few)
  one_to_step changes time steps a b (inr (inl x)) (inr (inr (inr y))) = absurd (too_many steps a x y.can.few)
  one_to_step changes time steps a b (inr (inr (inl x))) (inl y) = absurd (not_floating b y x.none_floats)
  one_to_step changes time steps a b (inr (inr (inl x))) (inr (inl y)) = absurd (too_many steps b y x.few)
  one_to_step changes time steps a b (inr (inr (inl x))) (inr (inr (inl y))) = inl (one_unsupplied steps a b x y)
  one_to_step changes time steps a b (inr (inr (inl x))) (inr (inr (inr y))) = absurd (not_supplied steps a x y.can)
  one_to_step changes time steps a b (inr (inr (inr x))) (inl y) = absurd (not_floating b y x.can.none_floats)
  one_to_step changes time steps a b (inr (inr (inr x))) (inr (inl y)) = absurd (too_many steps b y x.can.few)
  one_to_step changes time steps a b (inr (inr (inr x))) (inr (inr (inl y))) = absurd (not_supplied steps b y x.can)
  one_to_step changes time steps a b (inr (inr (inr x))) (inr (inr (inr y))) = inr (x, y)

  -- A network that can be stepped is refused for such a limit alone.
  limit_alone : (changes : Waves) (time steps : ℕ) (a : Answer) → CanBeStepped merged steps → RefusesToStep merged changes time steps a → NamesLimit merged changes time steps a
  limit_alone changes time steps a can (inl x) = absurd (not_floating a x can.none_floats)
  limit_alone changes time steps a can (inr (inl x)) = absurd (too_many steps a x can.few)
  limit_alone changes time steps a can (inr (inr (inl x))) = absurd (not_supplied steps a x can)
  limit_alone changes time steps a can (inr (inr (inr x))) = x

-- ---- texts that are refused
module _ (laws : AreNetlistLaws) (n w : List ℕ) (t : TwoTexts) (time steps : ℕ) where
  some_waves : (a : Answer) → a ≢ Want → (x : RefusesWaves w t a) → x.error.kind ≢ waves.Want
  some_waves a some x is = some (x.told ∙ ap (waves_answer w x.error.place) is)

  one_waves : (a b : Answer) → a ≢ Want → b ≢ Want → RefusesWaves w t a → RefusesWaves w t b → a ≡ b
  one_waves a b some_a some_b x y =
      let merged : y.merged ≡ x.merged = (laws.network t.netlist y.named x.named y.merged x.merged y.network.network x.network.network).1 in
      let refused : ReadsWaves x.merged.names t.waves (Err y.error) = subst (λ (m : Merged). ReadsWaves m.names t.waves (Err y.error)) merged y.refused in
      let same : x.error ≡ y.error = x.one (Err x.error) (Err y.error) x.refused refused (some_waves a some_a x) (some_waves b some_b y) in
      x.told ∙ ap (λ (e : ReadError WavesKind). waves_answer w e.place e.kind) same ∙ sym y.told

  -- Waves that are read are not refused.
  not_waves : (a : Answer) (named : Named) (merged : Merged) (changes : Waves) → a ≢ Want → RefusesWaves w t a → GiveWaves t named merged changes → ⊥
  not_waves a named merged changes some x gives =
      let same : x.merged ≡ merged = (laws.network t.netlist x.named named x.merged merged x.network.network gives.network.network).1 in
      let refused : ReadsWaves merged.names t.waves (Err x.error) = subst (λ (m : Merged). ReadsWaves m.names t.waves (Err x.error)) same x.refused in
      some_waves a some x (gives.one (Ok changes) (Err x.error) gives.reads refused)

  -- Texts give one network and one record of waves.
  pub same_given : (named named' : Named) (merged merged' : Merged) (changes changes' : Waves) → GiveWaves t named merged changes → GiveWaves t named' merged' changes' → (merged ≡ merged') × (changes ≡ changes')
  same_given named named' merged merged' changes changes' x y =
      let same : merged ≡ merged' = (laws.network t.netlist named named' merged merged' x.network.network y.network.network).1 in
      let reads : ReadsWaves merged'.names t.waves (Ok changes) = subst (λ (m : Merged). ReadsWaves m.names t.waves (Ok changes)) same x.reads in
      (same, y.one (Ok changes) (Ok changes') reads y.reads)

  moved : (merged merged' : Merged) (changes changes' : Waves) (a : Answer) → merged ≡ merged' → changes ≡ changes' → RefusesToStep merged changes time steps a → RefusesToStep merged' changes' time steps a
  moved merged merged' changes changes' a m c r = subst (λ (x : Waves). RefusesToStep merged' x time steps a) c (subst (λ (x : Merged). RefusesToStep x changes time steps a) m r)

  one_network : (a b : Answer) → RefusesNetwork t time steps a → RefusesNetwork t time steps b → (a ≡ b) ⊎ (PassesLimit t time steps a × PassesLimit t time steps b)
  one_network a b x y =
      let same = same_given y.named x.named y.merged x.merged y.waves x.waves y.gives x.gives in
      elim (one_to_step x.merged x.waves time steps a b x.refused (moved y.merged x.merged y.waves x.waves b same.0 same.1 y.refused)) [
        | inl e ↦ inl e
        | inr both ↦ inr (
          record { named = x.named; merged = x.merged; waves = x.waves; gives = x.gives; limit = both.0 },
          record { named = x.named; merged = x.merged; waves = x.waves; gives = x.gives; limit = both.1 },
        )
      ]

  pub one_refusal : (a b : Answer) → IsUnstepped n w t time steps a → IsUnstepped n w t time steps b → a ≢ Want → b ≢ Want → (a ≡ b) ⊎ (PassesLimit t time steps a × PassesLimit t time steps b)
  one_refusal a b (inl x) (inl y) some_a some_b = inl (laws.refusal n t.netlist a b x y some_a some_b)
  one_refusal a b (inl x) (inr (inl y)) some_a some_b = absurd (some_a (laws.not_both n t.netlist y.named y.merged a y.network.network x))
  one_refusal a b (inl x) (inr (inr y)) some_a some_b = absurd (some_a (laws.not_both n t.netlist y.named y.merged a y.gives.network.network x))
  one_refusal a b (inr (inl x)) (inl y) some_a some_b = absurd (some_b (laws.not_both n t.netlist x.named x.merged b x.network.network y))
  one_refusal a b (inr (inl x)) (inr (inl y)) some_a some_b = inl (one_waves a b some_a some_b x y)
  one_refusal a b (inr (inl x)) (inr (inr y)) some_a some_b = absurd (not_waves a y.named y.merged y.waves some_a x y.gives)
  one_refusal a b (inr (inr x)) (inl y) some_a some_b = absurd (some_b (laws.not_both n t.netlist x.named x.merged b x.gives.network.network y))
  one_refusal a b (inr (inr x)) (inr (inl y)) some_a some_b = absurd (not_waves b x.named x.merged x.waves some_b y x.gives)
  one_refusal a b (inr (inr x)) (inr (inr y)) some_a some_b = one_network a b x y

  pub limit_of : (named : Named) (merged : Merged) (changes : Waves) (a : Answer) → GiveWaves t named merged changes → CanBeStepped merged steps → IsUnstepped n w t time steps a → a ≢ Want → NamesLimit merged changes time steps a
  limit_of named merged changes a gives can (inl x) some = absurd (some (laws.not_both n t.netlist named merged a gives.network.network x))
  limit_of named merged changes a gives can (inr (inl x)) some = absurd (not_waves a named merged changes some x gives)
  limit_of named merged changes a gives can (inr (inr x)) some =
      let same = same_given x.named named x.merged merged x.waves changes x.gives gives in
      limit_alone merged changes time steps a can (moved x.merged merged x.waves changes a same.0 same.1 x.refused)

  -- ---- which answers texts have
  waves_are : (file : List ℕ) (error : ReadError WavesKind) (k : WavesKind) → IsToUnstepped (waves_answer file error.place k)
  waves_are file error waves.Syntax = tt
  waves_are file error (waves.Number e) = tt
  waves_are file error waves.UnknownNode = tt
  waves_are file error waves.Twice = tt
  waves_are file error waves.Falling = tt
  waves_are file error waves.Want = tt

  netlist_to_unstepped : (a : Answer) → IsToNetlist a → IsToUnstepped a
  netlist_to_unstepped Want x = tt
  netlist_to_unstepped Usage x = x
  netlist_to_unstepped (ReadFault file) x = x
  netlist_to_unstepped (WriteFault file) x = x
  netlist_to_unstepped (TooLong file) x = x
  netlist_to_unstepped (Refused file place kind) x = tt
  netlist_to_unstepped (NoGrid refusal) x = x
  netlist_to_unstepped (Range quantity at number) x = tt
  netlist_to_unstepped (TooManySteps number) x = tt
  netlist_to_unstepped (PadConflict node first second) x = tt
  netlist_to_unstepped (FloatingCapacitor node) x = tt
  netlist_to_unstepped (Unsupplied node) x = tt
  netlist_to_unstepped (Built built) x = x
  netlist_to_unstepped Generated x = x
  netlist_to_unstepped (Solved nodes resistors sweeps) x = x
  netlist_to_unstepped (Stepped nodes steps) x = x
  netlist_to_unstepped (SignedOff numbers) x = x
  netlist_to_unstepped (Certified nodes) x = x
  netlist_to_unstepped (NotCertified node side found) x = x

  of_network : (a : Answer) (merged : Merged) (changes : Waves) → RefusesToStep merged changes time steps a → IsToUnstepped a
  of_network a merged changes (inl x) = subst IsToUnstepped (sym x.told) tt
  of_network a merged changes (inr (inl x)) = subst IsToUnstepped (sym x.told) tt
  of_network a merged changes (inr (inr (inl x))) = subst IsToUnstepped (sym x.told) tt
  of_network a merged changes (inr (inr (inr x))) = subst IsToUnstepped (sym x.told) tt

  pub sort : (a : Answer) → IsUnstepped n w t time steps a → IsToUnstepped a
  sort a (inl x) = netlist_to_unstepped a (laws.sort n t.netlist a x)
  sort a (inr (inl x)) = subst IsToUnstepped (sym x.told) (waves_are w x.error x.error.kind)
  sort a (inr (inr x)) = of_network a x.merged x.waves x.refused
