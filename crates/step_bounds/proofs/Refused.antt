-- What may refuse the lists of a step's network: a limit alone, since their ends are nodes and no node has two pads.
use Rattle.std.proofs.Common.{◌≡◌, ℕ, ◌<◌, inl, inr, ℤ, pos, arith, refl, sym, ap, subst, ◌∙◌, List, [], ◌∷◌, length, get_or, map, All, Option, Some, None, Bool, true, false, cond, ◌||◌, leb, ltb, if◌then◌else◌}
use Rattle.std.proofs.lemmas.Bool.Decides.{nat_tests}
use Rattle.std.proofs.lemmas.List.Sums.{position_or_len_is}
use Rattle.std.specs.Option.{option_map}
use Rattle.std.specs.List.{position, position_or_len}
use Rattle.grid_net.specs.declared.part.Resistor.{Resistor}
use Rattle.grid_net.specs.declared.part.Pad.{Pad}
use Rattle.grid_net.specs.declared.part.Load.{Load}
use Rattle.grid_net.specs.declared.error.Quantity.{Quantity}
use Rattle.grid_net.specs.declared.error.Quantity.TheVariants.{Nodes, Resistors, Resistance, Voltage, Loads}
use Rattle.grid_net.specs.declared.error.NetError.{NetError}
use Rattle.grid_net.specs.declared.error.NetError.TheVariants.{BadEnd, Range, PadConflict, Want as NetWant}
use Rattle.grid_net.specs.Network.{Network, IsResistorOf}
use Rattle.grid_net.specs.Limits.{IsBuilt, most_nodes, most_resistors, greatest_load}
use Rattle.grid_net.specs.Adding.{given_load}
use Rattle.grid_net.specs.Search.{or_else}
use Rattle.grid_net.specs.Laws.Search.{none_both}
use Rattle.grid_net.specs.Building.{BuildFails, PadsAgree, first_conflict, first_net_refusal, first_bad_end, first_beyond_limit, first_unfit, unless_at_most, resistance_fits, voltage_fits}
use Rattle.step_bounds.specs.declared.companion.Companion.{Companion}
use Rattle.step_bounds.specs.declared.passed.Passed.{Passed}
use Rattle.step_bounds.specs.StepNetwork.{step_nodes, step_resistors, step_pads, refusal_over}
use Rattle.step_bounds.specs.inside.Extension.{AreCompanions}
use Rattle.step_bounds.specs.inside.Loads.{AreLoads}
use Rattle.step_bounds.specs.inside.Passed.{IsLeft, AsTold, IsPassed}
use Rattle.step_bounds.proofs.Pads.{pads_agree, pads_at_nodes, no_conflict}
use Rattle.step_bounds.proofs.Resistors.{each_resistor, loads_at_nodes}

no_some : {X : Type 0} (x : X) → None ≡ Some x → ⊥
no_some {X} x e = let f : ◌≡◌ {A = Option X} None (Some x) = e in cc

-- ---- no end is beyond the nodes
at_end : (n m : ℕ) → n ≡ m → ◌≡◌ {A = Option ℕ} (cond (ltb n m) (Some n) None) None
at_end n m e = ap (λ b. cond b (Some n) None) (not_below n m e)
  where
    not_below : (n m : ℕ) → n ≡ m → ltb n m ≡ false
    not_below n m e = grind (arith, nat_tests)

no_place : {X : Type 0} (p : X → Bool) (xs : List X) → All (λ x. p x ≡ false) xs → position p xs ≡ None
no_place p xs all = at_end (position_or_len p xs) (length xs) (none_passes p xs all)
  where
    none_passes : {X : Type 0} (p : X → Bool) (xs : List X) → All (λ x. p x ≡ false) xs → position_or_len p xs ≡ length xs
    none_passes p [] all = refl
    none_passes p (x ∷ xs) all =
        position_or_len_is p (x ∷ xs) (length (x ∷ xs)) x (omega arith) (λ k l. all k x l) (λ l. absurd (omega arith))

not_at_most : (a b : ℕ) → b < a → leb a b ≡ false
not_at_most a b h = grind (arith, nat_tests)

module _ (n : ℕ) (rs : List Resistor) (ps : List Pad) (ls : List Load) (ends : All (IsResistorOf n) rs)
    (pads : All (λ p. p.node < n) ps) (loads : All (λ l. l.node < n) ls) (agree : PadsAgree ps) where
  no_bad_end : first_bad_end n rs ps ls ≡ None
  no_bad_end = none_both (position (λ r. leb n r.a || leb n r.b) rs)
      (or_else (position (λ p. leb n p.node) ps) (position (λ l. leb n l.node) ls))
      (no_place (λ r. leb n r.a || leb n r.b) rs (λ k d l. let b = ends k d l in
      ap (λ t. t || leb n (get_or rs k d).b) (not_at_most n (get_or rs k d).a b.a_is_node)
      ∙ not_at_most n (get_or rs k d).b b.b_is_node))
      (none_both (position (λ p. leb n p.node) ps) (position (λ l. leb n l.node) ls)
      (no_place (λ p. leb n p.node) ps (λ k d l. not_at_most n (get_or ps k d).node (pads k d l)))
      (no_place (λ l. leb n l.node) ls (λ k d l. not_at_most n (get_or ls k d).node (loads k d l))))

  -- What refuses them is a limit.
  pub only_limits : first_net_refusal n rs ps ls ≡ first_beyond_limit n rs ps ls
  only_limits =
      ap (λ o. or_else (option_map (λ at. BadEnd at) o) (or_else (first_beyond_limit n rs ps ls) (first_conflict ps))) no_bad_end
      ∙ ap (or_else (first_beyond_limit n rs ps ls)) (no_conflict ps agree)
      ∙ no_more (first_beyond_limit n rs ps ls)
    where
      no_more : (o : Option NetError) → or_else o None ≡ o
      no_more None = refl
      no_more (Some e) = refl

-- ---- a limit is told as one
abbrev TellsLimit : Option NetError → Type 0
TellsLimit o = (e : NetError) → o ≡ Some e → IsLeft e

either : (a b : Option NetError) → TellsLimit a → TellsLimit b → TellsLimit (or_else a b)
either None b h k e told = k e told
either (Some x) b h k e told = h e told

beyond : (limit : ℕ) (q : Quantity) (n : ℕ) → TellsLimit (unless_at_most limit q n)
beyond limit q n e told = by_test (leb n limit) told
  where
    by_test : (b : Bool) → cond b None (Some (Range q 0 (pos n))) ≡ Some e → IsLeft e
    by_test true told = absurd (no_some e told)
    by_test false told = let same : Range q 0 (pos n) ≡ e = cc in subst IsLeft same tt

unfit : (q : Quantity) (fits : ℤ → Bool) (zs : List ℤ) → TellsLimit (first_unfit q fits zs)
unfit q fits zs e told = by_place (position (λ z. if fits z then false else true) zs) told
  where
    by_place : (o : Option ℕ) → option_map (λ at. Range q at (get_or zs at (pos 0))) o ≡ Some e → IsLeft e
    by_place None told = absurd (no_some e told)
    by_place (Some at) told = let same : Range q at (get_or zs at (pos 0)) ≡ e = cc in subst IsLeft same tt

limits_tell : (n : ℕ) (rs : List Resistor) (ps : List Pad) (ls : List Load) → TellsLimit (first_beyond_limit n rs ps ls)
limits_tell n rs ps ls =
    either (unless_at_most most_nodes Nodes n) _ (beyond most_nodes Nodes n)
    (either (unless_at_most most_resistors Resistors (length rs)) _ (beyond most_resistors Resistors (length rs))
    (either (first_unfit Resistance resistance_fits (map (λ r. r.ohms) rs)) _ (unfit Resistance resistance_fits (map (λ r. r.ohms) rs))
    (either (first_unfit Voltage voltage_fits (map (λ p. p.volts) ps)) _ (unfit Voltage voltage_fits (map (λ p. p.volts) ps))
    (beyond greatest_load Loads (given_load ls)))))

-- ---- the lists of a step
module _ (net : Network) (built : IsBuilt net) (xs : List Companion) (fit : AreCompanions net xs) (loads : List Load)
    (are : AreLoads net.nodes loads) (v : List ℤ) where
  step_limits : refusal_over net xs loads v ≡ first_beyond_limit (step_nodes net xs) (step_resistors net xs) (step_pads net xs v) loads
  step_limits = only_limits (step_nodes net xs) (step_resistors net xs) (step_pads net xs v) loads
      (each_resistor net built xs fit) (pads_at_nodes net built xs v) (loads_at_nodes net built xs fit loads are v)
      (pads_agree net built xs v)

  pub left : (e : NetError) → BuildFails (step_nodes net xs) (step_resistors net xs) (step_pads net xs v) loads e → IsLeft e
  left e fails = elim fails [
    | inl told ↦ limits_tell (step_nodes net xs) (step_resistors net xs) (step_pads net xs v) loads e (sym step_limits ∙ told)
    | inr want ↦ subst IsLeft (sym want.0) tt
  ]

-- A refusal, as it is told.
pub passed_told : (net : Network) (xs : List Companion) (loads : List Load) (v : List ℤ) (e : NetError) (told : Passed)
    → BuildFails (step_nodes net xs) (step_resistors net xs) (step_pads net xs v) loads e → AsTold e told
    → IsPassed net xs loads v told
passed_told net xs loads v (BadEnd at) told fails as_told = absurd as_told
passed_told net xs loads v (PadConflict node first second) told fails as_told = absurd as_told
passed_told net xs loads v (Range quantity at number) told fails as_told =
    subst (IsPassed net xs loads v) (sym as_told) (elim fails [
      | inl is ↦ is
      | inr want ↦ absurd (let f : Range quantity at number ≡ NetWant = want.0 in cc)
    ])
passed_told net xs loads v NetWant told fails as_told = subst (IsPassed net xs loads v) (sym as_told) tt
