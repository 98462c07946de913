-- Nothing refuses the lists of a network exactly where every limit is kept and the pads of each node agree.
use Rattle.std.proofs.Common.{Result, Ok, Err, IsErrAnd, IfErr, ◌≡◌, ℕ, zero, suc, ◌<◌, ◌≤◌, inl, inr, ◌⊎◌, ℤ, pos, neg_ℤ, ◌≤ℤ◌, arith, refl, sym, ap, ◌∙◌, subst, List, [], ◌∷◌, length, get_or, map, All, Option, Some, None, Bool, true, false, cond, ◌&&◌, ◌||◌, eqb, eq-eqb, ltb, leb, if◌then◌else◌}
use Rattle.std.proofs.lemmas.Int.{ints}
use Rattle.std.proofs.lemmas.Bool.{leb-true, leb-false, cases_lt}
use Rattle.std.proofs.lemmas.Bool.Decides.{nat_tests}
use Rattle.std.proofs.lemmas.List.Sums.{fails_before_first, position_or_len_is}
use lib.Signed.{le_z}
use Rattle.std.specs.Option.{option_map}
use Rattle.std.specs.List.{position, position_or_len}
use Rattle.grid_net.specs.declared.part.Resistor.{Resistor}
use Rattle.grid_net.specs.declared.part.Pad.{Pad}
use Rattle.grid_net.specs.declared.part.Load.{Load}
use Rattle.grid_net.specs.declared.error.Quantity.{Quantity}
use Rattle.grid_net.specs.declared.error.Quantity.TheVariants.{Nodes, Resistors, Resistance, Voltage, Loads}
use Rattle.grid_net.specs.declared.error.NetError.{NetError}
use Rattle.grid_net.specs.declared.error.NetError.TheVariants.{BadEnd, Range, Want}
use Rattle.grid_net.specs.Search.{or_else}
use Rattle.grid_net.specs.Network.{first_pad}
use Rattle.grid_net.specs.Adding.{given_load}
use Rattle.grid_net.specs.Limits.{most_nodes, most_resistors, greatest_resistance, greatest_voltage, greatest_load}
use Rattle.grid_net.specs.Building.{BuildFails, KeepsLimits, PadsAgree, first_bad_end, unless_at_most, first_unfit, resistance_fits, voltage_fits, first_beyond_limit, conflict_with, first_conflict, first_net_refusal}
use Rattle.grid_net.specs.Laws.Search.{none_first, none_second, none_both, none_of, of_none}
use Rattle.grid_net.proofs.Refusals.{place_of_map}
use Rattle.grid_net.proofs.Tables.{passes_alone, same_voltage}
use Rattle.grid_net.specs.Laws.Pads.{first_is_of_list}

-- ---- no place
pub none_pass : {X : Type 0} (p : X → Bool) (xs : List X) → position p xs ≡ None → All (λ x. p x ≡ false) xs
none_pass p xs e = λ k d l. fails_before_first p xs k d (by_test (ltb (position_or_len p xs) (length xs)) (position_or_len p xs) refl e l)
  where
    by_test : {k : ℕ} (b : Bool) (n : ℕ) → ltb n (length xs) ≡ b → cond b (Some n) None ≡ None → k < length xs → k < n
    by_test true n t e l = absurd (let f : ◌≡◌ {A = Option ℕ} (Some n) None = e in cc)
    by_test false n t e l = elim (cases_lt n (length xs)) [
      | inl lt ↦ absurd (let u = lt_true n (length xs) lt in let f : ◌≡◌ {A = Bool} true false = sym u ∙ t in cc)
      | inr ge ↦ omega arith
    ]
      where
        lt_true : (a b : ℕ) → a < b → ltb a b ≡ true
        lt_true a b h = grind (arith, nat_tests)

pub no_place : {X : Type 0} (p : X → Bool) (xs : List X) → All (λ x. p x ≡ false) xs → position p xs ≡ None
no_place p xs all = at_end (position_or_len p xs) (length xs) (position_or_len_at_end p xs all)
  where
    at_end : (n m : ℕ) → n ≡ m → ◌≡◌ {A = Option ℕ} (cond (ltb n m) (Some n) None) None
    at_end n m e = ap (λ b. cond b (Some n) None) (not_below n m e)
      where
        not_below : (n m : ℕ) → n ≡ m → ltb n m ≡ false
        not_below n m e = grind (arith, nat_tests)

    position_or_len_at_end : {X : Type 0} (p : X → Bool) (xs : List X) → All (λ x. p x ≡ false) xs → position_or_len p xs ≡ length xs
    position_or_len_at_end p [] all = refl
    position_or_len_at_end p (x ∷ xs) all = position_or_len_is p (x ∷ xs) (length (x ∷ xs)) x (omega arith) (λ k l. all k x l) (λ l. absurd (omega arith))

no_map : {X Y : Type 0} (f : X → Y) (o : Option X) → option_map f o ≡ None → o ≡ None
no_map f None e = refl
no_map {X} {Y} f (Some x) e = absurd (let g : ◌≡◌ {A = Option Y} (Some (f x)) None = e in cc)

map_none : {X Y : Type 0} (f : X → Y) (o : Option X) → o ≡ None → option_map f o ≡ None
map_none f o e = ap (option_map f) e

-- ---- tests
both_false : (a b : Bool) → (a || b) ≡ false → (a ≡ false) × (b ≡ false)
both_false true b e = cc
both_false false b e = (refl, e)

false_both : (a b : Bool) → a ≡ false → b ≡ false → (a || b) ≡ false
false_both a b e f = ap (λ t. t || b) e ∙ f

leb_false_in : (a b : ℕ) → b < a → leb a b ≡ false
leb_false_in a b h = grind (arith, nat_tests)

leb_true_in : (a b : ℕ) → a ≤ b → leb a b ≡ true
leb_true_in a b h = grind (arith, nat_tests)

at_most_out : (limit n : ℕ) (q : Quantity) → unless_at_most limit q n ≡ None → n ≤ limit
at_most_out limit n q e = by_test (leb n limit) refl e
  where
    by_test : (b : Bool) → leb n limit ≡ b → cond b None (Some (Range q 0 (pos n))) ≡ None → n ≤ limit
    by_test true t e = leb-true n limit t
    by_test false t e = absurd (let f : ◌≡◌ {A = Option NetError} (Some (Range q 0 (pos n))) None = e in cc)

at_most_in : (limit n : ℕ) (q : Quantity) → n ≤ limit → unless_at_most limit q n ≡ None
at_most_in limit n q h = ap (λ b. cond b None (Some (Range q 0 (pos n)))) (leb_true_in n limit h)

turned : (b : Bool) → cond b false true ≡ false → b ≡ true
turned true e = refl
turned false e = cc

between_out : (a z b : ℤ) → (le_z a z && le_z z b) ≡ true → (a ≤ℤ z) × (z ≤ℤ b)
between_out a z b e = by_tests (le_z a z) (le_z z b) refl refl e
  where
    by_tests : (s t : Bool) → le_z a z ≡ s → le_z z b ≡ t → (s && t) ≡ true → (a ≤ℤ z) × (z ≤ℤ b)
    by_tests true true f g e = (omega (arith, ints, f), omega (arith, ints, g))
    by_tests true false f g e = cc
    by_tests false t f g e = cc

between_in : (a z b : ℤ) → a ≤ℤ z → z ≤ℤ b → (le_z a z && le_z z b) ≡ true
between_in a z b h k = ap (λ t. t && le_z z b) (le_in a z h) ∙ le_in z b k
  where
    le_in : (x y : ℤ) → x ≤ℤ y → le_z x y ≡ true
    le_in x y h = sym (omega (arith, ints))

-- ---- the first number that does not fit
unfit_out : {X : Type 0} (q : Quantity) (fits : ℤ → Bool) (f : X → ℤ) (xs : List X) → first_unfit q fits (map f xs) ≡ None → All (λ x. fits (f x) ≡ true) xs
unfit_out q fits f xs e =
    let none = sym (place_of_map f (λ z. if fits z then false else true) xs) ∙ no_map (λ at. Range q at (get_or (map f xs) at (pos 0))) (position (λ z. if fits z then false else true) (map f xs)) e in
    let all = none_pass (λ x. if fits (f x) then false else true) xs none in
    λ k d l. turned (fits (f (get_or xs k d))) (all k d l)

unfit_in : {X : Type 0} (q : Quantity) (fits : ℤ → Bool) (f : X → ℤ) (xs : List X) → All (λ x. fits (f x) ≡ true) xs → first_unfit q fits (map f xs) ≡ None
unfit_in q fits f xs all =
    map_none (λ at. Range q at (get_or (map f xs) at (pos 0))) (position (λ z. if fits z then false else true) (map f xs))
    (place_of_map f (λ z. if fits z then false else true) xs ∙ no_place (λ x. if fits (f x) then false else true) xs (λ k d l. ap (λ b. cond b false true) (all k d l)))

-- ---- pads that agree
has_first : (ps : List Pad) (k : ℕ) (d : Pad) → k < length ps → (v : ℤ) × (first_pad ps (get_or ps k d).node ≡ Some v)
has_first [] k d l = absurd (omega arith)
has_first (p ∷ ps) zero d l = (p.volts, ap (λ b. cond b (Some p.volts) (first_pad ps p.node)) (eq-eqb p.node p.node refl))
has_first (p ∷ ps) (suc k) d l = by_test (eqb p.node (get_or ps k d).node) (has_first ps k d (omega arith))
  where
    by_test : (b : Bool) → (v : ℤ) × (first_pad ps (get_or ps k d).node ≡ Some v) → (v : ℤ) × (cond b (Some p.volts) (first_pad ps (get_or ps k d).node) ≡ Some v)
    by_test true h = (p.volts, refl)
    by_test false h = h

pub agree_out : (ps : List Pad) → first_conflict ps ≡ None → PadsAgree ps
agree_out ps e =
    let all = none_of (λ p. conflict_with p (first_pad ps p.node)) ps e in
    let volts_of : (k : ℕ) (d : Pad) → k < length ps → first_pad ps (get_or ps k d).node ≡ Some (get_or ps k d).volts =
    λ k d l. let h = has_first ps k d l in h.1 ∙ ap Some (same_voltage (get_or ps k d) h.0 (ap (conflict_with (get_or ps k d)) (sym h.1) ∙ all k d l)) in
    λ k d l m d' l' same. some_same (get_or ps k d).volts (get_or ps m d').volts (sym (volts_of k d l) ∙ ap (first_pad ps) same ∙ volts_of m d' l')
  where
    some_same : (x y : ℤ) → ◌≡◌ {A = Option ℤ} (Some x) (Some y) → x ≡ y
    some_same x y e = cc

agree_in : (ps : List Pad) → PadsAgree ps → first_conflict ps ≡ None
agree_in ps agree = of_none (λ p. conflict_with p (first_pad ps p.node)) ps (λ k d l.
    let p = get_or ps k d in
    let h = has_first ps k d l in
    let q = first_is_of_list (λ (x : Pad). p.node ≡ x.node → p.volts ≡ x.volts) ps p.node h.0 (agree k d l) h.1 in
    passes_alone p (first_pad ps p.node) (h.1 ∙ ap Some (sym q.2 ∙ sym (q.3 (sym q.1)))))

-- ---- all of it
module _ (n : ℕ) (rs : List Resistor) (ps : List Pad) (ls : List Load) where
  abbrev beyond : Option NetError
  beyond = first_beyond_limit n rs ps ls

  abbrev ends : Option NetError
  ends = option_map (λ at. BadEnd at) (first_bad_end n rs ps ls)

  abbrev bad_r : Resistor → Bool
  bad_r r = leb n r.a || leb n r.b

  abbrev places_p : Option ℕ
  places_p = position (λ (p : Pad). leb n p.node) ps

  abbrev places_l : Option ℕ
  places_l = position (λ (l : Load). leb n l.node) ls

  abbrev q_nodes : Option NetError
  q_nodes = unless_at_most most_nodes Nodes n

  abbrev q_resistors : Option NetError
  q_resistors = unless_at_most most_resistors Resistors (length rs)

  abbrev q_ohms : Option NetError
  q_ohms = first_unfit Resistance resistance_fits (map (λ r. r.ohms) rs)

  abbrev q_volts : Option NetError
  q_volts = first_unfit Voltage voltage_fits (map (λ p. p.volts) ps)

  abbrev q_loads : Option NetError
  q_loads = unless_at_most greatest_load Loads (given_load ls)

  pub limits_from_tests : ends ≡ None → beyond ≡ None → KeepsLimits n rs ps ls
  limits_from_tests e f =
      let places = no_map (λ at. BadEnd at) (first_bad_end n rs ps ls) e in
      let at_r = none_pass bad_r rs (none_first (position bad_r rs) (or_else places_p places_l) places) in
      let rest = none_second (position bad_r rs) (or_else places_p places_l) places in
      let at_p = none_pass (λ (p : Pad). leb n p.node) ps (none_first places_p places_l rest) in
      let at_l = none_pass (λ (l : Load). leb n l.node) ls (none_second places_p places_l rest) in
      let f1 = none_second q_nodes (or_else q_resistors (or_else q_ohms (or_else q_volts q_loads))) f in
      let f2 = none_second q_resistors (or_else q_ohms (or_else q_volts q_loads)) f1 in
      let f3 = none_second q_ohms (or_else q_volts q_loads) f2 in
      let ohms = unfit_out Resistance resistance_fits (λ (r : Resistor). r.ohms) rs (none_first q_ohms (or_else q_volts q_loads) f2) in
      let volts = unfit_out Voltage voltage_fits (λ (p : Pad). p.volts) ps (none_first q_volts q_loads f3) in
      record {
        ends_are_nodes = λ k d l. let b = both_false (leb n (get_or rs k d).a) (leb n (get_or rs k d).b) (at_r k d l) in (leb-false n (get_or rs k d).a b.0, leb-false n (get_or rs k d).b b.1);
        pads_are_nodes = λ k d l. leb-false n (get_or ps k d).node (at_p k d l);
        loads_are_nodes = λ k d l. leb-false n (get_or ls k d).node (at_l k d l);
        few_nodes = at_most_out most_nodes n Nodes (none_first q_nodes (or_else q_resistors (or_else q_ohms (or_else q_volts q_loads))) f);
        few_resistors = at_most_out most_resistors (length rs) Resistors (none_first q_resistors (or_else q_ohms (or_else q_volts q_loads)) f1);
        resistances = λ k d l. between_out (pos 1) (get_or rs k d).ohms (pos greatest_resistance) (ohms k d l);
        voltages = λ k d l. between_out (neg_ℤ (pos greatest_voltage)) (get_or ps k d).volts (pos greatest_voltage) (volts k d l);
        sum_of_loads = at_most_out greatest_load (given_load ls) Loads (none_second q_volts q_loads f3);
      }

  pub tests_from_limits : KeepsLimits n rs ps ls → (ends ≡ None) × (beyond ≡ None)
  tests_from_limits keeps = (
    map_none (λ at. BadEnd at) (first_bad_end n rs ps ls)
        (none_both (position bad_r rs) (or_else places_p places_l)
        (no_place bad_r rs (λ k d l. false_both (leb n (get_or rs k d).a) (leb n (get_or rs k d).b) (leb_false_in n (get_or rs k d).a (keeps.ends_are_nodes k d l).0) (leb_false_in n (get_or rs k d).b (keeps.ends_are_nodes k d l).1)))
        (none_both places_p places_l
        (no_place (λ (p : Pad). leb n p.node) ps (λ k d l. leb_false_in n (get_or ps k d).node (keeps.pads_are_nodes k d l)))
        (no_place (λ (l : Load). leb n l.node) ls (λ k d l. leb_false_in n (get_or ls k d).node (keeps.loads_are_nodes k d l))))),
    none_both q_nodes (or_else q_resistors (or_else q_ohms (or_else q_volts q_loads))) (at_most_in most_nodes n Nodes keeps.few_nodes)
        (none_both q_resistors (or_else q_ohms (or_else q_volts q_loads)) (at_most_in most_resistors (length rs) Resistors keeps.few_resistors)
        (none_both q_ohms (or_else q_volts q_loads) (unfit_in Resistance resistance_fits (λ (r : Resistor). r.ohms) rs (λ k d l. between_in (pos 1) (get_or rs k d).ohms (pos greatest_resistance) (keeps.resistances k d l).0 (keeps.resistances k d l).1))
        (none_both q_volts q_loads (unfit_in Voltage voltage_fits (λ (p : Pad). p.volts) ps (λ k d l. between_in (neg_ℤ (pos greatest_voltage)) (get_or ps k d).volts (pos greatest_voltage) (keeps.voltages k d l).0 (keeps.voltages k d l).1))
        (at_most_in greatest_load (given_load ls) Loads keeps.sum_of_loads)))),
  )

  pub no_end_refused : first_net_refusal n rs ps ls ≡ None → ends ≡ None
  no_end_refused e = none_first ends (or_else beyond (first_conflict ps)) e

  pub no_limit_refused : first_net_refusal n rs ps ls ≡ None → beyond ≡ None
  no_limit_refused e = none_first beyond (first_conflict ps) (none_second ends (or_else beyond (first_conflict ps)) e)

  pub keeps_from_none : first_net_refusal n rs ps ls ≡ None → KeepsLimits n rs ps ls
  keeps_from_none e = limits_from_tests (no_end_refused e) (no_limit_refused e)

  pub agree_from_none : first_net_refusal n rs ps ls ≡ None → PadsAgree ps
  agree_from_none e = agree_out ps (none_second beyond (first_conflict ps) (none_second ends (or_else beyond (first_conflict ps)) e))

  pub none_from_keeps : KeepsLimits n rs ps ls → PadsAgree ps → first_net_refusal n rs ps ls ≡ None
  none_from_keeps keeps agree =
      let t = tests_from_limits keeps in
      none_both ends (or_else beyond (first_conflict ps)) t.0 (none_both beyond (first_conflict ps) t.1 (agree_in ps agree))

  -- Two steps to a refusal.
  pub refused_by_limit : (e : NetError) → ends ≡ None → beyond ≡ Some e → first_net_refusal n rs ps ls ≡ Some e
  refused_by_limit e f g = ap (λ o. or_else o (or_else beyond (first_conflict ps))) f ∙ ap (λ o. or_else o (first_conflict ps)) g

  pub refused_by_pads : (e : NetError) → ends ≡ None → beyond ≡ None → first_conflict ps ≡ Some e → first_net_refusal n rs ps ls ≡ Some e
  refused_by_pads e f g h = ap (λ o. or_else o (or_else beyond (first_conflict ps))) f ∙ ap (λ o. or_else o (first_conflict ps)) g ∙ h

  pub refused_by_end : (at : ℕ) → first_bad_end n rs ps ls ≡ Some at → first_net_refusal n rs ps ls ≡ Some (BadEnd at)
  refused_by_end at e = ap (λ o. or_else (option_map (λ a. BadEnd a) o) (or_else beyond (first_conflict ps))) e

-- ---- the answers of a build
pub moved_limits : (n : ℕ) (rs rs' : List Resistor) (ps ps' : List Pad) (ls ls' : List Load) → rs ≡ rs' → ps ≡ ps' → ls ≡ ls' → KeepsLimits n rs ps ls → KeepsLimits n rs' ps' ls'
moved_limits n rs rs' ps ps' ls ls' e f g keeps =
    let at_r : List Resistor → Type 0 = λ xs. KeepsLimits n xs ps ls in
    let at_p : List Pad → Type 0 = λ xs. KeepsLimits n rs' xs ls in
    let at_l : List Load → Type 0 = λ xs. KeepsLimits n rs' ps' xs in
    subst at_l g (subst at_p f (subst at_r e keeps))

pub failing : {X : Type 0} (n : ℕ) (rs : List Resistor) (ps : List Pad) (ls : List Load) (x : NetError) (r : Result X NetError) → IsErrAnd r (λ e. e ≡ x) → BuildFails n rs ps ls x → IfErr r (BuildFails n rs ps ls)
failing n rs ps ls x (Ok v) h b = tt
failing n rs ps ls x (Err e) h b = subst (BuildFails n rs ps ls) (sym h) b

pub fails_by_pads : (n : ℕ) (rs : List Resistor) (ps : List Pad) (ls : List Load) (e : NetError) → KeepsLimits n rs ps ls → (first_conflict ps ≡ Some e) ⊎ (e ≡ Want) → BuildFails n rs ps ls e
fails_by_pads n rs ps ls e keeps (inl h) = let t = tests_from_limits n rs ps ls keeps in inl (refused_by_pads n rs ps ls e t.0 t.1 h)
fails_by_pads n rs ps ls e keeps (inr h) = inr (h, keeps)
