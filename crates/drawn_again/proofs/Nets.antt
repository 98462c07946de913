-- A drawing over one domain, of two nets: the power and the ground net of the domain, in byte order.
use Rattle.std.proofs.Common.{◌≡◌, ◌⊎◌, inl, inr, ℕ, zero, suc, ◌+◌, ◌<◌, Bool, true, false, cond, Some, None, List, [], ◌∷◌, length, get_or, map, refl, sym, ap, ◌∙◌, subst, arith}
use Rattle.std.specs.Prelude.{◌↔◌, Contains, ◌||◌}
use Rattle.std.specs.List.{list_any}
use Rattle.std.specs.Option.{unwrap_or}
use Rattle.std.specs.Str.{bytes_eq}
use Rattle.std.proofs.lemmas.List.{get_or_default}
use Rattle.std.proofs.lemmas.Slice.Eq.{bytes_eq-Decides}
use Rattle.entry_list.specs.InTurn.{InTurn}
use Rattle.name_table.specs.ByteOrder.{IsBefore, IsInByteOrder}
use Rattle.lef_tech.specs.declared.tech.Tech.{Tech}
use Rattle.lef_cells.specs.declared.record.Cells.{Cells}
use Rattle.def_design.specs.declared.record.Design.{Design}
use Rattle.pdn_script.specs.declared.record.Domain.{Domain}
use Rattle.pdn_script.specs.declared.record.Script.{Script}
use Rattle.grid_pieces.specs.declared.grid.DomainAt.{DomainAt}
use Rattle.grid_pieces.specs.declared.grid.Grid.{Grid}
use Rattle.grid_plan.specs.declared.record.Plan.{Plan}
use Rattle.grid_plan.specs.Names.{Names, place_in, domain_nets, HaveNets}
use Rattle.grid_plan.specs.Planning.{Plans}
use Rattle.grid_plan.specs.Resolved.{IsDomainAt}
use Rattle.alike_grids.specs.Alike.{without_regions}
use Rattle.wired_grid.specs.Wired.{one_domain}
use Rattle.wired_again.specs.Again.{IsOverOneDomain}

-- ## names

not_before_itself : (a : List ℕ) → IsBefore a a → ⊥
not_before_itself [] h = h
not_before_itself (x ∷ xs) (inl less) = absurd (omega (arith, less))
not_before_itself (x ∷ xs) (inr (same, rest)) = not_before_itself xs rest

differ : (a b : List ℕ) → IsBefore a b → a ≡ b → ⊥
differ a b before same = not_before_itself b (subst (λ (n : List ℕ). IsBefore n b) same before)

same_bytes : (a : List ℕ) → bytes_eq a a ≡ true
same_bytes a = (bytes_eq-Decides a a).1 refl

other_bytes : (a b : List ℕ) → (a ≡ b → ⊥) → bytes_eq a b ≡ false
other_bytes a b differ = by (bytes_eq a b) refl
  where
    by : (t : Bool) → bytes_eq a b ≡ t → bytes_eq a b ≡ false
    by true is = absurd (differ ((bytes_eq-Decides a b).0 is))
    by false is = is

-- ## members of short lists

of_one : {X : Type 0} (x n : X) → Contains (x ∷ []) n → x ≡ n
of_one x n (zero, within, is) = is
of_one x n (suc k, within, is) = absurd (omega (arith, within))

of_two : {X : Type 0} (x y n : X) → Contains (x ∷ y ∷ []) n → (x ≡ n) ⊎ (y ≡ n)
of_two x y n (zero, within, is) = inl is
of_two x y n (suc zero, within, is) = inr is
of_two x y n (suc (suc k), within, is) = absurd (omega (arith, within))

two_names : (names : List (List ℕ)) → length names ≡ 2 → (a : List ℕ) × (b : List ℕ) × (names ≡ a ∷ b ∷ [])
two_names [] long = absurd (omega (arith, long))
two_names (a ∷ []) long = absurd (omega (arith, long))
two_names (a ∷ b ∷ []) long = (a, b, refl)
two_names (a ∷ b ∷ c ∷ names) long = absurd (omega (arith, long))

one_in_turn : {L E : Type 0} (says : L → E → Type 0) (lines : List L) (entries : List E) → InTurn says lines entries → length entries ≡ 1
    → (line : L) × (entry : E) × (lines ≡ line ∷ []) × (entries ≡ entry ∷ []) × says line entry
one_in_turn says [] [] all long = absurd (omega (arith, long))
one_in_turn says [] (entry ∷ entries) all long = absurd all
one_in_turn says (line ∷ lines) [] all long = absurd all
one_in_turn says (line ∷ []) (entry ∷ []) all long = (line, entry, refl, refl, all.0)
one_in_turn says (line ∷ []) (entry ∷ other ∷ entries) all long = absurd all.1
one_in_turn says (line ∷ other ∷ lines) (entry ∷ []) all long = absurd all.1
one_in_turn says (line ∷ other ∷ lines) (entry ∷ next ∷ entries) all long = absurd (omega (arith, long))

-- ## the two nets of a domain

abbrev powers_by : List Domain → List (List ℕ) → List Bool
powers_by domains nets = map (λ (net : List ℕ). list_any (λ (domain : Domain). bytes_eq domain.power net) domains) nets

module _ (names : Names) (design : Design) (domain : Domain) (at : DomainAt) (a b : List ℕ) (before : IsBefore a b) (is : IsDomainAt names (a ∷ b ∷ []) design domain at) where
  a_not_b : bytes_eq a b ≡ false
  a_not_b = other_bytes a b (differ a b before)

  b_not_a : bytes_eq b a ≡ false
  b_not_a = other_bytes b a (λ same. differ a b before (sym same))

  place_a : place_in (a ∷ b ∷ []) a ≡ 0
  place_a = ap (λ t. unwrap_or (cond t (Some 0) (cond (bytes_eq b a) (Some (0 + 1)) None)) 0) (same_bytes a)

  place_b : place_in (a ∷ b ∷ []) b ≡ 1
  place_b = λ i. unwrap_or (cond (a_not_b i) (Some 0) (cond (same_bytes b i) (Some (0 + 1)) None)) 0

  powers_a : domain.power ≡ a → powers_by (domain ∷ []) (a ∷ b ∷ []) ≡ true ∷ false ∷ []
  powers_a power =
      ap (λ n. (bytes_eq n a || false) ∷ (bytes_eq n b || false) ∷ []) power ∙ (λ i. (same_bytes a i || false) ∷ (a_not_b i || false) ∷ [])

  powers_b : domain.power ≡ b → powers_by (domain ∷ []) (a ∷ b ∷ []) ≡ false ∷ true ∷ []
  powers_b power =
      ap (λ n. (bytes_eq n a || false) ∷ (bytes_eq n b || false) ∷ []) power ∙ (λ i. (b_not_a i || false) ∷ (same_bytes b i || false) ∷ [])

  domain_a : domain.power ≡ a → domain.ground ≡ b → record at { region = None } ≡ one_domain true
  domain_a power ground =
      let at_ground : at.ground ≡ 1 = is.lower_net ∙ ap (place_in (a ∷ b ∷ [])) ground ∙ place_b in
      let at_power : at.power ≡ 0 = is.upper_net ∙ ap (place_in (a ∷ b ∷ [])) power ∙ place_a in
      λ i. record { region = None; ground = at_ground i; power = at_power i }

  domain_b : domain.power ≡ b → domain.ground ≡ a → record at { region = None } ≡ one_domain false
  domain_b power ground =
      let at_ground : at.ground ≡ 0 = is.lower_net ∙ ap (place_in (a ∷ b ∷ [])) ground ∙ place_a in
      let at_power : at.power ≡ 1 = is.upper_net ∙ ap (place_in (a ∷ b ∷ [])) power ∙ place_b in
      λ i. record { region = None; ground = at_ground i; power = at_power i }

  -- the first is the power net and the second the ground net, or the other way round
  two_nets : HaveNets (domain ∷ []) (a ∷ b ∷ []) → ((domain.power ≡ a) × (domain.ground ≡ b)) ⊎ ((domain.power ≡ b) × (domain.ground ≡ a))
  two_nets are = by (one_of a (0, omega arith, refl)) (one_of b (1, omega arith, refl))
    where
      one_of : (n : List ℕ) → Contains (a ∷ b ∷ []) n → (domain.power ≡ n) ⊎ (domain.ground ≡ n)
      one_of n in_nets =
          let (other, in_domains, in_two) = (are n).0 in_nets in
          of_two domain.power domain.ground n (subst (λ (d : Domain). Contains (domain_nets d) n) (sym (of_one domain other in_domains)) in_two)

      by : (domain.power ≡ a) ⊎ (domain.ground ≡ a) → (domain.power ≡ b) ⊎ (domain.ground ≡ b)
          → ((domain.power ≡ a) × (domain.ground ≡ b)) ⊎ ((domain.power ≡ b) × (domain.ground ≡ a))
      by (inl power) (inl power') = absurd (differ a b before (sym power ∙ power'))
      by (inl power) (inr ground) = inl (power, ground)
      by (inr ground) (inl power) = inr (power, ground)
      by (inr ground) (inr ground') = absurd (differ a b before (sym ground ∙ ground'))

  over : (grid : Grid) → HaveNets (domain ∷ []) (a ∷ b ∷ []) → grid.nets ≡ a ∷ b ∷ [] → grid.power ≡ powers_by (domain ∷ []) (a ∷ b ∷ []) → grid.domains ≡ at ∷ []
      → IsOverOneDomain (without_regions grid)
  over grid are nets power domains = by (two_nets are)
    where
      all_over : (without_regions grid).domains ≡ record at { region = None } ∷ []
      all_over = ap (map (λ (d : DomainAt). record d { region = None })) domains

      by : ((domain.power ≡ a) × (domain.ground ≡ b)) ⊎ ((domain.power ≡ b) × (domain.ground ≡ a)) → IsOverOneDomain (without_regions grid)
      by (inl (is_power, is_ground)) = record {
        power = a;
        ground = b;
        power_first = true;
        order = before;
        nets = nets;
        powers = power ∙ powers_a is_power;
        domains = all_over ∙ ap (λ (d : DomainAt). d ∷ []) (domain_a is_power is_ground);
      }
      by (inr (is_power, is_ground)) = record {
        power = b;
        ground = a;
        power_first = false;
        order = before;
        nets = nets;
        powers = power ∙ powers_b is_power;
        domains = all_over ∙ ap (λ (d : DomainAt). d ∷ []) (domain_b is_power is_ground);
      }

-- ## the drawing

pub over_one_domain : (tech : Tech) (cells : Cells) (names : Names) (design : Design) (script : Script) (plan : Plan) (grid : Grid)
    → Plans tech cells names design script plan → grid.nets ≡ plan.nets → grid.power ≡ plan.power → grid.domains ≡ plan.domains
    → length grid.domains ≡ 1 → length grid.nets ≡ 2 → IsOverOneDomain (without_regions grid)
over_one_domain tech cells names design script plan grid plans nets power domains one two =
    let (a, b, plan_nets) = two_names plan.nets (sym (ap (λ (l : List (List ℕ)). length l) nets) ∙ two) in
    let (domain, at, script_domains, plan_domains, is) =
    one_in_turn (IsDomainAt names plan.nets design) script.domains plan.domains plans.domains (sym (ap (λ (l : List DomainAt). length l) domains) ∙ one) in
    let grid_domains : grid.domains ≡ at ∷ [] = domains ∙ plan_domains in
    let before : IsBefore a b = subst (λ (l : List (List ℕ)). IsInByteOrder l) plan_nets plans.nets.in_order 0 1 [] (omega arith) (omega arith) in
    over names design domain at a b before (subst (λ (l : List (List ℕ)). IsDomainAt names l design domain at) plan_nets is) grid
    (subst (λ (ds : List Domain). HaveNets ds (a ∷ b ∷ [])) script_domains (subst (λ (l : List (List ℕ)). HaveNets script.domains l) plan_nets plans.nets.are))
    (nets ∙ plan_nets) (power ∙ plans.power ∙ (λ i. powers_by (script_domains i) (plan_nets i))) grid_domains

-- ## how many nets

module _ (power ground : List ℕ) (two : power ≡ ground → ⊥) where
  abbrev Has : List (List ℕ) → Type 0
  Has nets = (n : List ℕ) → Contains nets n ↔ Contains (power ∷ ground ∷ []) n

  which : (nets : List (List ℕ)) → Has nets → (k : ℕ) (d : List ℕ) → k < length nets → (power ≡ get_or nets k d) ⊎ (ground ≡ get_or nets k d)
  which nets has k d within = of_two power ground (get_or nets k d) ((has (get_or nets k d)).0 (k, within, get_or_default nets k (get_or nets k d) d within))

  -- of three in order not all are among two
  no_third : (a b c : List ℕ) → IsBefore a b → IsBefore a c → IsBefore b c → (power ≡ a) ⊎ (ground ≡ a) → (power ≡ b) ⊎ (ground ≡ b) → (power ≡ c) ⊎ (ground ≡ c) → ⊥
  no_third a b c ab ac bc (inl p) (inl q) _ = differ a b ab (sym p ∙ q)
  no_third a b c ab ac bc (inr p) (inr q) _ = differ a b ab (sym p ∙ q)
  no_third a b c ab ac bc (inl p) (inr q) (inl r) = differ a c ac (sym p ∙ r)
  no_third a b c ab ac bc (inl p) (inr q) (inr r) = differ b c bc (sym q ∙ r)
  no_third a b c ab ac bc (inr p) (inl q) (inr r) = differ a c ac (sym p ∙ r)
  no_third a b c ab ac bc (inr p) (inl q) (inl r) = differ b c bc (sym q ∙ r)

  how_many : (nets : List (List ℕ)) → IsInByteOrder nets → Has nets → length nets ≡ 2
  how_many [] order has = let there = (has power).1 (0, omega arith, refl) in let within = there.1 in absurd (omega (arith, within))
  how_many (a ∷ []) order has =
      absurd (two (sym (of_one a power ((has power).1 (0, omega arith, refl))) ∙ of_one a ground ((has ground).1 (1, omega arith, refl))))
  how_many (a ∷ b ∷ []) order has = refl
  how_many (a ∷ b ∷ c ∷ rest) order has =
      absurd (no_third a b c (order 0 1 [] (omega arith) (omega arith)) (order 0 2 [] (omega arith) (omega arith)) (order 1 2 [] (omega arith) (omega arith))
      (which (a ∷ b ∷ c ∷ rest) has 0 [] (omega arith)) (which (a ∷ b ∷ c ∷ rest) has 1 [] (omega arith)) (which (a ∷ b ∷ c ∷ rest) has 2 [] (omega arith)))

of_domain : (domain : Domain) (nets : List (List ℕ)) → IsInByteOrder nets → HaveNets (domain ∷ []) nets → (domain.power ≡ domain.ground → ⊥) → length nets ≡ 2
of_domain domain nets order are two = how_many domain.power domain.ground two nets order has
  where
    has : Has domain.power domain.ground two nets
    has n = (
      λ there. let (other, in_domains, in_two) = (are n).0 there in subst (λ (d : Domain). Contains (domain_nets d) n) (sym (of_one domain other in_domains)) in_two,
      λ there. (are n).1 (domain, (0, omega arith, refl), there),
    )

-- a drawing over one domain has the two nets of the domain
pub has_two_nets : (tech : Tech) (cells : Cells) (names : Names) (design : Design) (script : Script) (plan : Plan) (grid : Grid)
    → Plans tech cells names design script plan → grid.nets ≡ plan.nets → grid.domains ≡ plan.domains → length grid.domains ≡ 1
    → ((domain : Domain) → Contains script.domains domain → domain.power ≡ domain.ground → ⊥) → length grid.nets ≡ 2
has_two_nets tech cells names design script plan grid plans nets domains one two =
    let (domain, at, script_domains, _, _) =
    one_in_turn (IsDomainAt names plan.nets design) script.domains plan.domains plans.domains (sym (ap (λ (l : List DomainAt). length l) domains) ∙ one) in
    let there : Contains script.domains domain = subst (λ (ds : List Domain). Contains ds domain) (sym script_domains) (0, omega arith, refl) in
    ap (λ (l : List (List ℕ)). length l) nets
    ∙ of_domain domain plan.nets plans.nets.in_order (subst (λ (ds : List Domain). HaveNets ds plan.nets) script_domains plans.nets.are) (two domain there)
