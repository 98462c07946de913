-- A script has one plan over a design, or one refusal of it.
use Rattle.std.proofs.Common.{◌≡◌, ◌≢◌, ◌⊎◌, inl, inr, ℕ, not, Option, List, [], ◌∷◌, ◌++◌, map, filter, AllPairs, Contains, get_or, subst, refl, sym, ap, ◌∙◌}
use Rattle.std.proofs.lemmas.List.Elements.{Contains-append_cases, Contains-get_or}
use Rattle.std.proofs.lemmas.List.Kept.{AllPairs-cons, AllPairs-filter}
use Rattle.std.proofs.lemmas.List.Sorted.{IsPermutation-sym, Contains-permutation}
use Rattle.entry_list.specs.InTurn.{InTurn}
use Rattle.entry_list.specs.Laws.{in-turn-one}
use Rattle.geom_rect.specs.declared.rect.Rect.{Rect}
use Rattle.name_table.specs.ByteOrder.{IsBefore}
use Rattle.lef_tech.specs.declared.tech.Tech.{Tech}
use Rattle.lef_cells.specs.declared.record.Cells.{Cells}
use Rattle.def_design.specs.declared.record.Design.{Design}
use Rattle.pdn_script.specs.declared.record.Connect.{Connect as Said}
use Rattle.pdn_script.specs.declared.record.Domain.{Domain}
use Rattle.pdn_script.specs.declared.record.Ring.{Ring}
use Rattle.pdn_script.specs.declared.record.Script.{Script}
use Rattle.pdn_script.specs.declared.record.Stripe.{Stripe}
use Rattle.grid_pieces.specs.declared.error.DrawError.{DrawError}
use Rattle.grid_pieces.specs.declared.error.DrawError.TheVariants.{Want}
use Rattle.grid_pieces.specs.declared.grid.DomainAt.{DomainAt}
use Rattle.grid_pieces.specs.Laws.Amongst.{Among-map, Among-filter, none_is_no_value, same_value}
use Rattle.list_laws.specs.Laws.Permuted.{apart_permuted}
use Rattle.grid_stacks.specs.declared.connect.Connect.{Connect}
use Rattle.grid_plan.specs.declared.order.PlacedConnect.{PlacedConnect}
use Rattle.grid_plan.specs.declared.record.Plan.{Plan}
use Rattle.grid_plan.specs.Names.{Names, names_of, AreNets, powers_of}
use Rattle.grid_plan.specs.Resolved.{IsDomainAt, straps_of, ring_of, connect_of, ring_connect_of}
use Rattle.grid_plan.specs.Planning.{Plans, IsPlanOf, IsPlanRefused, AreConnects, connects_in, stated_in, added_in}
use Rattle.one_drawing.specs.Apart.{StandApart}
use Rattle.one_drawing.specs.Laws.Listed.{has_first, has_later, pairs_map, pairs_later, pairs_first, same_list}
use Rattle.one_drawing.specs.Laws.Ordered.{names_one_way, IsEarlier, earlier_one_way, earlier_from}

-- ## connects

pairs_append : {X : Type 0} (R : X → X → Type 0) (xs ys : List X) → AllPairs R xs → AllPairs R ys → ((x y : X) → Contains xs x → Contains ys y → R x y) → AllPairs R (xs ++ ys)
pairs_append R [] ys front back across = back
pairs_append {X} R (x ∷ xs) ys front back across =
    AllPairs-cons R x (xs ++ ys) (λ k d within. by_place (get_or (xs ++ ys) k d) (Contains-append_cases xs ys (get_or (xs ++ ys) k d) (Contains-get_or (xs ++ ys) k d within)))
    (pairs_append R xs ys (pairs_later R x xs front) back (λ a b a_is b_is. across a b (has_later x xs a a_is) b_is))
  where
    by_place : (y : X) → Contains xs y ⊎ Contains ys y → R x y
    by_place y (inl has) = pairs_first R x xs front y has
    by_place y (inr has) = across x y (has_first x xs) has

-- two commands stand at different places
abbrev AreApart : PlacedConnect → PlacedConnect → Type 0
AreApart a b = a.place ≢ b.place

abbrev stated : Names → Said → PlacedConnect
stated names c = record { place = c.place; connect = connect_of names c }

abbrev added : Names → Ring → PlacedConnect
added names r = record { place = r.place; connect = ring_connect_of names r }

commands_apart : (names : Names) (script : Script) → StandApart script → AllPairs AreApart (connects_in names script)
commands_apart names script apart =
    pairs_append AreApart (stated_in names script.connects) (added_in names script.rings) (pairs_map (stated names) AreApart script.connects apart.connects)
    (pairs_map (added names) AreApart (filter (λ (r : Ring). r.add_connect) script.rings) (AllPairs-filter (λ (a b : Ring). a.place ≢ b.place) (λ (r : Ring). r.add_connect) script.rings apart.rings)) across
  where
    across : (a b : PlacedConnect) → Contains (stated_in names script.connects) a → Contains (added_in names script.rings) b → AreApart a b
    across a b a_has b_has same =
        let one = (Among-map (stated names) (λ (c : PlacedConnect). c ≡ a) script.connects).0 (a, a_has, refl) in
        let two = (Among-map (added names) (λ (c : PlacedConnect). c ≡ b) (filter (λ (r : Ring). r.add_connect) script.rings)).0 (b, b_has, refl) in
        let ring = (Among-filter (λ (r : Ring). r.add_connect) (λ (r : Ring). added names r ≡ b) script.rings).0 two in
        let at_one : one.0.place ≡ a.place = ap (λ (c : PlacedConnect). c.place) one.2 in
        let at_ring : ring.0.place ≡ b.place = ap (λ (c : PlacedConnect). c.place) ring.2.1 in
        apart.across one.0 ring.0 one.1 ring.1 (at_one ∙ same ∙ sym at_ring)

one_connects : (names : Names) (script : Script) (a b : List Connect) → StandApart script → AreConnects names script a → AreConnects names script b → a ≡ b
one_connects names script a b apart x y =
    x.are
    ∙ ap (map (λ (c : PlacedConnect). c.connect))
    (same_list IsEarlier earlier_one_way x.placed y.placed (rising a x) (rising b y) (λ c has. there c (Contains-permutation x.placed all c (IsPermutation-sym all x.placed x.same) has))
    (λ c has. back c (Contains-permutation y.placed all c (IsPermutation-sym all y.placed y.same) has)))
    ∙ sym y.are
  where
    all : List PlacedConnect
    all = connects_in names script

    there : (c : PlacedConnect) → Contains all c → Contains y.placed c
    there c has = Contains-permutation all y.placed c y.same has

    back : (c : PlacedConnect) → Contains all c → Contains x.placed c
    back c has = Contains-permutation all x.placed c x.same has

    rising : (connects : List Connect) (w : AreConnects names script connects) → AllPairs IsEarlier w.placed
    rising connects w i j d less within =
        earlier_from (get_or w.placed i d) (get_or w.placed j d) (w.in_order i j d less within)
        (apart_permuted AreApart (λ p q differ same. differ (sym same)) all w.placed w.same (commands_apart names script apart) i j d less within)

-- ## the plan

one_nets : (script : Script) (a b : List (List ℕ)) → AreNets script a → AreNets script b → a ≡ b
one_nets script a b x y =
    same_list IsBefore names_one_way a b x.in_order y.in_order (λ name has. (y.are name).1 ((x.are name).0 has)) (λ name has. (x.are name).1 ((y.are name).0 has))

-- the domain with this region and these nets
abbrev domain_with : (region : Option Rect) (power ground : ℕ) → DomainAt
domain_with region power ground = record { region = region; ground = ground; power = power }

one_domain : (names : Names) (nets : List (List ℕ)) (design : Design) (domain : Domain) (a b : DomainAt) → IsDomainAt names nets design domain a → IsDomainAt names nets design domain b → a ≡ b
one_domain names nets design domain a b x y =
    let region = x.region ∙ sym y.region in
    let lower = x.lower_net ∙ sym y.lower_net in
    let upper = x.upper_net ∙ sym y.upper_net in
    λ i. domain_with (region i) (upper i) (lower i)

-- Two plans differ in the order of their connects at most.
pub same_but_connects : (tech : Tech) (cells : Cells) (design : Design) (script : Script) (a b : Plan) → IsPlanOf tech cells design script a → IsPlanOf tech cells design script b
    → b ≡ record a { connects = b.connects }
same_but_connects tech cells design script a b a_is b_is =
    λ i. record {
      units = sym units i;
      die = sym die i;
      nets = sym nets i;
      power = sym power i;
      domains = sym domains i;
      grids = sym grids i;
      rows = sym rows i;
      straps = sym straps i;
      rails = sym rails i;
      rings = sym rings i;
      connects = b.connects;
      blocks = sym blocks i;
    }
  where
    names : Names
    names = names_of tech cells design script

    x : Plans tech cells names design script a
    x = a_is.plans

    y : Plans tech cells names design script b
    y = b_is.plans

    units : a.units ≡ b.units
    units = x.units ∙ sym y.units

    die : a.die ≡ b.die
    die = x.die ∙ sym y.die

    nets : a.nets ≡ b.nets
    nets = one_nets script a.nets b.nets x.nets y.nets

    power : a.power ≡ b.power
    power = x.power ∙ ap (powers_of script) nets ∙ sym y.power

    domains : a.domains ≡ b.domains
    domains =
        in-turn-one (IsDomainAt names b.nets design) (one_domain names b.nets design) script.domains a.domains b.domains
        (subst (λ (n : List (List ℕ)). InTurn (IsDomainAt names n design) script.domains a.domains) nets x.domains) y.domains

    grids : a.grids ≡ b.grids
    grids = x.grids ∙ sym y.grids

    rows : a.rows ≡ b.rows
    rows = x.rows ∙ sym y.rows

    straps : a.straps ≡ b.straps
    straps = x.straps ∙ ap (λ (n : List (List ℕ)). map (straps_of tech names n script design.units) (filter (λ (s : Stripe). not s.followpins) script.stripes)) nets ∙ sym y.straps

    rails : a.rails ≡ b.rails
    rails = x.rails ∙ sym y.rails

    rings : a.rings ≡ b.rings
    rings = x.rings ∙ ap (λ (n : List (List ℕ)). map (ring_of tech names n script design.units) script.rings) nets ∙ sym y.rings

    blocks : a.blocks ≡ b.blocks
    blocks = x.blocks ∙ sym y.blocks

pub one_plan : (tech : Tech) (cells : Cells) (design : Design) (script : Script) (a b : Plan) → StandApart script → IsPlanOf tech cells design script a → IsPlanOf tech cells design script b → a ≡ b
one_plan tech cells design script a b apart a_is b_is =
    let connects : a.connects ≡ b.connects = one_connects (names_of tech cells design script) script a.connects b.connects apart a_is.plans.connects b_is.plans.connects in
    ap (λ (c : List Connect). record a { connects = c }) connects ∙ sym (same_but_connects tech cells design script a b a_is b_is)

-- A connect of one plan is one of the other too.
pub connect_moves : (names : Names) (script : Script) (a b : List Connect) (c : Connect) → AreConnects names script a → AreConnects names script b → Contains a c → Contains b c
connect_moves names script a b c x y has =
    let placed = (Among-map (λ (p : PlacedConnect). p.connect) (λ (d : Connect). d ≡ c) x.placed).0 (c, subst (λ (l : List Connect). Contains l c) x.are has, refl) in
    let all : Contains (connects_in names script) placed.0 = Contains-permutation x.placed (connects_in names script) placed.0 (IsPermutation-sym (connects_in names script) x.placed x.same) placed.1 in
    let there : Contains y.placed placed.0 = Contains-permutation (connects_in names script) y.placed placed.0 y.same all in
    let back = (Among-map (λ (p : PlacedConnect). p.connect) (λ (d : Connect). d ≡ c) y.placed).1 (placed.0, there, placed.2) in
    subst (λ (l : List Connect). Contains l c) (sym y.are) (subst (Contains (map (λ (p : PlacedConnect). p.connect) y.placed)) back.2 back.1)

-- ## its refusal

-- A plan that is refused stands nowhere, and for one reason.
pub no_plan : (tech : Tech) (cells : Cells) (design : Design) (script : Script) (plan : Plan) (error : DrawError) → IsPlanOf tech cells design script plan → IsPlanRefused tech cells design script error → error ≢ Want → ⊥
no_plan tech cells design script plan error is (inl want) known = known want
no_plan tech cells design script plan error is (inr refused) known = none_is_no_value error (sym is.allowed ∙ refused)

pub one_plan_refusal : (tech : Tech) (cells : Cells) (design : Design) (script : Script) (e f : DrawError) → IsPlanRefused tech cells design script e → IsPlanRefused tech cells design script f
    → e ≢ Want → f ≢ Want → e ≡ f
one_plan_refusal tech cells design script e f (inl want) _ known _ = absurd (known want)
one_plan_refusal tech cells design script e f (inr _) (inl want) _ known = absurd (known want)
one_plan_refusal tech cells design script e f (inr x) (inr y) _ _ = same_value e f (sym x ∙ y)
