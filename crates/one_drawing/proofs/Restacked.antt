-- Pieces have one reason why they have no stacks, in whatever order two connects of one place stand; and their stacks stand
-- on the same layers at the same places.
use Rattle.std.proofs.Common.{◌≡◌, ◌≢◌, ◌⊎◌, inl, inr, ℕ, ◌<◌, ◌≤◌, ℤ, List, [], ◌∷◌, ◌++◌, map, length, get_or, Contains, subst, refl, sym, ap, ◌∙◌, arith}
use Rattle.std.specs.List.{flat_map}
use Rattle.std.proofs.lemmas.Bool.{cases_lt}
use Rattle.std.proofs.lemmas.List.{ext_get_or, get_or_default, get_or-map, length-map}
use Rattle.std.proofs.lemmas.List.Elements.{All-contains}
use Rattle.lef_tech.specs.declared.tech.Tech.{Tech}
use Rattle.lef_tech.specs.Limits.{TechKeeps}
use Rattle.via_arrays.specs.declared.error.StackError.{StackError}
use Rattle.via_arrays.specs.declared.error.StackError.TheVariants as stack_errors
use Rattle.via_arrays.specs.Lengths.{IsUnits}
use Rattle.via_arrays.specs.Stacks.{IsLowestRefused, IsStackRefused}
use Rattle.grid_pieces.specs.declared.error.DrawError.{DrawError}
use Rattle.grid_pieces.specs.declared.error.DrawError.TheVariants as errors
use Rattle.grid_pieces.specs.declared.metal.Metal.{Metal}
use Rattle.grid_pieces.specs.declared.piece.Block.{Block}
use Rattle.grid_pieces.specs.declared.piece.Piece.{Piece}
use Rattle.grid_pieces.specs.declared.piece.StackAt.{StackAt}
use Rattle.grid_pieces.specs.Touch.{metal, piece_metal, stack_metal, between}
use Rattle.grid_stacks.specs.declared.connect.Connect.{Connect}
use Rattle.grid_stacks.specs.declared.connect.Site.{Site}
use Rattle.grid_stacks.specs.Crossing.{At, Stands, limit_of}
use Rattle.grid_stacks.specs.Stacking.{AreSites, AreStacks, AreStacksAt, AreRefused, IsStackAt, IsFirstRefused}
use Rattle.one_drawing.proofs.Counted.{ByDivision, lowest_other}
use Rattle.one_drawing.proofs.Sited.{bare, bare_same, bares_same, few_moves}
use Rattle.one_drawing.specs.Laws.Stacked.{OneStack, HasReason, reason, same_at, one_layer, all_sheets, lowest, no_site, no_stack}

-- What is asked of a connect: where it limits columns or rows, it allows one.
abbrev pub AllowsOne : Connect → Type 0
AllowsOne c = (1 ≤ limit_of c.max_columns) × (1 ≤ limit_of c.max_rows)

-- ## metal

-- a stack without its arrays
abbrev plain : StackAt → StackAt
plain s = record s { stack = record s.stack { arrays = []; ohms = [] } }

abbrev inside : StackAt → List Metal
inside s = map (stack_metal s) (between s.stack.from s.stack.to)

plain_metal : (stacks : List StackAt) → flat_map inside (map plain stacks) ≡ flat_map inside stacks
plain_metal [] = refl
plain_metal (s ∷ stacks) = ap (λ (m : List Metal). inside s ++ m) (plain_metal stacks)

-- two stacks at one place have the same metal
plain_same : (tech : Tech) (units : ℕ) (a b : Site) (s t : StackAt) → bare a ≡ bare b → IsStackAt tech units a s → IsStackAt tech units b t → plain s ≡ plain t
plain_same tech units a b s t same x y =
    let net = x.net ∙ ap (λ (z : Site). z.net) same ∙ sym y.net in
    let at_x = x.x ∙ ap (λ (z : Site). z.x) same ∙ sym y.x in
    let at_y = x.y ∙ ap (λ (z : Site). z.y) same ∙ sym y.y in
    let crossing = x.crossing ∙ ap (λ (z : Site). z.crossing) same ∙ sym y.crossing in
    let from = x.stack.lowest ∙ ap (λ (z : Site). z.from) same ∙ sym y.stack.lowest in
    let to = x.stack.highest ∙ ap (λ (z : Site). z.to) same ∙ sym y.stack.highest in
    λ i. record { net = net i; x = at_x i; y = at_y i; crossing = crossing i; stack = record { from = from i; to = to i; arrays = []; ohms = [] } }

-- the sites at one number are at one place
bare_at : (xs ys : List Site) (k : ℕ) (d e : Site) → map bare xs ≡ map bare ys → k < length xs → bare (get_or xs k d) ≡ bare (get_or ys k e)
bare_at xs ys k d e same within =
    let as_many : length xs ≡ length ys = sym (length-map xs bare) ∙ ap length same ∙ length-map ys bare in
    let less : k < length ys = omega arith in
    sym (get_or-map bare xs k d (bare d) within) ∙ ap (λ (l : List Site). get_or l k (bare d)) same ∙ get_or-map bare ys k e (bare d) less

plains_same : (tech : Tech) (units : ℕ) (xs ys : List Site) (s t : List StackAt) → map bare xs ≡ map bare ys → AreStacksAt tech units xs s → AreStacksAt tech units ys t → map plain s ≡ map plain t
plains_same tech units xs ys s t same x y =
    let as_many : length xs ≡ length ys = sym (length-map xs bare) ∙ ap length same ∙ length-map ys bare in
    let longer : length (map plain s) ≡ length (map plain t) = length-map s plain ∙ x.as_many ∙ as_many ∙ sym y.as_many ∙ sym (length-map t plain) in
    ext_get_or no_stack (map plain s) (map plain t) longer
    (λ k within.
    let in_s : k < length s = omega (arith, length-map s plain) in
    let in_t : k < length t = omega (arith, x.as_many, y.as_many) in
    let in_x : k < length xs = omega (arith, x.as_many) in
    let in_y : k < length ys = omega arith in
    get_or-map plain s k no_stack no_stack in_s
    ∙ plain_same tech units (get_or xs k no_site) (get_or ys k no_site) (get_or s k no_stack) (get_or t k no_stack) (bare_at xs ys k no_site no_site same in_x) (x.each k no_site no_stack in_x)
    (y.each k no_site no_stack in_y) ∙ sym (get_or-map plain t k no_stack no_stack in_t))

-- ## the same pieces under other connects

-- A site's stack that is refused is refused at a site of the same place under the other connects, for the same reason.
abbrev pub MovesRefusals : Tech → ℕ → List Piece → List Block → List Connect → List Connect → Type 0
MovesRefusals tech units pieces blocks p q = (a b : Site) (e : StackError) → Stands tech pieces p blocks a → Stands tech pieces q blocks b → bare a ≡ bare b
    → IsStackRefused tech a.crossing units a.max_columns a.max_rows a.from a.to e → e ≢ stack_errors.Want → IsLowestRefused tech b.crossing units b.max_columns b.max_rows b.from b.to e

-- The same connects have the same limits.
pub moves_alike : (tech : Tech) (units : ℕ) (pieces : List Piece) (blocks : List Block) (p q : List Connect) → p ≡ q → MovesRefusals tech units pieces blocks p q
moves_alike tech units pieces blocks p q same a b e a_is b_is bares refused known =
    let of_q : Stands tech pieces q blocks a = subst (λ (c : List Connect). Stands tech pieces c blocks a) same a_is in
    let is : a ≡ b = bare_same tech pieces q blocks a b of_q b_is bares in
    subst (λ (s : Site). IsLowestRefused tech s.crossing units s.max_columns s.max_rows s.from s.to e) is (lowest tech a.crossing units a.max_columns a.max_rows a.from a.to e refused known)

-- a site has the limits of a connect
room_in : (tech : Tech) (pieces : List Piece) (blocks : List Block) (connects : List Connect) → ((c : Connect) → Contains connects c → AllowsOne c) → (s : Site) → Stands tech pieces connects blocks s
    → (1 ≤ s.max_columns) × (1 ≤ s.max_rows)
room_in tech pieces blocks connects one s is =
    let room = one is.connect (is.used.place, is.used.is.0, is.used.is.1) in
    let columns : s.max_columns ≡ limit_of is.connect.max_columns = ap (λ (z : Site). z.max_columns) is.is in
    let rows : s.max_rows ≡ limit_of is.connect.max_rows = ap (λ (z : Site). z.max_rows) is.is in
    (subst (λ (n : ℕ). 1 ≤ n) (sym columns) room.0, subst (λ (n : ℕ). 1 ≤ n) (sym rows) room.1)

-- Other limits that allow a column and a row refuse the same stacks.
pub moves_limits : ByDivision → (tech : Tech) → TechKeeps tech → (units : ℕ) → IsUnits units → (pieces : List Piece) (blocks : List Block) (p q : List Connect)
    → ((c : Connect) → Contains p c → AllowsOne c) → ((c : Connect) → Contains q c → AllowsOne c) → MovesRefusals tech units pieces blocks p q
moves_limits division tech keeps units is_units pieces blocks p q p_one q_one a b e a_is b_is bares refused known =
    let low = lowest tech a.crossing units a.max_columns a.max_rows a.from a.to e refused known in
    let moved : IsLowestRefused tech b.crossing units a.max_columns a.max_rows b.from b.to e =
    subst (λ (s : Site). IsLowestRefused tech s.crossing units a.max_columns a.max_rows s.from s.to e) bares low in
    let of_a = room_in tech pieces blocks p p_one a a_is in
    let of_b = room_in tech pieces blocks q q_one b b_is in
    lowest_other division tech keeps b.crossing units is_units a.max_columns a.max_rows b.max_columns b.max_rows b.from b.to e of_a.0 of_a.1 of_b.0 of_b.1 moved

module _ (known : OneStack) (tech : Tech) (units : ℕ) (pieces : List Piece) (blocks : List Block) (p q : List Connect) (there : (c : Connect) → Contains p c → Contains q c)
    (back : (c : Connect) → Contains q c → Contains p c) (to_q : MovesRefusals tech units pieces blocks p q) (to_p : MovesRefusals tech units pieces blocks q p) where
  abbrev InP : Site → Type 0
  InP = Stands tech pieces p blocks

  abbrev InQ : Site → Type 0
  InQ = Stands tech pieces q blocks

  sites_same : (xs ys : List Site) → AreSites InP xs → AreSites InQ ys → map bare xs ≡ map bare ys
  sites_same xs ys x y = bares_same tech pieces p q there back blocks xs ys x y

  -- The metal on the layers is the same.
  pub metal_same : (s t : List StackAt) → AreStacks InP tech units pieces s → AreStacks InQ tech units pieces t → metal pieces s ≡ metal pieces t
  metal_same s t x y =
      let same = plains_same tech units x.0 y.0 s t (sites_same x.0 y.0 x.1.are y.1.are) x.3 y.3 in
      ap (λ (m : List Metal). map piece_metal pieces ++ m) (sym (plain_metal s) ∙ ap (flat_map inside) same ∙ plain_metal t)

  -- ## sites without a stack

  in_p : (xs : List Site) → AreSites InP xs → (s : Site) (k : ℕ) → At xs k s → InP s
  in_p xs are s k at = All-contains InP xs s are.each (k, at.0, at.1)

  in_q : (ys : List Site) → AreSites InQ ys → (s : Site) (k : ℕ) → At ys k s → InQ s
  in_q ys are s k at = All-contains InQ ys s are.each (k, at.0, at.1)

  -- the site at the same number among the others
  twin : (xs ys : List Site) (k : ℕ) (s : Site) → map bare xs ≡ map bare ys → At xs k s → (t : Site) × At ys k t × (bare s ≡ bare t)
  twin xs ys k s same at =
      let as_many : length xs ≡ length ys = sym (length-map xs bare) ∙ ap length same ∙ length-map ys bare in
      let less : k < length ys = omega (arith, at.0) in
      let t = get_or ys k s in
      (t, (less, get_or_default ys k t s less), ap bare (sym at.1) ∙ bare_at xs ys k s s same at.0)

  one_site : (xs ys : List Site) (e f : StackError) (a b c d : ℤ) → AreSites InP xs → AreSites InQ ys → IsFirstRefused tech units xs e a b → IsFirstRefused tech units ys f c d
      → errors.Stack e a b ≡ errors.Stack f c d
  one_site xs ys e f a b c d xs_are ys_are x y = by_place (cases_lt x.place y.place) (cases_lt y.place x.place)
    where
      same : map bare xs ≡ map bare ys
      same = sites_same xs ys xs_are ys_are

      by_place : (x.place < y.place) ⊎ (y.place ≤ x.place) → (y.place < x.place) ⊎ (x.place ≤ y.place) → errors.Stack e a b ≡ errors.Stack f c d
      by_place (inl before) _ =
          let t = twin xs ys x.place x.site same x.is in
          let has = y.stacks x.place t.0 before t.1 in
          absurd (known.or_refused tech t.0.crossing units t.0.max_columns t.0.max_rows t.0.from t.0.to has.0.stack e has.1.stack
          (to_q x.site t.0 e (in_p xs xs_are x.site x.place x.is) (in_q ys ys_are t.0 x.place t.1) t.2 x.refused x.known))
      by_place (inr _) (inl before) =
          let s = twin ys xs y.place y.site (sym same) y.is in
          let has = x.stacks y.place s.0 before s.1 in
          absurd (known.or_refused tech s.0.crossing units s.0.max_columns s.0.max_rows s.0.from s.0.to has.0.stack f has.1.stack
          (to_p y.site s.0 f (in_q ys ys_are y.site y.place y.is) (in_p xs xs_are s.0 y.place s.1) s.2 y.refused y.known))
      by_place (inr low) (inr high) =
          let place : x.place ≡ y.place = omega arith in
          let t = twin xs ys x.place x.site same x.is in
          let is : t.0 ≡ y.site = same_at ys y.place t.0 y.site (subst (λ (n : ℕ). At ys n t.0) place t.1) y.is in
          let alike : bare x.site ≡ bare y.site = t.2 ∙ ap bare is in
          let error : e ≡ f =
          known.one_refusal tech y.site.crossing units y.site.max_columns y.site.max_rows y.site.from y.site.to e f
          (to_q x.site y.site e (in_p xs xs_are x.site x.place x.is) (in_q ys ys_are y.site y.place y.is) alike x.refused x.known)
          (lowest tech y.site.crossing units y.site.max_columns y.site.max_rows y.site.from y.site.to f y.refused y.known) in
          let at_x : a ≡ c = sym x.at_x ∙ ap (λ (s : Site). s.x) alike ∙ y.at_x in
          let at_y : b ≡ d = sym x.at_y ∙ ap (λ (s : Site). s.y) alike ∙ y.at_y in
          λ i. errors.Stack (error i) (at_x i) (at_y i)

  -- ## refusals

  no_reason : (stacks : List StackAt) (e : DrawError) → AreStacks InP tech units pieces stacks → HasReason InQ tech units pieces e → ⊥
  no_reason stacks e are (inl y) = absurd (omega (arith, y.0, are.1.few_pieces))
  no_reason stacks e are (inr (inl y)) = few_moves tech pieces q p back blocks are.0 are.1 y.1
  no_reason stacks e are (inr (inr (inl y))) = all_sheets tech pieces y.0 are.2 y.3
  no_reason stacks e are (inr (inr (inr y))) =
      let first = y.6 in
      let same : map bare are.0 ≡ map bare y.3 = sites_same are.0 y.3 are.1.are y.4.are in
      let s = twin y.3 are.0 first.place first.site (sym same) first.is in
      let at : StackAt = get_or stacks first.place no_stack in
      let stands : IsStackAt tech units s.0 at = subst (λ (z : Site). IsStackAt tech units z at) s.1.1 (are.3.each first.place s.0 no_stack s.1.0) in
      known.or_refused tech s.0.crossing units s.0.max_columns s.0.max_rows s.0.from s.0.to at.stack y.0 stands.stack
      (to_p first.site s.0 y.0 (in_q y.3 y.4.are first.site first.place first.is) (in_p are.0 are.1.are s.0 first.place s.1) s.2 first.refused first.known)

  -- Where pieces have stacks, nothing refuses them.
  pub no_refusal : (stacks : List StackAt) (e : DrawError) → AreStacks InP tech units pieces stacks → AreRefused InQ tech units pieces e → e ≢ errors.Want → ⊥
  no_refusal stacks e are refused known_e = no_reason stacks e are (reason InQ tech units pieces e refused known_e)

  same_reason : (e f : DrawError) → HasReason InP tech units pieces e → HasReason InQ tech units pieces f → e ≡ f
  same_reason e f (inl x) (inl y) = x.1 ∙ sym y.1
  same_reason e f (inl x) (inr (inl y)) = absurd (omega (arith, x.0, y.0))
  same_reason e f (inl x) (inr (inr (inl y))) = absurd (omega (arith, x.0, y.2.few_pieces))
  same_reason e f (inl x) (inr (inr (inr y))) = absurd (omega (arith, x.0, y.4.few_pieces))
  same_reason e f (inr (inl x)) (inl y) = absurd (omega (arith, x.0, y.0))
  same_reason e f (inr (inl x)) (inr (inl y)) = x.2 ∙ sym y.2
  same_reason e f (inr (inl x)) (inr (inr (inl y))) = absurd (few_moves tech pieces p q there blocks y.1 y.2 x.1)
  same_reason e f (inr (inl x)) (inr (inr (inr y))) = absurd (few_moves tech pieces p q there blocks y.3 y.4 x.1)
  same_reason e f (inr (inr (inl x))) (inl y) = absurd (omega (arith, y.0, x.2.few_pieces))
  same_reason e f (inr (inr (inl x))) (inr (inl y)) = absurd (few_moves tech pieces q p back blocks x.1 x.2 y.1)
  same_reason e f (inr (inr (inl x))) (inr (inr (inl y))) = x.4 ∙ ap (λ (l : ℕ). errors.NoSheet l) (one_layer tech pieces x.0 y.0 x.3 y.3) ∙ sym y.4
  same_reason e f (inr (inr (inl x))) (inr (inr (inr y))) = absurd (all_sheets tech pieces x.0 y.5 x.3)
  same_reason e f (inr (inr (inr x))) (inl y) = absurd (omega (arith, y.0, x.4.few_pieces))
  same_reason e f (inr (inr (inr x))) (inr (inl y)) = absurd (few_moves tech pieces q p back blocks x.3 x.4 y.1)
  same_reason e f (inr (inr (inr x))) (inr (inr (inl y))) = absurd (all_sheets tech pieces y.0 x.5 y.3)
  same_reason e f (inr (inr (inr x))) (inr (inr (inr y))) = x.7 ∙ one_site x.3 y.3 x.0 y.0 x.1 x.2 y.1 y.2 x.4.are y.4.are x.6 y.6 ∙ sym y.7

  -- They are refused for one reason.
  pub one_refusal : (e f : DrawError) → AreRefused InP tech units pieces e → AreRefused InQ tech units pieces f → e ≢ errors.Want → f ≢ errors.Want → e ≡ f
  one_refusal e f x y e_known f_known = same_reason e f (reason InP tech units pieces e x e_known) (reason InQ tech units pieces f y f_known)
