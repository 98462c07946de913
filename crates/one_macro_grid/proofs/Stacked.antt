-- Pieces that have stacks are refused for no reason, and others for one.
use Rattle.std.proofs.Common.{◌≡◌, ◌≢◌, ◌⊎◌, inl, inr, ℕ, ◌<◌, ◌≤◌, ℤ, List, length, get_or, subst, sym, ap, ◌∙◌, arith}
use Rattle.std.proofs.lemmas.Bool.{cases_lt}
use Rattle.std.proofs.lemmas.List.Elements.{All-contains}
use Rattle.lef_tech.specs.declared.tech.Tech.{Tech}
use Rattle.via_arrays.specs.declared.error.StackError.{StackError}
use Rattle.via_arrays.specs.Stacks.{IsLowestRefused}
use Rattle.grid_pieces.specs.declared.error.DrawError.{DrawError}
use Rattle.grid_pieces.specs.declared.error.DrawError.TheVariants as errors
use Rattle.grid_pieces.specs.declared.piece.Piece.{Piece}
use Rattle.grid_pieces.specs.declared.piece.StackAt.{StackAt}
use Rattle.grid_stacks.specs.declared.connect.Site.{Site}
use Rattle.grid_stacks.specs.Crossing.{At}
use Rattle.grid_stacks.specs.Stacking.{AreAllowed, AreStacks, AreRefused, IsStackAt, IsFirstRefused, MoreThan, most_pieces, most_stacks}
use Rattle.one_drawing.specs.Laws.Listed.{no_longer}
use Rattle.one_drawing.specs.Laws.Stacked.{OneStack, HasStacks, LacksSheet, LacksStack, HasReason, reason, one_sites, same_at, one_layer, all_sheets, lowest, no_stack}
use Rattle.one_macro_grid.proofs.Shaped.{not_more}

module _ (known : OneStack) (P : Site → Type 0) (tech : Tech) (units : ℕ) (pieces : List Piece) where
  few_sites : (sites : List Site) → AreAllowed P pieces sites → MoreThan most_stacks P → ⊥
  few_sites sites allowed many =
      let le : length many.some ≤ length sites = no_longer many.some sites many.differ (λ site has. allowed.are.every site (All-contains P many.some site many.each has)) in
      let few = allowed.few in
      let more = many.more in
      absurd (omega arith)

  -- a site's stack is refused at its lowest pair of layers that isn't joined
  abbrev IsLow : Site → StackError → Type 0
  IsLow s e = IsLowestRefused tech s.crossing units s.max_columns s.max_rows s.from s.to e

  is_low : (sites : List Site) (e : StackError) (a b : ℤ) → (x : IsFirstRefused tech units sites e a b) → IsLow x.site e
  is_low sites e a b x = lowest tech x.site.crossing units x.site.max_columns x.site.max_rows x.site.from x.site.to e x.refused x.known

  -- where it has a stack, it is not refused
  not_both : (site : Site) (at : StackAt) (e : StackError) → IsStackAt tech units site at → IsLow site e → ⊥
  not_both site at e stands low = known.or_refused tech site.crossing units site.max_columns site.max_rows site.from site.to at.stack e stands.stack low

  one_first : (sites : List Site) (e f : StackError) (a b c d : ℤ) → IsFirstRefused tech units sites e a b → IsFirstRefused tech units sites f c d → errors.Stack e a b ≡ errors.Stack f c d
  one_first sites e f a b c d x y = by_place (cases_lt x.place y.place) (cases_lt y.place x.place)
    where
      by_place : (x.place < y.place) ⊎ (y.place ≤ x.place) → (y.place < x.place) ⊎ (x.place ≤ y.place) → errors.Stack e a b ≡ errors.Stack f c d
      by_place (inl before) _ =
          let has = y.stacks x.place x.site before x.is in
          absurd (not_both x.site has.0 e has.1 (is_low sites e a b x))
      by_place (inr _) (inl before) =
          let has = x.stacks y.place y.site before y.is in
          absurd (not_both y.site has.0 f has.1 (is_low sites f c d y))
      by_place (inr low) (inr high) =
          let place : x.place ≡ y.place = omega arith in
          let site : x.site ≡ y.site = same_at sites y.place x.site y.site (subst (λ (n : ℕ). At sites n x.site) place x.is) y.is in
          let error : e ≡ f =
          known.one_refusal tech y.site.crossing units y.site.max_columns y.site.max_rows y.site.from y.site.to e f (subst (λ (s : Site). IsLow s e) site (is_low sites e a b x)) (is_low sites f c d y) in
          let at_x : a ≡ c = sym x.at_x ∙ ap (λ (s : Site). s.x) site ∙ y.at_x in
          let at_y : b ≡ d = sym x.at_y ∙ ap (λ (s : Site). s.y) site ∙ y.at_y in
          λ i. errors.Stack (error i) (at_x i) (at_y i)

  -- ## no reason where stacks stand

  no_reason : (stacks : List StackAt) (e : DrawError) → AreStacks P tech units pieces stacks → HasReason P tech units pieces e → ⊥
  no_reason stacks e are (inl y) = not_more (length pieces) most_pieces are.1.few_pieces y.0
  no_reason stacks e are (inr (inl y)) = few_sites are.0 are.1 y.1
  no_reason stacks e are (inr (inr (inl y))) = all_sheets tech pieces y.0 are.2 y.3
  no_reason stacks e are (inr (inr (inr y))) =
      let sites : y.3 ≡ are.0 = one_sites P y.3 are.0 y.4.are are.1.are in
      let first : IsFirstRefused tech units are.0 y.0 y.1 y.2 = subst (λ (s : List Site). IsFirstRefused tech units s y.0 y.1 y.2) sites y.6 in
      let at : StackAt = get_or stacks first.place no_stack in
      let stands : IsStackAt tech units first.site at = subst (λ (s : Site). IsStackAt tech units s at) first.is.1 (are.3.each first.place first.site no_stack first.is.0) in
      not_both first.site at y.0 stands (is_low are.0 y.0 y.1 y.2 first)

  pub no_refusal : (stacks : List StackAt) (e : DrawError) → AreStacks P tech units pieces stacks → AreRefused P tech units pieces e → e ≢ errors.Want → ⊥
  no_refusal stacks e are refused known_e = no_reason stacks e are (reason P tech units pieces e refused known_e)

  -- ## one reason

  -- sites are listed where a layer or a stack lacks
  sites_of : (e : DrawError) → LacksSheet P tech pieces e ⊎ LacksStack P tech units pieces e → (sites : List Site) × AreAllowed P pieces sites
  sites_of e (inl x) = (x.1, x.2)
  sites_of e (inr x) = (x.3, x.4)

  same_lack : (e f : DrawError) → LacksSheet P tech pieces e ⊎ LacksStack P tech units pieces e → LacksSheet P tech pieces f ⊎ LacksStack P tech units pieces f → e ≡ f
  same_lack e f (inl x) (inl y) = x.4 ∙ ap (λ (l : ℕ). errors.NoSheet l) (one_layer tech pieces x.0 y.0 x.3 y.3) ∙ sym y.4
  same_lack e f (inl x) (inr y) = absurd (all_sheets tech pieces x.0 y.5 x.3)
  same_lack e f (inr x) (inl y) = absurd (all_sheets tech pieces y.0 x.5 y.3)
  same_lack e f (inr x) (inr y) =
      let sites : x.3 ≡ y.3 = one_sites P x.3 y.3 x.4.are y.4.are in
      let first : IsFirstRefused tech units y.3 x.0 x.1 x.2 = subst (λ (s : List Site). IsFirstRefused tech units s x.0 x.1 x.2) sites x.6 in
      x.7 ∙ one_first y.3 x.0 y.0 x.1 x.2 y.1 y.2 first y.6 ∙ sym y.7

  -- Pieces are not too many where there is another reason.
  few_pieces : (e : DrawError) → HasStacks P pieces e ⊎ (LacksSheet P tech pieces e ⊎ LacksStack P tech units pieces e) → length pieces ≤ most_pieces
  few_pieces e (inl x) = x.0
  few_pieces e (inr x) = (sites_of e x).1.few_pieces

  same_reason : (e f : DrawError) → HasReason P tech units pieces e → HasReason P tech units pieces f → e ≡ f
  same_reason e f (inl x) (inl y) = x.1 ∙ sym y.1
  same_reason e f (inl x) (inr y) = absurd (not_more (length pieces) most_pieces (few_pieces f y) x.0)
  same_reason e f (inr x) (inl y) = absurd (not_more (length pieces) most_pieces (few_pieces e x) y.0)
  same_reason e f (inr (inl x)) (inr (inl y)) = x.2 ∙ sym y.2
  same_reason e f (inr (inl x)) (inr (inr y)) = let sites = sites_of f y in absurd (few_sites sites.0 sites.1 x.1)
  same_reason e f (inr (inr x)) (inr (inl y)) = let sites = sites_of e x in absurd (few_sites sites.0 sites.1 y.1)
  same_reason e f (inr (inr x)) (inr (inr y)) = same_lack e f x y

  pub one_refusal : (e f : DrawError) → AreRefused P tech units pieces e → AreRefused P tech units pieces f → e ≢ errors.Want → f ≢ errors.Want → e ≡ f
  one_refusal e f x y e_known f_known = same_reason e f (reason P tech units pieces e x e_known) (reason P tech units pieces f y f_known)
