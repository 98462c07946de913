-- Pieces have one list of stacks, or one reason why they have none.
use Rattle.std.proofs.Common.{◌≡◌, ◌≢◌, ◌⊎◌, inl, inr, ℕ, ◌<◌, ◌≤◌, ℤ, pos, true, List, [], length, get_or, All, subst, refl, sym, ap, ◌∙◌, arith}
use Rattle.std.specs.Ordering.{is_lt}
use Rattle.std.proofs.lemmas.Bool.{cases_lt}
use Rattle.std.proofs.lemmas.List.{ext_get_or, get_or_default}
use Rattle.std.proofs.lemmas.List.Elements.{All-contains}
use Rattle.geom_rect.specs.declared.rect.Rect.{Rect}
use Rattle.lef_tech.specs.declared.tech.Tech.{Tech}
use Rattle.via_arrays.specs.declared.error.StackError.{StackError}
use Rattle.via_arrays.specs.declared.error.StackError.TheVariants as stack_errors
use Rattle.via_arrays.specs.declared.parts.Stack.{Stack}
use Rattle.via_arrays.specs.Stacks.{IsStack, IsLowestRefused, IsStackRefused}
use Rattle.grid_pieces.specs.declared.error.Counted.TheVariants.{Lines, Pieces, Stacks}
use Rattle.grid_pieces.specs.declared.error.DrawError.{DrawError}
use Rattle.grid_pieces.specs.declared.error.DrawError.TheVariants as errors
use Rattle.grid_pieces.specs.declared.piece.Piece.{Piece}
use Rattle.grid_pieces.specs.declared.piece.StackAt.{StackAt}
use Rattle.grid_stacks.specs.declared.connect.Site.{Site}
use Rattle.grid_stacks.specs.Crossing.{At}
use Rattle.grid_stacks.specs.Stacking.{AreSites, AreAllowed, AreStacks, AreStacksAt, AreRefused, IsStackAt, IsFirstRefused, IsFirstWithout, HasSheet, MoreThan, most_pieces, most_stacks, site_order}
use Rattle.one_drawing.specs.Laws.Listed.{same_list}
use Rattle.one_drawing.specs.Laws.Ordered.{sites_one_way}

-- What is known of a stack at one crossing: there is one, or one reason why there is none.
pub record OneStack : Type 0 where
  pub one : (tech : Tech) (crossing : Rect) (units columns rows from to : ℕ) (a b : Stack) → IsStack tech crossing units columns rows from to a
      → IsStack tech crossing units columns rows from to b → a ≡ b
  pub or_refused : (tech : Tech) (crossing : Rect) (units columns rows from to : ℕ) (a : Stack) (e : StackError) → IsStack tech crossing units columns rows from to a
      → IsLowestRefused tech crossing units columns rows from to e → ⊥
  pub one_refusal : (tech : Tech) (crossing : Rect) (units columns rows from to : ℕ) (e f : StackError) → IsLowestRefused tech crossing units columns rows from to e
      → IsLowestRefused tech crossing units columns rows from to f → e ≡ f

-- ## sites

-- The sites of pieces are one list.
pub one_sites : (P : Site → Type 0) (a b : List Site) → AreSites P a → AreSites P b → a ≡ b
one_sites P a b x y =
    same_list (λ (s t : Site). is_lt (site_order s t) ≡ true) sites_one_way a b x.in_order y.in_order (λ site has. y.every site (All-contains P a site x.each has))
    (λ site has. x.every site (All-contains P b site y.each has))

-- ## stacks

pub no_rect : Rect
no_rect = record { x1 = pos 0; y1 = pos 0; x2 = pos 0; y2 = pos 0 }

pub no_site : Site
no_site = record { net = 0; x = pos 0; y = pos 0; from = 0; to = 0; crossing = no_rect; max_columns = 0; max_rows = 0 }

pub no_stack : StackAt
no_stack = record { net = 0; x = pos 0; y = pos 0; crossing = no_rect; stack = record { from = 0; to = 0; arrays = []; ohms = [] } }

one_stack_at : OneStack → (tech : Tech) (units : ℕ) (site : Site) (a b : StackAt) → IsStackAt tech units site a → IsStackAt tech units site b → a ≡ b
one_stack_at known tech units site a b x y =
    let net = x.net ∙ sym y.net in
    let at_x = x.x ∙ sym y.x in
    let at_y = x.y ∙ sym y.y in
    let crossing = x.crossing ∙ sym y.crossing in
    let stack = known.one tech site.crossing units site.max_columns site.max_rows site.from site.to a.stack b.stack x.stack y.stack in
    λ i. record { net = net i; x = at_x i; y = at_y i; crossing = crossing i; stack = stack i }

one_stacks_at : OneStack → (tech : Tech) (units : ℕ) (sites : List Site) (a b : List StackAt) → AreStacksAt tech units sites a → AreStacksAt tech units sites b → a ≡ b
one_stacks_at known tech units sites a b x y =
    ext_get_or no_stack a b (x.as_many ∙ sym y.as_many)
    (λ k within. let few : k < length sites = omega (arith, x.as_many) in
    one_stack_at known tech units (get_or sites k no_site) (get_or a k no_stack) (get_or b k no_stack) (x.each k no_site no_stack few) (y.each k no_site no_stack few))

-- The stacks of pieces are one list.
pub one_stacks : OneStack → (P : Site → Type 0) (tech : Tech) (units : ℕ) (pieces : List Piece) (a b : List StackAt) → AreStacks P tech units pieces a → AreStacks P tech units pieces b → a ≡ b
one_stacks known P tech units pieces a b x y =
    let sites : x.0 ≡ y.0 = one_sites P x.0 y.0 x.1.are y.1.are in
    one_stacks_at known tech units y.0 a b (subst (λ (s : List Site). AreStacksAt tech units s a) sites x.3) y.3

-- ## refusals

-- A drawing is refused for want of memory or for another reason.
pub is_want : (e : DrawError) → (e ≡ errors.Want) ⊎ (e ≢ errors.Want)
is_want errors.Want = inl refl
is_want e = inr (λ same. absurd (cc))

-- two at one place are one
pub same_at : {X : Type 0} (xs : List X) (k : ℕ) (x y : X) → At xs k x → At xs k y → x ≡ y
same_at xs k x y x_is y_is = sym x_is.1 ∙ get_or_default xs k x y x_is.0 ∙ y_is.1

-- The first layer without a resistance of a square is one.
pub one_layer : (tech : Tech) (pieces : List Piece) (k l : ℕ) → IsFirstWithout tech pieces k → IsFirstWithout tech pieces l → k ≡ l
one_layer tech pieces k l x y = by_place (cases_lt x.place y.place) (cases_lt y.place x.place)
  where
    by_place : (x.place < y.place) ⊎ (y.place ≤ x.place) → (y.place < x.place) ⊎ (x.place ≤ y.place) → k ≡ l
    by_place (inl before) _ = absurd (y.first x.place x.piece before x.is x.none)
    by_place (inr _) (inl before) = absurd (x.first y.place y.piece before y.is y.none)
    by_place (inr a) (inr b) =
        let place : x.place ≡ y.place = omega arith in
        let piece : x.piece ≡ y.piece = same_at pieces y.place x.piece y.piece (subst (λ (n : ℕ). At pieces n x.piece) place x.is) y.is in
        sym x.on_layer ∙ ap (λ (p : Piece). p.layer) piece ∙ y.on_layer

pub all_sheets : (tech : Tech) (pieces : List Piece) (layer : ℕ) → All (HasSheet tech) pieces → IsFirstWithout tech pieces layer → ⊥
all_sheets tech pieces layer all without = All-contains (HasSheet tech) pieces without.piece all (without.place, without.is.0, without.is.1) without.none

-- a stack that is refused for a known reason is refused at its lowest pair that isn't joined
pub lowest : (tech : Tech) (crossing : Rect) (units columns rows from to : ℕ) (e : StackError) → IsStackRefused tech crossing units columns rows from to e → e ≢ stack_errors.Want
    → IsLowestRefused tech crossing units columns rows from to e
lowest tech crossing units columns rows from to (stack_errors.NoRule k) is known = is
lowest tech crossing units columns rows from to (stack_errors.OffGrid k) is known = is
lowest tech crossing units columns rows from to (stack_errors.NoCutFits k) is known = is
lowest tech crossing units columns rows from to (stack_errors.NoResistance k) is known = is
lowest tech crossing units columns rows from to stack_errors.Want is known = absurd (known refl)

-- The reasons: too many pieces, too many stacks, a layer without a resistance of a square, a crossing without a stack.
abbrev pub HasPieces : List Piece → DrawError → Type 0
HasPieces pieces e = (most_pieces < length pieces) × (e ≡ errors.TooMany Pieces)

abbrev pub HasStacks : (P : Site → Type 0) → List Piece → DrawError → Type 0
HasStacks P pieces e = (length pieces ≤ most_pieces) × MoreThan most_stacks P × (e ≡ errors.TooMany Stacks)

abbrev pub LacksSheet : (P : Site → Type 0) → Tech → List Piece → DrawError → Type 0
LacksSheet P tech pieces e = (layer : ℕ) × (sites : List Site) × AreAllowed P pieces sites × IsFirstWithout tech pieces layer × (e ≡ errors.NoSheet layer)

abbrev pub LacksStack : (P : Site → Type 0) → Tech → ℕ → List Piece → DrawError → Type 0
LacksStack P tech units pieces e = (error : StackError) × (x : ℤ) × (y : ℤ) × (sites : List Site) × AreAllowed P pieces sites × All (HasSheet tech) pieces
    × IsFirstRefused tech units sites error x y × (e ≡ errors.Stack error x y)

abbrev pub HasReason : (P : Site → Type 0) → Tech → ℕ → List Piece → DrawError → Type 0
HasReason P tech units pieces e = HasPieces pieces e ⊎ (HasStacks P pieces e ⊎ (LacksSheet P tech pieces e ⊎ LacksStack P tech units pieces e))

pub reason : (P : Site → Type 0) (tech : Tech) (units : ℕ) (pieces : List Piece) (e : DrawError) → AreRefused P tech units pieces e → e ≢ errors.Want → HasReason P tech units pieces e
reason P tech units pieces (errors.TooMany Lines) refused known = absurd refused
reason P tech units pieces (errors.TooMany Pieces) refused known = inl (refused, refl)
reason P tech units pieces (errors.TooMany Stacks) refused known = inr (inl (refused.0, refused.1, refl))
reason P tech units pieces (errors.NoSheet layer) refused known = inr (inr (inl (layer, refused.0, refused.1, refused.2, refl)))
reason P tech units pieces (errors.Stack e a b) refused known = inr (inr (inr (e, a, b, refused.0, refused.1, refused.2, refused.3, refl)))
reason P tech units pieces errors.Want refused known = absurd (known refl)
reason P tech units pieces (errors.UnknownName name) refused known = absurd refused
reason P tech units pieces (errors.RingLayers k) refused known = absurd refused
reason P tech units pieces (errors.RailLayer k) refused known = absurd refused
reason P tech units pieces (errors.ParallelConnect k) refused known = absurd refused
reason P tech units pieces errors.NoRows refused known = absurd refused
reason P tech units pieces (errors.OffGrid k) refused known = absurd refused
reason P tech units pieces (errors.OddWidth k) refused known = absurd refused
reason P tech units pieces (errors.RegionShape k) refused known = absurd refused
reason P tech units pieces (errors.RegionsMeet j k) refused known = absurd refused
reason P tech units pieces (errors.RowAcross k) refused known = absurd refused
reason P tech units pieces (errors.EmptyDomain k) refused known = absurd refused
reason P tech units pieces (errors.MacroGrid k) refused known = absurd refused
reason P tech units pieces (errors.Touch touching) refused known = absurd refused
