-- What pieces and stacks keep where shapes do.
use Rattle.std.proofs.Common.{◌≡◌, ℕ, ◌-◌, ◌<◌, ℤ, pos, ◌+ℤ◌, ◌-ℤ◌, ◌≤ℤ◌, true, false, List, All, AllPairs, length, get_or, refl, sym, ap, ◌∙◌, arith, subst, Ordering}
use Rattle.std.specs.declared.cmp.Ordering.TheVariants.{Equal}
use Rattle.std.specs.Ordering.{nat_cmp, int_cmp, ordering_then, is_lt}
use Rattle.std.proofs.lemmas.Bool.{false≢true}
use Rattle.std.specs.Cmp.{nat_cmp_is, int_cmp_is}
use Rattle.std.proofs.lemmas.Int.{ints}
use Rattle.std.proofs.lemmas.List.Elements.{All-contains}
use Rattle.geom_rect.specs.declared.direction.Axis.{Axis}
use Rattle.geom_rect.specs.declared.direction.Axis.TheVariants.{X, Y}
use Rattle.geom_rect.specs.declared.drawn.Drawn.{Drawn}
use Rattle.geom_rect.specs.declared.rect.Rect.{Rect}
use Rattle.geom_rect.specs.declared.run.Run.{Run}
use Rattle.geom_rect.specs.Drawn.{half, centred, IsWidth}
use Rattle.geom_rect.specs.Rect.{IsInOrder}
use Rattle.geom_rect.specs.Run.{IsMaximal}
use Rattle.lef_tech.specs.declared.tech.Tech.{Tech}
use Rattle.via_arrays.specs.Choice.{direction}
use Rattle.grid_pieces.specs.declared.line.Line.{Line}
use Rattle.grid_pieces.specs.declared.piece.Block.{Block}
use Rattle.grid_pieces.specs.declared.piece.Piece.{Piece}
use Rattle.grid_pieces.specs.declared.piece.StackAt.{StackAt}
use Rattle.grid_pieces.specs.Laws.Maximal.{same_run}
use Rattle.grid_pieces.specs.Limits.{OneAxis, DrawnKeeps}
use Rattle.grid_pieces.specs.Line.{piece_line, piece_run, drawn_line, across}
use Rattle.grid_pieces.specs.Piece.{IsPiece, ArePieces, IsCovered, piece_order}
use Rattle.grid_stacks.specs.declared.connect.Connect.{Connect}
use Rattle.grid_stacks.specs.declared.connect.Site.{Site}
use Rattle.grid_stacks.specs.Crossing.{At, Stands, crossing_of}
use Rattle.grid_stacks.specs.Stacking.{ConnectKeeps, AreAlong, IsEven, LieApart, HasLayer, IsStackAt, AreStacks}
use Rattle.grid_plan.specs.declared.record.Plan.{Plan}
use Rattle.grid_shapes.specs.inside.Facts.{PieceFacts, StackFacts}
use Rattle.grid_shapes.specs.inside.Sites.{ShapeKeeps}

pub drawn_keep : (tech : Tech) (plan : Plan) (shapes : List Drawn) → All (ShapeKeeps tech plan) shapes → All DrawnKeeps shapes
drawn_keep tech plan shapes keep k d within = (keep k d within).keeps

pub one_axis : (tech : Tech) (plan : Plan) (shapes : List Drawn) → All (ShapeKeeps tech plan) shapes → OneAxis shapes
one_axis tech plan shapes keep a b in_a in_b same =
    let one = All-contains (ShapeKeeps tech plan) shapes a keep in_a in
    let other = All-contains (ShapeKeeps tech plan) shapes b keep in_b in
    one.axis ∙ ap (direction tech) same ∙ sym other.axis

piece_facts : (tech : Tech) (plan : Plan) (shapes : List Drawn) (blocks : List Block) (piece : Piece) → All (ShapeKeeps tech plan) shapes
    → IsPiece shapes blocks piece → PieceFacts tech plan piece
piece_facts tech plan shapes blocks piece keep is =
    let shape = is.kind.0 in
    let keeps = All-contains (ShapeKeeps tech plan) shapes shape keep is.kind.1 in
    let line : drawn_line shape ≡ piece_line piece = is.kind.2.0 in
    record {
      even = subst (λ (l : Line). IsWidth l.width) line keeps.even;
      net = subst (λ (l : Line). l.net < length plan.nets) line keeps.net;
      layer = subst (λ (l : Line). l.layer < length tech.routing) line keeps.layer;
      axis = subst (λ (l : Line). l.axis ≡ direction tech l.layer) line keeps.axis;
    }

pub all_facts : (tech : Tech) (plan : Plan) (shapes : List Drawn) (blocks : List Block) (pieces : List Piece) → All (ShapeKeeps tech plan) shapes
    → ArePieces shapes blocks pieces → All (PieceFacts tech plan) pieces
all_facts tech plan shapes blocks pieces keep are k d within = piece_facts tech plan shapes blocks (get_or pieces k d) keep (are.each k d within)

pub all_layers : (tech : Tech) (plan : Plan) (pieces : List Piece) → All (PieceFacts tech plan) pieces → All (HasLayer tech) pieces
all_layers tech plan pieces facts k d within = (facts k d within).layer

pub all_even : (tech : Tech) (plan : Plan) (pieces : List Piece) → All (PieceFacts tech plan) pieces → All IsEven pieces
all_even tech plan pieces facts k d within = (facts k d within).even.1

pub all_along : (tech : Tech) (plan : Plan) (connects : List Connect) (pieces : List Piece) → All (PieceFacts tech plan) pieces → AreAlong tech connects pieces
all_along tech plan connects pieces facts connect piece has is on = (All-contains (PieceFacts tech plan) pieces piece facts is).axis

-- Nothing comes before itself.
all_equal : (n l c f w : Ordering) → n ≡ Equal → l ≡ Equal → c ≡ Equal → f ≡ Equal → w ≡ Equal
    → is_lt (ordering_then (ordering_then (ordering_then (ordering_then n l) c) f) w) ≡ false
all_equal n l c f w is_n is_l is_c is_f is_w = rw (is_n, is_l, is_c, is_f, is_w) refl

same_place : (a b : Piece) → piece_line a ≡ piece_line b → piece_run a ≡ piece_run b → is_lt (piece_order a b) ≡ false
same_place a b line run =
    let net : nat_cmp a.net b.net ≡ Equal = sym (nat_cmp_is a.net b.net Equal (ap (λ (l : Line). l.net) line)) in
    let layer : nat_cmp a.layer b.layer ≡ Equal = sym (nat_cmp_is a.layer b.layer Equal (ap (λ (l : Line). l.layer) line)) in
    let centre : int_cmp a.centre b.centre ≡ Equal = sym (int_cmp_is a.centre b.centre Equal (ap (λ (l : Line). l.centre) line)) in
    let from : int_cmp a.from b.from ≡ Equal = sym (int_cmp_is a.from b.from Equal (ap (λ (r : Run). r.from) run)) in
    let width : int_cmp a.width b.width ≡ Equal = sym (int_cmp_is a.width b.width Equal (ap (λ (l : Line). l.width) line)) in
    all_equal (nat_cmp a.net b.net) (nat_cmp a.layer b.layer) (int_cmp a.centre b.centre) (int_cmp a.from b.from) (int_cmp a.width b.width) net layer centre from width

lie_apart : (shapes : List Drawn) (blocks : List Block) (a b : Piece) → IsPiece shapes blocks a → IsPiece shapes blocks b → is_lt (piece_order a b) ≡ true
    → LieApart a b
lie_apart shapes blocks a b is_a is_b before line t in_a in_b =
    let P = IsCovered shapes blocks (piece_line a) in
    let cells : IsMaximal P (piece_run b) = subst (λ (l : Line). IsMaximal (IsCovered shapes blocks l) (piece_run b)) (sym line) is_b.cells in
    let run = same_run P (piece_run a) (piece_run b) t is_a.cells cells in_a in_b in
    false≢true (sym (same_place a b line run) ∙ before)

pub all_apart : (shapes : List Drawn) (blocks : List Block) (pieces : List Piece) → ArePieces shapes blocks pieces → AllPairs LieApart pieces
all_apart shapes blocks pieces are i j d less within =
    lie_apart shapes blocks (get_or pieces i d) (get_or pieces j d) (are.each i d (omega arith)) (are.each j d within) (are.in_order i j d less within)

-- ## the stacks

-- The extent of a piece across it is in order.
half_up : (centre width : ℤ) → IsWidth width → (centre -ℤ half width) ≤ℤ (centre +ℤ half width)
half_up centre width wide =
    let some = wide.0 in
    let even = wide.1 in
    omega (arith, ints)

in_order : (axis : Axis) (rect : Rect) (axis_of : Axis) (centre width from to : ℤ) → axis_of ≡ axis → IsWidth width
    → across axis_of rect ≡ across axis_of (centred axis_of centre width from to) → (across axis rect).from ≤ℤ (across axis rect).to
in_order axis rect X centre width from to is wide has =
    subst (λ (a : Axis). (across a rect).from ≤ℤ (across a rect).to) is
    (subst (λ (r : Run). r.from ≤ℤ r.to) (sym has) (half_up centre width wide))
in_order axis rect Y centre width from to is wide has =
    subst (λ (a : Axis). (across a rect).from ≤ℤ (across a rect).to) is
    (subst (λ (r : Run). r.from ≤ℤ r.to) (sym has) (half_up centre width wide))

-- What a read past a list gives.
abbrev nowhere : Site
nowhere = record {
  net = 0;
  x = pos 0;
  y = pos 0;
  from = 0;
  to = 0;
  crossing = record { x1 = pos 0; y1 = pos 0; x2 = pos 0; y2 = pos 0 };
  max_columns = 0;
  max_rows = 0;
}

counted : (from to low high : ℕ) → from ≡ low → to ≡ high → high - low ≡ to - from
counted from to low high is_low is_high = omega arith

-- What a site keeps where a stack stands.
pub record SiteFacts (tech : Tech) (plan : Plan) (site : Site) : Type 0 where
  pub net : site.net < length plan.nets
  pub rising : site.from < site.to
  pub layers : site.to < length tech.routing
  pub crossing : IsInOrder site.crossing

at_place : {X : Type 0} (P : X → Type 0) (xs : List X) (k : ℕ) (x : X) → All P xs → At xs k x → P x
at_place P xs k x all (within, is) = subst P is (all k x within)

pub site_facts : (tech : Tech) (plan : Plan) (pieces : List Piece) (connects : List Connect) (blocks : List Block) (site : Site)
    → All (PieceFacts tech plan) pieces → All (ConnectKeeps tech) connects → Stands tech pieces connects blocks site → SiteFacts tech plan site
site_facts tech plan pieces connects blocks site facts keep is =
    let flat = All-contains (PieceFacts tech plan) pieces is.flat facts is.flat_is in
    let upright = All-contains (PieceFacts tech plan) pieces is.upright facts is.upright_is in
    let keeps = at_place (ConnectKeeps tech) connects is.used.place is.connect keep is.used.is in
    let rect = crossing_of is.flat is.upright in
    let y = in_order X rect is.flat.axis is.flat.centre is.flat.width is.flat.from is.flat.to is.cross.horizontal flat.even is.cross.flat_width in
    let x = in_order Y rect is.upright.axis is.upright.centre is.upright.width is.upright.from is.upright.to is.cross.vertical upright.even is.cross.upright_width in
    subst (SiteFacts tech plan) (sym is.is) (record {
      net = flat.net;
      rising = keeps.rising;
      layers = keeps.layers;
      crossing = (x, y);
    })

stack_at : (tech : Tech) (plan : Plan) (units : ℕ) (site : Site) (stack : StackAt) → SiteFacts tech plan site → IsStackAt tech units site stack
    → StackFacts tech plan stack
stack_at tech plan units site stack facts is = record {
  in_order = subst IsInOrder (sym is.crossing) facts.crossing;
  net = subst (λ (n : ℕ). n < length plan.nets) (sym is.net) facts.net;
  rising = subst (λ (n : ℕ). n < stack.stack.to) (sym is.stack.lowest) (subst (λ (n : ℕ). site.from < n) (sym is.stack.highest) facts.rising);
  layers = subst (λ (n : ℕ). n < length tech.routing) (sym is.stack.highest) facts.layers;
  arrays = is.stack.arrays ∙ counted stack.stack.from stack.stack.to site.from site.to is.stack.lowest is.stack.highest;
  ohms = is.stack.ohms ∙ counted stack.stack.from stack.stack.to site.from site.to is.stack.lowest is.stack.highest;
}

pub all_stacks : (tech : Tech) (plan : Plan) (pieces : List Piece) (connects : List Connect) (blocks : List Block) (units : ℕ) (stacks : List StackAt)
    → All (PieceFacts tech plan) pieces → All (ConnectKeeps tech) connects → AreStacks (Stands tech pieces connects blocks) tech units pieces stacks
    → All (StackFacts tech plan) stacks
all_stacks tech plan pieces connects blocks units stacks facts keep (sites, allowed, sheets, at) k d within =
    let less : k < length sites = subst (λ (n : ℕ). k < n) at.as_many within in
    let site = get_or sites k nowhere in
    stack_at tech plan units site (get_or stacks k d)
    (site_facts tech plan pieces connects blocks site facts keep (allowed.are.each k nowhere less)) (at.each k nowhere d less)
