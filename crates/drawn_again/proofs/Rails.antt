-- A rail of a drawing lies along x, and so does each piece of one.
use Rattle.std.proofs.Common.{◌≡◌, inl, inr, ℕ, List, [], ◌∷◌, ◌++◌, All, length, get_or, refl, sym, ap, ◌∙◌, subst, arith}
use Rattle.std.specs.Prelude.{filter}
use Rattle.std.specs.Bool.{nat_eq}
use Rattle.std.specs.List.{range_with_len}
use Rattle.std.proofs.lemmas.List.Elements.{All-nil, All-tail, All-append, All-map, All-contains, All-from_recursion}
use Rattle.geom_rect.specs.declared.direction.Axis.TheVariants.{X}
use Rattle.geom_rect.specs.declared.drawn.Drawn.{Drawn}
use Rattle.geom_rect.specs.declared.drawn.Shape.TheVariants.{FollowPin, Stripe, Ring}
use Rattle.geom_rect.specs.declared.rect.Rect.{Rect}
use Rattle.grid_cores.specs.Line.{over_run, AreLinesShapes}
use Rattle.grid_pieces.specs.declared.piece.Block.{Block}
use Rattle.grid_pieces.specs.declared.piece.Piece.{Piece}
use Rattle.grid_pieces.specs.Piece.{ArePieces, place_of}
use Rattle.grid_plan.specs.declared.record.Plan.{Plan}
use Rattle.grid_plan.specs.declared.record.Rails.{Rails}
use Rattle.grid_plan.specs.declared.record.RingAt.{RingAt}
use Rattle.grid_plan.specs.declared.record.Straps.{Straps}
use Rattle.grid_shapes.specs.Shapes.{DrawStraps, DrawRails, DrawSides, Draws, AreOfEach, AreShapes}
use Rattle.grid_shapes.specs.Site.{foreign, rows_at, strap_reaches}
use Rattle.rail_layout.specs.Rails.{rails_of, rails_of_row}
use Rattle.ring_layout.specs.declared.rule.RingRule.{RingRule}
use Rattle.ring_layout.specs.Rings.{rings_of, sides_of}
use Rattle.strap_layout.specs.Lines.{strap_of}
use Rattle.drawn_again.proofs.Members.{all_flat}

-- A shape that is a rail lies along x.
abbrev LiesAlong : Drawn → Type 0
LiesAlong shape = shape.shape ≡ FollowPin → shape.axis ≡ X

abbrev LieAlong : List Drawn → Type 0
LieAlong shapes = All LiesAlong shapes

stripe : Stripe ≡ FollowPin → ⊥
stripe e = let places : 1 ≡ 2 = ap place_of e in absurd (omega (arith, places))

ring : Ring ≡ FollowPin → ⊥
ring e = let places : 0 ≡ 2 = ap place_of e in absurd (omega (arith, places))

-- ## lines that regions cut

of_lines : (regions : List Rect) (lines shapes : List Drawn) → AreLinesShapes regions lines shapes → LieAlong lines → LieAlong shapes
of_lines regions [] shapes none along = subst LieAlong (sym none) (All-nil LiesAlong)
of_lines regions (line ∷ lines) shapes (first, rest, one, more, is) along =
    subst LieAlong (sym is) (All-append LiesAlong first rest
    (subst LieAlong (sym one.are) (All-map LiesAlong (over_run line) one.runs (λ k d within. along 0 line (omega arith))))
    (of_lines regions lines rest more (All-tail LiesAlong line lines along)))

-- ## commands

of_each : {C : Type 0} (draws : C → List Drawn → Type 0) → ((command : C) (shapes : List Drawn) → draws command shapes → LieAlong shapes)
    → (commands : List C) (shapes : List Drawn) → AreOfEach draws commands shapes → LieAlong shapes
of_each draws along [] shapes none = subst LieAlong (sym none) (All-nil LiesAlong)
of_each draws along (command ∷ commands) shapes (first, rest, one, more, is) =
    subst LieAlong (sym is) (All-append LiesAlong first rest (along command first one) (of_each draws along commands rest more))

of_grid : (plan : Plan) (grid : ℕ) (drawn : List Drawn → Type 0) → ((shapes : List Drawn) → drawn shapes → LieAlong shapes)
    → (shapes : List Drawn) → Draws plan grid drawn shapes → LieAlong shapes
of_grid plan grid drawn along shapes (inl (over, none)) = subst LieAlong (sym none) (All-nil LiesAlong)
of_grid plan grid drawn along shapes (inr (not, is)) = along shapes is

of_straps : (plan : Plan) (straps : Straps) (shapes : List Drawn) → DrawStraps plan straps shapes → LieAlong shapes
of_straps plan straps shapes is =
    of_lines (foreign plan straps.grid straps.spacing) is.lines shapes is.cut
    (subst LieAlong (sym is.drawn.0.drawn)
    (All-map LiesAlong (strap_of straps.rule is.core (strap_reaches plan straps is.core)) is.drawn.0.lines (λ k d within e. absurd (stripe e))))

of_rails : (plan : Plan) (rails : Rails) (shapes : List Drawn) → DrawRails plan rails shapes → LieAlong shapes
of_rails plan rails shapes is =
    of_lines (foreign plan rails.grid rails.spacing) (rails_of is.rule (rows_at plan rails.grid)) shapes is.cut
    (all_flat LiesAlong (rails_of_row is.rule) (rows_at plan rails.grid)
    (λ k d within. All-from_recursion LiesAlong (rails_of_row is.rule (get_or (rows_at plan rails.grid) k d)) ((λ e. refl), ((λ e. refl), tt))))

of_ring : (rule : RingRule) (core : Rect) → LieAlong (rings_of rule core)
of_ring rule core =
    all_flat LiesAlong (sides_of rule core) (range_with_len 0 (length rule.nets))
    (λ k d within. All-from_recursion LiesAlong (sides_of rule core (get_or (range_with_len 0 (length rule.nets)) k d))
    ((λ e. absurd (ring e)), ((λ e. refl), ((λ e. absurd (ring e)), ((λ e. refl), tt)))))

of_sides : (plan : Plan) (grid : ℕ) (shapes : List Drawn) → DrawSides plan grid shapes → LieAlong shapes
of_sides plan grid shapes is =
    let rings = filter (λ (r : RingAt). nat_eq r.grid grid) plan.rings in
    subst LieAlong (sym is.are)
    (all_flat LiesAlong (λ (r : RingAt). rings_of r.rule is.core) rings (λ k d within. of_ring (get_or rings k d).rule is.core))

of_shapes : (plan : Plan) (shapes : List Drawn) → AreShapes plan shapes → LieAlong shapes
of_shapes plan shapes is =
    subst LieAlong (sym is.are)
    (All-append LiesAlong (is.straps ++ is.rails) is.sides
    (All-append LiesAlong is.straps is.rails
    (of_each (λ (s : Straps). Draws plan s.grid (DrawStraps plan s)) (λ s. of_grid plan s.grid (DrawStraps plan s) (of_straps plan s)) plan.straps is.straps is.of_straps)
    (of_each (λ (r : Rails). Draws plan r.grid (DrawRails plan r)) (λ r. of_grid plan r.grid (DrawRails plan r) (of_rails plan r)) plan.rails is.rails is.of_rails))
    (of_each (λ (grid : ℕ). Draws plan grid (DrawSides plan grid)) (λ grid. of_grid plan grid (DrawSides plan grid) (of_sides plan grid)) (range_with_len 0 (length plan.grids)) is.sides
    is.of_grids))

-- ## pieces

pub rails_along : (plan : Plan) (shapes : List Drawn) (blocks : List Block) (pieces : List Piece) → AreShapes plan shapes → ArePieces shapes blocks pieces
    → All (λ (piece : Piece). piece.shape ≡ FollowPin → piece.axis ≡ X) pieces
rails_along plan shapes blocks pieces are cut k d within =
    let (shape, in_shapes, (line, kind, _)) = (cut.each k d within).kind in
    λ rail. sym (ap (λ l. l.axis) line) ∙ All-contains LiesAlong shapes shape (of_shapes plan shapes are) in_shapes (kind ∙ rail)
