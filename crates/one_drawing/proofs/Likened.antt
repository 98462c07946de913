-- Plans that differ in their connects alone draw the same shapes.
use Rattle.std.proofs.Common.{inl, inr, ℕ, List, [], ◌∷◌, length}
use Rattle.std.specs.List.{range_with_len}
use Rattle.geom_rect.specs.declared.drawn.Drawn.{Drawn}
use Rattle.grid_stacks.specs.declared.connect.Connect.{Connect}
use Rattle.grid_plan.specs.declared.record.Plan.{Plan}
use Rattle.grid_plan.specs.declared.record.Rails.{Rails}
use Rattle.grid_plan.specs.declared.record.Straps.{Straps}
use Rattle.grid_shapes.specs.Shapes.{DrawStraps, DrawRails, DrawSides, Draws, AreOfEach, AreShapes, LinesAreMany}

abbrev pub with_connects : Plan → List Connect → Plan
with_connects plan connects = record plan { connects = connects }

draws_move : (plan : Plan) (c : List Connect) (grid : ℕ) (from to : List Drawn → Type 0) (shapes : List Drawn) → (from shapes → to shapes) → Draws (with_connects plan c) grid from shapes → Draws plan grid to shapes
draws_move plan c grid from to shapes move (inl x) = inl x
draws_move plan c grid from to shapes move (inr x) = inr (x.0, move x.1)

each_move : {C : Type 0} (from to : C → List Drawn → Type 0) → ((c : C) (shapes : List Drawn) → from c shapes → to c shapes) → (commands : List C) (shapes : List Drawn) → AreOfEach from commands shapes
    → AreOfEach to commands shapes
each_move from to move [] shapes are = are
each_move from to move (c ∷ commands) shapes are = (are.0, are.1, move c are.0 are.2, each_move from to move commands are.1 are.3, are.4)

straps_move : (plan : Plan) (c : List Connect) (straps : Straps) (shapes : List Drawn) → DrawStraps (with_connects plan c) straps shapes → DrawStraps plan straps shapes
straps_move plan c straps shapes x = record { core = x.core; is_core = x.is_core; lines = x.lines; drawn = x.drawn; cut = x.cut }

rails_move : (plan : Plan) (c : List Connect) (rails : Rails) (shapes : List Drawn) → DrawRails (with_connects plan c) rails shapes → DrawRails plan rails shapes
rails_move plan c rails shapes x = record {
  core = x.core;
  is_core = x.is_core;
  domain = x.domain;
  is_domain = x.is_domain;
  rule = x.rule;
  is_rule = record {
    layer = x.is_rule.layer;
    width = x.is_rule.width;
    lower_net = x.is_rule.lower_net;
    upper_net = x.is_rule.upper_net;
    lower_reach = x.is_rule.lower_reach;
    upper_reach = x.is_rule.upper_reach;
  };
  few = x.few;
  cut = x.cut;
}

sides_move : (plan : Plan) (c : List Connect) (grid : ℕ) (shapes : List Drawn) → DrawSides (with_connects plan c) grid shapes → DrawSides plan grid shapes
sides_move plan c grid shapes x = record { core = x.core; is_core = x.is_core; few = x.few; are = x.are }

pub shapes_move : (plan : Plan) (c : List Connect) (shapes : List Drawn) → AreShapes (with_connects plan c) shapes → AreShapes plan shapes
shapes_move plan c shapes x = record {
  straps = x.straps;
  rails = x.rails;
  sides = x.sides;
  of_straps = each_move (λ (s : Straps). Draws (with_connects plan c) s.grid (DrawStraps (with_connects plan c) s)) (λ (s : Straps). Draws plan s.grid (DrawStraps plan s))
      (λ s l. draws_move plan c s.grid (DrawStraps (with_connects plan c) s) (DrawStraps plan s) l (straps_move plan c s l)) plan.straps x.straps x.of_straps;
  of_rails = each_move (λ (r : Rails). Draws (with_connects plan c) r.grid (DrawRails (with_connects plan c) r)) (λ (r : Rails). Draws plan r.grid (DrawRails plan r))
      (λ r l. draws_move plan c r.grid (DrawRails (with_connects plan c) r) (DrawRails plan r) l (rails_move plan c r l)) plan.rails x.rails x.of_rails;
  of_grids = each_move (λ (grid : ℕ). Draws (with_connects plan c) grid (DrawSides (with_connects plan c) grid)) (λ (grid : ℕ). Draws plan grid (DrawSides plan grid))
      (λ g l. draws_move plan c g (DrawSides (with_connects plan c) g) (DrawSides plan g) l (sides_move plan c g l)) (range_with_len 0 (length plan.grids)) x.sides x.of_grids;
  are = x.are;
}

pub many_move : (plan : Plan) (c : List Connect) → LinesAreMany (with_connects plan c) → LinesAreMany plan
many_move plan c (inl x) = inl (record { straps = x.straps; is = x.is; drawn = x.drawn; core = x.core; is_core = x.is_core; more = x.more })
many_move plan c (inr (inl x)) = inr (inl (record { rails = x.rails; is = x.is; drawn = x.drawn; more = x.more }))
many_move plan c (inr (inr x)) = inr (inr (record { ring = x.ring; is = x.is; drawn = x.drawn; more = x.more }))
