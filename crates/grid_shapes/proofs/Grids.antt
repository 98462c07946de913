-- A grid put together of a plan, its pieces and its stacks.
use Rattle.std.proofs.Common.{◌≡◌, ℕ, ◌<◌, ◌≤◌, ◌⊎◌, inl, inr, List, All, length, get_or, sym, ap, subst}
use Rattle.lef_tech.specs.declared.tech.Tech.{Tech}
use Rattle.lef_cells.specs.declared.record.Cells.{Cells}
use Rattle.def_design.specs.declared.record.Design.{Design}
use Rattle.pdn_script.specs.declared.record.Script.{Script}
use Rattle.grid_pieces.specs.declared.error.Counted.TheVariants.{Lines}
use Rattle.grid_pieces.specs.declared.error.DrawError.{DrawError}
use Rattle.grid_pieces.specs.declared.error.DrawError.TheVariants.{TooMany, Want}
use Rattle.grid_pieces.specs.declared.grid.Grid.{Grid}
use Rattle.grid_pieces.specs.declared.piece.Piece.{Piece}
use Rattle.grid_pieces.specs.declared.piece.StackAt.{StackAt}
use Rattle.grid_pieces.specs.Limits.{PieceKeeps, StackKeeps}
use Rattle.grid_pieces.specs.Piece.{ArePieces}
use Rattle.grid_plan.specs.declared.record.Plan.{Plan}
use Rattle.grid_plan.specs.Planning.{IsPlanOf}
use Rattle.grid_shapes.specs.Drawing.{IsDrawingOf, IsDrawRefused, HasPieces, AreStacksOf, NothingTouches, PieceStands, StackStands}
use Rattle.grid_shapes.specs.Shapes.{LinesAreMany}
use Rattle.grid_shapes.specs.inside.Facts.{ArePiecesOf, PieceFacts, StackFacts, IsTouchRefused}

-- The grid has what the plan, the pieces and the stacks are.
pub record IsGridWith (plan : Plan) (of_pieces : List Piece) (of_stacks : List StackAt) (grid : Grid) : Type 0 where
  pub units : grid.units ≡ plan.units
  pub nets : grid.nets ≡ plan.nets
  pub power : grid.power ≡ plan.power
  pub domains : grid.domains ≡ plan.domains
  pub pieces : grid.pieces ≡ of_pieces
  pub stacks : grid.stacks ≡ of_stacks

pub is_drawing : (tech : Tech) (cells : Cells) (design : Design) (script : Script) (plan : Plan) (pieces : List Piece) (stacks : List StackAt) (grid : Grid)
    → IsPlanOf tech cells design script plan → ArePiecesOf plan pieces → AreStacksOf tech plan pieces stacks → NothingTouches pieces stacks
    → IsGridWith plan pieces stacks grid → IsDrawingOf tech cells design script grid
is_drawing tech cells design script plan pieces stacks grid is_plan of_plan are_stacks apart is = record {
  plan = plan;
  is_plan = is_plan;
  shapes = of_plan.shapes;
  are_shapes = of_plan.are_shapes;
  units = is.units;
  nets = is.nets;
  power = is.power;
  domains = is.domains;
  pieces = subst (λ (ps : List Piece). ArePieces of_plan.shapes plan.blocks ps) (sym is.pieces) of_plan.are_pieces;
  stacks = subst (λ (ps : List Piece). AreStacksOf tech plan ps grid.stacks) (sym is.pieces)
      (subst (λ (ss : List StackAt). AreStacksOf tech plan pieces ss) (sym is.stacks) are_stacks);
  apart = subst (λ (ps : List Piece). NothingTouches ps grid.stacks) (sym is.pieces)
      (subst (λ (ss : List StackAt). NothingTouches pieces ss) (sym is.stacks) apart);
}

pub pieces_stand : (tech : Tech) (plan : Plan) (pieces : List Piece) (stacks : List StackAt) (grid : Grid) → All PieceKeeps pieces
    → All (PieceFacts tech plan) pieces → AreStacksOf tech plan pieces stacks → IsGridWith plan pieces stacks grid → All (PieceStands tech grid) grid.pieces
pieces_stand tech plan pieces stacks grid keep facts are is =
    subst (λ (ps : List Piece). All (PieceStands tech grid) ps) (sym is.pieces)
    (λ k d within. record {
      keeps = keep k d within;
      even = (facts k d within).even.1;
      net = subst (λ (n : ℕ). (get_or pieces k d).net < n) (sym (ap length is.nets)) (facts k d within).net;
      layer = (facts k d within).layer;
      sheet = are.2 k d within;
    })

pub stacks_stand : (tech : Tech) (plan : Plan) (pieces : List Piece) (stacks : List StackAt) (grid : Grid) → All (StackFacts tech plan) stacks
    → IsGridWith plan pieces stacks grid → All (StackStands tech grid) grid.stacks
stacks_stand tech plan pieces stacks grid facts is =
    subst (λ (ss : List StackAt). All (StackStands tech grid) ss) (sym is.stacks)
    (λ k d within. record {
      net = subst (λ (n : ℕ). (get_or stacks k d).net < n) (sym (ap length is.nets)) (facts k d within).net;
      rising = (facts k d within).rising;
      layers = (facts k d within).layers;
      arrays = (facts k d within).arrays;
      ohms = (facts k d within).ohms;
    })

pub few_stand : (tech : Tech) (plan : Plan) (pieces : List Piece) (stacks : List StackAt) (grid : Grid) → AreStacksOf tech plan pieces stacks
    → IsGridWith plan pieces stacks grid → (length grid.pieces ≤ 4000000) × (length grid.stacks ≤ 1000000)
few_stand tech plan pieces stacks grid are is = (
  subst (λ (ps : List Piece). length ps ≤ 4000000) (sym is.pieces) are.1.few_pieces,
  subst (λ (ss : List StackAt). length ss ≤ 1000000) (sym is.stacks) (subst (λ (n : ℕ). n ≤ 1000000) (sym are.3.as_many) are.1.few),
)

pub stacks_keep : (tech : Tech) (plan : Plan) (stacks : List StackAt) → All (StackFacts tech plan) stacks → All StackKeeps stacks
stacks_keep tech plan stacks facts k d within = (facts k d within).in_order

pub has_pieces : (tech : Tech) (cells : Cells) (design : Design) (script : Script) (plan : Plan) (pieces : List Piece) → IsPlanOf tech cells design script plan
    → ArePiecesOf plan pieces → HasPieces tech cells design script plan pieces
has_pieces tech cells design script plan pieces is_plan of_plan =
    record { is_plan = is_plan; shapes = of_plan.shapes; are_shapes = of_plan.are_shapes; are_pieces = of_plan.are_pieces }

-- Why there is none: what refuses the shapes, and metal that touches.
pub from_shapes : (tech : Tech) (cells : Cells) (design : Design) (script : Script) (plan : Plan) (error : DrawError) → IsPlanOf tech cells design script plan
    → (error ≡ Want) ⊎ ((error ≡ TooMany Lines) × LinesAreMany plan) → IsDrawRefused tech cells design script error
from_shapes tech cells design script plan error is_plan (inl want) = subst (IsDrawRefused tech cells design script) (sym want) tt
from_shapes tech cells design script plan error is_plan (inr (is, many)) =
    subst (IsDrawRefused tech cells design script) (sym is) (record { plan = plan; is_plan = is_plan; many = many })

pub from_touch : (tech : Tech) (cells : Cells) (design : Design) (script : Script) (plan : Plan) (pieces : List Piece) (stacks : List StackAt) (error : DrawError)
    → HasPieces tech cells design script plan pieces → AreStacksOf tech plan pieces stacks → IsTouchRefused pieces stacks error
    → IsDrawRefused tech cells design script error
from_touch tech cells design script plan pieces stacks error has are (inl want) = subst (IsDrawRefused tech cells design script) (sym want) tt
from_touch tech cells design script plan pieces stacks error has are (inr (touching, is, first)) =
    subst (IsDrawRefused tech cells design script) (sym is) (record { plan = plan; pieces = pieces; has = has; stacks = stacks; are_stacks = are; first = first })
