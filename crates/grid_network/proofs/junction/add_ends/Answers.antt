use Rattle.std.proofs.Common.{◌≡◌, ℕ, pos, List, length, get_or, sym, subst, arith}
use Rattle.std.proofs.lemmas.List.{get_or_default}
use Rattle.geom_rect.specs.declared.direction.Axis.TheVariants.{X, Y}
use Rattle.geom_rect.specs.declared.drawn.Shape.TheVariants.{Ring}
use Rattle.grid_pieces.specs.declared.piece.Piece.{Piece}
use Rattle.grid_pieces.specs.declared.piece.StackAt.{StackAt}
use Rattle.grid_network.specs.declared.spot.Spot.{Spot}
use Rattle.grid_network.specs.Listing.{ListsAll}
use Rattle.grid_network.specs.inside.Steps.{Adds, IsEnd, IsEndOf, IsEndBelow}
use Rattle.grid_network.proofs.Ends.{ends_more}
use Rattle.grid_network.proofs.junction.add_ends.Goals as goal

pub loop-piece-preserved : goal.loop-piece-preserved
loop-piece-preserved c =
    let stacks : List StackAt = c.args.stacks.now in
    let pieces : List Piece = c.args.pieces.now in
    let i : ℕ = c.loop-piece.piece-index in
    let p : Piece = get_or pieces i (record { net = 0; layer = 0; axis = X; centre = pos 0; width = pos 0; from = pos 0; to = pos 0; shape = Ring }) in
    let all_x = subst (λ (l : List Spot). ListsAll (IsEnd X stacks) l) (sym c.deref.ensures.value) c.in_ok-along_x.ensures.all in
    let all_y = subst (λ (l : List Spot). ListsAll (IsEnd Y stacks) l) (sym c.deref-in-loop-piece.ensures.value) c.in_ok-along_y.ensures.all in
    let added = subst (λ (n : ℕ). Adds (IsEndOf stacks p n) c.loop-piece.places.items c.add_ends_of.new.places.items) c.loop-piece.invariant.0 (c.in_ok-add_ends_of.ensures stacks all_x all_y) in
    (omega (arith, c.loop-piece.invariant.0), ends_more stacks pieces i p c.args.places.now.items c.loop-piece.places.items c.add_ends_of.new.places.items (get_or_default pieces i _ _ c.loop-piece-test.true) c.loop-piece.invariant.1 added)

pub returns : goal.returns
returns c =
    let all : c.loop-piece.piece-index ≡ length c.args.pieces.now = omega arith in
    let F : ℕ → Type 0 = λ n. Adds (IsEndBelow c.args.stacks.now c.args.pieces.now n) c.args.places.now.items c.loop-piece.places.items in
    subst F all c.loop-piece.invariant.1
