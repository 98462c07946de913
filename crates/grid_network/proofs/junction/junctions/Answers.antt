use Rattle.std.proofs.Common.{◌<◌, List, length, sym, subst}
use Rattle.std.proofs.lemmas.List.Elements.{All-contains}
use Rattle.grid_pieces.specs.declared.piece.Piece.{Piece}
use Rattle.grid_pieces.specs.declared.piece.StackAt.{StackAt}
use Rattle.grid_network.specs.Listing.{ListsAll}
use Rattle.grid_network.specs.Drawing.{Drawing, IsJunction}
use Rattle.grid_network.specs.inside.Steps.{Adds, IsEndBelow}
use Rattle.grid_network.proofs.Listed.{junctions_listed}
use Rattle.grid_network.proofs.junction.junctions.Goals as goal

pub returns-clause-all : goal.returns-clause-all
returns-clause-all c d is =
    let grid = c.args.grid.now in
    let here : Drawing = record { grid = grid; pads = c.args.pads.now; taps = c.args.taps.now } in
    let second = c.add_taps.new.places.items in
    let third = c.add_ends.new.places.items in
    let ends = subst (λ (l : List StackAt). Adds (IsEndBelow l c.as_slice-pieces.result.now (length c.as_slice-pieces.result.now)) second third) c.as_slice.ensures c.in_ok-add_ends.ensures in
    let ends' = subst (λ (l : List Piece). Adds (IsEndBelow grid.stacks l (length l)) second third) c.as_slice-pieces.ensures ends in
    let F : Drawing → Type 0 = λ e. ListsAll (λ j. IsJunction e j.piece j.along) c.put_in_order.new.items.items in
    subst F (sym is)
    (junctions_listed here c.new-places.result.items c.add_pads.new.places.items second third c.put_in_order.new.items.items c.new-places.ensures.items
    (λ p h. All-contains (λ p. p.piece < length grid.pieces) c.args.pads.now p c.requires.pads h) (λ t h. All-contains (λ t. t.piece < length grid.pieces) c.args.taps.now t c.requires.taps h)
    c.in_ok-add_pads.ensures c.in_ok-add_taps.ensures ends' c.put_in_order.ensures.same)
