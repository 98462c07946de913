-- The ends of stacks on a piece, and the pieces that feed a net of a block, as they are found.
use Rattle.std.proofs.Common.{◌≡◌, ℕ, ◌<◌, All, length, Bool, ◌&&◌, ◌||◌, ◌==◌, List, map, filter, sym, ap, ◌∙◌, subst, arith}
use Rattle.std.specs.List.{list_any}
use Rattle.std.proofs.lemmas.List.Elements.{All-map, All-filter}
use Rattle.std.proofs.lemmas.Bool.Decides.{nat_tests}
use Rattle.geom_rect.specs.declared.rect.Rect.{Rect}
use Rattle.grid_network.specs.Drawing.{piece_at}
use Rattle.grid_pieces.specs.declared.grid.Grid.{Grid}
use Rattle.grid_pieces.specs.declared.piece.Piece.{Piece}
use Rattle.grid_pieces.specs.declared.piece.StackAt.{StackAt}
use Rattle.macro_grid.specs.declared.record.MacroGrid.{MacroGrid}
use Rattle.pin_pieces.specs.declared.pin.PinPiece.{PinPiece}
use Rattle.rect_index.specs.Entry.{touches, is_at, item_of}
use Rattle.rect_index.specs.declared.entry.Entry.{Entry}
use Rattle.pin_taps.specs.Fed.{centre_line, has_stack_end, feeds, feeding}
use Rattle.pin_taps.specs.Keeping.{MacroGridKeeps}
use Rattle.pin_taps.specs.declared.ends.Ends.{Ends}
use Rattle.pin_taps.specs.inside.Tables.{stack_entry, net_point, pin_entry, is_joined, AreFeeding}
use Rattle.pin_taps.proofs.Found.{any_found, kept_found}

-- One of the ends is on the layer.
abbrev pub on_layer : ℕ → Ends → Bool
on_layer layer ends = (ends.from == layer) || (ends.to == layer)

pub ends_found : (stacks : List StackAt) (piece : Piece) (line : Rect) (index : List (Entry Ends)) (found : List Ends) → index ≡ map stack_entry stacks
    → line ≡ centre_line piece → found ≡ map item_of (filter (is_at piece.net line) index) → list_any (on_layer piece.layer) found ≡ has_stack_end stacks piece
ends_found stacks piece line index found are is_line is_found =
    ap (list_any (on_layer piece.layer)) is_found
    ∙ (λ i. list_any (on_layer piece.layer) (map item_of (filter (is_at piece.net (is_line i)) (are i))))
    ∙ any_found stack_entry item_of (is_at piece.net (centre_line piece)) (on_layer piece.layer) stacks

-- The points of two nets are one where the nets are.
one_point : (a b : ℕ) → touches (net_point a) (net_point b) ≡ (b == a)
one_point a b = grind (arith, nat_tests)

-- The piece is of a pin of the block, and of the net.
abbrev of_net : Grid → ℕ → ℕ → PinPiece → Bool
of_net grid component net pin = (pin.component == component) && ((piece_at grid.pieces pin.piece).net == net)

pub feeding_found : (drawn : MacroGrid) (index : List (Entry ℕ)) (component net : ℕ) → AreFeeding drawn index
    → map item_of (filter (is_at component (net_point net)) index) ≡ feeding drawn component net
feeding_found drawn index component net are =
    ap (λ (es : List (Entry ℕ)). map item_of (filter (is_at component (net_point net)) es)) are
    ∙ kept_found (pin_entry drawn.grid) item_of (is_joined drawn.grid) (of_net drawn.grid component net) (is_at component (net_point net))
    (λ (pin : PinPiece). ap (λ (b : Bool). (pin.component == component) && b) (one_point net (piece_at drawn.grid.pieces pin.piece).net))
    drawn.pins

feeding_within : (drawn : MacroGrid) → MacroGridKeeps drawn → (component net : ℕ) → All (λ (number : ℕ). number < length drawn.grid.pieces) (feeding drawn component net)
feeding_within drawn keeps component net =
    All-map (λ (number : ℕ). number < length drawn.grid.pieces) (λ (pin : PinPiece). pin.piece) (filter (feeds drawn.grid component net) drawn.pins)
    (All-filter (feeds drawn.grid component net) (λ (pin : PinPiece). pin.piece < length drawn.grid.pieces) drawn.pins keeps.pins)

pub numbers_within : (drawn : MacroGrid) → MacroGridKeeps drawn → (component net : ℕ) (pieces : List Piece) (numbers : List ℕ) → pieces ≡ drawn.grid.pieces
    → numbers ≡ feeding drawn component net → All (λ (number : ℕ). number < length pieces) numbers
numbers_within drawn keeps component net pieces numbers are is =
    subst (λ (ps : List Piece). All (λ (number : ℕ). number < length ps) numbers) (sym are)
    (subst (λ (ns : List ℕ). All (λ (number : ℕ). number < length drawn.grid.pieces) ns) (sym is) (feeding_within drawn keeps component net))
