-- The resistance of a wire by the rule of the arrays of cuts.
use Rattle.std.proofs.Common.{◌≡◌, ℕ, ◌+◌, ◌*◌, ◌/◌, ◌%◌, ◌<◌, max, pos, Some, List, refl, ap, ◌∙◌, arith, div-add-mod', mod-lt}
use Rattle.std.specs.Prelude.{◌*ℤ◌, unwrap_or}
use Rattle.std.specs.Int.{int_max}
use Rattle.std.proofs.lemmas.Int.{ints, clamps}
use Rattle.lef_tech.specs.declared.layer.RoutingLayer.{RoutingLayer}
use Rattle.grid_pieces.specs.declared.piece.Piece.{Piece}
use Rattle.via_arrays.specs.Resistances.{IsResistance}
use Rattle.grid_network.specs.Asked.{sheet_of}
use Rattle.grid_network.specs.Segments.{nearest, wire_ohms}

greater : (m : ℕ) → int_max (pos 1) (pos m) ≡ pos (max m 1)
greater m = omega (arith, ints, clamps)

pub ruled : (layers : List RoutingLayer) (piece : Piece) (square long width : ℕ) → sheet_of layers piece.layer ≡ Some square → piece.width ≡ pos width → 0 < width
    → (ohms : ℕ) × IsResistance (square * long) width ohms × (wire_ohms layers piece (pos long) ≡ pos ohms)
ruled layers piece square long width sheet wide some =
    let n : ℕ = square * long in
    let a : ℕ = 2 * n + width in
    let k : ℕ = 2 * width in
    let m : ℕ = a / k in
    let s = div-add-mod' a k in
    let r : a % k < k = mod-lt a (omega arith) in (
      max m 1,
      record { nearest = m; is_nearest = record { reached = omega (arith, s); below = omega (arith, s, r) }; is = refl },
      ap (λ o. int_max (pos 1) (nearest (pos (unwrap_or o 0) *ℤ pos long) piece.width)) sheet ∙ ap (λ w. int_max (pos 1) (nearest (pos square *ℤ pos long) w)) wide ∙ greater m,
    )
