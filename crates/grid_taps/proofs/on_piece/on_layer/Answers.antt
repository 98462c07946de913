use Rattle.std.proofs.Common.{◌≡◌, ◌<◌, ℕ, List, length, get_or, SFits, pos, sym, ◌∙◌, subst}
use Rattle.std.specs.Int.{w128}
use Rattle.std.proofs.lemmas.Bool.{false≢true}
use Rattle.std.proofs.lemmas.Int.{to_z-of_z}
use Rattle.std.proofs.lemmas.List.{get_or_default}
use Rattle.geom_rect.specs.declared.direction.Axis.TheVariants.{X}
use Rattle.geom_rect.specs.declared.drawn.Shape.TheVariants.{Ring}
use Rattle.grid_pieces.specs.declared.piece.Piece.{Piece}
use Rattle.grid_taps.specs.Naming.{At, layer_names}
use Rattle.grid_taps.proofs.PadLemmas.{layer_more, layer_kept, layer_all}
use Rattle.grid_taps.proofs.on_piece.on_layer.Goals as goal
use Rattle.grid_taps.proofs.on_piece.on_layer.Goals.{then-is_layer+in_ok-push, else-is_layer}

nothing : Piece
nothing = record { net = 0; layer = 0; axis = X; centre = pos 0; width = pos 0; from = pos 0; to = pos 0; shape = Ring }

-- the piece with a number, which stands in the list
piece_there : (pieces pieces' : List Piece) (n : ℕ) → pieces' ≡ pieces → n < length pieces → At pieces n (get_or pieces' n nothing)
piece_there pieces pieces' n are within =
    subst (λ (ps : List Piece). At ps n (get_or pieces' n nothing)) are
    (subst (λ (ps : List Piece). n < length ps) (sym are) within, get_or_default pieces' n (get_or pieces' n nothing) nothing (subst (λ (ps : List Piece). n < length ps) (sym are) within))

pub loop-number-preserved : goal.loop-number-preserved
unfolding nothing
loop-number-preserved c =
    let grid = c.args.grid.now in
    let pad = c.args.pad.now in
    let fits : SFits w128 c.args.volts = c.ranges.volts in
    let inv = simp to_z-of_z at c.loop-number.invariant in
    let found = c.args.found.now in
    let i = c.loop-number.number-index in
    let n : ℕ = get_or found i 0 in
    let is : n ≡ get_or found i n = get_or_default found i 0 n c.loop-number-test.true in
    let has = c.requires.found.are.each i 0 c.loop-number-test.true in
    let p : Piece = get_or c.as_slice.result.now n nothing in
    let at : At grid.pieces n p = piece_there grid.pieces c.as_slice.result.now n c.as_slice.ensures has.is.0 in
    elim c.if-is_layer.branch [
      | then-is_layer+in_ok-push w ↦
          let layer : At (layer_names c.args.tech.now) p.layer pad.layer =
          subst (λ (name : List ℕ). At (layer_names c.args.tech.now) p.layer name) c.bytes.ensures (c.is_layer.ensures.0 w.if-is_layer.true) in
          rw w.on-is
          (rw w.in_ok-push.ensures.items
          (rw w.pad_on.ensures
          (simp to_z-of_z
          (layer_more grid c.args.tech.now pad c.args.spot c.args.volts found i n p c.loop-number.on.items c.requires.spot c.requires.found c.loop-number-test.true is at layer inv))))
      | else-is_layer w ↦
          rw w.on-is
          (simp to_z-of_z
          (layer_kept grid c.args.tech.now pad c.args.spot c.args.volts found i n p c.loop-number.on.items c.loop-number-test.true is at
          (λ layer.
          false≢true
          (sym w.if-is_layer.false
          ∙ c.is_layer.ensures.1 (subst (λ (name : List ℕ). At (layer_names c.args.tech.now) p.layer name) (sym c.bytes.ensures) layer)))
          inv))
    ]

pub returns : goal.returns
returns c =
    let fits : SFits w128 c.args.volts = c.ranges.volts in
    let inv = simp to_z-of_z at c.loop-number.invariant in
    layer_all c.args.grid.now c.args.tech.now c.args.pad.now c.args.spot c.args.volts c.args.found.now c.loop-number.number-index c.loop-number.on.items c.loop-number-test.false
    c.requires.spot c.requires.found inv
