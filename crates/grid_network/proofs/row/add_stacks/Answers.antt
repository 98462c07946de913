use Rattle.std.proofs.Common.{◌≡◌, ℕ, ◌+◌, suc, Some, List, ◌++◌, map, length, slice_get, sym, ap, ◌∙◌, arith}
use Rattle.std.proofs.lemmas.Option.{slice_get-get_or}
use Rattle.grid_pieces.specs.declared.piece.StackAt.{StackAt}
use Rattle.grid_network.specs.inside.Steps.{row_of_segment, arrays_below, arrays_of, cuts_below}
use Rattle.grid_network.proofs.Growing.{rows_more}
use Rattle.grid_network.proofs.row.add_stacks.Goals as goal

pub loop-stack-preserved : goal.loop-stack-preserved
loop-stack-preserved c =
    let s : StackAt = c.stack-item.result in
    let stacks : List StackAt = c.args.stacks.now in
    let i : ℕ = c.loop-stack.stack-index in
    let here : slice_get stacks i ≡ Some s = slice_get-get_or stacks i s c.loop-stack-test.true ∙ ap Some (sym c.stack-item.is) in
    let arrays : arrays_below s c.loop-stack.number (length s.stack.arrays) ≡ arrays_of (slice_get stacks i) i =
    ap (λ n. arrays_below s n (length s.stack.arrays)) c.loop-stack.invariant.0 ∙ ap (λ o. arrays_of o i) (sym here) in
    let count : suc i ≡ i + 1 = omega arith in (
      omega (arith, c.loop-stack.invariant.0),
      λ keys told.
          rows_more (row_of_segment keys) c.args.rows.now.items c.loop-stack.rows.items c.add_arrays.new.rows.items (map (row_of_segment keys) (arrays_below s c.loop-stack.number (length s.stack.arrays)))
          (cuts_below stacks i) (arrays_of (slice_get stacks i) i) (c.loop-stack.invariant.1 keys told) (c.in_ok-add_arrays.ensures keys told) (ap (map (row_of_segment keys)) arrays)
          ∙ ap (λ n. c.args.rows.now.items ++ map (row_of_segment keys) (cuts_below stacks n)) count,
    )
