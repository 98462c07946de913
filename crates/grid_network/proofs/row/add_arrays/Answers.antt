use Rattle.std.proofs.Common.{◌≡◌, ℕ, ◌+◌, [], ◌∷◌, ◌++◌, map, sym, ap, ◌∙◌, arith}
use Rattle.std.proofs.lemmas.List.FromFn.{map-range_with_len_more}
use Rattle.grid_network.specs.Segments.{cut_array}
use Rattle.grid_network.specs.inside.Steps.{row_of_segment, arrays_below}
use Rattle.grid_network.proofs.Growing.{rows_more}
use Rattle.grid_network.proofs.row.add_arrays.Goals as goal

pub loop-level-preserved : goal.loop-level-preserved
loop-level-preserved c keys told =
    let s = c.args.stack.now in
    let level : ℕ = c.loop-level.level in
    let count : 0 + level ≡ level = omega arith in
    let more = map-range_with_len_more (cut_array s c.args.number) 0 level level count in
    rows_more (row_of_segment keys) c.args.rows.now.items c.loop-level.rows.items c.push.new.self.items (c.row_of.result ∷ []) (arrays_below s c.args.number level) (cut_array s c.args.number level ∷ [])
    (c.loop-level.invariant keys told) c.in_ok-push.ensures.items (ap (λ r. r ∷ []) (c.row_of.ensures keys told ∙ ap (row_of_segment keys) c.cut_array.ensures))
    ∙ ap (λ l. c.args.rows.now.items ++ map (row_of_segment keys) l) (sym more)
