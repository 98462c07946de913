use Rattle.std.proofs.Common.{ℕ, ℤ, rules}
use Rattle.std.specs.Ordering.{is_lt}
use Rattle.std.specs.List.Sorted.{IsSortedBy, IsPermutation}
use Rattle.std.proofs.lemmas.List.Sorted.{answers_always, IsPermutation-sym, Contains-permutation}
use Rattle.geom_rect.specs.declared.drawn.Drawn.{Drawn}
use Rattle.grid_pieces.specs.inside.Cutting.{drawn_order}
use Rattle.grid_pieces.specs.Limits.{OneAxis}
use Rattle.grid_pieces.proofs.Grouped.{grouped}
use Rattle.grid_pieces.proofs.cutting.group.Goals as goal

pub returns-clause-grouped : goal.returns-clause-grouped
returns-clause-grouped c =
    let new = c.sort_unstable_by_key.new.self in
    let old = c.args.shapes.now in
    let key : Drawn → ℕ × ℕ × ℤ × ℤ = λ (s : Drawn). (s.net, s.layer, s.centre, s.width) in
    let sorted : IsSortedBy (λ x y. is_lt (drawn_order x y)) new = c.sort_unstable_by_key.ensures.sorted key (answers_always _ _ _ (λ f a r f' called. search rules)) in
    let moved : IsPermutation old new = c.sort_unstable_by_key.ensures.permutation in
    let back = IsPermutation-sym old new moved in
    let axes : OneAxis new = λ a b has_a has_b. c.requires a b (Contains-permutation new old a back has_a) (Contains-permutation new old b back has_b) in
    grouped new axes sorted
