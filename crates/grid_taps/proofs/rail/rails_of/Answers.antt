use Rattle.std.proofs.Common.{◌≡◌, List, map, length, subst, ap, ◌∙◌, arith}
use Rattle.std.specs.List.Sorted.{IsPermutation}
use Rattle.std.proofs.lemmas.List.{with_items_is}
use Rattle.std.proofs.lemmas.List.Sorted.{length_permutation}
use Rattle.std.proofs.lemmas.Result.{IfOk-weaker}
use Rattle.grid_pieces.specs.declared.piece.Piece.{Piece}
use Rattle.grid_taps.specs.declared.rail.Rail.{Rail}
use Rattle.grid_taps.specs.inside.Rails.{rail_entry, AreRailsOf, AreRailEntries}
use Rattle.grid_taps.proofs.RailSteps.{rails_indexed}
use Rattle.grid_taps.proofs.rail.rails_of.Goals as goal

pub returns : goal.returns
returns c =
    let pieces = c.args.grid.now.pieces in
    let kept = c.in_ok-rails.rails in
    let new = c.sort.new.rails in
    let moved : IsPermutation kept.items new = subst (λ (z : List Rail). IsPermutation z new) c.deref_mut.ensures.value c.sort.ensures.same in
    let long = length_permutation kept.items new moved in
    let read : c.deref.result.now ≡ new = c.deref.ensures.value ∙ with_items_is kept new (omega (arith, kept.ok.0)) in
    let drawn : AreRailsOf pieces (length pieces) kept.items = subst (λ (ps : List Piece). AreRailsOf ps (length ps) kept.items) c.as_slice.ensures c.in_ok-rails.ensures in
    IfOk-weaker c.new.result (λ index. index ≡ c.deref-2.result.now) (λ index. AreRailEntries pieces index)
    (λ index is.
    rails_indexed pieces kept.items new c.in_ok-entries.entries.items index drawn moved c.sort.ensures.in_order
    (c.in_ok-entries.ensures ∙ ap (λ (z : List Rail). map rail_entry z) read) (is ∙ c.deref-2.ensures.value))
    c.new.ensures
