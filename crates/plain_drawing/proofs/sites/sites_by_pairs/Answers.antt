use Rattle.std.proofs.Common.{◌<◌, None, [], length, get_or, sym, subst, ◌∙◌, arith}
use Rattle.std.proofs.lemmas.Bool.{false≢true}
use Rattle.std.specs.List.Sorted.{IsPermutation}
use Rattle.std.proofs.lemmas.List.{with_items_is}
use Rattle.std.proofs.lemmas.List.Sorted.{length_permutation}
use Rattle.grid_stacks.specs.declared.connect.Connect.{Connect}
use Rattle.plain_drawing.proofs.Sited.{connect_more, connect_kept, at_get, used_at, sorted}
use Rattle.plain_drawing.proofs.sites.sites_by_pairs.Goals as goal
use Rattle.plain_drawing.proofs.sites.sites_by_pairs.Goals.{then-is_used+in_ok-add_by, else-is_used}

nothing : Connect
nothing = record { from = 0; to = 0; max_columns = None; max_rows = None }

pub add_by-requires-clause-used : goal.add_by-requires-clause-used
unfolding nothing
add_by-requires-clause-used c =
    used_at c.args.tech.now c.args.pieces.now c.args.connects.now c.args.blocks.now c.loop-place.place (get_or c.args.connects.now c.loop-place.place nothing) (at_get c.args.connects.now c.loop-place.place nothing c.loop-place-test.true)
    (c.is_used.ensures.0 c.if-is_used.true)

pub loop-place-preserved : goal.loop-place-preserved
unfolding nothing
loop-place-preserved c =
    let tech = c.args.tech.now in
    let pieces = c.args.pieces.now in
    let connects = c.args.connects.now in
    let blocks = c.args.blocks.now in
    let place = c.loop-place.place in
    let within : place < length connects = c.loop-place-test.true in
    elim c.if-is_used.branch [
      | then-is_used+in_ok-add_by w ↦
          rw w.sites-is
          (connect_more tech pieces connects blocks place (get_or connects place nothing) [] c.loop-place.sites.items w.add_by.new.sites.items (at_get connects place nothing within) c.loop-place.invariant
          w.in_ok-add_by.ensures)
      | else-is_used w ↦
          rw w.sites-is
          (connect_kept tech pieces connects blocks place [] c.loop-place.sites.items (λ none. false≢true (sym w.if-is_used.false ∙ c.is_used.ensures.1 none)) c.loop-place.invariant)
    ]

pub returns : goal.returns
returns c =
    let kept = c.loop-place.sites in
    let new = c.sort.new.sites in
    let moved : IsPermutation kept.items new = subst (λ ss. IsPermutation ss new) c.deref_mut.ensures.value c.sort.ensures.same in
    let long = length_permutation kept.items new moved in
    rw (with_items_is kept new (omega (arith, kept.ok.0)))
    (sorted c.args.tech.now c.args.pieces.now c.args.connects.now c.args.blocks.now c.loop-place.place kept.items new c.loop-place-test.false c.loop-place.invariant moved c.sort.ensures.in_order)
