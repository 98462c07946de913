use Rattle.std.proofs.Common.{List, All, length, get_or, sym, subst}
use Rattle.wire_chains.specs.declared.via.ViaAt.{ViaAt}
use Rattle.wire_names.specs.declared.record.NamedVia.{NamedVia}
use Rattle.wire_names.specs.declared.record.Spot.{Spot}
use Rattle.wire_stacks.specs.declared.made.Made.{Made}
use Rattle.wire_stacks.specs.Stacks.{AreStacks, AreOff, HasEnds}
use Rattle.wire_stacks.specs.Vias.{AreViasAt}
use Rattle.wire_stacks.specs.inside.Ends.{IsFirstMadeOff}
use Rattle.wire_stacks.specs.inside.Made.{AreMade, IsChainOf}
use Rattle.wire_stacks.proofs.Chained.{chain_of}
use Rattle.wire_stacks.proofs.Passed.{passed_on}
use Rattle.wire_stacks.proofs.Placing.{numbered, held_alike}
use Rattle.wire_stacks.proofs.Whole.{stacks_are, stacks_off, stacks_stand}
use Rattle.wire_stacks.proofs.stacks.wired_stacks.Goals as goal

pub chains-requires-clause-numbered : goal.chains-requires-clause-numbered
chains-requires-clause-numbered c =
    numbered c.as_slice-vias.result.now c.in_ok-lines.lines c.as_slice.result.now c.in_ok-placed.placed.items c.in_ok-placed.ensures

pub chains-requires-clause-held : goal.chains-requires-clause-held
chains-requires-clause-held c =
    held_alike c.as_slice-vias.result.now c.in_ok-lines.lines c.as_slice.result.now c.in_ok-placed.placed.items c.in_ok-placed.ensures

pub all_made-requires-clause-chains : goal.all_made-requires-clause-chains
all_made-requires-clause-chains c =
    let tech = c.args.tech.now in
    let named = c.args.named.now in
    let pieces = c.args.pieces.now in
    let lines = c.in_ok-lines.lines in
    let placed = c.in_ok-placed.placed.items in
    let placed_are : AreViasAt named.vias lines named.spots placed = subst (λ (spots : List Spot). AreViasAt named.vias lines spots placed) c.as_slice.ensures
    (subst (λ (vias : List NamedVia). AreViasAt vias lines c.as_slice.result.now placed) c.as_slice-vias.ensures c.in_ok-placed.ensures) in
    let chains = c.in_ok-chains.chains.items in
    let are : All (IsChainOf named.vias) chains = λ k d within.
    chain_of (length tech.routing) (length tech.cuts) (length tech.rules) named.vias lines named.spots placed (get_or chains k d)
    c.requires.named.vias c.requires.named.spots c.requires.sizes placed_are (c.in_ok-chains.ensures.each k d within) in
    subst (λ (vias : List NamedVia). All (IsChainOf vias) c.deref.result.now) (sym c.as_slice-vias.ensures)
    (subst (All (IsChainOf named.vias)) (sym c.deref.ensures.value) are)

pub returns-in_err-check_ends-clause-stacks : goal.returns-in_err-check_ends-clause-stacks
returns-in_err-check_ends-clause-stacks c =
    let tech = c.args.tech.now in
    let named = c.args.named.now in
    let pieces = c.args.pieces.now in
    let lines = c.in_ok-lines.lines in
    let placed = c.in_ok-placed.placed.items in
    let placed_are : AreViasAt named.vias lines named.spots placed = subst (λ (spots : List Spot). AreViasAt named.vias lines spots placed) c.as_slice.ensures
    (subst (λ (vias : List NamedVia). AreViasAt vias lines c.as_slice.result.now placed) c.as_slice-vias.ensures c.in_ok-placed.ensures) in
    let chains = c.in_ok-chains.chains.items in
    let made = c.in_ok-all_made.field-0.items in
    let sorted = c.in_order-made.result.items in
    let made_are : AreMade tech named.vias chains made = subst (λ (cs : List (List ViaAt)). AreMade tech named.vias cs made) c.deref.ensures.value
    (subst (λ (vias : List NamedVia). AreMade tech vias c.deref.result.now made) c.as_slice-vias.ensures c.in_ok-all_made.ensures) in
    let error = c.in_err-check_ends.field-0.0 in
    let off : IsFirstMadeOff lines sorted error = subst (λ (ms : List Made). IsFirstMadeOff lines ms error) c.deref-2.ensures.value c.in_err-check_ends.ensures.refused in
    passed_on (λ stacks. AreStacks tech named.vias named.spots pieces stacks.items) (AreOff tech named.vias named.spots pieces) c.from_residual-in_err-check_ends.result error
    c.from_residual-in_err-check_ends.ensures.1
    (stacks_off tech named.vias named.spots pieces lines placed chains made sorted error c.in_ok-lines.ensures placed_are c.in_ok-chains.ensures made_are
    c.in_order-made.ensures.same c.in_order-made.ensures.in_order off)

pub returns-clause-stacks : goal.returns-clause-stacks
returns-clause-stacks c =
    let tech = c.args.tech.now in
    let named = c.args.named.now in
    let pieces = c.args.pieces.now in
    let lines = c.in_ok-lines.lines in
    let placed = c.in_ok-placed.placed.items in
    let placed_are : AreViasAt named.vias lines named.spots placed = subst (λ (spots : List Spot). AreViasAt named.vias lines spots placed) c.as_slice.ensures
    (subst (λ (vias : List NamedVia). AreViasAt vias lines c.as_slice.result.now placed) c.as_slice-vias.ensures c.in_ok-placed.ensures) in
    let chains = c.in_ok-chains.chains.items in
    let made = c.in_ok-all_made.field-0.items in
    let sorted = c.in_order-made.result.items in
    let made_are : AreMade tech named.vias chains made = subst (λ (cs : List (List ViaAt)). AreMade tech named.vias cs made) c.deref.ensures.value
    (subst (λ (vias : List NamedVia). AreMade tech vias c.deref.result.now made) c.as_slice-vias.ensures c.in_ok-all_made.ensures) in
    let ends : All (λ (one : Made). HasEnds lines one.at) sorted = subst (All (λ (one : Made). HasEnds lines one.at)) c.deref-2.ensures.value c.in_ok-check_ends.ensures.ends in
    stacks_are tech named.vias named.spots pieces lines placed chains made sorted c.in_ok-stacks.stacks.items c.in_ok-lines.ensures placed_are c.in_ok-chains.ensures made_are
    c.in_order-made.ensures.same c.in_order-made.ensures.in_order ends c.in_ok-stacks.ensures

pub returns-clause-stand : goal.returns-clause-stand
returns-clause-stand c =
    let tech = c.args.tech.now in
    let named = c.args.named.now in
    let pieces = c.args.pieces.now in
    let lines = c.in_ok-lines.lines in
    let placed = c.in_ok-placed.placed.items in
    let placed_are : AreViasAt named.vias lines named.spots placed = subst (λ (spots : List Spot). AreViasAt named.vias lines spots placed) c.as_slice.ensures
    (subst (λ (vias : List NamedVia). AreViasAt vias lines c.as_slice.result.now placed) c.as_slice-vias.ensures c.in_ok-placed.ensures) in
    let chains = c.in_ok-chains.chains.items in
    let made = c.in_ok-all_made.field-0.items in
    let sorted = c.in_order-made.result.items in
    let made_are : AreMade tech named.vias chains made = subst (λ (cs : List (List ViaAt)). AreMade tech named.vias cs made) c.deref.ensures.value
    (subst (λ (vias : List NamedVia). AreMade tech vias c.deref.result.now made) c.as_slice-vias.ensures c.in_ok-all_made.ensures) in
    stacks_stand tech named.vias named.spots lines placed chains made sorted c.in_ok-stacks.stacks.items c.requires.named.vias c.requires.named.spots c.requires.layers
    placed_are c.in_ok-chains.ensures made_are c.in_order-made.ensures.same c.in_ok-stacks.ensures
