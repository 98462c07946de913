use Rattle.std.proofs.Common.{◌≡◌, ◌≤ℤ◌, ◌<◌, ℕ, List, length, map, get_or, All, ap, sym, subst, refl, ◌∙◌}
use Rattle.grid_net.specs.declared.part.Pad.{Pad}
use Rattle.grid_net.specs.declared.part.Load.{Load}
use Rattle.capacitors.specs.declared.Cap.{Cap}
use Rattle.entry_list.specs.InTurn.{InTurn}
use Rattle.spice_cards.specs.declared.record.Capacitor.{Capacitor}
use Rattle.spice_grid.specs.Caps.{IsNumbered}
use Rattle.spice_grid.specs.Named.{IsNamed, refusal_in}
use Rattle.spice_grid.specs.inside.Caps.{named_cap}
use Rattle.spice_grid.proofs.PlaceLemmas.{pads_within, ranges_placed}
use Rattle.spice_grid.proofs.EndLemmas.{caps_numbered}
use Rattle.spice_grid.proofs.NamedLemmas.{Orders, is_order, gathered, shorts_gathered, network_is, refusal_is, refuses}
use Rattle.spice_grid.proofs.named.Named.build.Goals as goal

pub place_all-requires-clause-pads : goal.place_all-requires-clause-pads
place_all-requires-clause-pads c =
    let names : List (List ℕ) = c.args.cards.names in
    let all = pads_within names c.args.cards.pads.items c.requires.numbers.pads in
    let count = ap length c.deref.ensures.value ∙ c.in_ok-names.ensures.every_number in
    let P : ℕ → List Pad → Type 0 = λ n l. All (λ p. p.node < n) l in
    subst (λ n. P n c.add_ground.new.pads.items) (sym count) (subst (P (length names)) (sym c.in_ok-add_ground.ensures) all)

pub build-requires : goal.build-requires
build-requires c =
    let all = ranges_placed (λ n. get_or c.deref.result.now n 0) c.args.cards.loads.items c.requires.ranges in
    record { ranges = subst (λ (l : List Load). All (λ l. l.low ≤ℤ l.high) l) (sym c.place_all.ensures.loads) all }

pub returns-clause-refused : goal.returns-clause-refused
returns-clause-refused c =
    let cards = c.args.cards in
    let found = c.in_ok-names.ensures in
    let ordered : List (List ℕ) = c.in_ok-names.field-0.names.items in
    let read = c.deref.ensures.value in
    let orders : Orders cards ordered c.in_ok-names.field-0.places.items c.deref.result.now = record { numbered = c.requires.numbers; order = found.order; same_names = found.same_names; each = found.places; same = read } in
    let are = gathered cards ordered _ _ _ _ _ _ _ orders c.len-nodes.ensures.len c.place_all.ensures.resistors c.in_ok-add_ground.ensures c.place_all.ensures.pads c.place_all.ensures.loads in
    refuses cards ordered _ _ _ _ are (is_order cards ordered _ _ orders) _ c.in-Err.ensures.refused _ c.refusal_of.ensures

pub returns-in-Ok-clause-named : goal.returns-in-Ok-clause-named
returns-in-Ok-clause-named c =
    let cards = c.args.cards in
    let found = c.in_ok-names.ensures in
    let ordered : List (List ℕ) = c.in_ok-names.field-0.names.items in
    let read = c.deref.ensures.value in
    let orders : Orders cards ordered c.in_ok-names.field-0.places.items c.deref.result.now = record { numbered = c.requires.numbers; order = found.order; same_names = found.same_names; each = found.places; same = read } in
    let are = gathered cards ordered _ _ _ _ _ _ _ orders c.len-nodes.ensures.len c.place_all.ensures.resistors c.in_ok-add_ground.ensures c.place_all.ensures.pads c.place_all.ensures.loads in
    let written : ordered ≡ c.new.result = sym c.new.ensures in
    let table : List ℕ → List Capacitor → List Cap = λ places read. map (named_cap cards.names places) read in
    let caps_read : c.new-in-Ok-2.result ≡ map (named_cap cards.names c.in_ok-names.field-0.places.items) cards.caps.items =
    c.new-in-Ok-2.ensures ∙ c.in_ok-caps.ensures ∙ (λ t. table (c.deref-2.ensures.value t) (c.deref-3.ensures.value t)) in
    subst (λ (names : List (List ℕ)). IsNamed cards (record { net = c.in-Ok.net; names = names; shorts = c.new-in-Ok.result; caps = c.new-in-Ok-2.result })) written
    (record {
      order = is_order cards ordered _ _ orders;
      network = c.in-Ok.ensures.built ∙ network_is cards ordered _ _ _ _ are;
      shorts = c.new-in-Ok.ensures ∙ shorts_gathered cards ordered _ _ _ orders c.place_all.ensures.shorts;
      caps = subst (λ z. InTurn (IsNumbered ordered) cards.caps.items z) (sym caps_read)
          (caps_numbered cards.names ordered c.in_ok-names.field-0.places.items found.same_names found.places cards.caps.items);
    })

pub returns-in-Ok-clause-not_refused : goal.returns-in-Ok-clause-not_refused
returns-in-Ok-clause-not_refused c =
    let cards = c.args.cards in
    let found = c.in_ok-names.ensures in
    let ordered : List (List ℕ) = c.in_ok-names.field-0.names.items in
    let read = c.deref.ensures.value in
    let orders : Orders cards ordered c.in_ok-names.field-0.places.items c.deref.result.now = record { numbered = c.requires.numbers; order = found.order; same_names = found.same_names; each = found.places; same = read } in
    let are = gathered cards ordered _ _ _ _ _ _ _ orders c.len-nodes.ensures.len c.place_all.ensures.resistors c.in_ok-add_ground.ensures c.place_all.ensures.pads c.place_all.ensures.loads in
    let written : ordered ≡ c.new.result = sym c.new.ensures in
    ap (refusal_in cards) (sym written) ∙ sym (refusal_is cards ordered _ _ _ _ are) ∙ c.in-Ok.ensures.not_refused refl

pub numbered_caps-requires : goal.numbered_caps-requires
numbered_caps-requires c = ap length c.deref-2.ensures.value ∙ c.in_ok-names.ensures.every_number
