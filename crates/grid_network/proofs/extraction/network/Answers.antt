use Rattle.std.proofs.Common.{◌≡◌, ◌<◌, ℕ, pos, List, All, map, length, get_or, sym, subst, ap, ◌∙◌, refl, inl, arith}
use Rattle.lef_tech.specs.declared.tech.Tech.{Tech}
use Rattle.grid_pieces.specs.declared.piece.Piece.{Piece}
use Rattle.grid_net.specs.declared.error.NetError.TheVariants.{Range}
use Rattle.grid_net.specs.declared.error.Quantity.TheVariants.{Nodes}
use Rattle.grid_network.specs.declared.error.ExtractError.TheVariants.{Net as OfNet}
use Rattle.grid_network.specs.declared.extracted.Extracted.{Extracted}
use Rattle.grid_network.specs.declared.junction.Junction.{Junction}
use Rattle.grid_network.specs.declared.key.Key.{Key}
use Rattle.grid_network.specs.declared.row.Row.{Row}
use Rattle.grid_network.specs.Listing.{ListsAll}
use Rattle.grid_network.specs.Drawing.{Drawing, IsJunction}
use Rattle.grid_network.specs.Nodes.{IsNode, AreNodes, name_of}
use Rattle.grid_network.specs.Layers.{AreNotes}
use Rattle.grid_network.specs.Network.{IsNetworkOf, IsRefused}
use Rattle.grid_network.specs.inside.Steps.{TellsNumbers, AreAlong, IsBuiltOf, IsNotBuilt}
use Rattle.grid_network.proofs.Assembled.{assembled, nodes_are, passed_on, refused}
use Rattle.grid_network.proofs.Places.{junctions_within, junctions_along, nodes_within, rising_once}
use Rattle.grid_network.proofs.extraction.network.Goals as goal

pub places-requires-clause-pieces : goal.places-requires-clause-pieces
places-requires-clause-pieces c =
    let d : Drawing = record { grid = c.args.grid.now; pads = c.args.pads.now; taps = c.args.taps.now } in
    subst (λ (l : List Junction). All (λ j. j.piece < length d.grid.pieces) l) (sym c.deref.ensures.value) (junctions_within d c.in_ok-junctions.junctions.items (c.in_ok-junctions.ensures.all d refl))

pub returns-then-len-gt-MOST_NODES : goal.returns-then-len-gt-MOST_NODES
returns-then-len-gt-MOST_NODES c =
    let d : Drawing = record { grid = c.args.grid.now; pads = c.args.pads.now; taps = c.args.taps.now } in
    let lists = subst (λ l. ListsAll (λ j. IsJunction d j.piece j.along) l) (sym c.deref.ensures.value) (c.in_ok-junctions.ensures.all d refl) in
    let places : List Key = c.in_ok-places.places.items in
    let nodes : ListsAll (IsNode d) places = c.in_ok-places.ensures.nodes d refl lists in
    let once = rising_once places c.in_ok-places.ensures.sorted in
    let count : c.len-then-len-gt-MOST_NODES.result ≡ length places = omega (arith, c.len-then-len-gt-MOST_NODES.ensures) in
    subst (IsRefused d c.args.tech.now) (sym (c.too_many.ensures ∙ ap (λ n. OfNet (Range Nodes 0 (pos n))) count))
    (inl (record { keys = places; all = nodes; once = once; many = omega (arith, c.len.ensures, c.if-len-gt-MOST_NODES.true); is = refl }))

pub notes-requires-clause-within : goal.notes-requires-clause-within
notes-requires-clause-within c =
    let d : Drawing = record { grid = c.args.grid.now; pads = c.args.pads.now; taps = c.args.taps.now } in
    let lists = subst (λ l. ListsAll (λ j. IsJunction d j.piece j.along) l) (sym c.deref.ensures.value) (c.in_ok-junctions.ensures.all d refl) in
    let places : List Key = c.in_ok-places.places.items in
    let nodes : ListsAll (IsNode d) places = c.in_ok-places.ensures.nodes d refl lists in
    let all = nodes_within d c.args.tech.now places c.requires nodes in
    λ k x within.
    let within' = subst (λ (l : List Key). k < length l) c.deref-2.ensures.value within in
    let r = all k x within' in
    let key = sym (ap (λ (l : List Key). get_or l k x) c.deref-2.ensures.value) in
    let net = sym (ap (λ l. length l) c.as_slice.ensures) in
    let layer = sym (ap (λ l. length l) c.as_slice-layers.ensures) in (
      subst (λ (n : ℕ). (get_or c.deref-2.result.now k x).net < n) net (subst (λ (q : Key). q.net < length d.grid.nets) key r.0),
      subst (λ (n : ℕ). (get_or c.deref-2.result.now k x).layer < n) layer (subst (λ (q : Key). q.layer < length c.args.tech.now.routing) key r.1),
    )

pub named_nodes-requires-clause-within : goal.named_nodes-requires-clause-within
named_nodes-requires-clause-within c =
    let d : Drawing = record { grid = c.args.grid.now; pads = c.args.pads.now; taps = c.args.taps.now } in
    let lists = subst (λ l. ListsAll (λ j. IsJunction d j.piece j.along) l) (sym c.deref.ensures.value) (c.in_ok-junctions.ensures.all d refl) in
    let places : List Key = c.in_ok-places.places.items in
    let nodes : ListsAll (IsNode d) places = c.in_ok-places.ensures.nodes d refl lists in
    let all = nodes_within d c.args.tech.now places c.requires nodes in
    λ k x within.
    let within' = subst (λ (l : List Key). k < length l) c.deref-3.ensures.value within in
    let r = all k x within' in
    let key = sym (ap (λ (l : List Key). get_or l k x) c.deref-3.ensures.value) in
    let layer = sym (ap (λ l. length l) c.as_slice-layers.ensures) in
    subst (λ (n : ℕ). (get_or c.deref-3.result.now k x).layer < n) layer (subst (λ (q : Key). q.layer < length c.args.tech.now.routing) key r.1)

pub rows-requires-clause-junctions : goal.rows-requires-clause-junctions
rows-requires-clause-junctions c =
    let d : Drawing = record { grid = c.args.grid.now; pads = c.args.pads.now; taps = c.args.taps.now } in
    subst (AreAlong d.grid.pieces) (sym c.deref-5.ensures.value) (junctions_along d c.args.tech.now c.in_ok-junctions.junctions.items c.requires (c.in_ok-junctions.ensures.all d refl) c.in_ok-junctions.ensures.sorted)

pub returns-in_err-net : goal.returns-in_err-net
returns-in_err-net c =
    let d : Drawing = record { grid = c.args.grid.now; pads = c.args.pads.now; taps = c.args.taps.now } in
    let tech : Tech = c.args.tech.now in
    let lists = subst (λ l. ListsAll (λ j. IsJunction d j.piece j.along) l) (sym c.deref.ensures.value) (c.in_ok-junctions.ensures.all d refl) in
    let lists' = subst (λ l. ListsAll (λ j. IsJunction d j.piece j.along) l) (sym c.deref-5.ensures.value) (c.in_ok-junctions.ensures.all d refl) in
    let places : List Key = c.in_ok-places.places.items in
    let nodes : ListsAll (IsNode d) places = c.in_ok-places.ensures.nodes d refl lists in
    let keys : List Key = c.in_ok-nodes.nodes.keys.items in
    let told : TellsNumbers keys c.deref-4.result.now c.as_slice-2.result.now =
    subst (λ (l : List Key). TellsNumbers keys l c.as_slice-2.result.now) (c.deref-3.ensures.value ∙ sym c.deref-4.ensures.value)
    (subst (λ (l : List ℕ). TellsNumbers keys c.deref-3.result.now l) (sym c.as_slice-2.ensures) c.in_ok-nodes.ensures.numbers) in
    let count = ap (λ l. length l) c.as_slice-layers.ensures in
    let are : AreNodes d (length tech.routing) keys = nodes_are d (length tech.routing) _ places c.deref-3.result.now keys nodes c.deref-3.ensures.value count c.in_ok-nodes.ensures.same told.once c.in_ok-nodes.ensures.order in
    let r = c.in_ok-rows.ensures d tech keys refl (sym c.as_slice-layers.ensures) lists' are.all told in
    let rows : List Row = c.in_ok-rows.rows.items in
    let error = c.in_err-net.field-0.0 in
    let not : IsNotBuilt d.grid.pieces keys rows d.pads d.taps error =
    subst (λ (l : List Row). IsNotBuilt d.grid.pieces keys l d.pads d.taps error) c.deref-7.ensures.value
    (subst (λ (l : List Piece). IsNotBuilt l keys c.deref-7.result.now d.pads d.taps error) c.as_slice-3.ensures (c.in_err-net.ensures keys told)) in
    passed_on (IsNetworkOf d tech) (IsRefused d tech) c.from_residual-in_err-net.result error c.from_residual-in_err-net.ensures.1
    (refused d tech keys r.0 rows error are r.1 r.2 not)

pub returns : goal.returns
returns c =
    let d : Drawing = record { grid = c.args.grid.now; pads = c.args.pads.now; taps = c.args.taps.now } in
    let tech : Tech = c.args.tech.now in
    let lists = subst (λ l. ListsAll (λ j. IsJunction d j.piece j.along) l) (sym c.deref.ensures.value) (c.in_ok-junctions.ensures.all d refl) in
    let lists' = subst (λ l. ListsAll (λ j. IsJunction d j.piece j.along) l) (sym c.deref-5.ensures.value) (c.in_ok-junctions.ensures.all d refl) in
    let places : List Key = c.in_ok-places.places.items in
    let nodes : ListsAll (IsNode d) places = c.in_ok-places.ensures.nodes d refl lists in
    let keys : List Key = c.in_ok-nodes.nodes.keys.items in
    let told : TellsNumbers keys c.deref-4.result.now c.as_slice-2.result.now =
    subst (λ (l : List Key). TellsNumbers keys l c.as_slice-2.result.now) (c.deref-3.ensures.value ∙ sym c.deref-4.ensures.value)
    (subst (λ (l : List ℕ). TellsNumbers keys c.deref-3.result.now l) (sym c.as_slice-2.ensures) c.in_ok-nodes.ensures.numbers) in
    let count = ap (λ l. length l) c.as_slice-layers.ensures in
    let are : AreNodes d (length tech.routing) keys = nodes_are d (length tech.routing) _ places c.deref-3.result.now keys nodes c.deref-3.ensures.value count c.in_ok-nodes.ensures.same told.once c.in_ok-nodes.ensures.order in
    let r = c.in_ok-rows.ensures d tech keys refl (sym c.as_slice-layers.ensures) lists' are.all told in
    let rows : List Row = c.in_ok-rows.rows.items in
    let net = c.in_ok-net.net in
    let built : IsBuiltOf d.grid.pieces keys rows d.pads d.taps net =
    subst (λ (l : List Row). IsBuiltOf d.grid.pieces keys l d.pads d.taps net) c.deref-7.ensures.value
    (subst (λ (l : List Piece). IsBuiltOf l keys c.deref-7.result.now d.pads d.taps net) c.as_slice-3.ensures (c.in_ok-net.ensures keys told)) in
    let e : Extracted = record { net = net; names = c.in_ok-nodes.nodes.names.items; keys = keys; branches = c.in_ok-branches.branches.items; notes = c.in_ok-notes.notes.items } in
    let names : e.names ≡ map (name_of (length tech.routing)) keys = c.in_ok-nodes.ensures.names ∙ ap (λ n. map (name_of n) keys) count in
    let branches = c.in_ok-branches.ensures ∙ ap (map (λ r. r.branch)) c.deref-6.ensures.value in
    let notes : AreNotes d tech e.notes = c.in_ok-notes.ensures d tech (sym c.as_slice.ensures) (sym c.as_slice-layers.ensures) (subst (λ (l : List Key). ListsAll (IsNode d) l) (sym c.deref-2.ensures.value) nodes) in
    let is : IsNetworkOf d tech e = assembled d tech e r.0 rows are names r.1 r.2 branches built notes in
    subst (IsNetworkOf d tech) (λ k. record { net = net; names = sym c.new.ensures k; keys = sym c.new-2.ensures k; branches = sym c.new-3.ensures k; notes = sym c.new-4.ensures k }) is
