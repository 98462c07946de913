-- A drawing has one network, or one refusal.
use Rattle.std.proofs.Common.{◌≡◌, inl, inr, ◌<◌, ◌≤◌, List, map, length, sym, ap, ◌∙◌, arith}
use Rattle.std.specs.Prelude.{Option, Some, None}
use Rattle.lef_tech.specs.declared.tech.Tech.{Tech}
use Rattle.grid_net.specs.declared.error.NetError.{NetError}
use Rattle.grid_net.specs.declared.note.Note.{Note}
use Rattle.grid_net.specs.Limits.{most_nodes}
use Rattle.grid_net.specs.Building.{network_of, first_net_refusal}
use Rattle.grid_network.specs.declared.error.ExtractError.TheVariants.{Net as OfNet}
use Rattle.grid_network.specs.declared.extracted.Extracted.{Extracted}
use Rattle.grid_network.specs.Drawing.{Drawing}
use Rattle.grid_network.specs.Nodes.{name_of}
use Rattle.grid_network.specs.Layers.{AreNotes}
use Rattle.grid_network.specs.Network.{IsNetworkOf, IsRefused, HasTooManyNodes, MakesNoNet, resistors_of, pads_of, loads_of}
use Rattle.grid_network.specs.Laws.OneList.{keys_one, segments_one, as_many}
use Rattle.grid_network.specs.Laws.Unique.{same_lists, both_ways}

notes_one : (d : Drawing) (tech : Tech) (ns ms : List Note) → AreNotes d tech ns → AreNotes d tech ms → ns ≡ ms
notes_one d tech ns ms a b =
    same_lists (λ (x y : Note). x.number < y.number) (λ x y h k. omega (arith, h, k)) ns ms a.in_order b.in_order (both_ways _ ns ms a.all b.all)

-- ---- the network

pub one_network : (d : Drawing) (tech : Tech) (e f : Extracted) → IsNetworkOf d tech e → IsNetworkOf d tech f → e ≡ f
one_network d tech e f a b =
    let k = keys_one d (length tech.routing) e.keys f.keys a.nodes b.nodes in
    let s = segments_one d tech e.keys f.keys a.segments b.segments k a.all_segments b.all_segments in
    let names = a.names ∙ ap (map (name_of (length tech.routing))) k ∙ sym b.names in
    let branches = a.branches ∙ ap (map (λ s. s.branch)) s ∙ sym b.branches in
    let net = a.net ∙ (λ i. network_of (length (k i)) (resistors_of (k i) (s i)) (pads_of d (k i)) (loads_of d (k i))) ∙ sym b.net in
    let notes = notes_one d tech e.notes f.notes a.notes b.notes in
    λ i. record { net = net i; names = names i; keys = k i; branches = branches i; notes = notes i }

pub not_both : (d : Drawing) (tech : Tech) (e : Extracted) (error : NetError) → IsNetworkOf d tech e → MakesNoNet d tech error → ⊥
not_both d tech e error a made =
    let k = keys_one d (length tech.routing) e.keys made.keys a.nodes made.nodes in
    let s = segments_one d tech e.keys made.keys a.segments made.segments k a.all_segments made.all_segments in
    let same : first_net_refusal (length e.keys) (resistors_of e.keys a.segments) (pads_of d e.keys) (loads_of d e.keys) ≡ first_net_refusal (length made.keys) (resistors_of made.keys made.segments) (pads_of d made.keys) (loads_of d made.keys) =
    λ i. first_net_refusal (length (k i)) (resistors_of (k i) (s i)) (pads_of d (k i)) (loads_of d (k i)) in
    let both : ◌≡◌ {A = Option NetError} None (Some error) = sym a.not_refused ∙ same ∙ made.refused in
    absurd (cc)

pub not_too_many : (d : Drawing) (tech : Tech) (e : Extracted) (error : NetError) → IsNetworkOf d tech e → length e.keys ≤ most_nodes → HasTooManyNodes d error → ⊥
not_too_many d tech e error a few many =
    let count = as_many e.keys many.keys a.nodes.once many.once (both_ways _ e.keys many.keys a.nodes.all many.all) in
    let more = many.many in
    omega (arith, count, few, more)

pub refused_not : (d : Drawing) (tech : Tech) (e : Extracted) (error : NetError) → IsNetworkOf d tech e → length e.keys ≤ most_nodes → IsRefused d tech (OfNet error) → ⊥
refused_not d tech e error a few (inl many) = not_too_many d tech e error a few many
refused_not d tech e error a few (inr made) = not_both d tech e error a made
