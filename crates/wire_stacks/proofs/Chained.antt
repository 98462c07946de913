-- Chains of vias: their layers go up by one, and what is asked of each of their vias holds.
use Rattle.std.proofs.Common.{◌≡◌, ℕ, zero, suc, ◌+◌, ◌<◌, List, [], ◌∷◌, All, Contains, length, get_or, refl, sym, ◌∙◌, ap, subst, arith}
use Rattle.std.proofs.lemmas.List.Elements.{All-contains, Contains-get_or}
use Rattle.std.proofs.lemmas.Option.{slice_get-get_or}
use Rattle.def_wiring.specs.Limits.{IsNear}
use Rattle.grid_pieces.specs.declared.piece.Piece.{Piece}
use Rattle.lef_tech.specs.declared.tech.Tech.{Tech}
use Rattle.wire_chains.specs.declared.via.ViaAt.{ViaAt}
use Rattle.wire_chains.specs.Chain.{IsChain}
use Rattle.wire_limits.specs.Vias.{IsUsed, HasItsLayers, HasSize, EachUsedHas}
use Rattle.wire_names.specs.declared.record.NamedVia.{NamedVia}
use Rattle.wire_names.specs.declared.record.Spot.{Spot}
use Rattle.wire_names.specs.Keeping.{KeepsNumbers, ViaStands, SpotStands}
use Rattle.wire_stacks.specs.Vias.{via_at, AreViasAt}
use Rattle.wire_stacks.specs.inside.Halves.{IsUsable}
use Rattle.wire_stacks.specs.inside.Made.{IsChainOf}
use Rattle.wire_stacks.proofs.Placing.{there}

-- The layer of a via of a chain.
pub layer_at : (placed chain : List ViaAt) (d : ViaAt) (k : ℕ) → IsChain placed chain → k < length chain
    → (get_or chain k d).layer ≡ (get_or chain 0 d).layer + k
layer_at placed chain d zero is within = omega arith
layer_at placed chain d (suc k) is within =
    let below = layer_at placed chain d k is (omega arith) in
    let up = (is.joined k d (omega arith)).above.layer in
    let more : get_or chain (suc k) d ≡ get_or chain (k + 1) d = ap (λ (j : ℕ). get_or chain j d) (omega arith) in
    omega (arith, ap (λ (v : ViaAt). v.layer) more)

-- The net of each is that of the first.
pub net_at : (placed chain : List ViaAt) (d : ViaAt) (k : ℕ) → IsChain placed chain → k < length chain → (get_or chain k d).net ≡ (get_or chain 0 d).net
net_at placed chain d zero is within = refl
net_at placed chain d (suc k) is within =
    let more : get_or chain (suc k) d ≡ get_or chain (k + 1) d = ap (λ (j : ℕ). get_or chain j d) (omega arith) in
    ap (λ (v : ViaAt). v.net) more ∙ (is.joined k d (omega arith)).above.net ∙ net_at placed chain d k is (omega arith)

-- A via that stands is used.
used_spot : (spots : List Spot) (spot : Spot) → Contains spots spot → IsUsed spots spot.via
used_spot spots spot (k, within, is) = used_at spots k within spot is
  where
    used_at : (ss : List Spot) (j : ℕ) → j < length ss → (s : Spot) → get_or ss j s ≡ s → IsUsed ss s.via
    used_at [] j low s same = absurd (omega arith)
    used_at (x ∷ xs) zero low s same = (0, omega arith, ap (λ (z : Spot). z.via) same)
    used_at (x ∷ xs) (suc j) low s same = let more = used_at xs j (omega arith) s same in (suc more.0, omega (arith, more.1), more.2)

-- What is asked of used vias holds of the via of a spot.
pub of_used : (P : NamedVia → Type 0) (vias : List NamedVia) (spots : List Spot) (spot : Spot) → All (SpotStands (length vias)) spots
    → EachUsedHas P vias spots → Contains spots spot → P (via_at vias spot.via)
of_used P vias spots spot stand each has =
    let stands = All-contains (SpotStands (length vias)) spots spot stand has in
    each spot.via (via_at vias spot.via) (slice_get-get_or vias spot.via _ stands.via) (used_spot spots spot has)

-- The vias of chains are usable.
pub chain_of : (layers cuts rules : ℕ) (vias : List NamedVia) (pieces : List Piece) (spots : List Spot) (placed chain : List ViaAt)
    → All (ViaStands layers cuts rules) vias → All (SpotStands (length vias)) spots → EachUsedHas HasSize vias spots
    → AreViasAt vias pieces spots placed → IsChain placed chain → IsChainOf vias chain
chain_of layers cuts rules vias pieces spots placed chain stand on sizes are is = record {
  some = is.some;
  usable = λ k d within. usable (get_or chain k d) (is.within k d within);
  near = λ k d within. near (get_or chain k d) (is.within k d within);
}
  where
    usable : (via : ViaAt) → Contains placed via → IsUsable vias via
    usable via has =
        let from = there vias pieces spots placed via are has in
        let stands = All-contains (SpotStands (length vias)) spots from.1 on from.2 in
        record {
          defined = subst (λ v. v < length vias) (sym from.3.via) stands.via;
          keeps = subst (λ v. KeepsNumbers (via_at vias v)) (sym from.3.via) (stand from.1.via _ stands.via).keeps;
          size = subst (λ v. HasSize (via_at vias v)) (sym from.3.via) (of_used HasSize vias spots from.1 on sizes from.2);
        }

    near : (via : ViaAt) → Contains placed via → IsNear via.x × IsNear via.y
    near via has =
        let from = there vias pieces spots placed via are has in
        let stands = All-contains (SpotStands (length vias)) spots from.1 on from.2 in
        (subst IsNear (sym from.3.x) stands.x, subst IsNear (sym from.3.y) stands.y)

-- The layer of a via at its place, and that its upper layer is the next one.
pub next_layer : (tech : Tech) (layers cuts rules : ℕ) (vias : List NamedVia) (pieces : List Piece) (spots : List Spot) (placed : List ViaAt) (via : ViaAt)
    → All (ViaStands layers cuts rules) vias → All (SpotStands (length vias)) spots → EachUsedHas (HasItsLayers tech) vias spots
    → AreViasAt vias pieces spots placed → Contains placed via → via.layer + 1 < layers
next_layer tech layers cuts rules vias pieces spots placed via stand on has_layers are has =
    let from = there vias pieces spots placed via are has in
    let stands = All-contains (SpotStands (length vias)) spots from.1 on from.2 in
    let fits = of_used (HasItsLayers tech) vias spots from.1 on has_layers from.2 in
    let inside : from.1.via < length vias = stands.via in
    let upper : (via_at vias from.1.via).upper < layers = (All-contains (ViaStands layers cuts rules) vias (via_at vias from.1.via) stand
    (Contains-get_or vias from.1.via _ inside)).upper in
    omega (arith, fits.has.next, from.3.layer, upper)
