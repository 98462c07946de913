-- A pad stands on the pieces of its net and layer that have its place, and on no other.
use Rattle.std.proofs.Common.{◌≡◌, ◌⊎◌, inl, inr, ℕ, ◌+◌, ◌<◌, ◌≤◌, ℤ, List, [], ◌∷◌, ◌++◌, take, length, get_or, Contains, refl, sym, ap, ◌∙◌, subst, arith}
use Rattle.std.proofs.lemmas.Bool.{cases_lt}
use Rattle.std.proofs.lemmas.Int.{ints}
use Rattle.std.proofs.lemmas.List.{get_or_append_left, get_or_push, length_push, length-take, get_or-take, take_all}
use Rattle.name_table.specs.Numbering.{AreDistinct}
use Rattle.lef_tech.specs.declared.tech.Tech.{Tech}
use Rattle.bias_file.specs.declared.record.Bias.{Bias}
use Rattle.bias_file.specs.declared.record.PadAt.{PadAt}
use Rattle.bias_file.specs.declared.record.Supply.{Supply}
use Rattle.bias_file.specs.Limits.{BiasKeeps}
use Rattle.geom_rect.specs.Rect.{HasPoint}
use Rattle.grid_pieces.specs.Line.{piece_rect}
use Rattle.grid_pieces.specs.declared.grid.Grid.{Grid}
use Rattle.grid_pieces.specs.declared.piece.Piece.{Piece}
use Rattle.rect_index.specs.declared.entry.Entry.{Entry}
use Rattle.grid_taps.specs.declared.on_piece.Spot.{Spot}
use Rattle.grid_network.specs.declared.pad.PadOn.{PadOn}
use Rattle.grid_taps.specs.Naming.{At, layer_names}
use Rattle.grid_taps.specs.Pads.{IsInUnits, place_along, IsSupply, IsPadOn, AreOnPieces}
use Rattle.grid_taps.specs.inside.Steps.{piece_entry, ArePieceEntries}
use Rattle.grid_taps.specs.inside.Standing.{IsSpot, HasSpot, AreFound, pad_on, StandsWith, AreOnWith}
use Rattle.grid_taps.proofs.OnPieces.{AreOnUpTo, pads_more, pads_kept, every_one}
use Rattle.grid_taps.specs.Laws.Unique.{one_named, one_at}

-- ## the index of pieces

pub entries_more : (pieces : List Piece) (entries : List (Entry ℕ)) (i : ℕ) (p : Piece) → At pieces i p → ArePieceEntries (take i pieces) entries
    → ArePieceEntries (take (i + 1) pieces) (entries ++ piece_entry i p ∷ [])
entries_more pieces entries i p at h = record {
  as_many = omega (arith, length_push entries (piece_entry i p), many, length-take (i + 1) pieces, at.0);
  each = λ k q e q_at. by_place k q e q_at (cases_lt k i);
}
  where
    many : length entries ≡ i
    many = omega (arith, h.as_many, length-take i pieces, at.0)

    by_place : (k : ℕ) (q : Piece) (e : Entry ℕ) → At (take (i + 1) pieces) k q → (k < i) ⊎ (i ≤ k) → get_or (entries ++ piece_entry i p ∷ []) k e ≡ piece_entry k q
    by_place k q e q_at (inl before) =
        let there : get_or (take i pieces) k q ≡ q = get_or-take i pieces k q before ∙ sym (get_or-take (i + 1) pieces k q (omega arith)) ∙ q_at.1 in
        let old : At (take i pieces) k q = (omega (arith, before, length-take i pieces, at.0), there) in
        get_or_append_left entries (piece_entry i p ∷ []) e k (omega (arith, many, before)) ∙ h.each k q e old
    by_place k q e q_at (inr not_before) =
        let same : k ≡ i = omega (arith, q_at.0, length-take (i + 1) pieces) in
        let one : p ≡ q = one_at pieces i k p q (sym same) at (omega (arith, same, at.0), sym (get_or-take (i + 1) pieces k q (omega arith)) ∙ q_at.1) in
        get_or_push entries (piece_entry i p) e k (omega (arith, same, many)) ∙ ap (λ (z : Piece). piece_entry i z) one ∙ ap (λ n. piece_entry n q) (sym same)

pub entries_all : (pieces : List Piece) (entries index : List (Entry ℕ)) (i : ℕ) → length pieces ≤ i → index ≡ entries → ArePieceEntries (take i pieces) entries
    → ArePieceEntries pieces index
entries_all pieces entries index i le is h =
    subst (λ (es : List (Entry ℕ)). ArePieceEntries pieces es) (sym is) (subst (λ (ps : List Piece). ArePieceEntries ps entries) (take_all i pieces le) h)

-- ## a pad

one_length : (units : ℕ) (length a b : ℤ) → IsInUnits units length a → IsInUnits units length b → a ≡ b
one_length units length a b p q = omega (arith, ints, p ∙ sym q)

one_index : (names : List (List ℕ)) → AreDistinct names → (k l : ℕ) (name : List ℕ) → At names k name → At names l name → k ≡ l
one_index names distinct k l name (in_k, is_k) (in_l, is_l) = by_place (cases_lt k l) (cases_lt l k)
  where
    by_place : (k < l) ⊎ (l ≤ k) → (l < k) ⊎ (k ≤ l) → k ≡ l
    by_place (inl less) _ = absurd (distinct k l name less in_l (is_k ∙ sym is_l))
    by_place (inr _) (inl less) = absurd (distinct l k name less in_k (is_l ∙ sym is_k))
    by_place (inr le) (inr ge) = omega arith

-- a pad that stands on a piece is the pad of that piece
only_one : (grid : Grid) (tech : Tech) (pad : PadAt) (spot : Spot) (volts : ℤ) (number : ℕ) (piece : Piece) → IsSpot grid.units pad spot → At grid.pieces number piece
    → (other : PadOn) → StandsWith grid tech pad volts other → other.piece ≡ number → other ≡ pad_on number piece spot volts
only_one grid tech pad spot volts number piece place at other (stands, same_volts) same =
    let one : stands.piece ≡ piece = one_at grid.pieces other.piece number stands.piece piece same stands.is at in
    let x : stands.x ≡ spot.x = one_length grid.units pad.x stands.x spot.x stands.in_x place.x in
    let y : stands.y ≡ spot.y = one_length grid.units pad.y stands.y spot.y stands.in_y place.y in
    let along : other.along ≡ place_along piece.axis spot.x spot.y =
    stands.so_far ∙ ap (λ (z : Piece). place_along z.axis stands.x stands.y) one ∙ ap (λ z. place_along piece.axis z stands.y) x ∙ ap (λ z. place_along piece.axis spot.x z) y in
    λ i. record { piece = same i; along = along i; volts = same_volts i }

stands_there : (grid : Grid) (tech : Tech) (pad : PadAt) (spot : Spot) (volts : ℤ) (net number : ℕ) (piece : Piece) → IsSpot grid.units pad spot → At grid.nets net pad.net
    → At grid.pieces number piece → HasSpot grid.pieces net spot number → At (layer_names tech) piece.layer pad.layer
    → StandsWith grid tech pad volts (pad_on number piece spot volts)
stands_there grid tech pad spot volts net number piece place named at has layer =
    let one : has.piece ≡ piece = one_at grid.pieces number number has.piece piece refl has.is at in
    let there = subst (λ (z : Piece). HasPoint (piece_rect z) spot.x spot.y) one has.has in
    let of_net : piece.net ≡ net = ap (λ (z : Piece). z.net) (sym one) ∙ has.of_net in (
      record {
        piece = piece;
        is = at;
        net = subst (λ n. At grid.nets n pad.net) (sym of_net) named;
        layer = layer;
        x = spot.x;
        y = spot.y;
        in_x = place.x;
        in_y = place.y;
        has = there;
        so_far = refl;
      },
      refl,
    )

-- one more piece that is found, which is on the pad's layer
pub layer_more : (grid : Grid) (tech : Tech) (pad : PadAt) (spot : Spot) (volts : ℤ) (numbers : List ℕ) (i number : ℕ) (piece : Piece) (on : List PadOn)
    → IsSpot grid.units pad spot → AreFound grid pad spot numbers → i < length numbers → number ≡ get_or numbers i number → At grid.pieces number piece
    → At (layer_names tech) piece.layer pad.layer → AreOnUpTo (StandsWith grid tech pad volts) (take i numbers) on
    → AreOnUpTo (StandsWith grid tech pad volts) (take (i + 1) numbers) (on ++ pad_on number piece spot volts ∷ [])
layer_more grid tech pad spot volts numbers i number piece on place found within is at layer h =
    pads_more (StandsWith grid tech pad volts) numbers i number on (pad_on number piece spot volts) found.are.rising within is
    (stands_there grid tech pad spot volts found.net number piece place found.named at (subst (λ n. HasSpot grid.pieces found.net spot n) (sym is) (found.are.each i number within)) layer)
    (λ other other_is same. only_one grid tech pad spot volts number piece place at other other_is (same ∙ sym is)) h

-- one that is not
pub layer_kept : (grid : Grid) (tech : Tech) (pad : PadAt) (spot : Spot) (volts : ℤ) (numbers : List ℕ) (i number : ℕ) (piece : Piece) (on : List PadOn)
    → i < length numbers → number ≡ get_or numbers i number → At grid.pieces number piece → (At (layer_names tech) piece.layer pad.layer → ⊥)
    → AreOnUpTo (StandsWith grid tech pad volts) (take i numbers) on → AreOnUpTo (StandsWith grid tech pad volts) (take (i + 1) numbers) on
layer_kept grid tech pad spot volts numbers i number piece on within is at none h =
    pads_kept (StandsWith grid tech pad volts) numbers i number on within
    (λ other (stands, _) same.
    none (subst (λ (z : Piece). At (layer_names tech) z.layer pad.layer) (one_at grid.pieces other.piece number stands.piece piece (same ∙ sym is) stands.is at) stands.layer)) h

-- a piece on which it stands is found
is_found : (grid : Grid) (tech : Tech) (pad : PadAt) (spot : Spot) (volts : ℤ) (numbers : List ℕ) → IsSpot grid.units pad spot → AreFound grid pad spot numbers
    → (one : PadOn) → StandsWith grid tech pad volts one → Contains numbers one.piece
is_found grid tech pad spot volts numbers place found one (stands, _) =
    let x : stands.x ≡ spot.x = one_length grid.units pad.x stands.x spot.x stands.in_x place.x in
    let y : stands.y ≡ spot.y = one_length grid.units pad.y stands.y spot.y stands.in_y place.y in
    found.are.every one.piece (record {
      piece = stands.piece;
      is = stands.is;
      of_net = one_index grid.nets found.distinct stands.piece.net found.net pad.net stands.net found.named;
      has = subst (λ z. HasPoint (piece_rect stands.piece) z spot.y) x (subst (λ z. HasPoint (piece_rect stands.piece) stands.x z) y stands.has);
    })

pub layer_all : (grid : Grid) (tech : Tech) (pad : PadAt) (spot : Spot) (volts : ℤ) (numbers : List ℕ) (i : ℕ) (on : List PadOn) → length numbers ≤ i
    → IsSpot grid.units pad spot → AreFound grid pad spot numbers → AreOnUpTo (StandsWith grid tech pad volts) (take i numbers) on → AreOnWith grid tech pad volts on
layer_all grid tech pad spot volts numbers i on le place found h = record {
  each = h.each;
  every = every_one (StandsWith grid tech pad volts) numbers i on le (is_found grid tech pad spot volts numbers place found) h;
  rising = h.rising;
}

-- ## its supply

one_supply : (bias : Bias) → BiasKeeps bias → (net : List ℕ) (a b : ℤ) → IsSupply bias net a → IsSupply bias net b → a ≡ b
one_supply bias keeps net a b (s, in_s, (s_net, s_volts)) (t, in_t, (t_net, t_volts)) =
    sym s_volts ∙ ap (λ (z : Supply). z.volts) (one_named (λ (z : Supply). z.net) bias.supplies keeps.supplied_nets s t in_s in_t (s_net ∙ sym t_net)) ∙ t_volts

pub with_supply : (grid : Grid) (tech : Tech) (bias : Bias) (pad : PadAt) (volts : ℤ) (on : List PadOn) → BiasKeeps bias → IsSupply bias pad.net volts
    → AreOnWith grid tech pad volts on → AreOnPieces grid tech bias pad on
with_supply grid tech bias pad volts on keeps supply h = record {
  each = λ k d within. record {
    stands = (h.each k d within).0;
    volts = subst (λ v. IsSupply bias pad.net v) (sym (h.each k d within).1) supply;
  };
  every = λ one one_is. h.every one (one_is.stands, one_supply bias keeps pad.net one.volts volts one_is.volts supply);
  rising = h.rising;
}

-- it stands nowhere
pub on_none : (grid : Grid) (tech : Tech) (bias : Bias) (pad : PadAt) → ((one : PadOn) → IsPadOn grid tech bias pad one → ⊥) → AreOnPieces grid tech bias pad []
on_none grid tech bias pad none = record {
  each = λ k d within. absurd (omega arith);
  every = λ one one_is. absurd (none one one_is);
  rising = λ i j d less within. absurd (omega arith);
}
