-- The parts of a network put together.
use Rattle.std.proofs.Common.{◌≡◌, inr, ℕ, ◌<◌, Contains, Result, Ok, Err, IsErrAnd, List, [], ◌∷◌, map, All, length, refl, sym, subst, ap, ◌∙◌, arith}
use Rattle.std.specs.Prelude.{◌≤ℤ◌, MatchResult}
use Rattle.std.proofs.lemmas.List.{length-map, get_or-map}
use Rattle.grid_pieces.specs.declared.piece.Piece.{Piece}
use Rattle.grid_net.specs.declared.part.Load.{Load}
use Rattle.grid_network.specs.declared.pad.Tap.{Tap}
use Rattle.lef_tech.specs.declared.tech.Tech.{Tech}
use Rattle.grid_net.specs.Building.{network_of, first_net_refusal}
use Rattle.grid_network.specs.declared.branch.Branch.{Branch}
use Rattle.grid_network.specs.declared.error.ExtractError.{ExtractError}
use Rattle.grid_network.specs.declared.error.ExtractError.TheVariants.{UnknownName, NoSupply, PadOff, LoadOff, Net as OfNet, Want}
use Rattle.grid_network.specs.declared.extracted.Extracted.{Extracted}
use Rattle.grid_network.specs.declared.key.Key.{Key}
use Rattle.grid_network.specs.declared.row.Row.{Row}
use Rattle.grid_network.specs.declared.segment.Segment.{Segment}
use Rattle.name_table.specs.ByteOrder.{IsInByteOrder}
use Rattle.grid_network.specs.Listing.{ListsAll, EachOnce}
use Rattle.grid_network.specs.Drawing.{Drawing, key_at}
use Rattle.grid_network.specs.Nodes.{IsNode, AreNodes, name_of, number_of}
use Rattle.grid_network.specs.Segments.{AreSegments, resistor_of}
use Rattle.grid_network.specs.Layers.{AreNotes}
use Rattle.grid_network.specs.Network.{resistors_of, pads_of, loads_of, IsNetworkOf, IsRefused}
use Rattle.grid_network.specs.inside.Steps.{row_of_segment, row_resistors, node_loads, IsBuiltOf, IsNotBuilt}

resistors_here : (keys : List Key) (segments : List Segment) → row_resistors (map (row_of_segment keys) segments) ≡ resistors_of keys segments
resistors_here keys [] = refl
resistors_here keys (s ∷ ss) = ap (λ l. resistor_of keys s ∷ l) (resistors_here keys ss)

branches_here : (keys : List Key) (segments : List Segment) → map (λ r. r.branch) (map (row_of_segment keys) segments) ≡ map (λ s. s.branch) segments
branches_here keys [] = refl
branches_here keys (s ∷ ss) = ap (λ l. s.branch ∷ l) (branches_here keys ss)

resistors_are : (keys : List Key) (segments : List Segment) (rows : List Row) → rows ≡ map (row_of_segment keys) segments → row_resistors rows ≡ resistors_of keys segments
resistors_are keys segments rows e = ap row_resistors e ∙ resistors_here keys segments

pub branches_are : (keys : List Key) (segments : List Segment) (rows : List Row) (branches : List Branch) → rows ≡ map (row_of_segment keys) segments → branches ≡ map (λ r. r.branch) rows → branches ≡ map (λ s. s.branch) segments
branches_are keys segments rows branches e f = f ∙ ap (map (λ r. r.branch)) e ∙ branches_here keys segments

pub assembled : (d : Drawing) (tech : Tech) (e : Extracted) (segments : List Segment) (rows : List Row) → AreNodes d (length tech.routing) e.keys → e.names ≡ map (name_of (length tech.routing)) e.keys
    → rows ≡ map (row_of_segment e.keys) segments → AreSegments d tech e.keys segments → e.branches ≡ map (λ r. r.branch) rows
    → IsBuiltOf d.grid.pieces e.keys rows d.pads d.taps e.net → AreNotes d tech e.notes → IsNetworkOf d tech e
assembled d tech e segments rows nodes names is all branches built notes =
    let same = resistors_are e.keys segments rows is in
    record {
      segments = segments;
      nodes = nodes;
      names = names;
      all_segments = all;
      branches = branches_are e.keys segments rows e.branches is branches;
      net = built.is ∙ ap (λ r. network_of (length e.keys) r (pads_of d e.keys) (loads_of d e.keys)) same;
      not_refused = sym (ap (λ r. first_net_refusal (length e.keys) r (pads_of d e.keys) (loads_of d e.keys)) same) ∙ built.not_refused;
      notes = notes;
    }

pub refused : (d : Drawing) (tech : Tech) (keys : List Key) (segments : List Segment) (rows : List Row) (e : ExtractError) → AreNodes d (length tech.routing) keys
    → rows ≡ map (row_of_segment keys) segments → AreSegments d tech keys segments → IsNotBuilt d.grid.pieces keys rows d.pads d.taps e → IsRefused d tech e
refused d tech keys segments rows (OfNet error) nodes is all not =
    let same = resistors_are keys segments rows is in
    inr (record { keys = keys; segments = segments; nodes = nodes; all_segments = all; refused = sym (ap (λ r. first_net_refusal (length keys) r (pads_of d keys) (loads_of d keys)) same) ∙ not })
refused d tech keys segments rows Want nodes is all not = tt
refused d tech keys segments rows (UnknownName n) nodes is all not = absurd not
refused d tech keys segments rows (NoSupply n) nodes is all not = absurd not
refused d tech keys segments rows (PadOff n) nodes is all not = absurd not
refused d tech keys segments rows (LoadOff n) nodes is all not = absurd not

-- the loads of the nodes have the ranges of the taps
pub ranged : (pieces : List Piece) (keys : List Key) (taps : List Tap) (loads : List Load) → All (λ t. t.low ≤ℤ t.high) taps → loads ≡ node_loads pieces keys taps → All (λ l. l.low ≤ℤ l.high) loads
ranged pieces keys taps loads up e = subst (λ (ls : List Load). All (λ l. l.low ≤ℤ l.high) ls) (sym e) (by taps up)
  where
    by : (ts : List Tap) → All (λ t. t.low ≤ℤ t.high) ts → All (λ l. l.low ≤ℤ l.high) (node_loads pieces keys ts)
    by [] up k d within = absurd (omega arith)
    by (t ∷ ts) up k d within =
        let b : k < length (t ∷ ts) = omega (arith, within, length-map {B = Load} (t ∷ ts) (λ (t : Tap). record { node = number_of keys (key_at pieces t.piece t.along); low = t.low; high = t.high })) in
        subst (λ (l : Load). l.low ≤ℤ l.high) (sym (get_or-map {Y = Load} (λ (t : Tap). record { node = number_of keys (key_at pieces t.piece t.along); low = t.low; high = t.high }) (t ∷ ts) k t d b)) (up k t b)

-- an error that is handed on
pub passed_on : {T E : Type 0} (P : T → Type 0) (Q : E → Type 0) (r : Result T E) (e : E) → IsErrAnd r (λ x. x ≡ e) → Q e → MatchResult r P Q
passed_on P Q (Ok x) e is h = absurd is
passed_on P Q (Err x) e is h = subst Q (sym is) h

-- the keys are the nodes
pub nodes_are : (d : Drawing) (layers count : ℕ) (places given keys : List Key) → ListsAll (IsNode d) places → given ≡ places → count ≡ layers → ListsAll (λ k. Contains given k) keys → EachOnce keys
    → IsInByteOrder (map (name_of count) keys) → AreNodes d layers keys
nodes_are d layers count places given keys nodes e f same once order = record {
  all = λ x. (λ h. (nodes x).0 (subst (λ (l : List Key). Contains l x) e ((same x).0 h)), λ n. (same x).1 (subst (λ (l : List Key). Contains l x) (sym e) ((nodes x).1 n)));
  once = once;
  in_order = subst (λ (n : ℕ). IsInByteOrder (map (name_of n) keys)) f order;
}
