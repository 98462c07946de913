-- The pieces that an index finds at a place.
use Rattle.std.proofs.Common.{◌≡◌, IsTrue, ℕ, ◌<◌, pos, List, map, filter, length, get_or, All, AllPairs, Contains, refl, sym, ap, ◌∙◌, subst, arith}
use Rattle.std.proofs.lemmas.List.{get_or-map, length-map, get_or_default}
use Rattle.std.proofs.lemmas.List.Elements.{All-map, All-filter, filter_passes}
use Rattle.std.proofs.lemmas.List.Kept.{AllPairs-filter}
use Rattle.geom_rect.specs.Rect.{HasPoint}
use Rattle.grid_pieces.specs.declared.piece.Piece.{Piece}
use Rattle.grid_pieces.specs.Piece.{Among}
use Rattle.grid_pieces.specs.Line.{piece_rect}
use Rattle.grid_pieces.specs.Laws.Amongst.{Among-map, Among-filter}
use Rattle.rect_index.specs.declared.entry.Entry.{Entry}
use Rattle.rect_index.specs.Entry.{item_of}
use Rattle.grid_taps.specs.Naming.{At}
use Rattle.grid_taps.specs.inside.Index.{is_at}
use Rattle.grid_taps.specs.declared.on_piece.Spot.{Spot}
use Rattle.grid_taps.specs.inside.Steps.{piece_entry, ArePieceEntries}
use Rattle.grid_taps.specs.inside.Standing.{point, HasSpot, ArePiecesAt}
use Rattle.grid_taps.proofs.Found.{at_iff}

no_entry : Entry ℕ
no_entry = record { group = 0; rect = record { x1 = pos 0; y1 = pos 0; x2 = pos 0; y2 = pos 0 }; item = 0 }

-- an entry of the index stands for its piece
stands_for : (pieces : List Piece) (entries : List (Entry ℕ)) → ArePieceEntries pieces entries → (p : Piece)
    → All (λ (e : Entry ℕ). (piece : Piece) × At pieces e.item piece × (e ≡ piece_entry e.item piece)) entries
stands_for pieces entries are p k d within =
    let in_pieces : k < length pieces = omega (arith, within, are.as_many) in
    let piece : Piece = get_or pieces k p in
    let at : At pieces k piece = (in_pieces, get_or_default pieces k piece p in_pieces) in
    let is : get_or entries k d ≡ piece_entry k piece = are.each k piece d at in
    let number : (get_or entries k d).item ≡ k = ap (λ (e : Entry ℕ). e.item) is in
    (piece, subst (λ n. At pieces n piece) (sym number) at, is ∙ ap (λ n. piece_entry n piece) (sym number))

-- what the entry of a piece says of a point is what the piece has
has_point : (pieces : List Piece) (net : ℕ) (spot : Spot) (e : Entry ℕ) → ((piece : Piece) × At pieces e.item piece × (e ≡ piece_entry e.item piece))
    → IsTrue (is_at net (point spot) e) → HasSpot pieces net spot e.item
has_point pieces net spot e (piece, at, is) h =
    let there = (at_iff net (point spot) (piece_entry e.item piece)).0 (subst (λ (z : Entry ℕ). IsTrue (is_at net (point spot) z)) is h) in
    record { piece = piece; is = at; of_net = there.0; has = (there.1, there.2) }

is_point : (net : ℕ) (spot : Spot) (number : ℕ) (piece : Piece) → piece.net ≡ net → HasPoint (piece_rect piece) spot.x spot.y → IsTrue (is_at net (point spot) (piece_entry number piece))
is_point net spot number piece same has = (at_iff net (point spot) (piece_entry number piece)).1 (same, has.0, has.1)

pub pieces_found : (pieces : List Piece) (entries : List (Entry ℕ)) (net : ℕ) (spot : Spot) (numbers : List ℕ) → (p : Piece) → ArePieceEntries pieces entries
    → numbers ≡ map item_of (filter (is_at net (point spot)) entries) → ArePiecesAt pieces net spot numbers
pieces_found pieces entries net spot numbers p are is =
    subst (λ ns. ArePiecesAt pieces net spot ns) (sym is) (record { each = each; every = every; rising = rising })
  where
    found : List (Entry ℕ)
    found = filter (is_at net (point spot)) entries

    each_entry : All (λ (e : Entry ℕ). HasSpot pieces net spot (item_of e)) (filter (is_at net (point spot)) entries)
    each_entry k d within =
        has_point pieces net spot (get_or (filter (is_at net (point spot)) entries) k d)
        (All-filter (is_at net (point spot)) (λ (e : Entry ℕ). (piece : Piece) × At pieces e.item piece × (e ≡ piece_entry e.item piece)) entries
        (stands_for pieces entries are p) k d within)
        (filter_passes (is_at net (point spot)) entries k d within)

    each : All (HasSpot pieces net spot) (map item_of (filter (is_at net (point spot)) entries))
    each = All-map (HasSpot pieces net spot) item_of (filter (is_at net (point spot)) entries) each_entry

    every : (number : ℕ) → HasSpot pieces net spot number → Contains (map item_of (filter (is_at net (point spot)) entries)) number
    every number h =
        let piece : Piece = h.piece in
        let at : At pieces number piece = h.is in
        let same : piece.net ≡ net = h.of_net in
        let has : HasPoint (piece_rect piece) spot.x spot.y = h.has in
        let e : Entry ℕ = piece_entry number piece in
        let within : number < length entries = omega (arith, at.0, are.as_many) in
        let there : Contains entries e = (number, within, are.each number piece e at) in
        let passes = is_point net spot number piece same has in
        let some : Among (λ (z : Entry ℕ). item_of z ≡ number) (filter (is_at net (point spot)) entries) =
        (Among-filter (is_at net (point spot)) (λ (z : Entry ℕ). item_of z ≡ number) entries).1 (e, there, (passes, refl)) in
        let out : Among (λ n. n ≡ number) (map item_of (filter (is_at net (point spot)) entries)) =
        (Among-map item_of (λ n. n ≡ number) (filter (is_at net (point spot)) entries)).1 some in
        subst (λ n. Contains (map item_of (filter (is_at net (point spot)) entries)) n) out.2 out.1

    by_number : AllPairs (λ (a b : Entry ℕ). a.item < b.item) entries
    by_number i j d less within =
        let first = stands_number pieces entries are p i d (omega arith) in
        let second = stands_number pieces entries are p j d within in
        omega (arith, first, second)
      where
        stands_number : (pieces : List Piece) (entries : List (Entry ℕ)) → ArePieceEntries pieces entries → (p : Piece) → (k : ℕ) (d : Entry ℕ) → k < length entries
            → (get_or entries k d).item ≡ k
        stands_number pieces entries are p k d within =
            let in_pieces : k < length pieces = omega (arith, within, are.as_many) in
            let at : At pieces k (get_or pieces k p) = (in_pieces, get_or_default pieces k (get_or pieces k p) p in_pieces) in
            ap (λ (e : Entry ℕ). e.item) (are.each k (get_or pieces k p) d at)

    rising : AllPairs (λ a b. a < b) (map item_of (filter (is_at net (point spot)) entries))
    rising i j d less within =
        let many = length-map (filter (is_at net (point spot)) entries) item_of in
        let kept = AllPairs-filter (λ (a b : Entry ℕ). a.item < b.item) (is_at net (point spot)) entries by_number i j no_entry less (omega (arith, within, many)) in
        let first = get_or-map item_of (filter (is_at net (point spot)) entries) i no_entry d (omega (arith, within, many)) in
        let second = get_or-map item_of (filter (is_at net (point spot)) entries) j no_entry d (omega (arith, within, many)) in
        omega (arith, kept, first, second)
