-- The entries of pieces, and what is found among them.
use Rattle.std.proofs.Common.{◌≡◌, ◌⊎◌, inl, inr, IsTrue, ℕ, ◌+◌, ◌<◌, ◌≤◌, List, [], ◌∷◌, ◌++◌, length, map, filter, Contains, refl, sym, ap, ◌∙◌, subst, arith}
use Rattle.std.proofs.lemmas.Bool.{cases_lt}
use Rattle.std.proofs.lemmas.List.{get_or_default}
use Rattle.std.proofs.lemmas.List.Elements.{Contains-append_left, Contains-push, Contains-push_cases}
use Rattle.geom_rect.specs.Drawn.{drawn_rect}
use Rattle.geom_rect.specs.declared.drawn.Drawn.{Drawn}
use Rattle.grid_pieces.specs.declared.piece.Piece.{Piece}
use Rattle.grid_pieces.specs.Piece.{Among}
use Rattle.grid_pieces.specs.Laws.Amongst.{Among-map, Among-filter}
use Rattle.grid_stacks.specs.Crossing.{At}
use Rattle.rect_index.specs.Entry.{is_at, item_of}
use Rattle.rect_index.specs.declared.entry.Entry.{Entry}
use Rattle.pin_pieces.specs.inside.Steps.{ListsAll, piece_entry, IsPieceEntry, IsPieceAt}

-- two pieces at one place are one
pub one_at : {X : Type 0} (xs : List X) (k : ℕ) (x y : X) → At xs k x → At xs k y → x ≡ y
one_at xs k x y at_x at_y = sym at_x.1 ∙ get_or_default xs k x y at_x.0 ∙ at_y.1

-- the entries of the pieces before a place
abbrev pub IsBelow : List Piece → ℕ → Entry ℕ → Type 0
IsBelow pieces n entry = (entry.item < n) × IsPieceEntry pieces entry

pub entries_none : (pieces : List Piece) → ListsAll (IsBelow pieces 0) []
entries_none pieces entry = (λ h. absurd (omega (arith, h.1)), λ h. absurd (omega (arith, h.0)))

pub entries_more : (pieces : List Piece) (entries : List (Entry ℕ)) (i : ℕ) (piece : Piece) → At pieces i piece → ListsAll (IsBelow pieces i) entries
    → ListsAll (IsBelow pieces (i + 1)) (entries ++ piece_entry i piece ∷ [])
entries_more pieces entries i piece at lists entry = (λ h. there (Contains-push_cases entries (piece_entry i piece) entry h), λ h. back h.0 h.1 (cases_lt entry.item i))
  where
    this : IsBelow pieces (i + 1) (piece_entry i piece)
    this = (omega arith, record { piece = piece; at = at; is = refl })

    there : Contains entries entry ⊎ (piece_entry i piece ≡ entry) → IsBelow pieces (i + 1) entry
    there (inl h) = let old = (lists entry).0 h in (omega (arith, old.0), old.1)
    there (inr e) = subst (IsBelow pieces (i + 1)) e this

    back : entry.item < i + 1 → IsPieceEntry pieces entry → (entry.item < i) ⊎ (i ≤ entry.item) → Contains (entries ++ piece_entry i piece ∷ []) entry
    back below is (inl before) = Contains-append_left entries (piece_entry i piece ∷ []) entry ((lists entry).1 (before, is))
    back below is (inr not_before) =
        let same : i ≡ entry.item = omega arith in
        let one : piece ≡ is.piece = one_at pieces entry.item piece is.piece (subst (λ k. At pieces k piece) same at) is.at in
        let e : piece_entry i piece ≡ entry = ap (λ k. piece_entry k piece) same ∙ ap (piece_entry entry.item) one ∙ sym is.is in
        subst (Contains (entries ++ piece_entry i piece ∷ [])) e (Contains-push entries (piece_entry i piece))

pub entries_all : (pieces : List Piece) (entries : List (Entry ℕ)) (i : ℕ) → length pieces ≤ i → ListsAll (IsBelow pieces i) entries → ListsAll (IsPieceEntry pieces) entries
entries_all pieces entries i all lists entry = (
  λ h. ((lists entry).0 h).1,
  λ is. (lists entry).1 (let within = is.at.0 in omega (arith, within), is),
)

-- ## what is found

here : (n : ℕ) (numbers : List ℕ) → Contains numbers n → Among (λ m. m ≡ n) numbers
here n numbers h = (n, h, refl)

out : (n : ℕ) (numbers : List ℕ) → Among (λ m. m ≡ n) numbers → Contains numbers n
out n numbers w = subst (Contains numbers) w.2 w.1

-- what an entry that is found stands for
of_entry : (pieces : List Piece) (shape : Drawn) (n : ℕ) (entry : Entry ℕ) → IsPieceEntry pieces entry → IsTrue (is_at shape.net (drawn_rect shape) entry) → item_of entry ≡ n
    → IsPieceAt pieces shape n
of_entry pieces shape n entry is passes same = record {
  piece = is.piece;
  at = subst (λ k. At pieces k is.piece) same is.at;
  there = subst (λ (e : Entry ℕ). IsTrue (is_at shape.net (drawn_rect shape) e)) is.is passes;
}

pub pieces_found : (pieces : List Piece) (entries : List (Entry ℕ)) (shape : Drawn) (numbers : List ℕ) → ListsAll (IsPieceEntry pieces) entries
    → numbers ≡ map item_of (filter (is_at shape.net (drawn_rect shape)) entries) → ListsAll (IsPieceAt pieces shape) numbers
pieces_found pieces entries shape numbers lists are = subst (ListsAll (IsPieceAt pieces shape)) (sym are) (λ n. (there n, back n))
  where
    there : (n : ℕ) → Contains (map item_of (filter (is_at shape.net (drawn_rect shape)) entries)) n → IsPieceAt pieces shape n
    there n h =
        let kept : List (Entry ℕ) = filter (is_at shape.net (drawn_rect shape)) entries in
        let some : Among (λ (e : Entry ℕ). item_of e ≡ n) kept = (Among-map item_of (λ m. m ≡ n) kept).0 (here n (map item_of kept) h) in
        let w : Among (λ (e : Entry ℕ). IsTrue (is_at shape.net (drawn_rect shape) e) × (item_of e ≡ n)) entries =
        (Among-filter (is_at shape.net (drawn_rect shape)) (λ (e : Entry ℕ). item_of e ≡ n) entries).0 some in
        of_entry pieces shape n w.0 ((lists w.0).0 w.1) w.2.0 w.2.1

    back : (n : ℕ) → IsPieceAt pieces shape n → Contains (map item_of (filter (is_at shape.net (drawn_rect shape)) entries)) n
    back n h =
        let kept : List (Entry ℕ) = filter (is_at shape.net (drawn_rect shape)) entries in
        let entry : Entry ℕ = piece_entry n h.piece in
        let has : Contains entries entry = (lists entry).1 (record { piece = h.piece; at = h.at; is = refl }) in
        let some : Among (λ (e : Entry ℕ). item_of e ≡ n) kept =
        (Among-filter (is_at shape.net (drawn_rect shape)) (λ (e : Entry ℕ). item_of e ≡ n) entries).1 (entry, has, (h.there, refl)) in
        out n (map item_of kept) ((Among-map item_of (λ m. m ≡ n) kept).1 some)
