-- What a wired grid keeps: its pieces and stacks are of its nets and of the technology's layers.
use Rattle.std.proofs.Common.{◌≡◌, ◌≢◌, ◌⊎◌, inl, inr, ℕ, zero, suc, ◌<◌, Bool, true, false, cond, List, [], ◌∷◌, All, AllPairs, Contains, length, get_or, slice_get, Option, Some, None, refl, sym, ◌∙◌, ap, subst, arith}
use Rattle.std.specs.Bool.{MatchBool}
use Rattle.std.proofs.lemmas.List.Elements.{All-contains}
use Rattle.std.proofs.lemmas.Option.{slice_get-get_or}
use Rattle.name_table.specs.ByteOrder.{IsBefore}
use Rattle.name_table.specs.Numbering.{AreDistinct}
use Rattle.geom_rect.specs.declared.drawn.Drawn.{Drawn}
use Rattle.grid_network.specs.Asked.{IsPieceOf, IsStackOf}
use Rattle.grid_pieces.specs.declared.grid.Grid.{Grid}
use Rattle.grid_pieces.specs.declared.line.Line.{Line}
use Rattle.grid_pieces.specs.declared.piece.Piece.{Piece}
use Rattle.grid_pieces.specs.declared.piece.StackAt.{StackAt}
use Rattle.grid_pieces.specs.Limits.{PieceKeeps, StackKeeps}
use Rattle.grid_pieces.specs.Line.{drawn_line, piece_line}
use Rattle.lef_tech.specs.declared.tech.Tech.{Tech}
use Rattle.wire_limits.specs.First.{EachHas}
use Rattle.wire_limits.specs.Segments.{HasSheet, sheet_of}
use Rattle.wire_names.specs.declared.record.NamedWires.{NamedWires}
use Rattle.wire_names.specs.Keeping.{NamedKeep, ShapeStands}
use Rattle.wire_pieces.specs.Pieces.{AreWirePieces}
use Rattle.wire_stacks.specs.Stacks.{StackStands}
use Rattle.wired_grid.specs.Wired.{two_in_order}

two : (power ground : List ℕ) (first : Bool) → length (two_in_order power ground first) ≡ 2
two power ground true = refl
two power ground false = refl

before_itself : (a : List ℕ) → IsBefore a a → ⊥
before_itself [] h = absurd h
before_itself (x ∷ xs) h = by h (before_itself xs)
  where
    by : (x < x) ⊎ ((x ≡ x) × IsBefore xs xs) → (IsBefore xs xs → ⊥) → ⊥
    by (inl less) rest = omega arith
    by (inr both) rest = rest both.1

pair : (a b : List ℕ) → IsBefore a b → AreDistinct (a ∷ b ∷ [])
pair a b before i j d less within same = at i j less within same
  where
    at : (i j : ℕ) → i < j → j < 2 → get_or (a ∷ b ∷ []) i d ≡ get_or (a ∷ b ∷ []) j d → ⊥
    at zero (suc zero) l w e = before_itself a (subst (IsBefore a) (sym e) before)
    at zero zero l w e = absurd (omega arith)
    at zero (suc (suc j)) l w e = absurd (omega arith)
    at (suc i) zero l w e = absurd (omega arith)
    at (suc i) (suc zero) l w e = absurd (omega arith)
    at (suc i) (suc (suc j)) l w e = absurd (omega arith)

pub distinct : (power ground : List ℕ) (first : Bool) → MatchBool first (IsBefore power ground) (IsBefore ground power)
    → AreDistinct (two_in_order power ground first)
distinct power ground true before = pair power ground before
distinct power ground false before = pair ground power before

has_of : {X : Type 0} (P : X → Type 0) (xs : List X) (x : X) → EachHas P xs → Contains xs x → P x
has_of P xs x each (k, within, is) = each k x (slice_get-get_or xs k x within ∙ ap Some is)

pub piece_of : (tech : Tech) (named : NamedWires) (grid : Grid) (power ground : List ℕ) (first : Bool) (pieces : List Piece) → NamedKeep tech named
    → EachHas (HasSheet tech) named.shapes → AreWirePieces named.shapes pieces → All PieceKeeps pieces
    → grid.nets ≡ two_in_order power ground first → All (IsPieceOf grid tech) pieces
piece_of tech named grid power ground first pieces keep sheets are kept nets k d within =
    let piece = get_or pieces k d in
    let kind = (are.each k d within).kind in
    let shape = kind.0 in
    let line : drawn_line shape ≡ piece_line piece = kind.2.0 in
    let stands = All-contains (ShapeStands (length tech.routing)) named.shapes shape keep.shapes kind.1 in
    let layer : shape.layer ≡ piece.layer = ap (λ (l : Line). l.layer) line in
    let net : shape.net ≡ piece.net = ap (λ (l : Line). l.net) line in
    let many : length grid.nets ≡ 2 = ap length nets ∙ two power ground first in
    record {
      keeps = kept k d within;
      net = subst (λ n. n < length grid.nets) net (omega (arith, stands.net));
      layer = subst (λ l. l < length tech.routing) layer stands.layer;
      sheet = subst (λ l. sheet_of tech l ≢ None) layer (has_of (HasSheet tech) named.shapes shape sheets kind.1);
    }

pub stack_of : (tech : Tech) (grid : Grid) (power ground : List ℕ) (first : Bool) (stacks : List StackAt) → All (StackStands tech) stacks
    → grid.nets ≡ two_in_order power ground first → All (IsStackOf grid tech) stacks
stack_of tech grid power ground first stacks stand nets k d within =
    let stands = stand k d within in
    let many : length grid.nets ≡ 2 = ap length nets ∙ two power ground first in
    record { net = omega (arith, stands.net); rising = stands.rising; highest = stands.layers; arrays = stands.arrays; ohms = stands.ohms }

pub upright : (tech : Tech) (stacks : List StackAt) → All (StackStands tech) stacks → All StackKeeps stacks
upright tech stacks stand k d within = (stand k d within).upright
