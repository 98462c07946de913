-- What the steps of the cutting keep.
use Rattle.std.specs.Prelude.{◌≡◌, ℕ, ℤ, ◌<◌, ◌≤◌, ◌<ℤ◌, List, All, AllPairs, Contains, map, length, slice_index_or}
use Rattle.std.specs.Ordering.{nat_cmp, int_cmp, ordering_then}
use Rattle.std.specs.declared.cmp.Ordering.{Ordering}
use Rattle.geom_rect.specs.Run.{HasCell, IsHeld}
use Rattle.geom_rect.specs.declared.drawn.Drawn.{Drawn}
use Rattle.geom_rect.specs.declared.drawn.Shape.{Shape}
use Rattle.geom_rect.specs.declared.drawn.Shape.TheVariants.{Ring, Stripe, FollowPin}
use Rattle.geom_rect.specs.declared.run.Run.{Run}
use Rattle.grid_pieces.specs.declared.line.Line.{Line}
use Rattle.grid_pieces.specs.declared.piece.Piece.{Piece}
use Rattle.grid_pieces.specs.declared.piece.Block.{Block}
use Rattle.geom_rect.specs.Drawn.{drawn_run}
use Rattle.grid_pieces.specs.Line.{drawn_line, piece_line, piece_run}
use Rattle.grid_pieces.specs.Piece.{Among, IsPiece}

-- Some shape of the kind has the cell.
abbrev pub IsOfKind : List Drawn → Shape → ℤ → Type 0
IsOfKind shapes kind t = Among (λ (shape : Drawn). (shape.shape ≡ kind) × HasCell (drawn_run shape) t) shapes

-- Each run has a cell.
abbrev pub HaveCells : List Run → Type 0
HaveCells runs = All (λ (run : Run). run.from <ℤ run.to) runs

-- Each run has a cell and ends before the next one begins, with at least one cell between them.
pub record AreSeparate (runs : List Run) : Type 0 where
  pub some : HaveCells runs
  pub apart : AllPairs (λ (a b : Run). a.to <ℤ b.from) runs

-- One of the runs has a cell of this run.
abbrev pub ShareCell : List Run → Run → Type 0
ShareCell runs run = (t : ℤ) × HasCell run t × IsHeld runs t

-- The first kind with a cell in the run, where these are the runs of rings and of stripes.
abbrev pub IsKindOf : List Run → List Run → Run → Shape → Type 0
IsKindOf rings stripes run Ring = ShareCell rings run
IsKindOf rings stripes run Stripe = (ShareCell rings run → ⊥) × ShareCell stripes run
IsKindOf rings stripes run FollowPin = (ShareCell rings run → ⊥) × (ShareCell stripes run → ⊥)

-- A piece of the line for each of the runs.
pub record AreMadeOf (line : Line) (whole rings stripes : List Run) (pieces : List Piece) : Type 0 where
  pub lines : All (λ (p : Piece). piece_line p ≡ line) pieces
  pub runs : map piece_run pieces ≡ whole
  pub kinds : All (λ (p : Piece). IsKindOf rings stripes (piece_run p) p.shape) pieces

-- The pieces of one line, all of them, rising.
pub record ArePiecesOf (shapes : List Drawn) (blocks : List Block) (line : Line) (pieces : List Piece) : Type 0 where
  pub lines : All (λ (p : Piece). piece_line p ≡ line) pieces
  pub each : All (IsPiece shapes blocks) pieces
  pub every : (p : Piece) → piece_line p ≡ line → IsPiece shapes blocks p → Contains pieces p
  pub rising : AllPairs (λ (a b : Piece). a.from <ℤ b.from) pieces

-- The shapes of each line stand together.
abbrev pub IsGrouped : List Drawn → Type 0
IsGrouped shapes = (i j k : ℕ) (d : Drawn) → i ≤ j → j ≤ k → k < length shapes
    → drawn_line (slice_index_or shapes i d) ≡ drawn_line (slice_index_or shapes k d)
    → drawn_line (slice_index_or shapes i d) ≡ drawn_line (slice_index_or shapes j d)

-- Two different pieces of one line do not begin at one place.
abbrev pub AreApart : Piece → Piece → Type 0
AreApart a b = piece_line a ≡ piece_line b → a.from ≡ b.from → ⊥

-- The pieces of all lines of shapes before a place.
pub record ArePiecesUpTo (shapes : List Drawn) (blocks : List Block) (done : List Drawn) (pieces : List Piece)
    : Type 0 where
  pub each : All (IsPiece shapes blocks) pieces
  pub lines : All (λ (p : Piece). Among (λ (s : Drawn). drawn_line s ≡ piece_line p) done) pieces
  pub every : (p : Piece) → IsPiece shapes blocks p → Among (λ (s : Drawn). drawn_line s ≡ piece_line p) done
      → Contains pieces p
  pub apart : AllPairs AreApart pieces

-- Shapes by net, layer, centre and width, in turn.
abbrev pub drawn_order : Drawn → Drawn → Ordering
drawn_order a b =
    ordering_then (ordering_then (ordering_then (nat_cmp a.net b.net) (nat_cmp a.layer b.layer))
    (int_cmp a.centre b.centre)) (int_cmp a.width b.width)
