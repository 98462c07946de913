-- The pieces along one axis are those of the shapes along it.
use Rattle.std.proofs.Common.{◌≡◌, ◌⊎◌, inl, inr, ◌↔◌, Bool, true, false, not, cond, ℤ, List, [], ◌++◌, filter, All, AllPairs, Contains, subst, refl, sym, ap, ◌∙◌}
use Rattle.std.proofs.lemmas.Bool.{false≢true}
use Rattle.std.proofs.lemmas.List.Elements.{All-filter, All-contains, All-contains_itself, All-weaker, Contains-append_cases, filter_passes}
use Rattle.std.proofs.lemmas.List.Sorted.{IsPermutation-filter_both, Contains-permutation}
use Rattle.std.specs.Ordering.{is_lt}
use Rattle.geom_rect.specs.declared.direction.Axis.{Axis}
use Rattle.geom_rect.specs.declared.direction.Axis.TheVariants.{X, Y}
use Rattle.geom_rect.specs.declared.drawn.Drawn.{Drawn}
use Rattle.geom_rect.specs.declared.run.Run.{Run}
use Rattle.geom_rect.specs.Run.{IsMaximal}
use Rattle.grid_pieces.specs.declared.line.Line.{Line}
use Rattle.grid_pieces.specs.declared.piece.Piece.{Piece}
use Rattle.grid_pieces.specs.Limits.{OneAxis}
use Rattle.grid_pieces.specs.Line.{drawn_line, piece_line, piece_run}
use Rattle.grid_pieces.specs.Piece.{IsCovered, IsPiece, ArePieces}
use Rattle.wire_pieces.specs.Pieces.{is_upright}
use Rattle.wire_pieces.specs.inside.Axes.{same, goes_along, ArePiecesAlong}

-- one that passes is kept
pub filter_keeps : {T : Type 0} (test : T → Bool) (xs : List T) (x : T) → Contains xs x → test x ≡ true → Contains (filter test xs) x
filter_keeps {T} test xs x among passes =
    by_part (Contains-append_cases (filter test xs) (filter dropped xs) x
    (Contains-permutation xs (filter test xs ++ filter dropped xs) x (IsPermutation-filter_both test dropped (λ _. refl) xs) among))
  where
    dropped : T → Bool
    dropped y = not (test y)

    by_part : Contains (filter test xs) x ⊎ Contains (filter dropped xs) x → Contains (filter test xs) x
    by_part (inl kept) = kept
    by_part (inr other) =
        let none : not (test x) ≡ true = All-contains (λ y. not (test y) ≡ true) (filter dropped xs) x (filter_passes dropped xs) other in
        absurd (false≢true (sym (ap not passes) ∙ none))

filter_had : {T : Type 0} (test : T → Bool) (xs : List T) (x : T) → Contains (filter test xs) x → Contains xs x
filter_had test xs x kept = All-contains (Contains xs) (filter test xs) x (All-filter test (Contains xs) xs (All-contains_itself xs)) kept

filter_passed : {T : Type 0} (test : T → Bool) (xs : List T) (x : T) → Contains (filter test xs) x → test x ≡ true
filter_passed test xs x kept = All-contains (λ y. test y ≡ true) (filter test xs) x (filter_passes test xs) kept

-- two answers that are one
same_is : (a b : Bool) → same a b ≡ true → a ≡ b
same_is true b is = sym is
same_is false true is = absurd (false≢true is)
same_is false false is = refl

is_same : (a b : Bool) → a ≡ b → same a b ≡ true
is_same true b is = sym is
is_same false true is = absurd (false≢true is)
is_same false false is = refl

axis_is : (a b : Axis) → is_upright a ≡ is_upright b → a ≡ b
axis_is X X is = refl
axis_is X Y is = absurd (false≢true is)
axis_is Y X is = absurd (false≢true (sym is))
axis_is Y Y is = refl

-- the shapes along one axis have one axis
pub one_axis : (shapes : List Drawn) (upright : Bool) → OneAxis (filter (goes_along upright) shapes)
one_axis shapes upright a b has_a has_b layer =
    axis_is a.axis b.axis (same_is (is_upright a.axis) upright (filter_passed (goes_along upright) shapes a has_a) ∙ sym (same_is (is_upright b.axis) upright (filter_passed (goes_along upright) shapes b has_b)))

maximal_same : (P Q : ℤ → Type 0) (run : Run) → ((t : ℤ) → P t ↔ Q t) → IsMaximal P run → IsMaximal Q run
maximal_same P Q run alike is = record {
  some = is.some;
  each = λ t has. (alike t).0 (is.each t has);
  before = λ q. is.before ((alike _).1 q);
  after = λ q. is.after ((alike _).1 q);
}

-- the shapes of one line alone decide what its pieces are
piece_same : (one other : List Drawn) (p : Piece) → ((s : Drawn) → drawn_line s ≡ piece_line p → Contains one s → Contains other s)
    → ((s : Drawn) → drawn_line s ≡ piece_line p → Contains other s → Contains one s) → IsPiece one [] p → IsPiece other [] p
piece_same one other p there back is = record {
  cells = maximal_same (IsCovered one [] (piece_line p)) (IsCovered other [] (piece_line p)) (piece_run p) covered is.cells;
  kind = (is.kind.0, there is.kind.0 is.kind.2.0 is.kind.1, is.kind.2);
  first = λ kind less w. is.first kind less (w.0, back w.0 w.2.0 w.1, w.2);
}
  where
    covered : (t : ℤ) → IsCovered one [] (piece_line p) t ↔ IsCovered other [] (piece_line p) t
    covered t = (
      λ w. ((w.0.0, there w.0.0 w.0.2.0 w.0.1, w.0.2), w.1),
      λ w. ((w.0.0, back w.0.0 w.0.2.0 w.0.1, w.0.2), w.1),
    )

line_axis : (s : Drawn) (p : Piece) → drawn_line s ≡ piece_line p → s.axis ≡ p.axis
line_axis s p is = ap (λ (l : Line). l.axis) is

pub pieces_along : (shapes : List Drawn) (upright : Bool) (pieces : List Piece) → ArePieces (filter (goes_along upright) shapes) [] pieces → ArePiecesAlong shapes upright pieces
pieces_along shapes upright pieces are = record {
  each = All-weaker (IsPiece some []) (IsPiece shapes []) (λ p is. all_of p (turned p is) is) pieces are.each;
  along = All-weaker (IsPiece some []) (λ (p : Piece). is_upright p.axis ≡ upright) (λ p is. turned p is) pieces are.each;
  every = λ p axis is. are.every p (some_of p axis is);
  in_order = are.in_order;
}
  where
    some : List Drawn
    some = filter (goes_along upright) shapes

    -- a piece of some goes along the axis
    turned : (p : Piece) → IsPiece (filter (goes_along upright) shapes) [] p → is_upright p.axis ≡ upright
    turned p is =
        let s = is.kind in
        ap is_upright (sym (line_axis s.0 p s.2.0)) ∙ same_is (is_upright s.0.axis) upright (filter_passed (goes_along upright) shapes s.0 s.1)

    away : (p : Piece) (s : Drawn) → drawn_line s ≡ piece_line p → Contains (filter (goes_along upright) shapes) s → Contains shapes s
    away p s line has = filter_had (goes_along upright) shapes s has

    home : (p : Piece) → is_upright p.axis ≡ upright → (s : Drawn) → drawn_line s ≡ piece_line p → Contains shapes s → Contains (filter (goes_along upright) shapes) s
    home p axis s line has = filter_keeps (goes_along upright) shapes s has (is_same (is_upright s.axis) upright (ap is_upright (line_axis s p line) ∙ axis))

    all_of : (p : Piece) → is_upright p.axis ≡ upright → IsPiece (filter (goes_along upright) shapes) [] p → IsPiece shapes [] p
    all_of p axis is = piece_same (filter (goes_along upright) shapes) shapes p (away p) (home p axis) is

    some_of : (p : Piece) → is_upright p.axis ≡ upright → IsPiece shapes [] p → IsPiece (filter (goes_along upright) shapes) [] p
    some_of p axis is = piece_same shapes (filter (goes_along upright) shapes) p (home p axis) (away p) is
