-- Pieces that are drawn again are the same pieces.
use Rattle.std.proofs.Common.{◌≡◌, ℕ, ◌<◌, ℤ, ◌<ℤ◌, ◌≤ℤ◌, true, List, [], All, get_or, refl, sym, ap, ◌∙◌, subst, arith}
use Rattle.std.specs.Prelude.{AllPairs, Contains}
use Rattle.std.specs.declared.cmp.Ordering.{Ordering}
use Rattle.std.specs.declared.cmp.Ordering.TheVariants.{Less, Equal, Greater}
use Rattle.std.specs.Cmp.{IsTotalOrder, bool_cmp_total}
use Rattle.std.proofs.lemmas.Bool.{false≢true}
use Rattle.std.proofs.lemmas.Cmp.{nat_cmp_total, int_cmp_total, on_total, then_total}
use Rattle.std.proofs.lemmas.List.{get_or_default}
use Rattle.std.specs.Ordering.{ordering_then, bool_cmp, ordering_reverse, is_lt}
use Rattle.std.proofs.lemmas.Int.{ints}
use Rattle.std.proofs.lemmas.List.Elements.{All-contains}
use Rattle.geom_rect.specs.declared.drawn.Drawn.{Drawn}
use Rattle.geom_rect.specs.declared.drawn.Shape.{Shape}
use Rattle.geom_rect.specs.declared.run.Run.{Run}
use Rattle.geom_rect.specs.Run.{HasCell, IsMaximal}
use Rattle.grid_pieces.specs.declared.line.Line.{Line}
use Rattle.grid_pieces.specs.declared.piece.Block.{Block}
use Rattle.grid_pieces.specs.declared.piece.Piece.{Piece}
use Rattle.grid_pieces.specs.Laws.Amongst.{Among-none}
use Rattle.grid_pieces.specs.Laws.Maximal.{same_run}
use Rattle.grid_pieces.specs.Line.{piece_line, piece_run}
use Rattle.grid_pieces.specs.Piece.{Among, IsCovered, HasKind, place_of, IsPiece, piece_order, ArePieces}
use Rattle.wire_pieces.specs.Pieces.{is_upright, wire_order, AreWirePieces}
use Rattle.grid_network.specs.Laws.Unique.{same_lists}
use Rattle.redrawn_pieces.specs.Redrawn.{shape_of, AreRedrawn}

-- ## the order

less_then : (a b : Ordering) → is_lt a ≡ true → is_lt (ordering_then a b) ≡ true
less_then Less b h = refl
less_then Equal b h = absurd (false≢true h)
less_then Greater b h = absurd (false≢true h)

reversed : (o : Ordering) → is_lt o ≡ true → is_lt (ordering_reverse o) ≡ true → ⊥
reversed Less is back = absurd (false≢true back)
reversed Equal is back = absurd (false≢true is)
reversed Greater is back = absurd (false≢true is)

wire_total : IsTotalOrder wire_order
wire_total =
    then_total
    (then_total
    (then_total (then_total (then_total (on_total (λ (a : Piece). a.net) nat_cmp_total) (on_total (λ (a : Piece). a.layer) nat_cmp_total)) (on_total (λ (a : Piece). a.centre) int_cmp_total))
    (on_total (λ (a : Piece). a.from) int_cmp_total))
    (on_total (λ (a : Piece). a.width) int_cmp_total))
    (on_total (λ (a : Piece). is_upright a.axis) bool_cmp_total)

one_way : (a b : Piece) → is_lt (wire_order a b) ≡ true → is_lt (wire_order b a) ≡ true → ⊥
one_way a b one other = reversed (wire_order a b) one (subst (λ (o : Ordering). is_lt o ≡ true) (wire_total.antisymm b a) other)

-- ## the pieces

-- the piece at a line and a run, with a kind
same_piece : (a b : Piece) → piece_line a ≡ piece_line b → piece_run a ≡ piece_run b → a.shape ≡ b.shape → a ≡ b
same_piece a b line run shape i = record {
  net = (line i).net;
  layer = (line i).layer;
  axis = (line i).axis;
  centre = (line i).centre;
  width = (line i).width;
  from = (run i).from;
  to = (run i).to;
  shape = shape i;
}

module _ (drawn : List Drawn) (blocks : List Block) (pieces : List Piece) (are : ArePieces drawn blocks pieces) (shapes : List Drawn) (redrawn : AreRedrawn pieces shapes) where
  piece_is : (p : Piece) → Contains pieces p → IsPiece drawn blocks p
  piece_is p in_pieces = All-contains (IsPiece drawn blocks) pieces p are.each in_pieces

  -- a cell that is drawn again is one of a piece
  covered_by : (line : Line) (t : ℤ) → IsCovered shapes [] line t → Among (λ (p : Piece). (piece_line p ≡ line) × HasCell (piece_run p) t) pieces
  covered_by line t ((shape, in_shapes, (on_line, cell)), _) =
      let (p, in_pieces, is) = All-contains (λ (s : Drawn). Among (λ (q : Piece). s ≡ shape_of q) pieces) shapes shape redrawn.each in_shapes in
      (p, in_pieces, (ap drawn_line_of (sym is) ∙ on_line, subst (λ (s : Drawn). HasCell (run_of s) t) is cell))
    where
      drawn_line_of : Drawn → Line
      drawn_line_of s = record { net = s.net; layer = s.layer; axis = s.axis; centre = s.centre; width = s.width }

      run_of : Drawn → Run
      run_of s = record { from = s.from; to = s.to }

  -- and was covered
  was : (line : Line) (t : ℤ) → IsCovered shapes [] line t → IsCovered drawn blocks line t
  was line t covered =
      let (p, in_pieces, (on_line, cell)) = covered_by line t covered in
      subst (λ (l : Line). IsCovered drawn blocks l t) on_line ((piece_is p in_pieces).cells.each t cell)

  -- a cell of a piece is drawn again
  is_again : (p : Piece) → Contains pieces p → (t : ℤ) → HasCell (piece_run p) t → IsCovered shapes [] (piece_line p) t
  is_again p in_pieces t cell =
      ((shape_of p, All-contains (λ (q : Piece). Contains shapes (shape_of q)) pieces p redrawn.every in_pieces, (refl, cell)), Among-none _)

  maximal_again : (p : Piece) → Contains pieces p → IsMaximal (IsCovered shapes [] (piece_line p)) (piece_run p)
  maximal_again p in_pieces =
      let old = (piece_is p in_pieces).cells in
      record {
        some = old.some;
        each = is_again p in_pieces;
        before = λ c. old.before (was (piece_line p) _ c);
        after = λ c. old.after (was (piece_line p) _ c);
      }

  -- a piece of a line that has a cell of a maximal run is that run
  one_run : (q : Piece) → Contains pieces q → (line : Line) (run : Run) (t : ℤ) → piece_line q ≡ line → IsMaximal (IsCovered shapes [] line) run
      → HasCell (piece_run q) t → HasCell run t → piece_run q ≡ run
  one_run q in_pieces line run t on_line maximal cell cell' =
      same_run (IsCovered shapes [] line) (piece_run q) run t
      (subst (λ (l : Line). IsMaximal (IsCovered shapes [] l) (piece_run q)) on_line (maximal_again q in_pieces)) maximal cell cell'

  -- the piece of a kind that is drawn again
  piece_of_kind : (p : Piece) (kind : Shape) → IsMaximal (IsCovered shapes [] (piece_line p)) (piece_run p) → HasKind shapes p kind
      → Among (λ (q : Piece). (piece_line q ≡ piece_line p) × (piece_run q ≡ piece_run p) × (q.shape ≡ kind)) pieces
  piece_of_kind p kind maximal (shape, in_shapes, (on_line, of_kind, (t, cell, cell'))) =
      let (q, in_pieces, is) = All-contains (λ (s : Drawn). Among (λ (q : Piece). s ≡ shape_of q) pieces) shapes shape redrawn.each in_shapes in
      let line : piece_line q ≡ piece_line p = ap line_of (sym is) ∙ on_line in
      (q, in_pieces, (line, one_run q in_pieces (piece_line p) (piece_run p) t line maximal (subst (λ (s : Drawn). HasCell (run_of s) t) is cell') cell, ap (λ (s : Drawn). s.shape) (sym is) ∙ of_kind))
    where
      line_of : Drawn → Line
      line_of s = record { net = s.net; layer = s.layer; axis = s.axis; centre = s.centre; width = s.width }

      run_of : Drawn → Run
      run_of s = record { from = s.from; to = s.to }

  -- the kinds of a piece are told by its line and its run
  kind_moved : (a b : Piece) (kind : Shape) → piece_line a ≡ piece_line b → piece_run a ≡ piece_run b → HasKind drawn a kind → HasKind drawn b kind
  kind_moved a b kind line run (shape, in_drawn, (on_line, of_kind, (t, cell, cell'))) =
      (shape, in_drawn, (on_line ∙ line, of_kind, (t, subst (λ (r : Run). HasCell r t) run cell, cell')))

  piece_again : (p : Piece) → Contains pieces p → IsPiece shapes [] p
  piece_again p in_pieces = record {
    cells = maximal_again p in_pieces;
    kind = (shape_of p, All-contains (λ (q : Piece). Contains shapes (shape_of q)) pieces p redrawn.every in_pieces, (refl, refl, (p.from, cell, cell)));
    first = λ kind less has.
        let (q, in_q, (line, run, of_kind)) = piece_of_kind p kind (maximal_again p in_pieces) has in
        (piece_is p in_pieces).first kind less (subst (HasKind drawn p) of_kind (kind_moved q p q.shape line run (piece_is q in_q).kind));
  }
    where
      some : p.from <ℤ p.to
      some = (piece_is p in_pieces).cells.some

      cell : HasCell (piece_run p) p.from
      cell = (omega (arith, ints), some)

  every_again : (p : Piece) → IsPiece shapes [] p → Contains pieces p
  every_again p is =
      let (q, in_pieces, (line, run, shape)) = piece_of_kind p p.shape is.cells is.kind in
      subst (Contains pieces) (same_piece q p line run shape) in_pieces

  pub are_again : AreWirePieces shapes pieces
  are_again = record {
    each = λ k d within. piece_again (get_or pieces k d) (k, within, get_or_default pieces k (get_or pieces k d) d within);
    every = every_again;
    in_order = λ i j d less within. less_then (piece_order (get_or pieces i d) (get_or pieces j d)) (bool_cmp (is_upright (get_or pieces i d).axis) (is_upright (get_or pieces j d).axis)) (are.in_order i j d less within);
  }

  pub one_again : (again : List Piece) → AreWirePieces shapes again → again ≡ pieces
  one_again again wires =
      same_lists (λ (a b : Piece). is_lt (wire_order a b) ≡ true) one_way again pieces wires.in_order are_again.in_order
      (λ p. (
        λ in_again. every_again p (All-contains (IsPiece shapes []) again p wires.each in_again),
        λ in_pieces. wires.every p (piece_again p in_pieces),
      ))
