-- The pieces that are made of the maximal runs of one line are the pieces of that line.
use Rattle.std.proofs.Common.{◌≡◌, ℕ, ◌<◌, ◌↔◌, ℤ, ◌<ℤ◌, List, length, get_or, map, All, AllPairs, Contains, subst, refl, sym, ap, ◌∙◌, arith}
use Rattle.std.proofs.lemmas.Int.{ints}
use Rattle.std.proofs.lemmas.List.{get_or-map, length-map}
use Rattle.std.proofs.lemmas.List.Elements.{All-contains}
use Rattle.geom_rect.specs.declared.drawn.Drawn.{Drawn}
use Rattle.geom_rect.specs.declared.drawn.Shape.{Shape}
use Rattle.geom_rect.specs.declared.drawn.Shape.TheVariants.{Ring, Stripe, FollowPin}
use Rattle.geom_rect.specs.declared.run.Run.{Run}
use Rattle.geom_rect.specs.Run.{HasCell, IsHeld, IsOpen, IsMaximal, AreMaximalRuns}
use Rattle.grid_pieces.specs.declared.line.Line.{Line}
use Rattle.grid_pieces.specs.declared.piece.Piece.{Piece}
use Rattle.grid_pieces.specs.declared.piece.Block.{Block}
use Rattle.geom_rect.specs.Drawn.{drawn_run}
use Rattle.grid_pieces.specs.Line.{drawn_line, piece_line, piece_run}
use Rattle.grid_pieces.specs.Piece.{IsDrawn, IsBlocked, IsCovered, HasKind, place_of, IsPiece}
use Rattle.grid_pieces.specs.inside.Cutting.{IsOfKind, ShareCell, IsKindOf, AreMadeOf, ArePiecesOf}
use Rattle.grid_pieces.specs.Laws.Amongst.{Among-map}
use Rattle.grid_pieces.specs.Laws.Maximal.{maximal_among, AreMaximalRuns-same}

-- what the steps give: the shapes of a line, their covered and blocked runs, those of rings and of stripes, and the maximal open runs of each
pub record IsCut (shapes : List Drawn) (blocks : List Block) (line : Line) (covered blocked ring_runs stripe_runs whole rings stripes : List Run) : Type 0 where
  pub on_line : All (λ (s : Drawn). drawn_line s ≡ line) shapes
  pub is_covered : covered ≡ map drawn_run shapes
  pub is_blocked : (t : ℤ) → IsHeld blocked t ↔ IsBlocked blocks line t
  pub of_rings : (t : ℤ) → IsHeld ring_runs t ↔ IsOfKind shapes Ring t
  pub of_stripes : (t : ℤ) → IsHeld stripe_runs t ↔ IsOfKind shapes Stripe t
  pub whole_runs : AreMaximalRuns (IsOpen covered blocked) whole
  pub ring_open : AreMaximalRuns (IsOpen ring_runs blocked) rings
  pub stripe_open : AreMaximalRuns (IsOpen stripe_runs blocked) stripes

drawn_iff : (shapes : List Drawn) (line : Line) (covered : List Run) → All (λ (s : Drawn). drawn_line s ≡ line) shapes → covered ≡ map drawn_run shapes
    → (t : ℤ) → IsHeld covered t ↔ IsDrawn shapes line t
drawn_iff shapes line covered on_line is t =
    let images = Among-map drawn_run (λ (r : Run). HasCell r t) shapes in (
      λ w. let s = images.0 (subst (λ rs. IsHeld rs t) is w) in (s.0, s.1, (All-contains (λ (s : Drawn). drawn_line s ≡ line) shapes s.0 on_line s.1, s.2)),
      λ w. subst (λ rs. IsHeld rs t) (sym is) (images.1 (w.0, w.1, w.2.1)),
    )

covered_iff : (shapes : List Drawn) (blocks : List Block) (line : Line) (covered blocked : List Run) → ((t : ℤ) → IsHeld covered t ↔ IsDrawn shapes line t)
    → ((t : ℤ) → IsHeld blocked t ↔ IsBlocked blocks line t) → (t : ℤ) → IsOpen covered blocked t ↔ IsCovered shapes blocks line t
covered_iff shapes blocks line covered blocked drawn is_blocked t = (
  λ w. ((drawn t).0 w.0, λ b. w.1 ((is_blocked t).1 b)),
  λ w. ((drawn t).1 w.0, λ b. w.1 ((is_blocked t).0 b)),
)

-- a piece of the line shares a cell with the open runs of a kind exactly where a shape of this kind has a cell of it
kind_iff : (shapes : List Drawn) (blocks : List Block) (line : Line) (blocked runs maximal : List Run) (kind : Shape) (p : Piece)
    → All (λ (s : Drawn). drawn_line s ≡ line) shapes → ((t : ℤ) → IsHeld blocked t ↔ IsBlocked blocks line t) → ((t : ℤ) → IsHeld runs t ↔ IsOfKind shapes kind t)
    → AreMaximalRuns (IsOpen runs blocked) maximal → piece_line p ≡ line → ((t : ℤ) → HasCell (piece_run p) t → IsCovered shapes blocks line t)
    → ShareCell maximal (piece_run p) ↔ HasKind shapes p kind
kind_iff shapes blocks line blocked runs maximal kind p on_line is_blocked of_kind are is_line covered = (there, back)
  where
    there : ShareCell maximal (piece_run p) → HasKind shapes p kind
    there w =
        let run = w.2.0 in
        let is_open : IsOpen runs blocked w.0 = (All-contains (IsMaximal (IsOpen runs blocked)) maximal run are.maximal w.2.1).each w.0 w.2.2 in
        let s = (of_kind w.0).0 is_open.0 in
        (s.0, s.1, (All-contains (λ (s : Drawn). drawn_line s ≡ line) shapes s.0 on_line s.1 ∙ sym is_line, s.2.0, (w.0, w.1, s.2.1)))

    back : HasKind shapes p kind → ShareCell maximal (piece_run p)
    back s =
        let t = s.2.2.0 in
        let held : IsHeld runs t = (of_kind t).1 (s.0, s.1, (s.2.1, s.2.2.2)) in
        (t, s.2.2.1, are.every t (held, λ b. (covered t s.2.2.1).1 ((is_blocked t).0 b)))

-- the first kind is the first of the kinds that have a cell
first_kind : (shapes : List Drawn) (p : Piece) (rings stripes : List Run) (shape : Shape)
    → ShareCell rings (piece_run p) ↔ HasKind shapes p Ring → ShareCell stripes (piece_run p) ↔ HasKind shapes p Stripe
    → ((kind : Shape) × HasKind shapes p kind) → IsKindOf rings stripes (piece_run p) shape
    → HasKind shapes p shape × ((kind : Shape) → place_of kind < place_of shape → HasKind shapes p kind → ⊥)
first_kind shapes p rings stripes Ring of_rings of_stripes some is = (of_rings.0 is, none)
  where
    none : (kind : Shape) → place_of kind < 0 → HasKind shapes p kind → ⊥
    none kind less has = absurd (omega arith)
first_kind shapes p rings stripes Stripe of_rings of_stripes some is = (of_stripes.0 is.1, none)
  where
    none : (kind : Shape) → place_of kind < 1 → HasKind shapes p kind → ⊥
    none Ring less has = is.0 (of_rings.1 has)
    none Stripe less has = absurd (omega arith)
    none FollowPin less has = absurd (omega arith)
first_kind shapes p rings stripes FollowPin of_rings of_stripes some is = (left some.0 some.1, none)
  where
    none : (kind : Shape) → place_of kind < 2 → HasKind shapes p kind → ⊥
    none Ring less has = is.0 (of_rings.1 has)
    none Stripe less has = is.1 (of_stripes.1 has)
    none FollowPin less has = absurd (omega arith)

    left : (kind : Shape) → HasKind shapes p kind → HasKind shapes p FollowPin
    left Ring has = absurd (is.0 (of_rings.1 has))
    left Stripe has = absurd (is.1 (of_stripes.1 has))
    left FollowPin has = has

same_place : (a b : Shape) → (place_of a < place_of b → ⊥) → (place_of b < place_of a → ⊥) → a ≡ b
same_place Ring Ring _ _ = refl
same_place Ring Stripe low high = absurd (low (omega arith))
same_place Ring FollowPin low high = absurd (low (omega arith))
same_place Stripe Ring low high = absurd (high (omega arith))
same_place Stripe Stripe _ _ = refl
same_place Stripe FollowPin low high = absurd (low (omega arith))
same_place FollowPin Ring low high = absurd (high (omega arith))
same_place FollowPin Stripe low high = absurd (high (omega arith))
same_place FollowPin FollowPin _ _ = refl

-- of one line and run there is one piece
pub same_piece : (shapes : List Drawn) (blocks : List Block) (p q : Piece) → IsPiece shapes blocks p → IsPiece shapes blocks q → piece_line p ≡ piece_line q → piece_run p ≡ piece_run q → p ≡ q
same_piece shapes blocks p q p_is q_is line run =
    let q_kind : HasKind shapes p q.shape = moved q p (sym line) (sym run) q.shape q_is.kind in
    let p_kind : HasKind shapes q p.shape = moved p q line run p.shape p_is.kind in
    let shape : p.shape ≡ q.shape = same_place p.shape q.shape (λ less. q_is.first p.shape less p_kind) (λ less. p_is.first q.shape less q_kind) in
    λ i. record {
      net = (line i).net;
      layer = (line i).layer;
      axis = (line i).axis;
      centre = (line i).centre;
      width = (line i).width;
      from = (run i).from;
      to = (run i).to;
      shape = shape i;
    }
  where
    moved : (a b : Piece) → piece_line a ≡ piece_line b → piece_run a ≡ piece_run b → (kind : Shape) → HasKind shapes a kind → HasKind shapes b kind
    moved a b l r kind w = (w.0, w.1, (w.2.0 ∙ l, w.2.1, (w.2.2.0, subst (λ (x : Run). HasCell x w.2.2.0) r w.2.2.1, w.2.2.2)))

pub pieces_of : (shapes : List Drawn) (blocks : List Block) (line : Line) (covered blocked ring_runs stripe_runs whole rings stripes : List Run) (pieces : List Piece)
    → IsCut shapes blocks line covered blocked ring_runs stripe_runs whole rings stripes → AreMadeOf line whole rings stripes pieces → ArePiecesOf shapes blocks line pieces
pieces_of shapes blocks line covered blocked ring_runs stripe_runs whole rings stripes pieces cut made = record {
  lines = made.lines;
  each = λ k d within. is_piece k d within;
  every = every;
  rising = rising;
}
  where
    are : AreMaximalRuns (IsCovered shapes blocks line) whole
    are =
        AreMaximalRuns-same _ _ (covered_iff shapes blocks line covered blocked (drawn_iff shapes line covered cut.on_line cut.is_covered) cut.is_blocked) whole cut.whole_runs

    long : length pieces ≡ length whole
    long = sym (length-map pieces piece_run) ∙ ap length made.runs

    run_at : (k : ℕ) (d : Piece) (e : Run) → k < length pieces → get_or whole k e ≡ piece_run (get_or pieces k d)
    run_at k d e within = sym (ap (λ rs. get_or rs k e) made.runs) ∙ get_or-map piece_run pieces k d e within

    maximal_at : (k : ℕ) (d : Piece) → k < length pieces → IsMaximal (IsCovered shapes blocks line) (piece_run (get_or pieces k d))
    maximal_at k d within =
        subst (IsMaximal (IsCovered shapes blocks line)) (run_at k d (piece_run d) within) (are.maximal k (piece_run d) (omega (arith, long)))

    is_piece : (k : ℕ) (d : Piece) → k < length pieces → IsPiece shapes blocks (get_or pieces k d)
    is_piece k d within =
        let p = get_or pieces k d in
        let is_line : piece_line p ≡ line = made.lines k d within in
        let maximal = maximal_at k d within in
        let some = maximal.some in
        let of_rings = kind_iff shapes blocks line blocked ring_runs rings Ring p cut.on_line cut.is_blocked cut.of_rings cut.ring_open is_line maximal.each in
        let of_stripes = kind_iff shapes blocks line blocked stripe_runs stripes Stripe p cut.on_line cut.is_blocked cut.of_stripes cut.stripe_open is_line maximal.each in
        let has : HasCell (piece_run p) p.from = (omega (arith, ints), some) in
        let s = (maximal.each p.from has).0 in
        let kind = first_kind shapes p rings stripes p.shape of_rings of_stripes (s.0.shape, (s.0, s.1, (s.2.0 ∙ sym is_line, refl, (p.from, has, s.2.1)))) (made.kinds k d within) in
        record {
          cells = subst (λ (l : Line). IsMaximal (IsCovered shapes blocks l) (piece_run p)) (sym is_line) maximal;
          kind = kind.0;
          first = kind.1;
        }

    every : (p : Piece) → piece_line p ≡ line → IsPiece shapes blocks p → Contains pieces p
    every p is_line is =
        let maximal = subst (λ (l : Line). IsMaximal (IsCovered shapes blocks l) (piece_run p)) is_line is.cells in
        let among = maximal_among (IsCovered shapes blocks line) whole (piece_run p) are maximal in
        let k = among.0 in
        let within : k < length pieces = omega (arith, long, among.1) in
        let same_run : piece_run (get_or pieces k p) ≡ piece_run p = sym (run_at k p (piece_run p) within) ∙ among.2 in
        (k, within, same_piece shapes blocks (get_or pieces k p) p (is_piece k p within) is (made.lines k p within ∙ sym is_line) same_run)

    rising : AllPairs (λ (a b : Piece). a.from <ℤ b.from) pieces
    rising i j d less within =
        let rises : (get_or whole i (piece_run d)).from <ℤ (get_or whole j (piece_run d)).from = are.rising i j (piece_run d) less (omega (arith, long)) in
        subst (λ (r : Run). r.from <ℤ (get_or pieces j d).from) (run_at i d (piece_run d) (omega arith))
        (subst (λ (r : Run). (get_or whole i (piece_run d)).from <ℤ r.from) (run_at j d (piece_run d) within) rises)
