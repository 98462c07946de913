-- Line by line: the pieces of one more line, and all pieces in order.
use Rattle.std.proofs.Common.{◌≡◌, ℕ, ◌+◌, ◌-◌, ◌<◌, ◌≤◌, ◌↔◌, ◌⊎◌, inl, inr, ℤ, ◌<ℤ◌, List, ◌++◌, length, get_or, take, AllPairs, Contains, subst, refl, sym, ap, ◌∙◌, arith, length-append, drop, length-drop}
use Rattle.std.proofs.lemmas.Int.{ints}
use Rattle.std.proofs.lemmas.Bool.{cases_lt}
use Rattle.std.proofs.lemmas.List.{get_or_append_left, get_or-append_right, get_or-take, get_or-drop, get_or_default, length-take-le}
use Rattle.std.proofs.lemmas.List.Elements.{All-append, All-contains, Contains-get_or, Contains-append_left, Contains-append_right}
use Rattle.geom_rect.specs.declared.drawn.Drawn.{Drawn}
use Rattle.geom_rect.specs.declared.run.Run.{Run}
use Rattle.geom_rect.specs.Run.{IsMaximal}
use Rattle.grid_pieces.specs.declared.line.Line.{Line}
use Rattle.grid_pieces.specs.declared.piece.Piece.{Piece}
use Rattle.grid_pieces.specs.declared.piece.Block.{Block}
use Rattle.grid_pieces.specs.Line.{drawn_line, piece_line, piece_run}
use Rattle.grid_pieces.specs.Piece.{Among, IsCovered, IsPiece}
use Rattle.grid_pieces.specs.inside.Blockages.{BlockAlike}
use Rattle.grid_pieces.specs.inside.Cutting.{ArePiecesOf, ArePiecesUpTo, AreApart, IsGrouped}

maximal_same : (P Q : ℤ → Type 0) (run : Run) → ((t : ℤ) → P t ↔ Q t) → IsMaximal P run → IsMaximal Q run
maximal_same P Q run same is = record {
  some = is.some;
  each = λ t has. (same t).0 (is.each t has);
  before = λ q. is.before ((same _).1 q);
  after = λ q. is.after ((same _).1 q);
}

-- the shapes of one line alone decide what its pieces are
pub piece_same : (one other : List Drawn) (blocks : List Block) (p : Piece) → ((s : Drawn) → drawn_line s ≡ piece_line p → Contains one s → Contains other s)
    → ((s : Drawn) → drawn_line s ≡ piece_line p → Contains other s → Contains one s) → IsPiece one blocks p → IsPiece other blocks p
piece_same one other blocks p there back is = record {
  cells = maximal_same (IsCovered one blocks (piece_line p)) (IsCovered other blocks (piece_line p)) (piece_run p) covered is.cells;
  kind = (is.kind.0, there is.kind.0 is.kind.2.0 is.kind.1, is.kind.2);
  first = λ kind less w. is.first kind less (w.0, back w.0 w.2.0 w.1, w.2);
}
  where
    covered : (t : ℤ) → IsCovered one blocks (piece_line p) t ↔ IsCovered other blocks (piece_line p) t
    covered t = (
      λ w. ((w.0.0, there w.0.0 w.0.2.0 w.0.1, w.0.2), w.1),
      λ w. ((w.0.0, back w.0.0 w.0.2.0 w.0.1, w.0.2), w.1),
    )

pub contains_take : {X : Type 0} (xs : List X) (n k : ℕ) (d : X) → n ≤ length xs → k < n → Contains (take n xs) (get_or xs k d)
contains_take xs n k d within below =
    (k, omega (arith, length-take-le n xs within), get_or-take n xs k (get_or xs k d) below ∙ get_or_default xs k (get_or xs k d) d (omega arith))

-- one of the first n has its place below n
place_in_take : {X : Type 0} (xs : List X) (n : ℕ) (x : X) → n ≤ length xs → Contains (take n xs) x → (k : ℕ) × (k < n) × (get_or xs k x ≡ x)
place_in_take xs n x within w =
    let below : w.0 < n = omega (arith, length-take-le n xs within, w.1) in
    (w.0, below, sym (get_or-take n xs w.0 x below) ∙ w.2)

pub AllPairs-append : {X : Type 0} (R : X → X → Type 0) (xs ys : List X) → AllPairs R xs → AllPairs R ys → ((x y : X) → Contains xs x → Contains ys y → R x y) → AllPairs R (xs ++ ys)
AllPairs-append {X} R xs ys left right across i j d less within = by_place (cases_lt i (length xs)) (cases_lt j (length xs))
  where
    long : length (xs ++ ys) ≡ length xs + length ys
    long = length-append xs ys

    at_right : (k : ℕ) → length xs ≤ k → get_or (xs ++ ys) k d ≡ get_or ys (k - length xs) d
    at_right k behind = get_or-append_right xs ys (length xs) k d refl behind

    by_place : (i < length xs) ⊎ (length xs ≤ i) → (j < length xs) ⊎ (length xs ≤ j) → R (get_or (xs ++ ys) i d) (get_or (xs ++ ys) j d)
    by_place (inl i_left) (inl j_left) =
        subst (λ x. R x (get_or (xs ++ ys) j d)) (sym (get_or_append_left xs ys d i i_left)) (subst (λ y. R (get_or xs i d) y) (sym (get_or_append_left xs ys d j j_left)) (left i j d less j_left))
    by_place (inl i_left) (inr j_right) =
        subst (λ x. R x (get_or (xs ++ ys) j d)) (sym (get_or_append_left xs ys d i i_left))
        (subst (λ y. R (get_or xs i d) y) (sym (at_right j j_right))
        (across (get_or xs i d) (get_or ys (j - length xs) d) (Contains-get_or xs i d i_left) (Contains-get_or ys (j - length xs) d (omega (arith, long)))))
    by_place (inr i_right) (inl j_left) = absurd (omega arith)
    by_place (inr i_right) (inr j_right) =
        subst (λ x. R x (get_or (xs ++ ys) j d)) (sym (at_right i i_right))
        (subst (λ y. R (get_or ys (i - length xs) d) y) (sym (at_right j j_right)) (right (i - length xs) (j - length xs) d (omega arith) (omega (arith, long))))

-- the shapes from one place up to below another are those of one line
pub record IsLineOf (shapes group : List Drawn) (from to : ℕ) (line : Line) : Type 0 where
  pub some : from < to
  pub within : to ≤ length shapes
  pub on_line : (k : ℕ) (d : Drawn) → from ≤ k → k < to → drawn_line (get_or shapes k d) ≡ line
  pub before : (i j : ℕ) (d : Drawn) → i < from → from ≤ j → j < length shapes → drawn_line (get_or shapes i d) ≡ drawn_line (get_or shapes j d) → ⊥
  pub behind : (i j : ℕ) (d : Drawn) → i < to → to ≤ j → j < length shapes → drawn_line (get_or shapes i d) ≡ drawn_line (get_or shapes j d) → ⊥
  pub inside : (s : Drawn) → Contains group s → Contains shapes s
  pub all : (k : ℕ) (d : Drawn) → from ≤ k → k < to → Contains group (get_or shapes k d)

pub more_lines : (shapes group : List Drawn) (blocks : List Block) (from to : ℕ) (line : Line) (old new : List Piece) → IsLineOf shapes group from to line
    → ArePiecesUpTo shapes blocks (take from shapes) old → ArePiecesOf group blocks line new → ArePiecesUpTo shapes blocks (take to shapes) (old ++ new)
more_lines shapes group blocks from to line old new of before more = record {
  each = All-append (IsPiece shapes blocks) old new before.each (λ k d within. up (get_or new k d) (more.lines k d within) (more.each k d within));
  lines = All-append (λ (p : Piece). Among (λ (s : Drawn). drawn_line s ≡ piece_line p) (take to shapes)) old new
      (λ k d within. wider (get_or old k d) (before.lines k d within)) (λ k d within. first (get_or new k d) (more.lines k d within));
  every = λ p is w. found p is w (cases_lt (place_in_take shapes to w.0 of.within w.1).0 from);
  apart = AllPairs-append AreApart old new before.apart apart across;
}
  where
    on_from : (d : Drawn) → drawn_line (get_or shapes from d) ≡ line
    on_from d = of.on_line from d (omega arith) of.some

    -- a shape of the line is in the group
    grouped : (s : Drawn) → drawn_line s ≡ line → Contains shapes s → Contains group s
    grouped s on w = by_place (cases_lt w.0 from) (cases_lt w.0 to)
      where
        by_place : (w.0 < from) ⊎ (from ≤ w.0) → (w.0 < to) ⊎ (to ≤ w.0) → Contains group s
        by_place (inl early) _ =
            absurd (of.before w.0 from s early (omega arith) (omega (arith, of.some, of.within)) (ap drawn_line w.2 ∙ on ∙ sym (on_from s)))
        by_place (inr _) (inr late) = absurd (of.behind from w.0 s of.some late w.1 (on_from s ∙ sym on ∙ sym (ap drawn_line w.2)))
        by_place (inr not_early) (inl not_late) = subst (Contains group) w.2 (of.all w.0 s not_early not_late)

    up : (p : Piece) → piece_line p ≡ line → IsPiece group blocks p → IsPiece shapes blocks p
    up p is_line = piece_same group shapes blocks p (λ s on has. of.inside s has) (λ s on has. grouped s (on ∙ is_line) has)

    down : (p : Piece) → piece_line p ≡ line → IsPiece shapes blocks p → IsPiece group blocks p
    down p is_line = piece_same shapes group blocks p (λ s on has. grouped s (on ∙ is_line) has) (λ s on has. of.inside s has)

    wider : (p : Piece) → Among (λ (s : Drawn). drawn_line s ≡ piece_line p) (take from shapes) → Among (λ (s : Drawn). drawn_line s ≡ piece_line p) (take to shapes)
    wider p w =
        let place = place_in_take shapes from w.0 (omega (arith, of.some, of.within)) w.1 in
        (w.0, subst (Contains (take to shapes)) place.2 (contains_take shapes to place.0 w.0 of.within (omega (arith, of.some, place.1))), w.2)

    first : (p : Piece) → piece_line p ≡ line → Among (λ (s : Drawn). drawn_line s ≡ piece_line p) (take to shapes)
    first p is_line =
        let d : Drawn = record { net = p.net; layer = p.layer; axis = p.axis; centre = p.centre; width = p.width; from = p.from; to = p.to; shape = p.shape } in
        (get_or shapes from d, contains_take shapes to from d of.within of.some, on_from d ∙ sym is_line)

    found : (p : Piece) → IsPiece shapes blocks p → (w : Among (λ (s : Drawn). drawn_line s ≡ piece_line p) (take to shapes))
        → ((place_in_take shapes to w.0 of.within w.1).0 < from) ⊎ (from ≤ (place_in_take shapes to w.0 of.within w.1).0) → Contains (old ++ new) p
    found p is w (inl early) =
        let place = place_in_take shapes to w.0 of.within w.1 in
        Contains-append_left old new p
        (before.every p is (w.0, subst (Contains (take from shapes)) place.2 (contains_take shapes from place.0 w.0 (omega (arith, of.some, of.within)) early), w.2))
    found p is w (inr late) =
        let place = place_in_take shapes to w.0 of.within w.1 in
        let is_line : piece_line p ≡ line = sym w.2 ∙ sym (ap drawn_line place.2) ∙ of.on_line place.0 w.0 late place.1 in
        Contains-append_right old new p (more.every p is_line (down p is_line is))

    apart : AllPairs AreApart new
    apart i j d less within line_same from_same =
        let rises : (get_or new i d).from <ℤ (get_or new j d).from = more.rising i j d less within in
        omega (arith, ints)

    across : (p q : Piece) → Contains old p → Contains new q → AreApart p q
    across p q has_p has_q line_same from_same =
        let w = All-contains (λ (p : Piece). Among (λ (s : Drawn). drawn_line s ≡ piece_line p) (take from shapes)) old p before.lines has_p in
        let place = place_in_take shapes from w.0 (omega (arith, of.some, of.within)) w.1 in
        let q_line : piece_line q ≡ line = All-contains (λ (p : Piece). piece_line p ≡ line) new q more.lines has_q in
        of.before place.0 from w.0 place.1 (omega arith) (omega (arith, of.some, of.within)) (ap drawn_line place.2 ∙ w.2 ∙ line_same ∙ q_line ∙ sym (on_from w.0))

-- a part of a list has elements of the list, and those at its places
pub slice_inside : {X : Type 0} (xs : List X) (from to : ℕ) (x : X) → from ≤ to → to ≤ length xs → Contains (take (to - from) (drop from xs)) x → Contains xs x
slice_inside xs from to x in_order within w =
    let place = place_in_take (drop from xs) (to - from) x (omega (arith, length-drop from xs)) w in
    (from + place.0, omega (arith, place.1), sym (get_or-drop from xs place.0 x) ∙ place.2)

pub slice_has : {X : Type 0} (xs : List X) (from to k : ℕ) (d : X) → to ≤ length xs → from ≤ k → k < to → Contains (take (to - from) (drop from xs)) (get_or xs k d)
slice_has xs from to k d within low high =
    let at : from + (k - from) ≡ k = omega arith in
    subst (Contains (take (to - from) (drop from xs))) (get_or-drop from xs (k - from) d ∙ ap (λ n. get_or xs n d) at)
    (contains_take (drop from xs) (to - from) (k - from) d (omega (arith, length-drop from xs)) (omega arith))

-- no shape behind the end of a line lies on a line of those before it
pub none_behind : (shapes : List Drawn) (from to : ℕ) → IsGrouped shapes → from < to
    → ((k : ℕ) (d : Drawn) → from ≤ k → k < to → drawn_line (get_or shapes k d) ≡ drawn_line (get_or shapes from d))
    → ((d : Drawn) → to < length shapes → drawn_line (get_or shapes to d) ≡ drawn_line (get_or shapes from d) → ⊥)
    → ((i j : ℕ) (d : Drawn) → i < from → from ≤ j → j < length shapes → drawn_line (get_or shapes i d) ≡ drawn_line (get_or shapes j d) → ⊥)
    → (i j : ℕ) (d : Drawn) → i < to → to ≤ j → j < length shapes → drawn_line (get_or shapes i d) ≡ drawn_line (get_or shapes j d) → ⊥
none_behind shapes from to grouped some on_line ends before i j d early late within same = by_place (cases_lt i from)
  where
    by_place : (i < from) ⊎ (from ≤ i) → ⊥
    by_place (inl first) = before i j d first (omega arith) within same
    by_place (inr not_first) =
        let here : drawn_line (get_or shapes from d) ≡ drawn_line (get_or shapes j d) = sym (on_line i d not_first early) ∙ same in
        ends d (omega arith) (sym (grouped from to j d (omega arith) late within here))

-- blockages that block the same cells make the same pieces
pub blocks_same : (shapes : List Drawn) (one other : List Block) (p : Piece) → BlockAlike one other → IsPiece shapes one p → IsPiece shapes other p
blocks_same shapes one other p alike is = record {
  cells = maximal_same (IsCovered shapes one (piece_line p)) (IsCovered shapes other (piece_line p)) (piece_run p)
      (λ t. (λ w. (w.0, λ b. w.1 ((alike (piece_line p) t).1 b)), λ w. (w.0, λ b. w.1 ((alike (piece_line p) t).0 b)))) is.cells;
  kind = is.kind;
  first = is.first;
}
