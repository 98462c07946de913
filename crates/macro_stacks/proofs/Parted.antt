-- The stacks of both lists are those of each, and those of horizontal pieces of one with vertical ones of the other.
use Rattle.std.proofs.Common.{◌≡◌, ◌⊎◌, inl, inr, suc, ◌≤◌, Bool, true, List, [], ◌∷◌, ◌++◌, length, get_or, filter, All, AllPairs, Contains, Result, MatchResult, subst, refl, sym, ap, ◌∙◌, arith}
use Rattle.std.specs.Result.{IsErrAnd}
use Rattle.std.specs.declared.result.Result.TheVariants.{Ok, Err}
use Rattle.std.proofs.lemmas.Bool.{false≢true}
use Rattle.std.proofs.lemmas.List.Elements.{All-append, All-contains, All-weaker, Contains-append_cases, Contains-append_left, Contains-append_right, Contains-get_or, filter_passes}
use Rattle.std.proofs.lemmas.List.Kept.{AllPairs-cons, AllPairs-filter}
use Rattle.geom_rect.specs.declared.direction.Axis.{Axis}
use Rattle.geom_rect.specs.declared.direction.Axis.TheVariants.{X, Y}
use Rattle.lef_tech.specs.declared.tech.Tech.{Tech}
use Rattle.grid_pieces.specs.Limits.{PieceKeeps}
use Rattle.grid_pieces.specs.Laws.Amongst.{Among-filter}
use Rattle.grid_pieces.specs.declared.error.Counted.TheVariants.{Stacks}
use Rattle.grid_pieces.specs.declared.error.DrawError.{DrawError}
use Rattle.grid_pieces.specs.declared.error.DrawError.TheVariants.{TooMany, Want}
use Rattle.grid_pieces.specs.declared.line.Line.{Line}
use Rattle.grid_pieces.specs.declared.piece.Block.{Block}
use Rattle.grid_pieces.specs.declared.piece.Piece.{Piece}
use Rattle.grid_stacks.specs.Crossing.{Stands}
use Rattle.grid_stacks.specs.Stacking.{AreMany, AreStanding, IsEven, LieApart, most_stacks}
use Rattle.grid_stacks.specs.declared.connect.Connect.{Connect}
use Rattle.grid_stacks.specs.declared.connect.Site.{Site}
use Rattle.macro_stacks.specs.inside.Mixed.{goes, is_axis, mixed}
use Rattle.macro_stacks.specs.inside.Places.{PiecesKeep, AreAll, AreTooMany, Grows}
use Rattle.macro_stacks.proofs.Once.{behind, first}

-- The pieces of the first list are pieces of the second.
abbrev pub AreOf : List Piece → List Piece → Type 0
AreOf some pieces = (p : Piece) → Contains some p → Contains pieces p

All-part : (P : Piece → Type 0) (some pieces : List Piece) → AreOf some pieces → All P pieces → All P some
All-part P some pieces of all k d within = All-contains P pieces (get_or some k d) all (of (get_or some k d) (Contains-get_or some k d within))

-- what is asked of all pieces holds of a part of them
pub part_keeps : (tech : Tech) (connects : List Connect) (some pieces : List Piece) → AreOf some pieces → PiecesKeep tech connects pieces → PiecesKeep tech connects some
part_keeps tech connects some pieces of all = record {
  keep = All-part PieceKeeps some pieces of all.keep;
  even = All-part IsEven some pieces of all.even;
  along = λ connect piece connect_in piece_in on. all.along connect piece connect_in (of piece piece_in) on;
}

-- a stack of a part of the pieces is one of all
pub stands_more : (tech : Tech) (some pieces : List Piece) (connects : List Connect) (blocks : List Block) → AreOf some pieces → (s : Site) → Stands tech some connects blocks s
    → Stands tech pieces connects blocks s
stands_more tech some pieces connects blocks of s stands = record {
  connect = stands.connect;
  flat = stands.flat;
  upright = stands.upright;
  used = stands.used;
  flat_is = of stands.flat stands.flat_is;
  upright_is = of stands.upright stands.upright_is;
  cross = stands.cross;
  free = stands.free;
  is = stands.is;
}

-- an error is handed on
pub passed_on : {T E : Type 0} (P : T → Type 0) (Q : E → Type 0) (r : Result T E) (e : E) → IsErrAnd r (λ x. x ≡ e) → Q e → MatchResult r P Q
passed_on P Q (Ok x) e is h = absurd is
passed_on P Q (Err x) e is h = subst Q (sym is) h

-- those with a property are too many: those with a weaker one are
pub too_many : (P Q : Site → Type 0) → ((s : Site) → P s → Q s) → (e : DrawError) → AreTooMany P e → AreTooMany Q e
too_many P Q gives (TooMany Stacks) many = record { some = many.some; each = All-weaker P Q gives many.some many.each; differ = many.differ; more = many.more }
too_many P Q gives (TooMany other) many = absurd many
too_many P Q gives Want many = tt
too_many P Q gives other many = absurd many

-- a part of the pieces has too many
pub part_refused : {T : Type 0} (P : T → Type 0) (tech : Tech) (some pieces : List Piece) (connects : List Connect) (blocks : List Block) → AreOf some pieces → (r : Result T DrawError) (e : DrawError)
    → IsErrAnd r (λ x. x ≡ e) → AreTooMany (Stands tech some connects blocks) e → MatchResult r P (AreTooMany (Stands tech pieces connects blocks))
part_refused P tech some pieces connects blocks of r e is many =
    passed_on P (AreTooMany (Stands tech pieces connects blocks)) r e is
    (too_many (Stands tech some connects blocks) (Stands tech pieces connects blocks) (stands_more tech some pieces connects blocks of) e many)

same_axis : (a b : Axis) → is_axis a b ≡ true → b ≡ a
same_axis X X e = refl
same_axis X Y e = absurd (false≢true e)
same_axis Y X e = absurd (false≢true e)
same_axis Y Y e = refl

itself : (a : Axis) → is_axis a a ≡ true
itself X = refl
itself Y = refl

-- what a filter keeps
of_filter : (test : Piece → Bool) (xs : List Piece) → AreOf (filter test xs) xs
of_filter test xs p w =
    let some = (Among-filter test (λ y. y ≡ p) xs).0 (p, w, refl) in
    subst (Contains xs) some.2.1 some.1

into_filter : (axis : Axis) (xs : List Piece) (p : Piece) → p.axis ≡ axis → Contains xs p → Contains (filter (goes axis) xs) p
into_filter axis xs p along w =
    let passes : goes axis p ≡ true = subst (λ (a : Axis). is_axis axis a ≡ true) (sym along) (itself axis) in
    let some = (Among-filter (goes axis) (λ y. y ≡ p) xs).1 (p, w, (passes, refl)) in
    subst (Contains (filter (goes axis) xs)) some.2 some.1

-- the pieces of a mixed list are of either
pub mixed_of : (flat upright pieces : List Piece) → AreOf flat pieces → AreOf upright pieces → AreOf (mixed flat upright) pieces
mixed_of flat upright pieces flat_of upright_of p w = by_part (Contains-append_cases (filter (goes X) flat) (filter (goes Y) upright) p w)
  where
    by_part : Contains (filter (goes X) flat) p ⊎ Contains (filter (goes Y) upright) p → Contains pieces p
    by_part (inl v) = flat_of p (of_filter (goes X) flat p v)
    by_part (inr v) = upright_of p (of_filter (goes Y) upright p v)

-- what holds of each two of two lists, and of each of the one with each of the other
pairs_append : (R : Piece → Piece → Type 0) (xs ys : List Piece) → AllPairs R xs → AllPairs R ys → ((x y : Piece) → Contains xs x → Contains ys y → R x y) → AllPairs R (xs ++ ys)
pairs_append R [] ys x_pairs y_pairs both = y_pairs
pairs_append R (x ∷ xs) ys x_pairs y_pairs both =
    AllPairs-cons R x (xs ++ ys)
    (All-append (R x) xs ys (λ k d within. x_pairs 0 (suc k) d (omega arith) (omega arith)) (λ k d within. both x (get_or ys k d) (first x xs) (Contains-get_or ys k d within)))
    (pairs_append R xs ys (λ i j d less within. x_pairs (suc i) (suc j) d (omega arith) (omega arith)) y_pairs (λ a b a_in b_in. both a b (behind x a xs a_in) b_in))

axes_differ : X ≡ Y → ⊥
axes_differ e = cc

-- pieces of a mixed list lie apart: those of different axes never lie on one line
pub mixed_apart : (flat upright : List Piece) → AllPairs LieApart flat → AllPairs LieApart upright → AllPairs LieApart (mixed flat upright)
mixed_apart flat upright flat_apart upright_apart =
    pairs_append LieApart (filter (goes X) flat) (filter (goes Y) upright) (AllPairs-filter LieApart (goes X) flat flat_apart) (AllPairs-filter LieApart (goes Y) upright upright_apart) turned
  where
    turned : (x y : Piece) → Contains (filter (goes X) flat) x → Contains (filter (goes Y) upright) y → LieApart x y
    turned x y x_in y_in same t x_has y_has =
        let x_along : x.axis ≡ X = same_axis X x.axis (All-contains (λ p. goes X p ≡ true) (filter (goes X) flat) x (filter_passes (goes X) flat) x_in) in
        let y_along : y.axis ≡ Y = same_axis Y y.axis (All-contains (λ p. goes Y p ≡ true) (filter (goes Y) upright) y (filter_passes (goes Y) upright) y_in) in
        axes_differ (sym x_along ∙ ap (λ (l : Line). l.axis) same ∙ y_along)

pub left : (one other : List Piece) → AreOf one (one ++ other)
left one other = Contains-append_left one other

pub right : (one other : List Piece) → AreOf other (one ++ other)
right one other = Contains-append_right one other

-- a stack of both lists is one of each, or of horizontal pieces of one with vertical ones of the other
module _ (tech : Tech) (one other : List Piece) (connects : List Connect) (blocks : List Block) where
  abbrev Of : List Piece → Site → Type 0
  Of pieces = Stands tech pieces connects blocks

  pub four : (s : Site) → Of (one ++ other) s → ((Of one s ⊎ Of other s) ⊎ Of (mixed one other) s) ⊎ Of (mixed other one) s
  four s w = by_lists (Contains-append_cases one other w.flat w.flat_is) (Contains-append_cases one other w.upright w.upright_is)
    where
      in_list : (pieces : List Piece) → Contains pieces w.flat → Contains pieces w.upright → Of pieces s
      in_list pieces flat_is upright_is = record {
        connect = w.connect;
        flat = w.flat;
        upright = w.upright;
        used = w.used;
        flat_is = flat_is;
        upright_is = upright_is;
        cross = w.cross;
        free = w.free;
        is = w.is;
      }

      in_mixed : (flat upright : List Piece) → Contains flat w.flat → Contains upright w.upright → Of (mixed flat upright) s
      in_mixed flat upright flat_is upright_is =
          in_list (mixed flat upright)
          (Contains-append_left (filter (goes X) flat) (filter (goes Y) upright) w.flat (into_filter X flat w.flat w.cross.horizontal flat_is))
          (Contains-append_right (filter (goes X) flat) (filter (goes Y) upright) w.upright (into_filter Y upright w.upright w.cross.vertical upright_is))

      by_lists : Contains one w.flat ⊎ Contains other w.flat → Contains one w.upright ⊎ Contains other w.upright
          → ((Of one s ⊎ Of other s) ⊎ Of (mixed one other) s) ⊎ Of (mixed other one) s
      by_lists (inl f) (inl u) = inl (inl (inl (in_list one f u)))
      by_lists (inr f) (inr u) = inl (inl (inr (in_list other f u)))
      by_lists (inl f) (inr u) = inl (inr (in_mixed one other f u))
      by_lists (inr f) (inl u) = inr (in_mixed other one f u)

-- the places of a list are added
pub grown : (P : Site → Type 0) (old more : List Site) → length more ≤ most_stacks → AreStanding P more → Grows P old (old ++ more)
grown P old more few are s = (λ w. there (Contains-append_cases old more s w), back)
  where
    there : Contains old s ⊎ Contains more s → Contains old s ⊎ P s
    there (inl w) = inl w
    there (inr w) = inr (All-contains P more s are.each w)

    all : AreMany more ⊎ ((t : Site) → P t → Contains more t) → P s → Contains more s
    all (inl many) h = absurd (omega arith)
    all (inr every) h = every s h

    back : Contains old s ⊎ P s → Contains (old ++ more) s
    back (inl w) = Contains-append_left old more s w
    back (inr h) = Contains-append_right old more s (all are.every h)

-- the places of all four lists are added
module _ (tech : Tech) (one other : List Piece) (connects : List Connect) (blocks : List Block) (a b c d : List Site) where
  abbrev P : Site → Type 0
  P = Stands tech (one ++ other) connects blocks

  abbrev A : Site → Type 0
  A = Stands tech one connects blocks

  abbrev B : Site → Type 0
  B = Stands tech other connects blocks

  abbrev C : Site → Type 0
  C = Stands tech (mixed one other) connects blocks

  abbrev D : Site → Type 0
  D = Stands tech (mixed other one) connects blocks

  pub all_four : Grows A [] a → Grows B a b → Grows C b c → Grows D c d → AreAll P d
  all_four to_a to_b to_c to_d s = (λ w. from_d ((to_d s).0 w), λ h. back (four tech one other connects blocks s h))
    where
      of_part : (some : List Piece) → AreOf some (one ++ other) → Stands tech some connects blocks s → P s
      of_part some of h = stands_more tech some (one ++ other) connects blocks of s h

      from_a : Contains [] s ⊎ A s → P s
      from_a (inl w) = absurd (omega (arith, w.1))
      from_a (inr h) = of_part one (left one other) h

      from_b : Contains a s ⊎ B s → P s
      from_b (inl w) = from_a ((to_a s).0 w)
      from_b (inr h) = of_part other (right one other) h

      from_c : Contains b s ⊎ C s → P s
      from_c (inl w) = from_b ((to_b s).0 w)
      from_c (inr h) = of_part (mixed one other) (mixed_of one other (one ++ other) (left one other) (right one other)) h

      from_d : Contains c s ⊎ D s → P s
      from_d (inl w) = from_c ((to_c s).0 w)
      from_d (inr h) = of_part (mixed other one) (mixed_of other one (one ++ other) (right one other) (left one other)) h

      back : ((A s ⊎ B s) ⊎ C s) ⊎ D s → Contains d s
      back (inl (inl (inl h))) = (to_d s).1 (inl ((to_c s).1 (inl ((to_b s).1 (inl ((to_a s).1 (inr h)))))))
      back (inl (inl (inr h))) = (to_d s).1 (inl ((to_c s).1 (inl ((to_b s).1 (inr h)))))
      back (inl (inr h)) = (to_d s).1 (inl ((to_c s).1 (inr h)))
      back (inr h) = (to_d s).1 (inr h)
