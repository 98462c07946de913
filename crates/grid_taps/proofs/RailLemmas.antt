-- The lowest rail that crosses a column is the first in the order of rails.
use Rattle.std.proofs.Common.{◌≡◌, ◌⊎◌, inl, inr, IsTrue, false, ℕ, ◌<◌, ◌≤◌, ℤ, pos, ◌<ℤ◌, List, map, length, get_or, find, Option, Some, None, Ordering, refl, sym, ap, ◌∙◌, subst, arith}
use Rattle.std.specs.Prelude.{MatchOption}
use Rattle.std.specs.Option.{option_map}
use Rattle.std.specs.declared.cmp.Ordering.TheVariants.{Less, Equal, Greater}
use Rattle.std.specs.Ordering.{nat_cmp, int_cmp, ordering_then, is_gt, MatchOrdering}
use Rattle.std.specs.Cmp.{IsTotalOrder}
use Rattle.std.proofs.lemmas.Bool.{false≢true, cases_lt}
use Rattle.std.proofs.lemmas.Cmp.{ranked, int_ranked, nat_cmp_total, int_cmp_total, on_total, then_total}
use Rattle.std.proofs.lemmas.List.{get_or-map, length-map, get_or_default}
use Rattle.grid_pieces.specs.declared.grid.Grid.{Grid}
use Rattle.grid_pieces.specs.declared.piece.Piece.{Piece}
use Rattle.grid_pieces.specs.Laws.Orders.{nat_equal, int_equal}
use Rattle.grid_taps.specs.declared.column.Column.{Column}
use Rattle.rect_index.specs.declared.entry.Entry.{Entry}
use Rattle.rect_index.specs.Entry.{item_of}
use Rattle.grid_taps.specs.declared.rail.Rail.{Rail}
use Rattle.grid_taps.specs.Naming.{At}
use Rattle.grid_taps.specs.Rails.{IsRail, Crosses, IsNotAbove, IsLowestRail}
use Rattle.grid_taps.specs.inside.Index.{is_at, first_at}
use Rattle.grid_taps.specs.inside.Rails.{rail_order, rail_of, rail_entry, IsDrawnRail, AreRailEntries}
use Rattle.grid_taps.proofs.Found.{at_iff, found_first, found_none}

pub rail_total : IsTotalOrder rail_order
rail_total =
    then_total
    (then_total (then_total (on_total (λ (r : Rail). r.net) nat_cmp_total) (on_total (λ (r : Rail). r.centre) int_cmp_total)) (on_total (λ (r : Rail). r.layer) nat_cmp_total))
    (on_total (λ (r : Rail). r.number) nat_cmp_total)

then_not_gt : (a b : Ordering) → is_gt (ordering_then a b) ≡ false → (a ≡ Less) ⊎ ((a ≡ Equal) × (is_gt b ≡ false))
then_not_gt Less b h = inl refl
then_not_gt Equal b h = inr (refl, h)
then_not_gt Greater b h = absurd (false≢true (sym h))

then_less : (a b : Ordering) → ordering_then a b ≡ Less → (a ≡ Less) ⊎ ((a ≡ Equal) × (b ≡ Less))
then_less Less b h = inl refl
then_less Equal b h = inr (refl, h)
then_less Greater b h = absurd (cc)

then_equal : (a b : Ordering) → ordering_then a b ≡ Equal → (a ≡ Equal) × (b ≡ Equal)
then_equal Less b e = absurd (cc)
then_equal Equal b e = (refl, e)
then_equal Greater b e = absurd (cc)

nat_less : (x y : ℕ) → nat_cmp x y ≡ Less → x < y
nat_less x y e = subst (λ o. MatchOrdering o (x < y) (x ≡ y) (y < x)) e (ranked x y (nat_cmp x y) refl)

int_less : (x y : ℤ) → int_cmp x y ≡ Less → x <ℤ y
int_less x y e = subst (λ o. MatchOrdering o (x <ℤ y) (x ≡ y) (y <ℤ x)) e (int_ranked x y (int_cmp x y) refl)

nat_not_gt : (x y : ℕ) (o : Ordering) → nat_cmp x y ≡ o → is_gt o ≡ false → x ≤ y
nat_not_gt x y Less e h = let less = nat_less x y e in omega arith
nat_not_gt x y Equal e h = let same = nat_equal x y e in omega arith
nat_not_gt x y Greater e h = absurd (false≢true (sym h))

-- of one net, by centre, layer and number
abbrev pub NotBehind : Rail → Rail → Type 0
NotBehind a b = (a.centre <ℤ b.centre)
    ⊎ ((a.centre ≡ b.centre) × ((a.layer < b.layer)
    ⊎ ((a.layer ≡ b.layer) × (a.number ≤ b.number))))

not_behind : (a b : Rail) → a.net ≡ b.net → is_gt (rail_order a b) ≡ false → NotBehind a b
not_behind a b same h = by_number (then_not_gt three (nat_cmp a.number b.number) h)
  where
    one : Ordering
    one = nat_cmp a.net b.net

    two : Ordering
    two = ordering_then (nat_cmp a.net b.net) (int_cmp a.centre b.centre)

    three : Ordering
    three = ordering_then (ordering_then (nat_cmp a.net b.net) (int_cmp a.centre b.centre)) (nat_cmp a.layer b.layer)

    by_centre : (nat_cmp a.net b.net ≡ Less) ⊎ ((nat_cmp a.net b.net ≡ Equal) × (int_cmp a.centre b.centre ≡ Less)) → NotBehind a b
    by_centre (inl less) = let below = nat_less a.net b.net less in absurd (omega arith)
    by_centre (inr (_, less)) = inl (int_less a.centre b.centre less)

    by_layer : (ordering_then (nat_cmp a.net b.net) (int_cmp a.centre b.centre) ≡ Less)
        ⊎ ((ordering_then (nat_cmp a.net b.net) (int_cmp a.centre b.centre) ≡ Equal) × (nat_cmp a.layer b.layer ≡ Less)) → NotBehind a b
    by_layer (inl less) = by_centre (then_less (nat_cmp a.net b.net) (int_cmp a.centre b.centre) less)
    by_layer (inr (equal, less)) =
        inr (int_equal a.centre b.centre (then_equal (nat_cmp a.net b.net) (int_cmp a.centre b.centre) equal).1, inl (nat_less a.layer b.layer less))

    by_number : (ordering_then (ordering_then (nat_cmp a.net b.net) (int_cmp a.centre b.centre)) (nat_cmp a.layer b.layer) ≡ Less)
        ⊎ ((ordering_then (ordering_then (nat_cmp a.net b.net) (int_cmp a.centre b.centre)) (nat_cmp a.layer b.layer) ≡ Equal)
        × (is_gt (nat_cmp a.number b.number) ≡ false)) → NotBehind a b
    by_number (inl less) = by_layer (then_less (ordering_then (nat_cmp a.net b.net) (int_cmp a.centre b.centre)) (nat_cmp a.layer b.layer) less)
    by_number (inr (equal, low)) =
        let first = then_equal (ordering_then (nat_cmp a.net b.net) (int_cmp a.centre b.centre)) (nat_cmp a.layer b.layer) equal in
        inr (
          int_equal a.centre b.centre (then_equal (nat_cmp a.net b.net) (int_cmp a.centre b.centre) first.0).1,
          inr (nat_equal a.layer b.layer first.1, nat_not_gt a.number b.number (nat_cmp a.number b.number) refl low),
        )

no_rail : Rail
no_rail = record { net = 0; layer = 0; centre = pos 0; from = pos 0; to = pos 0; number = 0 }

-- a rail crosses the column where its entry is at it
at_of : (net : ℕ) (column : Column) (number : ℕ) (p : Piece) → p.net ≡ net → Crosses column p → IsTrue (is_at net column (rail_entry (rail_of number p)))
at_of net column number p same (in_x, in_y) = (at_iff net column (rail_entry (rail_of number p))).1 (same, (in_x.0, in_x.1), (in_y.1, in_y.0))

crosses_of : (net : ℕ) (column : Column) (number : ℕ) (p : Piece) → IsTrue (is_at net column (rail_entry (rail_of number p))) → (p.net ≡ net) × Crosses column p
crosses_of net column number p h =
    let there = (at_iff net column (rail_entry (rail_of number p))).0 h in
    (there.0, ((there.1.0, there.1.1), (there.2.1, there.2.0)))

-- the rail of a piece stands in the list, at a place where its entry is at the column
place_of : (grid : Grid) (entries : List (Entry ℕ)) (are : AreRailEntries grid.pieces entries) (net : ℕ) (column : Column) (number : ℕ) (p : Piece)
    → IsRail grid net number p → Crosses column p
    → (k : ℕ) × (k < length are.rails) × (get_or are.rails k (rail_of number p) ≡ rail_of number p)
    × IsTrue (is_at net column (rail_entry (rail_of number p)))
place_of grid entries are net column number p is crosses =
    let there = are.every number p is.is (is.shape, is.axis) in
    (there.0, there.1, there.2, at_of net column number p is.of_net crosses)

entry_at : (entries : List (Entry ℕ)) (rails : List Rail) → entries ≡ map rail_entry rails → (k : ℕ) (r : Rail) (d : Entry ℕ) → k < length rails
    → get_or rails k r ≡ r → get_or entries k d ≡ rail_entry r
entry_at entries rails is k r d within same =
    ap (λ (es : List (Entry ℕ)). get_or es k d) is ∙ get_or-map rail_entry rails k r d within ∙ ap rail_entry same

as_many : (entries : List (Entry ℕ)) (rails : List Rail) → entries ≡ map rail_entry rails → length entries ≡ length rails
as_many entries rails is = ap (λ (es : List (Entry ℕ)). length es) is ∙ length-map rails rail_entry

-- where none is found, none crosses the column
pub none_crosses : (grid : Grid) (entries : List (Entry ℕ)) → AreRailEntries grid.pieces entries → (net : ℕ) (column : Column)
    → find (is_at net column) entries ≡ None → (number : ℕ) (p : Piece) → IsRail grid net number p → Crosses column p → ⊥
none_crosses grid entries are net column none number p is crosses =
    let place = place_of grid entries are net column number p is crosses in
    let e : Entry ℕ = rail_entry (rail_of number p) in
    let at : get_or entries place.0 e ≡ e = entry_at entries are.rails are.are place.0 (rail_of number p) e place.1 place.2 in
    let many : length entries ≡ length are.rails = as_many entries are.rails are.are in
    let within : place.0 < length entries = omega (arith, many, place.1) in
    let no : is_at net column (get_or entries place.0 e) ≡ false = found_none (is_at net column) entries none place.0 e within in
    absurd (false≢true (sym no ∙ ap (is_at net column) at ∙ place.3))

not_behind_itself : (a b : Rail) → a ≡ b → NotBehind a b
not_behind_itself a b same = subst (λ (z : Rail). NotBehind a z) same (inr (refl, inr (refl, omega arith)))

-- a rail whose entry is at the column, where no earlier one is, is the lowest
lowest_of : (grid : Grid) (entries : List (Entry ℕ)) (are : AreRailEntries grid.pieces entries) (net : ℕ) (column : Column) (i : ℕ) (r : Rail)
    → i < length are.rails → get_or are.rails i r ≡ r → IsTrue (is_at net column (rail_entry r))
    → ((j : ℕ) (d : Entry ℕ) → j < i → is_at net column (get_or entries j d) ≡ false)
    → ((p : Piece) × At grid.pieces r.number p × IsDrawnRail p × (r ≡ rail_of r.number p)) → IsLowestRail grid net column r.number
lowest_of grid entries are net column i r within here met before (p, at, drawn, is) = record {
  rail = p;
  is = record { is = at; of_net = crossed.0; shape = drawn.0; axis = drawn.1 };
  crosses = crossed.1;
  lowest = λ place other other_is other_crosses. lowest place other other_is other_crosses;
}
  where
    crossed : (p.net ≡ net) × Crosses column p
    crossed = crosses_of net column r.number p (subst (λ (z : Rail). IsTrue (is_at net column (rail_entry z))) is met)

    r_net : r.net ≡ net
    r_net = ap (λ (z : Rail). z.net) is ∙ (crosses_of net column r.number p (subst (λ (z : Rail). IsTrue (is_at net column (rail_entry z))) is met)).0

    by_place : (k : ℕ) (other : Rail) → k < length are.rails → get_or are.rails k other ≡ other → other.net ≡ net → (i < k) ⊎ (k ≤ i)
        → ((k < i) → ⊥) → NotBehind r other
    by_place k other k_within there same (inl less) not_before =
        let low : get_or are.rails i r ≡ r = here in
        let first : get_or are.rails i other ≡ r = get_or_default are.rails i other r within ∙ here in
        let sorted : is_gt (rail_order (get_or are.rails i other) (get_or are.rails k other)) ≡ false = are.in_order i k other less k_within in
        not_behind r other (r_net ∙ sym same)
        (subst (λ (z : Rail). is_gt (rail_order r z) ≡ false) there (subst (λ (z : Rail). is_gt (rail_order z (get_or are.rails k other)) ≡ false) first sorted))
    by_place k other k_within there same (inr le) not_before = at_once (cases_lt k i)
      where
        at_once : (k < i) ⊎ (i ≤ k) → NotBehind r other
        at_once (inl less) = absurd (not_before less)
        at_once (inr ge) =
            let one : i ≡ k = omega arith in
            not_behind_itself r other (sym here ∙ ap (λ n. get_or are.rails n r) one ∙ get_or_default are.rails k r other k_within ∙ there)

    lowest : (place : ℕ) (other : Piece) → IsRail grid net place other → Crosses column other → IsNotAbove p r.number other place
    lowest place other other_is other_crosses =
        let found = place_of grid entries are net column place other other_is other_crosses in
        let e : Entry ℕ = rail_entry (rail_of place other) in
        let at_e : get_or entries found.0 e ≡ e = entry_at entries are.rails are.are found.0 (rail_of place other) e found.1 found.2 in
        let not_before : (found.0 < i) → ⊥ =
        (λ less. absurd (false≢true (sym (before found.0 e less) ∙ ap (is_at net column) at_e ∙ found.3))) in
        subst (λ (z : Rail). NotBehind z (rail_of place other)) is
        (by_place found.0 (rail_of place other) found.1 found.2 other_is.of_net (cases_lt i found.0) not_before)

-- the rail that is found
pub is_lowest : (grid : Grid) (entries : List (Entry ℕ)) → AreRailEntries grid.pieces entries → (net : ℕ) (column : Column) (e : Entry ℕ)
    → find (is_at net column) entries ≡ Some e → IsLowestRail grid net column e.item
is_lowest grid entries are net column e some =
    let found = found_first (is_at net column) entries e some in
    let many : length entries ≡ length are.rails = as_many entries are.rails are.are in
    let within : found.0 < length are.rails = omega (arith, many, found.1.0) in
    let r : Rail = get_or are.rails found.0 no_rail in
    let here : get_or are.rails found.0 r ≡ r = get_or_default are.rails found.0 r no_rail within in
    let same : e ≡ rail_entry r = sym found.1.1 ∙ entry_at entries are.rails are.are found.0 r e within here in
    subst (λ (z : Entry ℕ). IsLowestRail grid net column z.item) (sym same)
    (lowest_of grid entries are net column found.0 r within here (subst (λ (z : Entry ℕ). IsTrue (is_at net column z)) same found.2) found.3 (are.each found.0 no_rail within))

-- either, by what is found
pub lowest_or_none : (grid : Grid) (entries : List (Entry ℕ)) → AreRailEntries grid.pieces entries → (net : ℕ) (column : Column) (answer : Option ℕ)
    → answer ≡ first_at net column entries
    → MatchOption answer ((number : ℕ) (p : Piece) → IsRail grid net number p → Crosses column p → ⊥) (IsLowestRail grid net column)
lowest_or_none grid entries are net column answer is =
    subst (λ o. MatchOption o ((number : ℕ) (p : Piece) → IsRail grid net number p → Crosses column p → ⊥) (IsLowestRail grid net column)) (sym is)
    (by_found (find (is_at net column) entries) refl)
  where
    by_found : (o : Option (Entry ℕ)) → find (is_at net column) entries ≡ o
        → MatchOption (option_map item_of o) ((number : ℕ) (p : Piece) → IsRail grid net number p → Crosses column p → ⊥) (IsLowestRail grid net column)
    by_found None none = none_crosses grid entries are net column none
    by_found (Some e) some = is_lowest grid entries are net column e some
