-- What is asked of a grid of which a network is extracted, and of one that is written: its lists are in order, and what
-- they name stands.
use Rattle.std.proofs.Common.{◌≡◌, inl, inr, ℕ, ◌<◌, ◌≤◌, true, false, All, AllPairs, List, [], ◌∷◌, length, get_or, refl, sym, subst, arith}
use Rattle.std.specs.Ordering.{nat_cmp, int_cmp, ordering_then, is_lt, is_gt}
use Rattle.std.specs.declared.cmp.Ordering.{Ordering}
use Rattle.std.specs.declared.cmp.Ordering.TheVariants.{Less, Equal, Greater}
use Rattle.std.proofs.lemmas.Bool.{false≢true}
use Rattle.name_table.specs.ByteOrder.{IsBefore, IsInByteOrder}
use Rattle.name_table.specs.Numbering.{AreDistinct}
use Rattle.lef_tech.specs.declared.tech.Tech.{Tech}
use Rattle.lef_tech.specs.Limits.{TechKeeps}
use Rattle.def_design.specs.declared.record.Design.{Design}
use Rattle.def_design.specs.Limits.{DesignKeeps}
use Rattle.via_arrays.specs.Lengths.{IsUnits}
use Rattle.grid_pieces.specs.declared.grid.Grid.{Grid}
use Rattle.grid_pieces.specs.declared.piece.Block.{Block}
use Rattle.grid_pieces.specs.declared.piece.Piece.{Piece}
use Rattle.grid_pieces.specs.declared.piece.StackAt.{StackAt}
use Rattle.grid_pieces.specs.Piece.{piece_order}
use Rattle.grid_pieces.specs.Touch.{rect_order}
use Rattle.grid_stacks.specs.declared.connect.Connect.{Connect}
use Rattle.grid_stacks.specs.declared.connect.Site.{Site}
use Rattle.grid_stacks.specs.Crossing.{Stands}
use Rattle.grid_stacks.specs.Stacking.{AreStacks, HasLayer, IsStackAt, place_order}
use Rattle.grid_shapes.specs.Drawing.{PieceStands, StackStands}
use Rattle.grid_extract.specs.Extraction.{GridKeeps}
use Rattle.def_writer.specs.Limits.{stack_order, StackFits, GridFits}
use Rattle.drawn_grids.specs.Laws.Sites.{no_site, has_site, arrays_stand}

-- ## names

before_itself : (name : List ℕ) → IsBefore name name → ⊥
before_itself [] h = h
before_itself (x ∷ xs) (inl h) = omega (arith, h)
before_itself (x ∷ xs) (inr h) = before_itself xs h.1

-- Names in byte order are distinct.
pub distinct_names : (names : List (List ℕ)) → IsInByteOrder names → AreDistinct names
distinct_names names order i j d below within same =
    before_itself (get_or names j d) (subst (λ (n : List ℕ). IsBefore n (get_or names j d)) same (order i j d below within))

-- ## orders

lt_not_gt : (o : Ordering) → is_lt o ≡ true → is_gt o ≡ false
lt_not_gt Less h = refl
lt_not_gt Equal h = refl
lt_not_gt Greater h = absurd (false≢true h)

front_of_lt : (a b : Ordering) → is_lt (ordering_then a b) ≡ true → is_gt a ≡ false
front_of_lt Less b h = refl
front_of_lt Equal b h = refl
front_of_lt Greater b h = absurd (false≢true h)

front_of_not_gt : (a b : Ordering) → is_gt (ordering_then a b) ≡ false → is_gt a ≡ false
front_of_not_gt Less b h = refl
front_of_not_gt Equal b h = refl
front_of_not_gt Greater b h = h

-- the order of sites by net, x, y and lowest layer
front_order : Site → Site → Ordering
front_order a b = ordering_then (ordering_then (ordering_then (nat_cmp a.net b.net) (int_cmp a.x b.x)) (int_cmp a.y b.y)) (nat_cmp a.from b.from)

stacks_as_sites : (tech : Tech) (units : ℕ) (a b : Site) (s t : StackAt) → IsStackAt tech units a s → IsStackAt tech units b t → stack_order s t ≡ front_order a b
unfolding front_order
stacks_as_sites tech units a b s t f g =
    λ i. ordering_then (ordering_then (ordering_then (nat_cmp (f.net i) (g.net i)) (int_cmp (f.x i) (g.x i))) (int_cmp (f.y i) (g.y i)))
    (nat_cmp (f.stack.lowest i) (g.stack.lowest i))

in_site_order : (a b : Site) → is_lt (ordering_then (place_order a b) (rect_order a.crossing b.crossing)) ≡ true → is_gt (front_order a b) ≡ false
unfolding front_order
in_site_order a b h = front_of_not_gt _ (nat_cmp a.to b.to) (front_of_lt (place_order a b) (rect_order a.crossing b.crossing) h)

-- All stacks of some sites are in the order of stacks.
pub stacks_in_order : (tech : Tech) (P : Site → Type 0) (units : ℕ) (pieces : List Piece) (stacks : List StackAt) → AreStacks P tech units pieces stacks
    → AllPairs (λ (a b : StackAt). is_gt (stack_order a b) ≡ false) stacks
stacks_in_order tech P units pieces stacks are i j d below within =
    subst (λ (o : Ordering). is_gt o ≡ false)
    (sym (stacks_as_sites tech units (get_or are.0 i no_site) (get_or are.0 j no_site) (get_or stacks i d) (get_or stacks j d) (at i (omega arith)) (at j within)))
    (in_site_order (get_or are.0 i no_site) (get_or are.0 j no_site) (are.1.are.in_order i j no_site below (in_sites j within)))
  where
    in_sites : (k : ℕ) → k < length stacks → k < length are.0
    in_sites k inside = let same = are.3.as_many in omega arith

    at : (k : ℕ) → k < length stacks → IsStackAt tech units (get_or are.0 k no_site) (get_or stacks k d)
    at k inside = are.3.each k no_site d (in_sites k inside)

-- ## the grid

-- Units that a design has are in their range.
pub units_stand : (design : Design) (units : ℕ) → DesignKeeps design → units ≡ design.units → IsUnits units
units_stand design units keeps same =
    let some = keeps.some_units in
    let most = keeps.units in
    (omega arith, omega arith)

-- A network can be extracted of a grid whose pieces and stacks stand, where there are few of them.
pub grid_keeps : (tech : Tech) (grid : Grid) → IsUnits grid.units → AreDistinct grid.nets → All (PieceStands tech grid) grid.pieces
    → All (StackStands tech grid) grid.stacks → length grid.pieces ≤ 4000000 → length grid.stacks ≤ 1000000 → GridKeeps grid tech
grid_keeps tech grid units nets pieces stacks few_pieces few_stacks = record {
  units = units;
  nets = nets;
  pieces = λ k d within. let p = pieces k d within in record { keeps = p.keeps; net = p.net; layer = p.layer; sheet = p.sheet };
  stacks = λ k d within. let s = stacks k d within in record { net = s.net; rising = s.rising; highest = s.layers; arrays = s.arrays; ohms = s.ohms };
  few_pieces = omega arith;
  few_stacks = omega arith;
}

-- A grid can be written whose stacks are those over the pieces of `whole`: that is the grid itself, or one of which it has
-- some of the pieces.
pub grid_fits : (tech : Tech) (whole grid : Grid) (connects : List Connect) (blocks : List Block) (units : ℕ) → TechKeeps tech → IsUnits units
    → All (PieceStands tech whole) whole.pieces → All (StackStands tech whole) grid.stacks
    → AreStacks (Stands tech whole.pieces connects blocks) tech units whole.pieces grid.stacks → length grid.power ≡ length grid.nets
    → All (HasLayer tech) grid.pieces → AllPairs (λ (a b : Piece). is_lt (piece_order a b) ≡ true) grid.pieces → GridFits tech grid
grid_fits tech whole grid connects blocks units keeps is_units pieces stacks are power layers in_order = record {
  power = power;
  pieces = λ i j d below within. lt_not_gt (piece_order (get_or grid.pieces i d) (get_or grid.pieces j d)) (in_order i j d below within);
  stacks = stacks_in_order tech (Stands tech whole.pieces connects blocks) units whole.pieces grid.stacks are;
  layers = layers;
  arrays = λ k d within. fits k d within;
}
  where
    fits : (k : ℕ) (d : StackAt) → k < length grid.stacks → StackFits tech (get_or grid.stacks k d)
    fits k d within =
        let s = stacks k d within in
        let rising = s.rising in
        let highest = s.layers in
        let as_many = s.arrays in
        let stand = arrays_stand tech (get_or grid.stacks k d) keeps (has_site tech whole connects blocks units grid.stacks is_units pieces are k d within) in
        record { arrays = λ level array inside. (stand level array inside).fits; layers = omega arith }
