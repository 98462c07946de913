-- A component has one range, one place, one macro and one owner, so it has taps or lacks them, and not both.
use Rattle.std.proofs.Common.{◌≡◌, ◌⊎◌, inl, inr, ℕ, ◌<◌, ◌≤◌, ℤ, pos, List, [], map, length, get_or, Contains, Option, sym, ap, ◌∙◌, subst, arith}
use Rattle.std.proofs.lemmas.Bool.{false≢true, cases_lt}
use Rattle.std.proofs.lemmas.List.{get_or-map, length-map, get_or_default}
use Rattle.name_table.specs.Numbering.{AreDistinct}
use Rattle.geom_rect.specs.declared.direction.Orient.{Orient}
use Rattle.geom_rect.specs.declared.rect.Rect.{Rect}
use Rattle.lef_cells.specs.declared.record.Cells.{Cells}
use Rattle.lef_cells.specs.declared.record.MacroCell.{MacroCell}
use Rattle.lef_cells.specs.Limits.{CellsKeep}
use Rattle.def_design.specs.declared.record.Component.{Component}
use Rattle.bias_file.specs.declared.record.Bias.{Bias}
use Rattle.bias_file.specs.declared.record.Amps.{Amps}
use Rattle.bias_file.specs.Limits.{BiasKeeps}
use Rattle.grid_cores.specs.Owner.{IsFirstOwner}
use Rattle.grid_pieces.specs.declared.grid.Grid.{Grid}
use Rattle.grid_pieces.specs.declared.grid.DomainAt.{DomainAt}
use Rattle.grid_pieces.specs.declared.piece.Piece.{Piece}
use Rattle.grid_pieces.specs.Laws.Amongst.{none_is_no_value, same_value}
use Rattle.grid_taps.specs.declared.column.Column.{Column}
use Rattle.grid_network.specs.declared.pad.Tap.{Tap}
use Rattle.grid_taps.specs.Naming.{At, macro_names}
use Rattle.grid_taps.specs.Rails.{IsRail, Crosses, IsLowestRail}
use Rattle.grid_taps.specs.Taps.{IsLine, HasNoLine, IsRange, column_of, IsMacroOf, regions_of, IsOwner, IsPlaced, IsUnowned, LacksRail, AreTapsOf, AreTapsFor, HasNoTaps}

-- where names differ, two of one name are one
pub one_named : {X : Type 0} (name_of : X → List ℕ) (xs : List X) → AreDistinct (map name_of xs) → (a b : X) → Contains xs a → Contains xs b
    → name_of a ≡ name_of b → a ≡ b
one_named {X} name_of xs distinct a b (i, in_i, is_a) (j, in_j, is_b) same = by_place (cases_lt i j) (cases_lt j i)
  where
    name_at : (k : ℕ) (x : X) (d : List ℕ) → k < length xs → get_or xs k x ≡ x → get_or (map name_of xs) k d ≡ name_of x
    name_at k x d within is = get_or-map name_of xs k x d within ∙ ap name_of is

    differ : (k l : ℕ) (x y : X) → k < l → l < length xs → get_or xs k x ≡ x → get_or xs l y ≡ y → name_of x ≡ name_of y → ⊥
    differ k l x y less within is_x is_y one =
        let many : length (map name_of xs) ≡ length xs = length-map xs name_of in
        distinct k l (name_of x) less (omega (arith, many))
        (name_at k x (name_of x) (omega arith) is_x ∙ one ∙ sym (name_at l y (name_of x) within is_y))

    by_place : (i < j) ⊎ (j ≤ i) → (j < i) ⊎ (i ≤ j) → a ≡ b
    by_place (inl less) _ = absurd (differ i j a b less in_j is_a is_b same)
    by_place (inr _) (inl less) = absurd (differ j i b a less in_i is_b is_a (sym same))
    by_place (inr le) (inr ge) =
        let one : i ≡ j = omega arith in
        sym is_a ∙ ap (λ n. get_or xs n a) one ∙ get_or_default xs j a b in_j ∙ is_b

-- ## the range

one_line : (lines : List Amps) → AreDistinct (map (λ (a : Amps). a.name) lines) → (name : List ℕ) (low high low' high' : ℤ)
    → IsLine lines name low high → IsLine lines name low' high' → (low ≡ low') × (high ≡ high')
one_line lines distinct name low high low' high' (a, in_a, (a_name, a_low, a_high)) (b, in_b, (b_name, b_low, b_high)) =
    let one = one_named (λ (z : Amps). z.name) lines distinct a b in_a in_b (a_name ∙ sym b_name) in
    (sym a_low ∙ ap (λ (z : Amps). z.low) one ∙ b_low, sym a_high ∙ ap (λ (z : Amps). z.high) one ∙ b_high)

no_line : (lines : List Amps) (name : List ℕ) (low high : ℤ) → IsLine lines name low high → HasNoLine lines name → ⊥
no_line lines name low high (a, in_a, (a_name, _, _)) none = none a in_a a_name

pub one_range : (bias : Bias) → BiasKeeps bias → (component : Component) (low high low' high' : ℤ) → IsRange bias component low high
    → IsRange bias component low' high' → (low ≡ low') × (high ≡ high')
one_range bias keeps component low high low' high' (inl p) (inl q) = one_line bias.instances keeps.components component.name low high low' high' p q
one_range bias keeps component low high low' high' (inl p) (inr (inl q)) = absurd (no_line bias.instances component.name low high p q.0)
one_range bias keeps component low high low' high' (inl p) (inr (inr q)) = absurd (no_line bias.instances component.name low high p q.0)
one_range bias keeps component low high low' high' (inr (inl p)) (inl q) = absurd (no_line bias.instances component.name low' high' q p.0)
one_range bias keeps component low high low' high' (inr (inr p)) (inl q) = absurd (no_line bias.instances component.name low' high' q p.0)
one_range bias keeps component low high low' high' (inr (inl p)) (inr (inl q)) = one_line bias.cells keeps.macros component.cell low high low' high' p.1 q.1
one_range bias keeps component low high low' high' (inr (inl p)) (inr (inr q)) = absurd (no_line bias.cells component.cell low high p.1 q.1)
one_range bias keeps component low high low' high' (inr (inr p)) (inr (inl q)) = absurd (no_line bias.cells component.cell low' high' q.1 p.1)
one_range bias keeps component low high low' high' (inr (inr p)) (inr (inr q)) = (p.2 ∙ sym q.2, p.3 ∙ sym q.3)

-- ## the place

one_first : (regions : List (Option Rect)) (place : ℤ × ℤ) (k l : ℕ) → IsFirstOwner regions place k → IsFirstOwner regions place l → k ≡ l
one_first regions place k l p q = by_order (cases_lt k l) (cases_lt l k)
  where
    by_order : (k < l) ⊎ (l ≤ k) → (l < k) ⊎ (k ≤ l) → k ≡ l
    by_order (inl less) _ = absurd (false≢true (sym (q.first k less) ∙ p.owns))
    by_order (inr _) (inl less) = absurd (false≢true (sym (p.first l less) ∙ q.owns))
    by_order (inr le) (inr ge) = omega arith

pub one_at : {X : Type 0} (xs : List X) (k l : ℕ) (a b : X) → k ≡ l → At xs k a → At xs l b → a ≡ b
one_at xs k l a b same (in_k, is_a) (in_l, is_b) = sym is_a ∙ ap (λ n. get_or xs n a) same ∙ get_or_default xs l a b in_l ∙ is_b

pub one_owner : (grid : Grid) (place place' : ℤ × ℤ) (domain domain' : DomainAt) → place ≡ place' → IsOwner grid place domain → IsOwner grid place' domain'
    → domain ≡ domain'
one_owner grid place place' domain domain' same (k, first, at) (l, first', at') =
    one_at grid.domains k l domain domain' (one_first (regions_of grid) place' k l (subst (λ (z : ℤ × ℤ). IsFirstOwner (regions_of grid) z k) same first) first') at at'

one_macro : (cells : Cells) → CellsKeep cells → (component : Component) (cell cell' : MacroCell) → IsMacroOf cells component cell
    → IsMacroOf cells component cell' → cell ≡ cell'
one_macro cells keep component cell cell' p q = one_named (λ (z : MacroCell). z.name) cells.macros keep.macro_names cell cell' p.0 q.0 (p.1 ∙ sym q.1)

pub one_place : (grid : Grid) (cells : Cells) → CellsKeep cells → (component : Component) (column column' : Column) (domain domain' : DomainAt)
    → IsPlaced grid cells component column domain → IsPlaced grid cells component column' domain' → (column ≡ column') × (domain ≡ domain')
one_place grid cells keep component column column' domain domain' p q =
    let place : ℤ × ℤ × Orient = (p.x, p.y, p.orient) in
    let place' : ℤ × ℤ × Orient = (q.x, q.y, q.orient) in
    let same : place ≡ place' = same_value place place' (sym p.place ∙ q.place) in
    let cell : p.cell ≡ q.cell = one_macro cells keep component p.cell q.cell p.is q.is in (
      p.column_is ∙ ap (λ (z : ℤ × ℤ × Orient). column_of grid.units p.cell z) same ∙ ap (λ (z : MacroCell). column_of grid.units z place') cell
          ∙ sym q.column_is,
      one_owner grid (p.x, p.y) (q.x, q.y) domain domain' (ap (λ (z : ℤ × ℤ × Orient). (z.0, z.1)) same) p.owner q.owner,
    )

-- ## its taps

unknown_macro : (cells : Cells) (component : Component) (cell : MacroCell) → IsMacroOf cells component cell → Contains (macro_names cells) component.cell
unknown_macro cells component cell ((k, within, is), named) =
    let name : MacroCell → List ℕ = λ (z : MacroCell). z.name in
    (k, subst (λ n. k < n) (sym (length-map cells.macros name)) within, get_or-map name cells.macros k cell component.cell within ∙ ap name is ∙ named)

unowned : (grid : Grid) (cells : Cells) (component : Component) (column : Column) (domain : DomainAt) → IsPlaced grid cells component column domain
    → IsUnowned grid component → ⊥
unowned grid cells component column domain p q =
    let place : ℤ × ℤ × Orient = (p.x, p.y, p.orient) in
    let place' : ℤ × ℤ × Orient = (q.x, q.y, q.orient) in
    let same : place ≡ place' = same_value place place' (sym p.place ∙ q.place) in
    let k = p.owner.0 in
    let first = subst (λ (z : ℤ × ℤ). IsFirstOwner (regions_of grid) z k) (ap (λ (z : ℤ × ℤ × Orient). (z.0, z.1)) same) p.owner.1 in
    false≢true (sym (q.none k first.within) ∙ first.owns)

no_rail_lacks : (grid : Grid) (net net' : ℕ) (column column' : Column) (number : ℕ) → net ≡ net' → column ≡ column' → IsLowestRail grid net column number
    → ((number : ℕ) (rail : Piece) → IsRail grid net' number rail → Crosses column' rail → ⊥) → ⊥
no_rail_lacks grid net net' column column' number one same rail none =
    let there = subst (λ n. IsLowestRail grid n column' number) one (subst (λ (z : Column). IsLowestRail grid net z number) same rail) in
    none number there.rail there.is there.crosses

lacks_none : (grid : Grid) (cells : Cells) → CellsKeep cells → (component : Component) (low high : ℤ) (taps : List Tap) → AreTapsOf grid cells component low high taps
    → LacksRail grid cells component → ⊥
lacks_none grid cells keep component low high taps are q = by_net q.of_domain
  where
    same : (are.column ≡ q.column) × (are.domain ≡ q.domain)
    same = one_place grid cells keep component are.column q.column are.domain q.domain are.placed q.placed

    by_net : (q.net ≡ q.domain.power) ⊎ (q.net ≡ q.domain.ground) → ⊥
    by_net (inl is) =
        no_rail_lacks grid are.domain.power q.net are.column q.column are.power
        (ap (λ (z : DomainAt). z.power) (one_place grid cells keep component are.column q.column are.domain q.domain are.placed q.placed).1 ∙ sym is)
        (one_place grid cells keep component are.column q.column are.domain q.domain are.placed q.placed).0 are.power_rail q.none
    by_net (inr is) =
        no_rail_lacks grid are.domain.ground q.net are.column q.column are.ground
        (ap (λ (z : DomainAt). z.ground) (one_place grid cells keep component are.column q.column are.domain q.domain are.placed q.placed).1 ∙ sym is)
        (one_place grid cells keep component are.column q.column are.domain q.domain are.placed q.placed).0 are.ground_rail q.none

-- one that has taps lacks nothing
pub tapped_lacks_none : (grid : Grid) (cells : Cells) → CellsKeep cells → (component : Component) (low high : ℤ) (taps : List Tap)
    → AreTapsOf grid cells component low high taps → HasNoTaps grid cells component → ⊥
tapped_lacks_none grid cells keep component low high taps are (inl unplaced) =
    none_is_no_value (are.placed.x, are.placed.y, are.placed.orient) (sym unplaced ∙ are.placed.place)
tapped_lacks_none grid cells keep component low high taps are (inr (inl unknown)) = unknown (unknown_macro cells component are.placed.cell are.placed.is)
tapped_lacks_none grid cells keep component low high taps are (inr (inr (inl q))) = unowned grid cells component are.column are.domain are.placed q
tapped_lacks_none grid cells keep component low high taps are (inr (inr (inr q))) = lacks_none grid cells keep component low high taps are q

-- one that has the taps that it needs is not off
pub not_off : (grid : Grid) (cells : Cells) (bias : Bias) → CellsKeep cells → BiasKeeps bias → (component : Component) (taps : List Tap) (low high : ℤ)
    → AreTapsFor grid cells bias component taps → IsRange bias component low high → (high ≡ pos 0 → ⊥) → HasNoTaps grid cells component → ⊥
not_off grid cells bias keep keeps component taps low high (low', high', range, by_high) is some none = by_cases by_high
  where
    by_cases : ((high' ≡ pos 0) × (taps ≡ [])) ⊎ ((high' ≡ pos 0 → ⊥) × AreTapsOf grid cells component low' high' taps) → ⊥
    by_cases (inl zero) = some ((one_range bias keeps component low high low' high' is range).1 ∙ zero.0)
    by_cases (inr tapped) = tapped_lacks_none grid cells keep component low' high' taps tapped.1 none
