-- The halos of a script's grids, and how far they go.
use Rattle.std.proofs.Common.{◌≡◌, ℕ, ◌≤◌, ◌*◌, zero, suc, ◌/◌, ◌%◌, ℤ, pos, Bool, true, false, if◌then◌else◌, List, [], ◌∷◌, All, length, get_or, Option, Some, None, IfSome, refl, sym, ◌∙◌, ap, arith}
use Rattle.std.specs.Bool.{nat_eq}
use Rattle.std.specs.Option.{unwrap_or}
use Rattle.std.proofs.Math.Nat.{mul-le-mul}
use Rattle.std.proofs.lemmas.Int.{ints}
use Rattle.std.proofs.lemmas.List.Elements.{All-nil, All-cons, All-head, All-tail}
use Rattle.entry_list.specs.InTurn.{InTurn}
use Rattle.pdn_script.specs.Limits.{IsLength, Keeps, GridKeeps}
use Rattle.pdn_script.specs.declared.record.GridRule.{GridRule}
use Rattle.via_arrays.specs.Lengths.{IsUnits}
use Rattle.block_grids.specs.Halo.{whole, with_sides, is_count, side, halo_of, no_halo, stated_halo, grid_halo, HasHalo}
use Rattle.block_grids.specs.declared.halo.Halo.{Halo}
use Rattle.placed_blocks.specs.Placed.{halos_of}
use Rattle.placed_blocks.specs.inside.Near.{IsSide, HaloKeeps}

-- ## they are the halos that were made

pub are_halos : (units : ℕ) (grids : List GridRule) (halos : List Halo) → InTurn (HasHalo units) grids halos → halos ≡ halos_of units grids
are_halos units [] [] turn = refl
are_halos units (grid ∷ grids) (halo ∷ halos) turn =
    ap (λ (h : Halo). h ∷ halos) (sym (ap (λ (o : Option Halo). unwrap_or o no_halo) turn.0))
    ∙ ap (λ (hs : List Halo). unwrap_or (grid_halo units grid) no_halo ∷ hs) (are_halos units grids halos turn.1)
are_halos units [] (halo ∷ halos) turn = absurd turn
are_halos units (grid ∷ grids) [] turn = absurd turn

-- ## one length

below : (units length : ℕ) → IsUnits units → IsLength length → length * units / 1000000 ≤ 2000000000
below units length is short =
    let most : length * units ≤ 100000000000 * 20000 = mul-le-mul short is.1 in omega arith

if_some : {X : Type 0} (P : X → Type 0) (b : Bool) (x : X) → P x → IfSome (if b then Some x else None) P
if_some P true x h = h
if_some P false x h = tt

one_side : (units length : ℕ) → IsUnits units → IsLength length → IfSome (whole units length) IsSide
one_side units length is short =
    let most = below units length is short in
    if_some IsSide (nat_eq (length * units % 1000000) 0) (pos (length * units / 1000000)) (omega (arith, ints), omega (arith, ints))

-- A list's entry, or what stands for it.
entry_or : {X : Type 0} (P : X → Type 0) (xs : List X) (k : ℕ) (d : X) → All P xs → P d → P (get_or xs k d)
entry_or P [] k d all is = is
entry_or P (x ∷ xs) zero d all is = All-head P x xs all
entry_or P (x ∷ xs) (suc k) d all is = entry_or P xs k d (All-tail P x xs all) is

-- ## the four sides

four_sides : (left bottom right top : Option ℤ) → IfSome left IsSide → IfSome bottom IsSide → IfSome right IsSide → IfSome top IsSide
    → IfSome (with_sides left bottom right top) HaloKeeps
four_sides (Some left) (Some bottom) (Some right) (Some top) a b c d = record { left = a; bottom = b; right = c; top = d }
four_sides None bottom right top a b c d = tt
four_sides (Some left) None right top a b c d = tt
four_sides (Some left) (Some bottom) None top a b c d = tt
four_sides (Some left) (Some bottom) (Some right) None a b c d = tt

side_keeps : (units : ℕ) (lengths : List ℕ) (k : ℕ) → IsUnits units → All IsLength lengths → IfSome (side units lengths k) IsSide
side_keeps units lengths k is all =
    one_side units (get_or lengths (k % length lengths) 0) is (entry_or IsLength lengths (k % length lengths) 0 all (omega arith))

if_keeps : (b : Bool) (o : Option Halo) → IfSome o HaloKeeps → IfSome (if b then o else None) HaloKeeps
if_keeps true o h = h
if_keeps false o h = tt

lengths_keep : (units : ℕ) (lengths : List ℕ) → IsUnits units → All IsLength lengths → IfSome (halo_of units lengths) HaloKeeps
lengths_keep units lengths is all = if_keeps (is_count (length lengths))
    (with_sides (side units lengths 0) (side units lengths 1) (side units lengths 2) (side units lengths 3))
    (four_sides (side units lengths 0) (side units lengths 1) (side units lengths 2) (side units lengths 3) (side_keeps units lengths 0 is all)
    (side_keeps units lengths 1 is all) (side_keeps units lengths 2 is all) (side_keeps units lengths 3 is all))

pub none_keeps : HaloKeeps no_halo
none_keeps = record {
  left = (omega (arith, ints), omega (arith, ints));
  bottom = (omega (arith, ints), omega (arith, ints));
  right = (omega (arith, ints), omega (arith, ints));
  top = (omega (arith, ints), omega (arith, ints));
}

stated_keeps : (units : ℕ) (stated : Option (List ℕ)) → IsUnits units → Keeps (All IsLength) stated → IfSome (stated_halo units stated) HaloKeeps
stated_keeps units None is keeps = none_keeps
stated_keeps units (Some lengths) is keeps = lengths_keep units lengths is keeps

chosen : (b : Bool) (o : Option Halo) → IfSome o HaloKeeps → IfSome (if b then o else Some no_halo) HaloKeeps
chosen true o h = h
chosen false o h = none_keeps

unwrapped : (o : Option Halo) → IfSome o HaloKeeps → HaloKeeps (unwrap_or o no_halo)
unwrapped None h = none_keeps
unwrapped (Some halo) h = h

pub all_keep : (units : ℕ) (domains : List (List ℕ)) (grids : List GridRule) → IsUnits units → All (GridKeeps domains) grids → All HaloKeeps (halos_of units grids)
all_keep units domains [] is all = All-nil HaloKeeps
all_keep units domains (grid ∷ grids) is all = All-cons HaloKeeps (unwrap_or (grid_halo units grid) no_halo) (halos_of units grids)
    (unwrapped (grid_halo units grid) (chosen grid.macro_ (stated_halo units grid.halo)
    (stated_keeps units grid.halo is (All-head (GridKeeps domains) grid grids all).halo)))
    (all_keep units domains grids is (All-tail (GridKeeps domains) grid grids all))
