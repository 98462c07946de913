-- How many vias a grid has: at most as many as its stacks have arrays.
use Rattle.std.proofs.Common.{◌≡◌, ℕ, ◌+◌, ◌*◌, ◌≤◌, List, [], ◌∷◌, ◌++◌, All, length, fold, arith, length-append}
use Rattle.std.specs.BTreeMap.{insert_entry}
use Rattle.std.specs.Ordering.{match_ordering}
use Rattle.std.specs.declared.cmp.Ordering.{Ordering}
use Rattle.std.specs.declared.cmp.Ordering.TheVariants.{Less, Equal, Greater}
use Rattle.std.proofs.lemmas.List.Elements.{All-head, All-tail}
use Rattle.std.proofs.lemmas.Map.Entries.{length-values_of}
use Rattle.std.proofs.lemmas.Nat.{mul-le}
use Rattle.grid_pieces.specs.declared.piece.StackAt.{StackAt}
use Rattle.via_arrays.specs.declared.parts.CutArray.{CutArray}
use Rattle.def_writer.specs.declared.via.Via.{Via}
use Rattle.def_writer.specs.Via.{via_of, via_order, with_array, by_via, vias_of, arrays_of}

inserted : (o : Ordering) (k : Via) (a : CutArray) (e : Via × CutArray) (es rest : List (Via × CutArray)) → length rest ≤ length es + 1
    → length (match_ordering o ((k, a) ∷ e ∷ es) ((e.0, a) ∷ es) (e ∷ rest)) ≤ length (e ∷ es) + 1
inserted Less k a e es rest h = omega arith
inserted Equal k a e es rest h = omega arith
inserted Greater k a e es rest h = omega arith

with_one : (k : Via) (a : CutArray) (es : List (Via × CutArray)) → length (insert_entry via_order es k a) ≤ length es + 1
with_one k a [] = omega arith
with_one k a (e ∷ es) = inserted (via_order k e.0) k a e es (insert_entry via_order es k a) (with_one k a es)

with_all : (arrays : List CutArray) (es : List (Via × CutArray)) → length (fold with_array es arrays) ≤ length es + length arrays
with_all [] es = omega arith
with_all (a ∷ arrays) es =
    let one = with_one (via_of a) a es in
    let rest = with_all arrays (with_array es a) in
    omega arith

vias_few : (arrays : List CutArray) → length (vias_of arrays) ≤ length arrays
vias_few arrays =
    let same : length (vias_of arrays) ≡ length (by_via arrays) = length-values_of (by_via arrays) in
    let few : length (by_via arrays) ≤ 0 + length arrays = with_all arrays [] in
    omega arith

-- No stack has more arrays than this.
abbrev HasFew : ℕ → StackAt → Type 0
HasFew most at = length at.stack.arrays ≤ most

arrays_few : (most : ℕ) (stacks : List StackAt) → All (HasFew most) stacks → length (arrays_of stacks) ≤ length stacks * most
arrays_few most [] all = omega arith
arrays_few most (at ∷ stacks) all =
    let one : length at.stack.arrays ≤ most = All-head (HasFew most) at stacks all in
    let rest : length (arrays_of stacks) ≤ length stacks * most = arrays_few most stacks (All-tail (HasFew most) at stacks all) in
    let both : length (at.stack.arrays ++ arrays_of stacks) ≡ length at.stack.arrays + length (arrays_of stacks) = length-append at.stack.arrays (arrays_of stacks) in
    let more : (length stacks + 1) * most ≡ length stacks * most + most = omega arith in
    omega arith

pub grid_vias_few : (most many : ℕ) (stacks : List StackAt) → All (λ (at : StackAt). length at.stack.arrays ≤ most) stacks → length stacks ≤ many
    → length (vias_of (arrays_of stacks)) ≤ many * most
grid_vias_few most many stacks all few =
    let vias = vias_few (arrays_of stacks) in
    let arrays = arrays_few most stacks all in
    let m : length stacks * most ≤ many * most = mul-le (length stacks) most many most few (omega arith) in
    omega arith
