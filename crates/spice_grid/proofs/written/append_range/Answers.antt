use Rattle.std.proofs.Common.{◌≡◌, ◌≢◌, ℕ, ℤ, List, [], ◌++◌, ◌∷◌, codes, ap, ◌∙◌, append_assoc, rules, to_z, of_z}
use Rattle.std.specs.Int.{w64, w128}
use Rattle.fixed_decimal.specs.Printed.{printed}
use Rattle.grid_net.specs.declared.part.LoadRange.{LoadRange}
use Rattle.spice_grid.proofs.LineLemmas.{range_differs}
use Rattle.spice_grid.proofs.written.append_range.Goals as goal

pub returns : goal.returns
returns c =
    let load : LoadRange = c.args.load in
    let other : load.low ≢ load.high = λ e. c.if-load.false (ap (of_z w64) e) in
    let low : to_z w128 (of_z w128 (to_z w64 (of_z w64 load.low))) ≡ load.low = search rules in
    let high : to_z w128 (of_z w128 (to_z w64 (of_z w64 load.high))) ≡ load.high = search rules in
    let word : List ℕ = codes "*range " in
    let lower : List ℕ = printed (to_z w128 (of_z w128 (to_z w64 (of_z w64 load.low)))) 15 in
    let upper : List ℕ = printed (to_z w128 (of_z w128 (to_z w64 (of_z w64 load.high)))) 15 ++ 10 ∷ [] in
    let first = c.in_ok-print.ensures.ok ∙ ap (λ l. l ++ lower) c.in_ok-extend_from_slice.ensures.items in
    let blank = c.in_ok-push.ensures.items ∙ ap (λ l. l ++ 32 ∷ []) first in
    c.in_ok-append_value.ensures ∙ ap (λ l. l ++ upper) blank ∙ parted c.args.out.now.items word lower (32 ∷ []) upper
    ∙ ap (λ l. c.args.out.now.items ++ l) (with_ends _ _ low high ∙ range_differs load other)
  where
    with_ends : {a b : ℤ} (c d : ℤ) → c ≡ a → d ≡ b → ((codes "*range " ++ printed c 15) ++ 32 ∷ []) ++ (printed d 15 ++ 10 ∷ []) ≡ ((codes "*range " ++ printed a 15) ++ 32 ∷ []) ++ (printed b 15 ++ 10 ∷ [])
    with_ends c d e f = λ i. ((codes "*range " ++ printed (e i) 15) ++ 32 ∷ []) ++ (printed (f i) 15 ++ 10 ∷ [])

    parted : (out word lower blank upper : List ℕ) → (((out ++ word) ++ lower) ++ blank) ++ upper ≡ out ++ (((word ++ lower) ++ blank) ++ upper)
    parted out word lower blank upper =
        ap (λ l. (l ++ blank) ++ upper) (append_assoc out word lower) ∙ ap (λ l. l ++ upper) (append_assoc out (word ++ lower) blank)
        ∙ append_assoc out ((word ++ lower) ++ blank) upper
