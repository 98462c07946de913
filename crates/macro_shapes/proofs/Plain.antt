-- The blocks that cut a shape that no grid over macros draws.
use Rattle.std.proofs.Common.{◌≡◌, ℕ, Bool, true, false, List, [], ◌∷◌, All, map, filter, get_or, cond, refl, ap, ◌∙◌, Option, Some, None}
use Rattle.std.specs.Prelude.{◌≢◌, ◌&&◌, not}
use Rattle.std.specs.Bool.{nat_eq}
use Rattle.std.proofs.lemmas.Bool.{eqb-true}
use Rattle.std.proofs.Math.Bool.{and-true}
use Rattle.std.proofs.lemmas.List.Elements.{All-head, All-tail}
use Rattle.geom_rect.specs.declared.drawn.Drawn.{Drawn}
use Rattle.halo_cuts.specs.Cut.{cuts_on, is_own, cuts, halos_over}
use Rattle.placed_blocks.specs.declared.block.PlacedBlock.{PlacedBlock}
use Rattle.macro_shapes.specs.Shapes.{no_grid, IsOther, plain_shape, halos_on}

decided : (g : ℕ) (b : Bool) → nat_eq g no_grid ≡ b → Some g ≢ Some no_grid → nat_eq g no_grid ≡ false
decided g true is other = absurd (other (ap Some (eqb-true g no_grid is)))
decided g false is other = is

not_own : (own : Option ℕ) → own ≢ Some no_grid → is_own own no_grid ≡ false
not_own None other = refl
not_own (Some g) other = decided g (nat_eq g no_grid) refl other

one_cuts : (line : Drawn) (block : PlacedBlock) → IsOther block → cuts (plain_shape line) block ≡ cuts_on block.cuts line.layer
one_cuts line block other = ap (λ b. cuts_on block.cuts line.layer && not b) (not_own block.grid other) ∙ and-true (cuts_on block.cuts line.layer)

-- Two tests that agree on a list keep the same of it.
filter_alike : {X : Type 0} (p q : X → Bool) (xs : List X) → All (λ x. p x ≡ q x) xs → filter p xs ≡ filter q xs
filter_alike p q [] alike = refl
filter_alike p q (x ∷ xs) alike =
    ap (λ b. cond b (x ∷ filter p xs) (filter p xs)) (All-head (λ y. p y ≡ q y) x xs alike)
    ∙ ap (λ ys. cond (q x) (x ∷ ys) ys) (filter_alike p q xs (All-tail (λ y. p y ≡ q y) x xs alike))

pub all_halos : (blocks : List PlacedBlock) (line : Drawn) → All IsOther blocks → halos_over blocks (plain_shape line) ≡ halos_on blocks line.layer
all_halos blocks line others =
    ap (λ bs. map (λ (block : PlacedBlock). block.grown) bs)
    (filter_alike (cuts (plain_shape line)) (λ (block : PlacedBlock). cuts_on block.cuts line.layer) blocks (λ k d within. one_cuts line (get_or blocks k d) (others k d within)))
