-- The reach of the ring of a net.
use Rattle.std.proofs.Common.{◌≡◌, ℕ, ◌+◌, ◌<◌, true, false, cond, List, [], ◌∷◌, ◌++◌, take, length, get_or, refl, sym, ap, ◌∙◌, Option, Some, None}
use Rattle.std.specs.Option.{option_or}
use Rattle.std.proofs.lemmas.List.{take_more}
use Rattle.geom_rect.specs.declared.direction.Axis.{Axis}
use Rattle.geom_rect.specs.declared.drawn.Drawn.{Drawn}
use Rattle.geom_rect.specs.declared.run.Run.{Run}
use Rattle.geom_rect.specs.Drawn.{drawn_run}
use Rattle.grid_shapes.specs.Site.{is_side, ring_reach}

abbrev reach_of : Axis → ℕ → Drawn → Option Run
reach_of axis net side = cond (is_side axis net side) (Some (drawn_run side)) None

or_none : {X : Type 0} (a : Option X) → option_or a None ≡ a
or_none None = refl
or_none (Some x) = refl

or_assoc : {X : Type 0} (a b c : Option X) → option_or (option_or a b) c ≡ option_or a (option_or b c)
or_assoc None b c = refl
or_assoc (Some x) b c = refl

reach_push : (axis : Axis) (net : ℕ) (sides : List Drawn) (side : Drawn)
    → ring_reach axis net (sides ++ side ∷ []) ≡ option_or (reach_of axis net side) (ring_reach axis net sides)
reach_push axis net [] side = sym (or_none (reach_of axis net side))
reach_push axis net (first ∷ sides) side =
    ap (λ (r : Option Run). option_or r (reach_of axis net first)) (reach_push axis net sides side)
    ∙ or_assoc (reach_of axis net side) (ring_reach axis net sides) (reach_of axis net first)

reach_step : (axis : Axis) (net : ℕ) (sides : List Drawn) (i : ℕ) (d : Drawn) → i < length sides
    → ring_reach axis net (take (i + 1) sides) ≡ option_or (reach_of axis net (get_or sides i d)) (ring_reach axis net (take i sides))
reach_step axis net sides i d within = ap (ring_reach axis net) (take_more sides i d within) ∙ reach_push axis net (take i sides) (get_or sides i d)

pub reach_more : (axis : Axis) (net : ℕ) (sides : List Drawn) (i : ℕ) (d : Drawn) → i < length sides → is_side axis net (get_or sides i d) ≡ true
    → ring_reach axis net (take (i + 1) sides) ≡ Some (drawn_run (get_or sides i d))
reach_more axis net sides i d within is =
    reach_step axis net sides i d within
    ∙ ap (λ b. option_or (cond b (Some (drawn_run (get_or sides i d))) None) (ring_reach axis net (take i sides))) is

pub reach_kept : (axis : Axis) (net : ℕ) (sides : List Drawn) (i : ℕ) (d : Drawn) → i < length sides → is_side axis net (get_or sides i d) ≡ false
    → ring_reach axis net (take (i + 1) sides) ≡ ring_reach axis net (take i sides)
reach_kept axis net sides i d within is =
    reach_step axis net sides i d within
    ∙ ap (λ b. option_or (cond b (Some (drawn_run (get_or sides i d))) None) (ring_reach axis net (take i sides))) is
