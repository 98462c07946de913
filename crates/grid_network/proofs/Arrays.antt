-- The arrays of the stacks, each once.
use Rattle.std.proofs.Common.{◌≡◌, ◌⊎◌, inl, inr, zero, suc, ℕ, ◌<◌, ◌≤◌, Option, Some, None, List, ◌++◌, Contains, length, slice_get, refl, sym, subst, ◌∙◌, arith}
use Rattle.std.proofs.lemmas.Bool.{cases_lt}
use Rattle.std.proofs.lemmas.List.Elements.{Contains-append_left, Contains-append_right, Contains-append_cases}
use Rattle.std.proofs.lemmas.List.FromFn.{length-map-range_with_len, get_or-map-range_with_len}
use Rattle.std.proofs.lemmas.Option.{slice_get_within}
use Rattle.lef_tech.specs.declared.tech.Tech.{Tech}
use Rattle.grid_pieces.specs.declared.piece.StackAt.{StackAt}
use Rattle.grid_network.specs.declared.junction.Junction.{Junction}
use Rattle.grid_network.specs.declared.segment.Segment.{Segment}
use Rattle.grid_network.specs.Listing.{ListsAll}
use Rattle.grid_network.specs.Drawing.{Drawing}
use Rattle.grid_network.specs.Segments.{cut_array, IsCutArray, IsSegment}
use Rattle.grid_network.specs.inside.Steps.{arrays_of, cuts_below, wires_below}
use Rattle.grid_network.proofs.Wires.{AreAll, wires_listed}

-- the segment is an array of one of the first n stacks
abbrev pub IsCutBelow : List StackAt → ℕ → Segment → Type 0
IsCutBelow stacks n s = (k : ℕ) × (stack : StackAt) × (level : ℕ) × (k < n) × (slice_get stacks k ≡ Some stack) × (level < length stack.stack.arrays) × (s ≡ cut_array stack k level)

of_one : (stacks : List StackAt) (k n : ℕ) (s : Segment) (o : Option StackAt) → slice_get stacks k ≡ o → k < n → Contains (arrays_of o k) s → IsCutBelow stacks n s
of_one stacks k n s None e below (i, within, h) = absurd (omega arith)
of_one stacks k n s (Some stack) e below (i, within, h) =
    let long = length-map-range_with_len (cut_array stack k) 0 (length stack.stack.arrays) in
    let level : i < length stack.stack.arrays = omega (arith, long) in
    (k, stack, i, below, e, level, sym h ∙ get_or-map-range_with_len (cut_array stack k) 0 (length stack.stack.arrays) i i s level (omega arith))

in_one : (stack : StackAt) (k level : ℕ) (s : Segment) → level < length stack.stack.arrays → s ≡ cut_array stack k level → Contains (arrays_of (Some stack) k) s
in_one stack k level s within e =
    let long = length-map-range_with_len (cut_array stack k) 0 (length stack.stack.arrays) in
    (level, omega (arith, long), get_or-map-range_with_len (cut_array stack k) 0 (length stack.stack.arrays) level level s within (omega arith) ∙ sym e)

have_more : (stacks : List StackAt) (n : ℕ) (s : Segment) → (Contains (cuts_below stacks n) s → IsCutBelow stacks n s)
    → (Contains (cuts_below stacks n) s ⊎ Contains (arrays_of (slice_get stacks n) n) s) → IsCutBelow stacks (suc n) s
have_more stacks n s before (inl h) = let r = before h in (r.0, r.1, r.2, omega (arith, r.3), r.4, r.5, r.6)
have_more stacks n s before (inr h) = of_one stacks n (suc n) s (slice_get stacks n) refl (omega arith) h

pub cuts_have : (stacks : List StackAt) (n : ℕ) (s : Segment) → Contains (cuts_below stacks n) s → IsCutBelow stacks n s
cuts_have stacks zero s (k, within, e) = absurd (omega arith)
cuts_have stacks (suc n) s h = have_more stacks n s (cuts_have stacks n s) (Contains-append_cases (cuts_below stacks n) (arrays_of (slice_get stacks n) n) s h)

hold_more : (stacks : List StackAt) (n : ℕ) (s : Segment) (k : ℕ) (stack : StackAt) (level : ℕ) → (k < n → Contains (cuts_below stacks n) s) → k < suc n → slice_get stacks k ≡ Some stack
    → level < length stack.stack.arrays → s ≡ cut_array stack k level → ((k < n) ⊎ (n ≤ k)) → Contains (cuts_below stacks (suc n)) s
hold_more stacks n s k stack level before below at within e (inl h) = Contains-append_left (cuts_below stacks n) (arrays_of (slice_get stacks n) n) s (before h)
hold_more stacks n s k stack level before below at within e (inr h) =
    let same : k ≡ n = omega arith in
    let here : Contains (arrays_of (slice_get stacks k) k) s = subst (λ (o : Option StackAt). Contains (arrays_of o k) s) (sym at) (in_one stack k level s within e) in
    Contains-append_right (cuts_below stacks n) (arrays_of (slice_get stacks n) n) s (subst (λ (m : ℕ). Contains (arrays_of (slice_get stacks m) m) s) same here)

cuts_hold : (stacks : List StackAt) (n : ℕ) (s : Segment) (k : ℕ) (stack : StackAt) (level : ℕ) → k < n → slice_get stacks k ≡ Some stack → level < length stack.stack.arrays → s ≡ cut_array stack k level → Contains (cuts_below stacks n) s
cuts_hold stacks zero s k stack level below at within e = absurd (omega arith)
cuts_hold stacks (suc n) s k stack level below at within e = hold_more stacks n s k stack level (λ h. cuts_hold stacks n s k stack level h at within e) below at within e (cases_lt k n)

pub cuts_listed : (d : Drawing) → ListsAll (IsCutArray d) (cuts_below d.grid.stacks (length d.grid.stacks))
cuts_listed d s = (λ h. there (cuts_have d.grid.stacks (length d.grid.stacks) s h), λ h. back h)
  where
    there : IsCutBelow d.grid.stacks (length d.grid.stacks) s → IsCutArray d s
    there (k, stack, level, below, at, within, e) = (k, stack, level, at, within, e)

    back : IsCutArray d s → Contains (cuts_below d.grid.stacks (length d.grid.stacks)) s
    back (k, stack, level, at, within, e) = cuts_hold d.grid.stacks (length d.grid.stacks) s k stack level (slice_get_within d.grid.stacks k stack at) at within e

-- the wires and the arrays together are the segments, and there is no other
pub segments_listed : (d : Drawing) (tech : Tech) (js : List Junction) → AreAll d js
    → ListsAll (IsSegment d tech) (wires_below tech.routing d.grid.pieces js (length js) ++ cuts_below d.grid.stacks (length d.grid.stacks))
segments_listed d tech js all s = (λ h. there (Contains-append_cases (wires_below tech.routing d.grid.pieces js (length js)) (cuts_below d.grid.stacks (length d.grid.stacks)) s h), λ h. back h)
  where
    there : (Contains (wires_below tech.routing d.grid.pieces js (length js)) s ⊎ Contains (cuts_below d.grid.stacks (length d.grid.stacks)) s) → IsSegment d tech s
    there (inl h) = inl ((wires_listed d tech js all s).0 h)
    there (inr h) = inr ((cuts_listed d s).0 h)

    back : IsSegment d tech s → Contains (wires_below tech.routing d.grid.pieces js (length js) ++ cuts_below d.grid.stacks (length d.grid.stacks)) s
    back (inl h) = Contains-append_left (wires_below tech.routing d.grid.pieces js (length js)) (cuts_below d.grid.stacks (length d.grid.stacks)) s ((wires_listed d tech js all s).1 h)
    back (inr h) = Contains-append_right (wires_below tech.routing d.grid.pieces js (length js)) (cuts_below d.grid.stacks (length d.grid.stacks)) s ((cuts_listed d s).1 h)
