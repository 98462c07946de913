-- One more entry of lists that are made entry after entry, and what all entries of nets keep.
use Rattle.std.proofs.Common.{◌≡◌, ℕ, ◌+◌, ◌<◌, List, [], ◌∷◌, ◌++◌, All, length, map, take, get_or, append_assoc, sym, ◌∙◌, ap}
use Rattle.std.proofs.lemmas.List.{map_more}
use Rattle.def_wiring.specs.declared.record.WiredNet.{WiredNet}
use Rattle.def_wiring.specs.Limits.{NetKeeps, SegmentKeeps}
use Rattle.wire_names.specs.inside.Tables.{LiesNear}

pub appended : {X Y : Type 0} (f : X → Y) (before : List Y) (xs : List X) (old new : List Y) (i : ℕ) (x : X) (y : Y) → i < length xs
    → x ≡ get_or xs i x → old ≡ before ++ map f (take i xs) → y ≡ f x → new ≡ old ++ y ∷ [] → new ≡ before ++ map f (take (i + 1) xs)
appended f before xs old new i x y within is had made pushed =
    pushed ∙ ap (λ z. old ++ z ∷ []) (made ∙ ap f is) ∙ ap (λ z. z ++ f (get_or xs i x) ∷ []) had
    ∙ append_assoc before (map f (take i xs)) (f (get_or xs i x) ∷ []) ∙ ap (λ z. before ++ z) (sym (map_more f xs i x within))

pub segments_keep : (nets : List WiredNet) → All NetKeeps nets → All (λ (net : WiredNet). All SegmentKeeps net.segments) nets
segments_keep nets keep k d within = (keep k d within).segments

pub places_near : (nets : List WiredNet) → All NetKeeps nets → All (λ (net : WiredNet). All LiesNear net.vias) nets
places_near nets keep k d within j e inside = let kept = (keep k d within).vias j e inside in (kept.x, kept.y)
