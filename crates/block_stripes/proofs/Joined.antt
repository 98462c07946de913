-- The shapes of one thing after another.
use Rattle.std.proofs.Common.{◌≡◌, ℕ, ◌+◌, ◌<◌, Bool, true, false, cond, List, [], ◌∷◌, ◌++◌, All, filter, take, length, get_or, refl, sym, ap, ◌∙◌, append_assoc, subst}
use Rattle.std.specs.Bool.{MatchBool}
use Rattle.std.proofs.lemmas.List.{append-nil, take_more}
use Rattle.std.proofs.lemmas.List.Elements.{All-nil, All-append, All-head, All-tail, All-same, filter_more}
use Rattle.halo_cuts.specs.declared.shape.GridShape.{GridShape}
use Rattle.block_stripes.specs.Straps.{AreJoined}
use Rattle.block_stripes.specs.inside.Adding.{Adds}

joined_push : {C : Type 0} (draws : C → List GridShape → Type 0) (commands : List C) (command : C) (shapes first : List GridShape)
    → AreJoined draws commands shapes → draws command first → AreJoined draws (commands ++ command ∷ []) (shapes ++ first)
joined_push draws [] command shapes first are is =
    (first, [], is, refl, ap (λ (xs : List GridShape). xs ++ first) are ∙ sym (append-nil first))
joined_push draws (other ∷ commands) command shapes first (begin, rest, is_other, are, joined) is = (
  begin,
  rest ++ first,
  is_other,
  joined_push draws commands command rest first are is,
  ap (λ (xs : List GridShape). xs ++ first) joined ∙ append_assoc begin rest first,
)

pub joined_more : {C : Type 0} (draws : C → List GridShape → Type 0) (commands : List C) (i : ℕ) (d : C) (before after : List GridShape) → i < length commands
    → AreJoined draws (take i commands) before → Adds (draws (get_or commands i d)) before after → AreJoined draws (take (i + 1) commands) after
joined_more {C} draws commands i d before after within are (first, is, joined) =
    subst (λ (xs : List GridShape). AreJoined draws (take (i + 1) commands) xs) (sym joined)
    (subst (λ (cs : List C). AreJoined draws cs (before ++ first)) (sym (take_more commands i d within))
    (joined_push draws (take i commands) (get_or commands i d) before first are is))

-- The same for those that pass a test.
passed : {C : Type 0} (draws : C → List GridShape → Type 0) (done : List C) (command : C) (before after : List GridShape) (b : Bool) → AreJoined draws done before
    → MatchBool b (Adds (draws command) before after) (after ≡ before) → AreJoined draws (done ++ cond b (command ∷ []) []) after
passed draws done command before after true are (first, is, joined) =
    subst (λ (xs : List GridShape). AreJoined draws (done ++ command ∷ []) xs) (sym joined) (joined_push draws done command before first are is)
passed {C} draws done command before after false are same =
    subst (λ (cs : List C). AreJoined draws cs after) (sym (append-nil done)) (subst (λ (xs : List GridShape). AreJoined draws done xs) (sym same) are)

pub joined_passed : {C : Type 0} (draws : C → List GridShape → Type 0) (p : C → Bool) (commands : List C) (i : ℕ) (d : C) (before after : List GridShape)
    → i < length commands → AreJoined draws (filter p (take i commands)) before
    → MatchBool (p (get_or commands i d)) (Adds (draws (get_or commands i d)) before after) (after ≡ before)
    → AreJoined draws (filter p (take (i + 1) commands)) after
joined_passed {C} draws p commands i d before after within are is =
    subst (λ (cs : List C). AreJoined draws cs after) (sym (filter_more p commands i d within))
    (passed draws (filter p (take i commands)) (get_or commands i d) before after (p (get_or commands i d)) are is)

-- What all of them keep.
pub joined_keep : {C : Type 0} (Q : C → Type 0) (P : GridShape → Type 0) (draws : C → List GridShape → Type 0)
    → ((command : C) (first : List GridShape) → Q command → draws command first → All P first)
    → (commands : List C) (shapes : List GridShape) → All Q commands → AreJoined draws commands shapes → All P shapes
joined_keep Q P draws keeps [] shapes all are = All-same P shapes [] are (All-nil P)
joined_keep Q P draws keeps (command ∷ commands) shapes all (first, rest, is, are, joined) =
    All-same P shapes (first ++ rest) joined
    (All-append P first rest (keeps command first (All-head Q command commands all) is)
    (joined_keep Q P draws keeps commands rest (All-tail Q command commands all) are))
