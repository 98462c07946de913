-- One more line, and what all entries of a list have.
use Rattle.std.proofs.Common.{◌≡◌, ℕ, Bool, true, false, List, [], ◌∷◌, ◌++◌, map, filter, All, if◌then◌else◌, refl, sym, ◌∙◌, ap, subst}
use Rattle.std.proofs.lemmas.List.{append-nil}
use Rattle.std.proofs.lemmas.List.Elements.{All-nil, All-cons, filter-append}
use Rattle.entry_list.specs.InTurn.{InTurn}

-- ## lines of one kind among all lines

pub filter-more : {L : Type 0} (is : L → Bool) (lines : List L) (line : L) → is line ≡ true →
    filter is (lines ++ line ∷ []) ≡ filter is lines ++ line ∷ []
filter-more is lines line one_more = filter-append is lines (line ∷ [])
    ∙ ap (λ z. filter is lines ++ (if z then (line ∷ []) else [])) one_more

pub filter-same : {L : Type 0} (is : L → Bool) (lines : List L) (line : L) → is line ≡ false →
    filter is (lines ++ line ∷ []) ≡ filter is lines
filter-same is lines line none =
    filter-append is lines (line ∷ []) ∙ ap (λ z. filter is lines ++ (if z then (line ∷ []) else [])) none
    ∙ append-nil (filter is lines)

-- ## one more line

pub in-turn-more : {L E : Type 0} (says : L → E → Type 0) (lines : List L) (entries : List E) (line : L) (entry : E) →
    InTurn says lines entries → says line entry → InTurn says (lines ++ line ∷ []) (entries ++ entry ∷ [])
in-turn-more says [] [] line entry h s = (s, tt)
in-turn-more says (l ∷ lines) (e ∷ entries) line entry h s = (h.0, in-turn-more says lines entries line entry h.1 s)
in-turn-more says [] (e ∷ entries) line entry h s = absurd h
in-turn-more says (l ∷ lines) [] line entry h s = absurd h

-- A line of the kind says one more entry.
pub turn-added : {L E : Type 0} (says : L → E → Type 0) (is : L →
    Bool) (lines : List L) (line : L) (old new : List E) (entry : E) → is line ≡ true →
    InTurn says (filter is lines) old → says line entry → new ≡ old ++ entry ∷ [] →
    InTurn says (filter is (lines ++ line ∷ [])) new
turn-added {L} {E} says is lines line old new entry one_more h s e =
    subst (λ (z : List L). InTurn says z new) (sym (filter-more is lines line one_more))
    (subst (λ (z : List E). InTurn says (filter is lines ++ line ∷ []) z) (sym e) (in-turn-more says
    (filter is lines) old line entry h s))

-- A line of another kind says none.
pub turn-kept : {L E : Type 0} (says : L → E → Type 0) (is : L →
    Bool) (lines : List L) (line : L) (entries : List E) → is line ≡ false →
    InTurn says (filter is lines) entries → InTurn says (filter is (lines ++ line ∷ [])) entries
turn-kept {L} says is lines line entries none h = subst (λ (z : List L). InTurn says z entries) (sym
    (filter-same is lines line none)) h

-- ## all entries

-- The entries of the same lines are the same, where what a line says is one entry.
pub in-turn-one : {L E : Type 0} (says : L → E → Type 0) → ((line : L) (e f : E) → says line e → says line f → e ≡ f) →
    (lines : List L) (es fs : List E) → InTurn says lines es → InTurn says lines fs → es ≡ fs
in-turn-one says one [] [] [] h k = refl
in-turn-one says one (l ∷ lines) (e ∷ es) (f ∷ fs) h k =
    ap (λ z. z ∷ es) (one l e f h.0 k.0) ∙ ap (λ z. f ∷ z) (in-turn-one says one lines es fs h.1 k.1)
in-turn-one says one [] (e ∷ es) fs h k = absurd h
in-turn-one says one [] [] (f ∷ fs) h k = absurd k
in-turn-one says one (l ∷ lines) [] fs h k = absurd h
in-turn-one says one (l ∷ lines) (e ∷ es) [] h k = absurd k

-- All entries keep what each entry keeps that a line says.
pub in-turn-all : {L E : Type 0} (says : L → E → Type 0) (keeps : E → Type 0) → ((line : L) (entry : E) →
    says line entry → keeps entry) →
    (lines : List L) (entries : List E) → InTurn says lines entries → All keeps entries
in-turn-all says keeps said [] [] h = All-nil keeps
in-turn-all says keeps said (l ∷ lines) (e ∷ entries) h = All-cons keeps e entries (said l e h.0)
    (in-turn-all says keeps said lines entries h.1)
in-turn-all says keeps said [] (e ∷ entries) h = absurd h
in-turn-all says keeps said (l ∷ lines) [] h = absurd h

-- The entries have the names of their lines, where each has that of the line that says it.
pub in-turn-names : {L E : Type 0} (says : L → E → Type 0) (name : L → List ℕ) (named : E → List ℕ) →
    ((line : L) (entry : E) → says line entry → named entry ≡ name line) →
    (lines : List L) (entries : List E) → InTurn says lines entries → map named entries ≡ map name lines
in-turn-names says name named said [] [] h = refl
in-turn-names says name named said (l ∷ lines) (e ∷ entries) h =
    ap (λ z. z ∷ map named entries) (said l e h.0)
    ∙ ap (λ z. name l ∷ z) (in-turn-names says name named said lines entries h.1)
in-turn-names says name named said [] (e ∷ entries) h = absurd h
in-turn-names says name named said (l ∷ lines) [] h = absurd h
