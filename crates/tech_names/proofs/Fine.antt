-- The units of a text that is read show no fault.
use Rattle.std.proofs.Common.{◌≡◌, ℕ, ◌+◌, ◌-◌, ◌<◌, List, [], ◌∷◌, ◌++◌, length, take, refl, sym, ◌∙◌, ap, subst, append_assoc, arith, length-append}
use Rattle.std.proofs.lemmas.List.{append-nil, take_at}
use Rattle.reading.specs.declared.refusal.Cause.{Cause}
use Rattle.reading.specs.declared.refusal.Cause.TheVariants.{Fault}
use Rattle.reading.specs.Pattern.{Matches, joined}
use Rattle.reading.specs.Reading.{Format, Text, Follows, Start, IsFine, CauseAt, IsRead}

-- Each of the units shows no fault after those before it.
abbrev pub AreFine : {W S K : Type 0} → Format W S K → List (List W) → List (List W) → Type 0
AreFine f before [] = Unit {0}
AreFine f before (u ∷ units) = IsFine f before u × AreFine f (before ++ u ∷ []) units

follows_push : {W S K : Type 0} (f : Format W S K) (before units : List (List W)) (u : List W) → Follows f before units → 0 < length u →
    Matches (f.sort (before ++ units)) (f.follow (before ++ units)) u → Follows f before (units ++ u ∷ [])
follows_push f before [] u follows some is =
    (some, subst (λ z. Matches (f.sort z) (f.follow z) u) (append-nil before) is, tt)
follows_push f before (v ∷ units) u follows some is =
    (follows.0, follows.1, follows_push f (before ++ v ∷ []) units u follows.2 some (subst (λ z. Matches (f.sort z) (f.follow z) u) (sym (append_assoc before (v ∷ []) units)) is))

joined-push : {W : Type 0} (units : List (List W)) (u : List W) → joined (units ++ u ∷ []) ≡ joined units ++ u
joined-push [] u = append-nil u
joined-push (v ∷ units) u = ap (λ z. v ++ z) (joined-push units u) ∙ sym (append_assoc v (joined units) u)

-- The words of whole units are at the front of a text in which they stand with others behind them.
one_fine : {W S K : Type 0} (f : Format W S K) (text : Text W) (before : List (List W)) (u rest : List W) → Follows f [] before → 0 < length u →
    Matches (f.sort before) (f.follow before) u → text.words ≡ joined before ++ (u ++ rest) → ((n : ℕ) (cause : Cause K) → CauseAt f text n cause → ⊥) → IsFine f before u
one_fine f text before u rest follows some is all clean a fault =
    let split : text.words ≡ (joined before ++ u) ++ rest = all ∙ sym (append_assoc (joined before) u rest) in
    let long : length (joined before ++ u) ≡ length (joined before) + length u = length-append (joined before) u in
    let whole : length text.words ≡ length (joined before ++ u) + length rest = ap length split ∙ length-append (joined before ++ u) rest in
    let m : ℕ = length (joined before) + (length u - 1) in
    let count : m + 1 ≡ length (joined before ++ u) = omega arith in
    let front : take (m + 1) text.words ≡ joined before ++ u = ap (take (m + 1)) split ∙ take_at (joined before ++ u) rest (m + 1) (sym count) in
    let start : Start f [] (take (m + 1) text.words) = record {
      units = before;
      part = u;
      whole = follows;
      begins = ([], subst (Matches (f.sort before) (f.follow before)) (sym (append-nil u)) is);
      some = some;
      is = front;
    } in
    clean (length (joined before) + a.at) (Fault a.kind) (m, omega arith, (start, a.at, fault, refl))

all_fine : {W S K : Type 0} (f : Format W S K) (text : Text W) (before units : List (List W)) → Follows f [] before → Follows f before units →
    text.words ≡ joined before ++ joined units → ((n : ℕ) (cause : Cause K) → CauseAt f text n cause → ⊥) → AreFine f before units
all_fine f text before [] front follows is clean = tt
all_fine f text before (u ∷ units) front follows is clean = (
  one_fine f text before u (joined units) front follows.0 follows.1 is clean,
  all_fine f text (before ++ u ∷ []) units (follows_push f [] before u front follows.0 follows.1) follows.2
      (is ∙ sym (append_assoc (joined before) u (joined units)) ∙ ap (λ z. z ++ joined units) (sym (joined-push before u))) clean,
)

pub fine : {W S K : Type 0} (f : Format W S K) (text : Text W) (units : List (List W)) → IsRead f text units → AreFine f [] units
fine f text units read = all_fine f text [] units tt read.whole read.is read.clean
