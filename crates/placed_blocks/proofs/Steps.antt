-- One more block, and one more layer.
use Rattle.std.proofs.Common.{◌≡◌, ℕ, ◌+◌, ◌<◌, List, [], ◌∷◌, ◌++◌, length, take, map, get_or, sym, ◌∙◌, ap, subst, arith}
use Rattle.std.specs.List.{enumerate_from}
use Rattle.std.proofs.lemmas.List.{take_more, length-take-le, map-append}
use Rattle.entry_list.specs.InTurn.{InTurn}
use Rattle.entry_list.specs.Laws.{in-turn-more}

pub turn_more : {L E : Type 0} (says : L → E → Type 0) (lines : List L) (entries : List E) (i : ℕ) (d : L) (entry : E) → i < length lines
    → InTurn says (take i lines) entries → says (get_or lines i d) entry → InTurn says (take (i + 1) lines) (entries ++ entry ∷ [])
turn_more {L} {E} says lines entries i d entry within turn said =
    subst (λ (ls : List L). InTurn says ls (entries ++ entry ∷ [])) (sym (take_more lines i d within))
    (in-turn-more says (take i lines) entries (get_or lines i d) entry turn said)

numbered_more : {X : Type 0} (k n : ℕ) (xs : List X) (x : X) → n ≡ k + length xs
    → enumerate_from k (xs ++ x ∷ []) ≡ enumerate_from k xs ++ (n, x) ∷ []
numbered_more k n [] x e = ap (λ m. (m, x) ∷ []) (sym (e ∙ omega arith))
numbered_more k n (y ∷ ys) x e = ap (λ l. (k, y) ∷ l) (numbered_more (k + 1) n ys x (e ∙ omega arith))

pub mapped_more : {X Y : Type 0} (f : ℕ × X → Y) (xs : List X) (i : ℕ) (x : X) (y : Y) → i < length xs → x ≡ get_or xs i x
    → y ≡ f (i, x) → map f (enumerate_from 0 (take (i + 1) xs)) ≡ map f (enumerate_from 0 (take i xs)) ++ y ∷ []
mapped_more {X} {Y} f xs i x y within is more =
    let many : i ≡ 0 + length (take i xs) = grind (arith, length-take-le i xs) in
    ap (λ l. map f (enumerate_from 0 l)) (take_more xs i x within ∙ ap (λ (e : X). take i xs ++ e ∷ []) (sym is))
    ∙ ap (map f) (numbered_more 0 i (take i xs) x many)
    ∙ map-append f (enumerate_from 0 (take i xs)) ((i, x) ∷ [])
    ∙ ap (λ (z : Y). map f (enumerate_from 0 (take i xs)) ++ z ∷ []) (sym more)
