-- One more grid, and one more component.
use Rattle.std.proofs.Common.{◌≡◌, ℕ, suc, ◌+◌, ◌<◌, Bool, true, false, cond, List, [], ◌∷◌, ◌++◌, length, take, drop, get_or, Option, Some, None, refl, sym, ◌∙◌, ap, subst, arith}
use Rattle.std.specs.List.{position_from, filter_map, enumerate_from, cons_option}
use Rattle.std.specs.Option.{is_none, option_or, option_to_list}
use Rattle.std.proofs.lemmas.List.{take_more, take-append-drop, length-take-le, append-nil}
use Rattle.std.proofs.lemmas.List.Elements.{filter_map-append}
use Rattle.std.proofs.Math.Seq.{drop-cons}
use Rattle.entry_list.specs.InTurn.{InTurn}
use Rattle.entry_list.specs.Laws.{in-turn-more}
use Rattle.block_grids.specs.Halo.{grid_halo, is_bad, first_bad, HasHalo}
use Rattle.block_grids.specs.Blocks.{numbered}
use Rattle.block_grids.specs.declared.halo.Halo.{Halo}
use Rattle.pdn_script.specs.declared.record.GridRule.{GridRule}

pub turn_more : {L E : Type 0} (says : L → E → Type 0) (lines : List L) (entries : List E) (i : ℕ) (line : L) (entry : E) → i < length lines
    → line ≡ get_or lines i line → InTurn says (take i lines) entries → says line entry → InTurn says (take (i + 1) lines) (entries ++ entry ∷ [])
turn_more {L} {E} says lines entries i line entry within is turn said =
    subst (λ (ls : List L). InTurn says ls (entries ++ entry ∷ [])) (ap (λ (l : L). take i lines ++ l ∷ []) is ∙ sym (take_more lines i line within))
    (in-turn-more says (take i lines) entries line entry turn said)

-- ## the first bad grid

turn_drop : {L E : Type 0} (t : L → Bool) (says : L → E → Type 0) → ((l : L) (e : E) → says l e → t l ≡ false)
    → (i k : ℕ) (done rest : List L) (entries : List E) → k ≡ i + length done → InTurn says done entries
    → position_from t i (done ++ rest) ≡ position_from t k rest
turn_drop t says ok i k [] rest [] e turn = ap (λ n. position_from t n rest) (sym (e ∙ omega arith))
turn_drop t says ok i k (l ∷ done) rest (x ∷ entries) e turn =
    ap (λ b. cond b (Some i) (position_from t (i + 1) (done ++ rest))) (ok l x turn.0)
    ∙ turn_drop t says ok (i + 1) k done rest entries (e ∙ omega arith) turn.1
turn_drop t says ok i k [] rest (x ∷ entries) e turn = absurd turn
turn_drop t says ok i k (l ∷ done) rest [] e turn = absurd turn

not_bad : (units : ℕ) (grid : GridRule) (halo : Halo) → HasHalo units grid halo → is_bad units grid ≡ false
not_bad units grid halo has = ap is_none has

-- Where each grid before has a halo and this one has none, it is the first bad one.
pub first_of : (units : ℕ) (grids : List GridRule) (halos : List Halo) (i : ℕ) (grid : GridRule) → i < length grids
    → grid ≡ get_or grids i grid → InTurn (HasHalo units) (take i grids) halos → grid_halo units grid ≡ None
    → position_from (is_bad units) 0 grids ≡ Some i
first_of units grids halos i grid within is turn none =
    let many : i ≡ 0 + length (take i grids) = grind (arith, length-take-le i grids) in
    ap (position_from (is_bad units) 0) (sym (take-append-drop i grids))
    ∙ turn_drop (is_bad units) (HasHalo units) (not_bad units) 0 i (take i grids) (drop i grids) halos many turn
    ∙ ap (position_from (is_bad units) i) (drop-cons grids i grid within)
    ∙ ap (λ b. cond b (Some i) (position_from (is_bad units) (i + 1) (drop (suc i) grids))) (ap (is_bad units) (sym is) ∙ ap is_none none)

-- ## one more component

numbered_more : {X : Type 0} (k n : ℕ) (xs : List X) (x : X) → n ≡ k + length xs
    → enumerate_from k (xs ++ x ∷ []) ≡ enumerate_from k xs ++ (n, x) ∷ []
numbered_more k n [] x e = ap (λ m. (m, x) ∷ []) (sym (e ∙ omega arith))
numbered_more k n (y ∷ ys) x e = ap (λ l. (k, y) ∷ l) (numbered_more (k + 1) n ys x (e ∙ omega arith))

kept_one : {X Y : Type 0} (h : X → Option Y) (x : X) (o : Option Y) → h x ≡ o → filter_map h (x ∷ []) ≡ option_to_list o
kept_one h x None e = ap (λ o. cons_option o []) e
kept_one h x (Some y) e = ap (λ o. cons_option o []) e

pub kept_more : {X Y : Type 0} (h : ℕ × X → Option Y) (xs : List X) (i : ℕ) (x : X) (o : Option Y) → i < length xs → x ≡ get_or xs i x
    → h (i, x) ≡ o → filter_map h (enumerate_from 0 (take (i + 1) xs)) ≡ filter_map h (enumerate_from 0 (take i xs)) ++ option_to_list o
kept_more {X} h xs i x o within is more =
    let many : i ≡ 0 + length (take i xs) = grind (arith, length-take-le i xs) in
    ap (λ l. filter_map h (enumerate_from 0 l)) (take_more xs i x within ∙ ap (λ (e : X). take i xs ++ e ∷ []) (sym is))
    ∙ ap (filter_map h) (numbered_more 0 i (take i xs) x many)
    ∙ filter_map-append h (enumerate_from 0 (take i xs)) ((i, x) ∷ [])
    ∙ ap (λ l. filter_map h (enumerate_from 0 (take i xs)) ++ l) (kept_one h (i, x) o more)
