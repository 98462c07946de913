-- One more entry of lists that are made entry after entry.
use Rattle.std.proofs.Common.{◌≡◌, ℕ, suc, ◌+◌, ◌<◌, Bool, true, false, cond, List, [], ◌∷◌, ◌++◌, length, take, map, get_or, Option, Some, None, refl, sym, ◌∙◌, ap, arith}
use Rattle.std.specs.List.{filter_map, flat_map, cons_option, position_from}
use Rattle.std.specs.Option.{option_to_list}
use Rattle.std.proofs.lemmas.List.{take_more, append-nil, length-map}
use Rattle.std.proofs.lemmas.List.Elements.{filter_map-append}
use Rattle.std.proofs.lemmas.Grind.{flat_map-append}
use Rattle.std.specs.Str.{bytes_eq}
use Rattle.std.specs.Option.{unwrap_or}
use Rattle.std.proofs.lemmas.Option.{none-some}
use Rattle.lef_tech.specs.declared.layer.RoutingLayer.{RoutingLayer}
use Rattle.lef_tech.specs.declared.tech.Tech.{Tech}
use Rattle.block_rects.specs.Layers.{routing_names, place_of_layer}

kept_one : {X Y : Type 0} (h : X → Option Y) (x : X) (o : Option Y) → h x ≡ o → filter_map h (x ∷ []) ≡ option_to_list o
kept_one h x None e = ap (λ o. cons_option o []) e
kept_one h x (Some y) e = ap (λ o. cons_option o []) e

pub kept_more : {X Y : Type 0} (h : X → Option Y) (xs : List X) (i : ℕ) (e : X) (o : Option Y) → i < length xs → e ≡ get_or xs i e
    → h e ≡ o → filter_map h (take (i + 1) xs) ≡ filter_map h (take i xs) ++ option_to_list o
kept_more h xs i e o within is given = ap (filter_map h) (take_more xs i e within) ∙ filter_map-append h (take i xs) (get_or xs i e ∷ [])
    ∙ ap (λ ys. filter_map h (take i xs) ++ ys) (kept_one h (get_or xs i e) o (ap h (sym is) ∙ given))

pub more_pins : {X Y : Type 0} (f : X → List Y) (xs : List X) (i : ℕ) (e : X) (ys : List Y) → i < length xs → e ≡ get_or xs i e
    → ys ≡ f e → flat_map f (take (i + 1) xs) ≡ flat_map f (take i xs) ++ ys
more_pins f xs i e ys within is given = ap (flat_map f) (take_more xs i e within) ∙ flat_map-append f (take i xs) (get_or xs i e ∷ [])
    ∙ ap (λ zs. flat_map f (take i xs) ++ zs) (append-nil (f (get_or xs i e)) ∙ ap f (sym is) ∙ sym given)

-- A name that stands has a place among the names.
step : (k place n : ℕ) (b : Bool) (rest : Option ℕ) → cond b (Some k) rest ≡ Some place → (rest ≡ Some place → place < (k + 1) + n) → place < k + suc n
step k place n true rest e next = let same : k ≡ place = ap (λ o. unwrap_or o 0) e in omega (arith, same)
step k place n false rest e next = let is = next e in omega arith

place_within : {X : Type 0} (t : X → Bool) (xs : List X) (k place : ℕ) → position_from t k xs ≡ Some place → place < k + length xs
place_within t [] k place e = absurd (none-some place e)
place_within t (x ∷ xs) k place e = step k place (length xs) (t x) (position_from t (k + 1) xs) e (place_within t xs (k + 1) place)

pub layer_within : (tech : Tech) (name : List ℕ) (place : ℕ) → place_of_layer tech name ≡ Some place → place < length tech.routing
layer_within tech name place e =
    let is = place_within (λ (other : List ℕ). bytes_eq other name) (routing_names tech) 0 place e in
    let many = length-map tech.routing (λ (layer : RoutingLayer). layer.name) in
    omega (arith, many)
