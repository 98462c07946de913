-- Lists that grow by what a list's entries give, and facts of lists that are equal.
use Rattle.std.proofs.Common.{◌≡◌, ℕ, ◌+◌, ◌<◌, refl, sym, ap, subst, ◌∙◌, List, [], ◌∷◌, ◌++◌, length, get_or, take, map, append_assoc}
use Rattle.std.proofs.lemmas.List.{take_more}
use Rattle.grid_net.specs.declared.part.Resistor.{Resistor}
use Rattle.grid_net.specs.declared.part.Pad.{Pad}
use Rattle.grid_net.specs.declared.part.Load.{Load}

pub map_of_two : {X Y : Type 0} (f : X → Y) (xs ys : List X) → map f (xs ++ ys) ≡ map f xs ++ map f ys
map_of_two f [] ys = refl
map_of_two f (x ∷ xs) ys = ap (λ zs. f x ∷ zs) (map_of_two f xs ys)

-- One more entry.
pub push_mapped : {X Y : Type 0} (front : List Y) (f : X → Y) (xs : List X) (k : ℕ) (d : X) → k < length xs → (ys : List Y)
    → ys ≡ front ++ map f (take k xs) → (y : Y) → y ≡ f (get_or xs k d) → ys ++ y ∷ [] ≡ front ++ map f (take (k + 1) xs)
push_mapped front f xs k d l ys so_far y e =
    ap (λ zs. zs ++ y ∷ []) so_far
    ∙ ap (λ z. (front ++ map f (take k xs)) ++ z ∷ []) e
    ∙ append_assoc front (map f (take k xs)) (f (get_or xs k d) ∷ [])
    ∙ ap (λ zs. front ++ zs) (sym (map_of_two f (take k xs) (get_or xs k d ∷ [])) ∙ ap (map f) (sym (take_more xs k d l)))

-- What holds of the four lists of a network holds of those that they are.
pub of_lists : (P : ℕ → List Resistor → List Pad → List Load → Type 0) (n m : ℕ) (rs qs : List Resistor) (ps os : List Pad)
    (ls ks : List Load) → n ≡ m → rs ≡ qs → ps ≡ os → ls ≡ ks → P n rs ps ls → P m qs os ks
of_lists P n m rs qs ps os ls ks e f g h this =
    subst (λ (x : List Load). P m qs os x) h
    (subst (λ (x : List Pad). P m qs x ls) g (subst (λ (x : List Resistor). P m x ps ls) f (subst (λ (x : ℕ). P x rs ps ls) e this)))
