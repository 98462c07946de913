-- Lines that name what a table has not.
use Rattle.std.proofs.Common.{◌≡◌, ◌↔◌, ℕ, List, [], ◌∷◌, map, Contains, Option, refl, ap, subst}
use Rattle.grid_taps.specs.Naming.{IsFirst, NamesNone}
use Rattle.grid_taps.proofs.Firsts.{first_same}

-- the table has the names
pub none_same : {L : Type 0} (number_of : L → ℕ) (name_of : L → List ℕ) (names table : List (List ℕ)) (lines lines' : List L) (o : Option ℕ)
    → ((name : List ℕ) → Contains table name ↔ Contains names name) → lines ≡ lines' → IsFirst (NamesNone number_of name_of table lines) o
    → IsFirst (NamesNone number_of name_of names lines') o
none_same {L} number_of name_of names table lines lines' o same are first =
    subst (λ (ls : List L). IsFirst (NamesNone number_of name_of names ls) o) are
    (first_same (NamesNone number_of name_of table lines) (NamesNone number_of name_of names lines)
    (λ n w. (w.0, w.1, (w.2.0, λ there. w.2.1 ((same (name_of w.0)).1 there))))
    (λ n w. (w.0, w.1, (w.2.0, λ there. w.2.1 ((same (name_of w.0)).0 there)))) o first)

pub map_same : (xs : List (List ℕ)) → map (λ x. x) xs ≡ xs
map_same [] = refl
map_same (x ∷ xs) = ap (λ z. x ∷ z) (map_same xs)
