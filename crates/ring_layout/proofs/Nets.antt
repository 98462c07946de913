-- The ring of one net after another.
use Rattle.std.proofs.Common.{◌≡◌, ℕ, zero, suc, ◌+◌, List, [], ◌∷◌, ◌++◌, ap, ◌∙◌, arith}
use Rattle.std.specs.List.{flat_map, range_with_len}
use Rattle.std.proofs.lemmas.List.{append-nil}
use Rattle.std.proofs.lemmas.List.Concat.{flat_map-append}
use Rattle.geom_rect.specs.declared.drawn.Drawn.{Drawn}

numbers-suc : (a n : ℕ) → range_with_len a (suc n) ≡ range_with_len a n ++ (a + n) ∷ []
numbers-suc a zero = ap (λ k. k ∷ []) (omega arith)
numbers-suc a (suc n) =
    ap (λ ks. a ∷ ks) (numbers-suc (a + 1) n) ∙ ap (λ k. a ∷ (range_with_len (a + 1) n ++ k ∷ [])) (omega arith)

pub flat_map-next : (f : ℕ → List Drawn) (n : ℕ) → flat_map f (range_with_len 0 (n + 1)) ≡ flat_map f (range_with_len 0 n) ++ f n
flat_map-next f n =
    let one_more : n + 1 ≡ suc n = omega arith in
    let same : 0 + n ≡ n = omega arith in
    ap (λ k. flat_map f (range_with_len 0 k)) one_more ∙ ap (flat_map f) (numbers-suc 0 n)
    ∙ flat_map-append f (range_with_len 0 n) ((0 + n) ∷ []) ∙ ap (λ k. flat_map f (range_with_len 0 n) ++ flat_map f (k ∷ [])) same
    ∙ ap (λ rest. flat_map f (range_with_len 0 n) ++ rest) (append-nil (f n))
