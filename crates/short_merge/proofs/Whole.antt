-- Where there are as many groups as nodes each node is the first of its group, and all names stay in their places.
use Rattle.std.proofs.Common.{◌≡◌, ℕ, zero, suc, ◌+◌, ◌-◌, ◌<◌, arith, refl, sym, ap, ◌∙◌, List, [], length, get_or, map, All}
use Rattle.std.specs.List.{range_with_len}
use Rattle.std.specs.List.Sorted.{IsStrictlyIncreasing}
use Rattle.std.proofs.lemmas.List.{ext_get_or}
use Rattle.std.proofs.lemmas.List.FromFn.{fill_by_all, length-range_with_len, get_or-range_with_len}
use Rattle.node_groups.specs.Laws.{rises}

-- So many entries after one leave room for them below the count.
room : (n : ℕ) (xs : List ℕ) → IsStrictlyIncreasing xs → All (λ x. x < n) xs → (after k : ℕ)
    → k + after + 1 ≡ length xs → get_or xs k 0 + after < n
room n xs up below zero k e = let b = below k 0 (omega (arith, e)) in omega (arith, b)
room n xs up below (suc after) k e =
    let step = up k (omega (arith, e)) in
    let next = room n xs up below after (k + 1) (omega (arith, e)) in
    omega (arith, step, next)

-- As many numbers as there are below a count, in rising order, are all of them.
all_first : (n : ℕ) (xs : List ℕ) → IsStrictlyIncreasing xs → All (λ x. x < n) xs → length xs ≡ n
    → xs ≡ range_with_len 0 n
all_first n xs up below size = ext_get_or 0 xs (range_with_len 0 n) (size ∙ sym (length-range_with_len 0 n))
    (λ k l.
    let l' : k < n = omega (arith, l, size) in
    let least = rises xs up k l in
    let most = room n xs up below (n - (k + 1)) k (omega (arith, l', size)) in
    omega (arith, least, most, l', get_or-range_with_len 0 n k 0 l'))

-- The names of the first nodes are then all names.
pub all_names : (names : List (List ℕ)) (firsts : List ℕ) → IsStrictlyIncreasing firsts
    → All (λ first. first < length names) firsts → length firsts ≡ length names
    → names ≡ map (λ node. get_or names node []) firsts
all_names names firsts up below size =
    fill_by_all (λ (node : ℕ). get_or names node []) names (length names) [] refl (λ k l. refl)
    ∙ ap (map (λ (node : ℕ). get_or names node [])) (sym (all_first (length names) firsts up below size))
