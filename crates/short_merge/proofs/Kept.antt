-- Names moved to the front of their list, one group at a time.
use Rattle.std.proofs.Common.{◌≡◌, ℕ, zero, suc, ◌+◌, ◌<◌, ◌≤◌, inl, inr, arith, refl, sym, ap, ◌∙◌, List, [], ◌∷◌, length, get_or, take, map, All}
use Rattle.std.specs.Prelude.{Contains}
use Rattle.std.specs.List.{swap}
use Rattle.std.specs.List.Sorted.{IsStrictlyIncreasing}
use Rattle.std.proofs.lemmas.Bool.{cases_lt}
use Rattle.std.proofs.lemmas.List.{ext_get_or, length-map, get_or-map, length-take-le, get_or-take}
use Rattle.std.proofs.lemmas.List.Edits.{swapped_from_swap, length-swap}
use Rattle.node_groups.specs.Laws.{rises, rising}
use Rattle.short_merge.specs.inside.Kept.{AreKept}

pub none_kept : (names : List (List ℕ)) (firsts : List ℕ) → AreKept names names firsts 0
none_kept names firsts = record { same_length = refl; kept = λ g l. absurd (omega arith); rest = λ j h. refl }

module _ (names now next : List (List ℕ)) (firsts : List ℕ) (count : ℕ) (nodes : All (λ first. first < length names) firsts)
    (up : IsStrictlyIncreasing firsts) (h : AreKept names now firsts count) (l : count < length firsts)
    (is : next ≡ swap now count (get_or firsts count 0)) where
  abbrev first : ℕ
  first = get_or firsts count 0

  first_in : first < length now
  first_in = let a = nodes count 0 l in omega (arith, a, h.same_length)

  size : length next ≡ length now
  size = ap length is ∙ length-swap now count first

  no_earlier : count ≤ first
  no_earlier = rises firsts up count l

  one_more : AreKept names next firsts (count + 1)
  one_more =
      let within = first_in in
      let back = no_earlier in
      let moved = swapped_from_swap now next count first [] (omega arith) within is in
      record {
        same_length = size ∙ h.same_length;
        kept = λ g m. elim (cases_lt g count) [
          | inl lt ↦ moved.2 g (λ e. omega (arith, e, lt)) (λ e. omega (arith, e, lt, back)) ∙ h.kept g lt
          | inr ge ↦ (
              let e : g ≡ count = omega arith in
              ap (λ (x : ℕ). get_or next x []) e ∙ moved.0
              ∙ h.rest first (λ k b. rising firsts up k count b l)
              ∙ ap (λ (x : ℕ). get_or names (get_or firsts x 0) []) (sym e))
        ];
        rest = λ j m. (
            let after : first < j = m count (omega arith) in
            moved.2 j (λ e. omega (arith, e, after, back)) (λ e. omega (arith, e, after))
            ∙ h.rest j (λ g b. m g (omega arith)));
      }

  pub kept_more : AreKept names next firsts (count + 1)
  kept_more = one_more

pub all_kept : (names now : List (List ℕ)) (firsts : List ℕ) → AreKept names now firsts (length firsts)
    → length firsts ≤ length names
    → take (length firsts) now ≡ map (λ node. get_or names node []) firsts
all_kept names now firsts h few =
    let size : length (take (length firsts) now) ≡ length firsts =
    length-take-le (length firsts) now (omega (arith, h.same_length, few)) in
    ext_get_or [] (take (length firsts) now) (map (λ node. get_or names node []) firsts)
    (size ∙ sym (length-map firsts (λ node. get_or names node [])))
    (λ g l. let m : g < length firsts = omega (arith, l, size) in
    get_or-take (length firsts) now g [] m ∙ h.kept g m
    ∙ sym (get_or-map (λ (node : ℕ). get_or names node []) firsts g 0 [] m))

no_default : (names : List (List ℕ)) (k : ℕ) (d e : List ℕ) → k < length names → get_or names k d ≡ get_or names k e
no_default [] k d e l = absurd (omega arith)
no_default (x ∷ names) zero d e l = refl
no_default (x ∷ names) (suc k) d e l = no_default names k d e (omega arith)

pub one_of_them : (names : List (List ℕ)) (k : ℕ) → k < length names → Contains names (get_or names k [])
one_of_them names k l = (k, l, no_default names k (get_or names k []) [] l)
