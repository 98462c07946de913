-- Touches stay when the metal changes places.
use Rattle.std.proofs.Common.{ℕ, ◌<◌, List, Option, length, get_or, refl, sym, ◌∙◌, arith}
use Rattle.std.specs.declared.option.Option.TheVariants.{None, Some}
use Rattle.std.specs.List.{swap}
use Rattle.std.specs.List.Sorted.{IsPermutation}
use Rattle.std.proofs.lemmas.List.Edits.{Swapped, swapped_from_swap, length-swap}
use Rattle.std.proofs.lemmas.List.Sorted.{IsPermutation-sym, IsPermutation-keeps}
use Rattle.grid_pieces.specs.declared.metal.Metal.{Metal}
use Rattle.grid_pieces.specs.declared.touch.Touching.{Touching}
use Rattle.grid_pieces.specs.Touch.{StandsAt, IsTouch, Finds}
use Rattle.list_laws.specs.Laws.Permuted.{Stood, stood, within_of, differ}

-- where an element stands after two places were exchanged
now_at : (l : List Metal) (a b i : ℕ) (m : Metal) → a < length l → b < length l → StandsAt l i m → (k : ℕ) × Stood a b i k × StandsAt (swap l a b) k m
now_at l a b i m in_a in_b (within, is) =
    let swapped = swapped_from_swap l (swap l a b) a b m in_a in_b refl in
    let back : Swapped (λ n. get_or (swap l a b) n m) (λ n. get_or l n m) a b = (sym swapped.1, sym swapped.0, λ n x y. sym (swapped.2 n x y)) in
    let k = stood (λ n. get_or (swap l a b) n m) (λ n. get_or l n m) a b i back in
    (k.0, k.1, (omega (arith, length-swap l a b, within_of a b i k.0 (length l) in_a in_b within k.1), sym k.2 ∙ is))

touch_swap : (t : Touching) (l : List Metal) (a b : ℕ) → a < length l → b < length l → IsTouch l t → IsTouch (swap l a b) t
touch_swap t l a b in_a in_b w =
    let i = now_at l a b w.i w.one in_a in_b w.at_i in
    let j = now_at l a b w.j w.other in_a in_b w.at_j in
    record {
      i = i.0;
      j = j.0;
      differ = differ a b w.i w.j i.0 j.0 i.1 j.1 w.differ;
      one = w.one;
      other = w.other;
      at_i = i.2;
      at_j = j.2;
      on_layer = w.on_layer;
      meet = w.meet;
      first = w.first;
      second = w.second;
      lesser = w.lesser;
      same = w.same;
    }

pub touch_moved : (t : Touching) (xs ys : List Metal) → IsPermutation xs ys → IsTouch xs t → IsTouch ys t
touch_moved t xs ys moved w = IsPermutation-keeps xs (λ l. IsTouch l t) w (λ l a b in_a in_b h. touch_swap t l a b in_a in_b h) ys moved

pub finds_moved : (xs ys : List Metal) (answer : Option Touching) → IsPermutation xs ys → Finds ys answer → Finds xs answer
finds_moved xs ys None moved none = λ t w. none t (touch_moved t xs ys moved w)
finds_moved xs ys (Some t) moved first = record {
  is = touch_moved t ys xs (IsPermutation-sym xs ys moved) first.is;
  first = λ u w. first.first u (touch_moved u xs ys moved w);
}
