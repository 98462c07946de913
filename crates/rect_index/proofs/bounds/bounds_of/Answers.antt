-- One more entry is within the bounds that are made with it, and the others stay within them.
use Rattle.std.proofs.Common.{◌≡◌, ℕ, ◌+◌, ◌<◌, ◌≤◌, ◌⊎◌, inl, inr, List, length, get_or, ap, ◌∙◌, subst, arith}
use Rattle.std.proofs.lemmas.Bool.{cases_lt}
use Rattle.std.proofs.lemmas.List.{get_or_default}
use Rattle.rect_index.specs.declared.bounds.Bounds.{Bounds}
use Rattle.rect_index.specs.declared.entry.Entry.{Entry}
use Rattle.rect_index.specs.inside.Tree.{IsWithin}
use Rattle.rect_index.proofs.bounds.bounds_of.Goals as goal

one_more : {T : Type 0} (entries : List (Entry T)) (i : ℕ) (one : Entry T) (old new : Bounds) → i < length entries
    → IsWithin new (get_or entries i one) → ((other : Entry T) → IsWithin old other → IsWithin new other)
    → ((k : ℕ) (d : Entry T) → k < i → IsWithin old (get_or entries k d))
    → (k : ℕ) (d : Entry T) → k < i + 1 → IsWithin new (get_or entries k d)
one_more {T} entries i one old new within is others before k d less = by_place (cases_lt k i)
  where
    by_place : (k < i) ⊎ (i ≤ k) → IsWithin new (get_or entries k d)
    by_place (inl earlier) = others (get_or entries k d) (before k d earlier)
    by_place (inr later) =
        let same : i ≡ k = omega arith in
        subst (IsWithin new) (get_or_default entries i one d within ∙ ap (λ n. get_or entries n d) same) is

pub loop-entry-preserved : goal.loop-entry-preserved
loop-entry-preserved g c =
    one_more c.args.entries.now c.loop-entry.entry-index c.entry-item.result c.loop-entry.bounds c.with-bounds.result c.loop-entry-test.true
    (subst (λ e. IsWithin c.with-bounds.result e) c.entry-item.is c.with-bounds.ensures.one) c.with-bounds.ensures.others c.loop-entry.invariant

pub returns : goal.returns
returns g c = λ k d within. c.loop-entry.invariant k d (omega (arith, within, c.loop-entry-test.false))
