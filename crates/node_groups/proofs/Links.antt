-- The first node of a group led to another node, and steps as chains of shorts.
use Rattle.std.proofs.Common.{◌≡◌, ℕ, zero, suc, ◌+◌, ◌<◌, inl, inr, arith, sym, ap, subst, ◌∙◌, List, length, get_or, set, take, length-set, get_or-set_same, get_or-set_other}
use Rattle.std.proofs.lemmas.Bool.{cases_eq}
use Rattle.std.proofs.lemmas.List.Elements.{All-more}
use Rattle.node_groups.specs.Joined.{AreJoined}
use Rattle.node_groups.specs.inside.Forest.{LeadsBack, Leads, LeadsTo, Follows, KeepsJoined, IsMadeOf, IsByShorts, Joins}
use Rattle.node_groups.proofs.Chains.{joined_self, joined_trans}

-- ---- steps as chains of shorts
way_joins : (shorts : List (ℕ × ℕ)) (ps : List ℕ) → LeadsBack ps → IsByShorts shorts ps → (k i j : ℕ) → i < length ps
    → Leads ps k i j → AreJoined shorts i j
way_joins shorts ps back by zero i j l e = subst (λ (x : ℕ). AreJoined shorts i x) e (joined_self shorts i)
way_joins shorts ps back by (suc k) i j l way =
    let b = back i l in
    joined_trans shorts i (get_or ps i 0) j (by i l) (way_joins shorts ps back by k (get_or ps i 0) j (omega arith) way)

-- Where steps are by shorts, all ways are.
pub steps_join : (shorts : List (ℕ × ℕ)) (ps : List ℕ) → LeadsBack ps → IsByShorts shorts ps → (i j : ℕ) → i < length ps
    → LeadsTo ps i j → AreJoined shorts i j
steps_join shorts ps back by i j l way = way_joins shorts ps back by way.0 i j l way.1

-- Steps that are made of steps by shorts are by shorts.
pub made_by_shorts : (shorts : List (ℕ × ℕ)) (old new : List ℕ) → length new ≡ length old → LeadsBack old
    → IsMadeOf new old → IsByShorts shorts old → IsByShorts shorts new
made_by_shorts shorts old new e back made by i l =
    let l' : i < length old = omega arith in
    steps_join shorts old back by i (get_or new i 0) l' (made i l')

-- ---- one node led to another
module _ (ps : List ℕ) (top to : ℕ) (l : top < length ps) (own : get_or ps top 0 ≡ top) where
  abbrev new : List ℕ
  new = set ps top to

  pub link_keeps : KeepsJoined ps new
  link_keeps label f i m = elim (cases_eq i top) [
    | inl e ↦ ap label (e ∙ sym own ∙ ap (λ (x : ℕ). get_or ps x 0) (sym e))
    | inr ne ↦ f i (omega (arith, m, length-set ps top to)) ∙ ap label (get_or-set_other ps top i to 0 ne)
  ]

  pub link_joins : (label : ℕ → ℕ) → Follows label new → label top ≡ label to
  link_joins label f = f top (omega (arith, l, length-set ps top to)) ∙ ap label (get_or-set_same ps top to 0 l)

  pub link_by_shorts : (shorts : List (ℕ × ℕ)) → AreJoined shorts top to → IsByShorts shorts ps → IsByShorts shorts new
  link_by_shorts shorts joined by i m = elim (cases_eq i top) [
    | inl e ↦ subst (λ (x : ℕ). AreJoined shorts x (get_or new x 0)) (sym e)
        (subst (λ (x : ℕ). AreJoined shorts top x) (sym (get_or-set_same ps top to 0 l)) joined)
    | inr ne ↦ subst (λ (x : ℕ). AreJoined shorts i x) (sym (get_or-set_other ps top i to 0 ne))
        (by i (omega (arith, m, length-set ps top to)))
  ]

-- ---- all shorts
pub joins_more : (shorts : List (ℕ × ℕ)) (k : ℕ) (d : ℕ × ℕ) (old later : List ℕ) → k < length shorts
    → Joins (take k shorts) old → KeepsJoined old later
    → ((label : ℕ → ℕ) → Follows label later → label (get_or shorts k d).0 ≡ label (get_or shorts k d).1)
    → Joins (take (k + 1) shorts) later
joins_more shorts k d old later l joins kept here label f =
    All-more (λ (s : ℕ × ℕ). label s.0 ≡ label s.1) shorts k d l (joins label (kept label f)) (here label f)
