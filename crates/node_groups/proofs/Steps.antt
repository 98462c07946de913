-- Steps from node to node, and how they are shortened.
use Rattle.std.proofs.Common.{◌≡◌, ◌≢◌, ℕ, zero, suc, ◌<◌, ◌≤◌, inl, inr, arith, refl, sym, ap, subst, ◌∙◌, List, length, get_or, set, length-set, get_or-set_same, get_or-set_other}
use Rattle.std.proofs.lemmas.Bool.{cases_eq}
use Rattle.node_groups.specs.inside.Forest.{LeadsBack, Leads, LeadsTo, Follows, IsClimbing}

-- ---- ways of several steps

trans_from : (ps : List ℕ) (k i j m : ℕ) → Leads ps k i j → LeadsTo ps j m → LeadsTo ps i m
trans_from ps zero i j m e way = subst (λ (x : ℕ). LeadsTo ps x m) (sym e) way
trans_from ps (suc k) i j m rest way = let t = trans_from ps k (get_or ps i 0) j m rest way in (suc t.0, t.1)

-- Two ways, one after the other.
pub leads_trans : (ps : List ℕ) (i j m : ℕ) → LeadsTo ps i j → LeadsTo ps j m → LeadsTo ps i m
leads_trans ps i j m first second = trans_from ps first.0 i j m first.1 second

-- One step.
pub leads_step : (ps : List ℕ) (i : ℕ) → LeadsTo ps i (get_or ps i 0)
leads_step ps i = (1, refl)

pub leads_nowhere : (ps : List ℕ) (i : ℕ) → LeadsTo ps i i
leads_nowhere ps i = (0, refl)

-- ---- the way to the first node

pub climb_start : (ps : List ℕ) (node : ℕ) → node < length ps → LeadsBack ps → IsClimbing ps ps node node
climb_start ps node l back = record {
  same_length = refl;
  is_node = l;
  back = back;
  kept = λ label f. f;
  joined = λ label f. refl;
  reached = leads_nowhere ps node;
  made_of = λ i m. leads_step ps i;
  firsts = λ i e. e;
}

module _ (old now : List ℕ) (node at : ℕ) (h : IsClimbing old now node at) (more : get_or now at 0 ≢ at) where
  abbrev next : ℕ
  next = get_or now at 0

  abbrev after : ℕ
  after = get_or now next 0

  abbrev new : List ℕ
  new = set now at after

  in_now : at < length now
  in_now = omega (arith, h.same_length, h.is_node)

  next_back : next ≤ at
  next_back = h.back at in_now

  next_in_now : next < length now
  next_in_now = let a = next_back in let b = in_now in omega arith

  after_back : after ≤ next
  after_back = h.back next next_in_now

  there : get_or new at 0 ≡ after
  there = get_or-set_same now at after 0 in_now

  elsewhere : (i : ℕ) → i ≢ at → get_or new i 0 ≡ get_or now i 0
  elsewhere i ne = get_or-set_other now at i after 0 ne

  as_before : (label : ℕ → ℕ) → Follows label new → Follows label now
  as_before label f i l = elim (cases_eq i at) [
    | inl e ↦ (
        let to_after : label at ≡ label after = f at (omega (arith, in_now, length-set now at after)) ∙ ap label there in
        let from_next : label next ≡ label after =
        f next (omega (arith, next_in_now, length-set now at after)) ∙ ap label (elsewhere next more) in
        ap label e ∙ to_after ∙ sym from_next ∙ ap (λ (x : ℕ). label (get_or now x 0)) (sym e))
    | inr ne ↦ f i (omega (arith, l, length-set now at after)) ∙ ap label (elsewhere i ne)
  ]

  way_to_after : LeadsTo old at after
  way_to_after = leads_trans old at next after (h.made_of at h.is_node)
      (h.made_of next (omega (arith, next_back, h.is_node)))

  pub climb_on : IsClimbing old new node after
  climb_on = record {
    same_length = length-set now at after ∙ h.same_length;
    is_node = omega (arith, next_back, after_back, h.is_node);
    back = λ i l. elim (cases_eq i at) [
      | inl e ↦ (let a = next_back in let b = after_back in let t = there in
          let same : get_or new i 0 ≡ after = ap (λ (x : ℕ). get_or new x 0) e ∙ t in omega (arith, same, e, a, b))
      | inr ne ↦ (let l' : i < length now = omega (arith, l, length-set now at after) in
          let b = h.back i l' in omega (arith, elsewhere i ne, b))
    ];
    kept = λ label f. h.kept label (as_before label f);
    joined = λ label f. h.joined label (as_before label f)
        ∙ f at (omega (arith, in_now, length-set now at after)) ∙ ap label there;
    reached = leads_trans old node at after h.reached way_to_after;
    made_of = λ i l. elim (cases_eq i at) [
      | inl e ↦ subst (λ (x : ℕ). LeadsTo old x (get_or new x 0)) (sym e)
          (subst (λ (x : ℕ). LeadsTo old at x) (sym there) way_to_after)
      | inr ne ↦ subst (λ (x : ℕ). LeadsTo old i x) (sym (elsewhere i ne)) (h.made_of i l)
    ];
    firsts = λ i e. elim (cases_eq i at) [
      | inl same ↦ absurd (more (ap (λ (x : ℕ). get_or now x 0) (sym same) ∙ h.firsts i e ∙ same))
      | inr ne ↦ elsewhere i ne ∙ h.firsts i e
    ];
  }

  -- The way goes to earlier nodes.
  pub climb_falls : after < at
  climb_falls = let a = next_back in let b = after_back in omega (arith, a, b, more)
