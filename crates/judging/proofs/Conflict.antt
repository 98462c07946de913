-- Two pads of one group differ, or any two have one voltage, and not both; a conflict of a netlist is one.
use Rattle.std.proofs.Common.{◌≡◌, ℕ, ℤ, List, [], get_or, map, refl, sym, ap, subst, ◌∙◌, All, Option, Some, None, cond}
use Rattle.std.proofs.lemmas.List.Elements.{All-map}
use Rattle.std.proofs.lemmas.Bool.Decides.{Decides-int_eq}
use Rattle.grid_net.specs.declared.part.Pad.{Pad}
use Rattle.grid_net.specs.declared.error.NetError.{NetError}
use Rattle.grid_net.specs.declared.error.NetError.TheVariants as build
use Rattle.grid_net.specs.Building.{PadsAgree, conflict_with, first_conflict}
use Rattle.grid_net.specs.Laws.Pads.{first_is_of_list, pad_is_first}
use Rattle.grid_net.specs.Laws.Search.{of_none}
use Rattle.grid_net.specs.Limits.{IsBuilt}
use Rattle.grid_net.specs.Network.{Network, first_pad}
use Rattle.group_net.specs.Merging.{grouped_pad, PadsOfGroupsAgree, IsConflict}
use Rattle.short_merge.specs.declared.merged.MergeError.TheVariants.{PadConflict}
use Rattle.short_merge.specs.Refusal.{IsMergeRefusal}
use Rattle.spice_grid.specs.declared.named.Named.{Named}
use Rattle.answers.specs.declared.answer.Answer.TheVariants as told
use Rattle.judging.proofs.Groups.{one_firsts, one_group}

-- A pad passes beside a first pad of its own voltage.
passes : (p : Pad) (first : Option ℤ) → first ≡ Some p.volts → conflict_with p first ≡ None
passes p first is = ap (conflict_with p) is ∙ alone
  where
    alone : conflict_with p (Some p.volts) ≡ None
    alone = ap (λ b. cond b None (Some (build.PadConflict p.node p.volts p.volts))) ((Decides-int_eq p.volts p.volts).1 refl)

-- Pads that agree have no conflict.
no_conflict : (ps : List Pad) → PadsAgree ps → first_conflict ps ≡ None
no_conflict ps agree = of_none (λ p. conflict_with p (first_pad ps p.node)) ps (λ k d l.
    let p = get_or ps k d in
    let h = pad_is_first ps k d l in
    let q = first_is_of_list (λ (x : Pad). p.node ≡ x.node → p.volts ≡ x.volts) ps p.node h.0 (agree k d l) h.1 in
    passes p (first_pad ps p.node) (h.1 ∙ ap Some (sym q.2 ∙ sym (q.3 (sym q.1)))))

none_some : {X : Type 0} (x : X) (o : Option X) → o ≡ None → o ≡ Some x → ⊥
none_some x o e f = cc

-- Pads of groups that agree are pads of the merged network that agree.
pub apart : (net : Network) (shorts : List (ℕ × ℕ)) (node : ℕ) (first second : ℤ) → IsBuilt net → PadsOfGroupsAgree net shorts → IsConflict net shorts node first second → ⊥
apart net shorts node first second built agree conflict =
    none_some _ (first_conflict (map (grouped_pad conflict.group) net.pads)) (no_conflict (map (grouped_pad conflict.group) net.pads) pads_agree) conflict.conflict
  where
    pads_agree : PadsAgree (map (grouped_pad conflict.group) net.pads)
    pads_agree =
        All-map (λ p. All (λ (q : Pad). p.node ≡ q.node → p.volts ≡ q.volts) (map (grouped_pad conflict.group) net.pads)) (grouped_pad conflict.group) net.pads (λ k d l.
        All-map (λ (q : Pad). (grouped_pad conflict.group (get_or net.pads k d)).node ≡ q.node → (get_or net.pads k d).volts ≡ q.volts) (grouped_pad conflict.group) net.pads (λ m e o same.
        agree k d l m e o ((conflict.groups.joined (get_or net.pads k d).node (get_or net.pads m e).node (built.pads_are_nodes k d l) (built.pads_are_nodes m e o)).0 same)))

-- A netlist has one conflict.
same_told : (a b : NetError) (o : Option NetError) → o ≡ Some a → o ≡ Some b → a ≡ b
same_told a b o e f = cc

numbers_of : (n m : ℕ) (first first' second second' : ℤ) → build.PadConflict n first second ≡ build.PadConflict m first' second' → (n ≡ m) × (first ≡ first') × (second ≡ second')
numbers_of n m first first' second second' e = (cc, cc, cc)

pub one_conflict : (net : Network) (shorts : List (ℕ × ℕ)) (node node' : ℕ) (first first' second second' : ℤ) → IsConflict net shorts node first second → IsConflict net shorts node' first' second' → (node ≡ node') × (first ≡ first') × (second ≡ second')
one_conflict net shorts node node' first first' second second' a b =
    let fs : a.firsts ≡ b.firsts = one_firsts net.nodes shorts a.group a.firsts b.group b.firsts a.groups b.groups in
    let g : a.group ≡ b.group = one_group net.nodes shorts a.group a.firsts b.group b.firsts a.groups b.groups in
    let moved : first_conflict (map (grouped_pad a.group) net.pads) ≡ Some (build.PadConflict b.number first' second') =
    subst (λ x. first_conflict (map (grouped_pad x) net.pads) ≡ Some (build.PadConflict b.number first' second')) (sym g) b.conflict in
    let same = numbers_of a.number b.number first first' second second' (same_told _ _ _ a.conflict moved) in
    (a.first_node ∙ ap (λ n. get_or a.firsts n 0) same.0 ∙ ap (λ xs. get_or xs b.number 0) fs ∙ sym b.first_node, same.1, same.2)

pub one_merge_refusal : (named : Named) (name name' : List ℕ) (first first' second second' : ℤ) → IsMergeRefusal named (PadConflict name first second) → IsMergeRefusal named (PadConflict name' first' second') → told.PadConflict name first second ≡ told.PadConflict name' first' second'
one_merge_refusal named name name' first first' second second' (node, conflict, is) (node', conflict', is') =
    let same = one_conflict named.net named.shorts node node' first first' second second' conflict conflict' in
    let names : name ≡ name' = is ∙ ap (λ n. get_or named.names n []) same.0 ∙ sym is' in
    ap (λ x. told.PadConflict x first second) names ∙ ap (λ x. told.PadConflict name' x second) same.1
    ∙ ap (λ x. told.PadConflict name' first' x) same.2
