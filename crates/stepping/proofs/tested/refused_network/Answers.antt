use Rattle.std.proofs.Common.{◌≡◌, inl, inr, ℕ, ◌*◌, ◌≤◌, ◌<◌, List, length, Some, slice_get, sym, ap, subst, ◌∙◌}
use Rattle.capacitors.specs.declared.Cap.{Cap}
use Rattle.step_bounds.specs.Capacitors.{first_floating}
use Rattle.stepping.specs.Inputs.{most_entries}
use Rattle.stepping.proofs.Floating.{is_node}
use Rattle.stepping.proofs.tested.refused_network.Goals as goal

pub returns-in-Some : goal.returns-in-Some
returns-in-Some c =
    let first : first_floating c.args.merged.now.net c.args.merged.now.caps ≡ Some c.in-Some.node =
    ap (λ (caps : List Cap). first_floating c.args.merged.now.net caps) (sym c.as_slice.ensures) ∙ sym c.in-Some.ensures in
    elim c.floating.ensures [
      | inl want ↦ inl want
      | inr (name, is, told) ↦ inr (inl (record { node = c.in-Some.node; first = first; name = name; named_so = ap (λ (names : List (List ℕ)). slice_get names c.in-Some.node) (sym c.as_slice-names.ensures) ∙ is; told = told }))
    ]

pub returns-in-Err : goal.returns-in-Err
returns-in-Err c =
    elim c.unsupplied.ensures [
      | inl want ↦ inl want
      | inr (name, is, told) ↦ inr (inr (inr (record {
        none_floats = ap (λ (caps : List Cap). first_floating c.args.merged.now.net caps) (sym c.as_slice.ensures) ∙ sym c.first_floating.ensures ∙ c.in_default.is;
        few = subst (λ n. c.args.steps * n ≤ most_entries) c.nodes.ensures.nodes c.if-entries-gt-MOST_ENTRIES.false;
        node = c.in-Err.node;
        first = c.in-Err.ensures.first;
        name = name;
        named_so = ap (λ (names : List (List ℕ)). slice_get names c.in-Err.node) (sym c.as_slice-names.ensures) ∙ is;
        told = told;
      })))
    ]

pub floating-requires : goal.floating-requires
floating-requires c =
    let first : first_floating c.args.merged.now.net c.args.merged.now.caps ≡ Some c.in-Some.node =
    ap (λ (caps : List Cap). first_floating c.args.merged.now.net caps) (sym c.as_slice.ensures) ∙ sym c.in-Some.ensures in
    let node : c.in-Some.node < c.args.merged.now.net.nodes = is_node c.args.merged.now.net c.args.merged.now.caps c.in-Some.node first in
    subst (λ n. c.in-Some.node < n) (sym c.requires ∙ ap (λ (names : List (List ℕ)). length names) (sym c.as_slice-names.ensures)) node
