use Rattle.std.proofs.Common.{◌≡◌, ◌+◌, ◌/◌, ◌%◌, ◌++◌, ap, sym, ◌∙◌, rules}
use Rattle.grid_gen.specs.Design.{component_line, component_entry, next_state, cell_of, state_after}
use Rattle.grid_gen.proofs.Ranges.{grown_by_line, state_first, state_more}
use Rattle.grid_gen.proofs.design.append_components.Goals as goal

pub loop-k-init : goal.loop-k-init
loop-k-init c = record { written = search rules; stepped = state_first c.args.number }

pub loop-k-preserved : goal.loop-k-preserved
loop-k-preserved c =
    let number = c.args.number in
    let side = c.args.side in
    let k = c.loop-k.k in
    let stepped : c.next_state-state.result ≡ state_after number (k + 1) =
    c.next_state-state.ensures ∙ ap next_state c.loop-k.invariant.stepped ∙ sym (state_more number k) in
    let cell = c.cell_of.ensures ∙ ap cell_of stepped in
    record {
      written = grown_by_line (component_line number side) c.args.out.now.items _ _ k c.loop-k.invariant.written
          (c.in_ok-append_component.ensures ∙ ap (λ m. c.loop-k.out.items ++ component_entry (k / side) (k % side) m) cell);
      stepped = stepped;
    }
