use Rattle.std.proofs.Common.{◌≡◌, ◌<◌, ◌+◌, ℕ, false, [], ◌++◌, length, take, drop, get_or, All, sym, ap, subst, ◌∙◌}
use Rattle.std.specs.Prelude.{◌==◌}
use Rattle.std.specs.List.{flat_map, enumerate_from}
use Rattle.std.proofs.lemmas.List.{get_or_default, append-nil}
use Rattle.std.proofs.lemmas.List.Elements.{All-filter}
use Rattle.grid_pieces.specs.declared.piece.Piece.{Piece}
use Rattle.grid_pieces.specs.declared.piece.StackAt.{StackAt}
use Rattle.def_writer.specs.Limits.{StackFits}
use Rattle.def_writer.specs.Line.{text_of}
use Rattle.def_writer.specs.Wiring.{net_lines, net_of_grid}
use Rattle.def_writer.proofs.NetLemmas.{all_later, these, rises_all, net_first, net_first_of_four, Rises}
use Rattle.def_writer.proofs.TextLemmas.{flat_numbered_more, text_grown}
use Rattle.def_writer.proofs.net.append_all.Goals as goal

abbrev piece_net : Piece → ℕ
piece_net p = p.net

abbrev stack_net : StackAt → ℕ
stack_net s = s.net

pub loop-net-init : goal.loop-net-init
loop-net-init c = record {
  written = sym (append-nil c.args.out.now.items);
  pieces = c.as_slice-pieces.ensures ∙ sym (all_later piece_net c.args.grid.now.pieces);
  stacks = c.as_slice-stacks.ensures ∙ sym (all_later stack_net c.args.grid.now.stacks);
}

pub append_net-requires-clause-layers : goal.append_net-requires-clause-layers
append_net-requires-clause-layers c =
    let grid = c.args.grid.now in
    let i = c.loop-net.net in
    let rises : Rises piece_net grid.pieces = rises_all piece_net grid.pieces (λ i j d lt within. net_first _ _ _ _ _ _ (c.requires.pieces i j d lt within)) in
    let metal = c.split_at.ensures.front ∙ ap (λ n. take n c.loop-net.pieces.now) c.pieces_at_front.ensures ∙ (these piece_net i grid.pieces c.loop-net.pieces.now rises c.loop-net.invariant.pieces).0 in
    let P : Piece → Type 0 = λ p. p.layer < length c.args.tech.now.routing in
    subst (All P) (sym metal) (All-filter (λ (p : Piece). p.net == i) P grid.pieces c.requires.layers)

pub append_net-requires-clause-arrays : goal.append_net-requires-clause-arrays
append_net-requires-clause-arrays c =
    let grid = c.args.grid.now in
    let i = c.loop-net.net in
    let rises : Rises stack_net grid.stacks = rises_all stack_net grid.stacks (λ i j d lt within. net_first_of_four _ _ _ _ _ (c.requires.stacks i j d lt within)) in
    let arrays = c.split_at-in-loop-net.ensures.front ∙ ap (λ n. take n c.loop-net.stacks.now) c.stacks_at_front.ensures ∙ (these stack_net i grid.stacks c.loop-net.stacks.now rises c.loop-net.invariant.stacks).0 in
    subst (All (StackFits c.args.tech.now)) (sym arrays) (All-filter (λ (s : StackAt). s.net == i) (StackFits c.args.tech.now) grid.stacks c.requires.arrays)

pub loop-net-preserved : goal.loop-net-preserved
loop-net-preserved c =
    let tech = c.args.tech.now in
    let grid = c.args.grid.now in
    let i = c.loop-net.net in
    let pieces = these piece_net i grid.pieces c.loop-net.pieces.now (rises_all piece_net grid.pieces (λ i j d lt within. net_first _ _ _ _ _ _ (c.requires.pieces i j d lt within))) c.loop-net.invariant.pieces in
    let stacks = these stack_net i grid.stacks c.loop-net.stacks.now (rises_all stack_net grid.stacks (λ i j d lt within. net_first_of_four _ _ _ _ _ (c.requires.stacks i j d lt within))) c.loop-net.invariant.stacks in
    let metal = c.split_at.ensures.front ∙ ap (λ n. take n c.loop-net.pieces.now) c.pieces_at_front.ensures ∙ pieces.0 in
    let arrays = c.split_at-in-loop-net.ensures.front ∙ ap (λ n. take n c.loop-net.stacks.now) c.stacks_at_front.ensures ∙ stacks.0 in
    let within : i < length grid.nets = subst (λ l. i < length l) c.as_slice-name-items.ensures c.loop-net-test.true in
    let name : c.bytes.result.now ≡ get_or grid.nets i [] =
    c.bytes.ensures ∙ c.name-item.is ∙ ap (λ l. get_or l i c.name-item.result) c.as_slice-name-items.ensures ∙ get_or_default grid.nets i c.name-item.result [] within in
    let power = ap (λ l. get_or l i false) c.as_slice.ensures in
    let out = c.loop-net.out.items in
    let e : c.append_net.new.out.items ≡ out ++ text_of (net_of_grid tech grid (i, get_or grid.nets i [])) =
    c.in_ok-append_net.ensures ∙ (λ k. out ++ text_of (net_lines tech (name k) (power k) (metal k) (arrays k))) in
    record {
      written = text_grown c.args.out.now.items out c.append_net.new.out.items (flat_map (net_of_grid tech grid) (enumerate_from 0 (take i grid.nets))) (net_of_grid tech grid (i, get_or grid.nets i []))
          (flat_map (net_of_grid tech grid) (enumerate_from 0 (take (i + 1) grid.nets))) c.loop-net.invariant.written e (flat_numbered_more (net_of_grid tech grid) grid.nets i [] within);
      pieces = c.split_at.ensures.back ∙ ap (λ n. drop n c.loop-net.pieces.now) c.pieces_at_front.ensures ∙ pieces.1;
      stacks = c.split_at-in-loop-net.ensures.back ∙ ap (λ n. drop n c.loop-net.stacks.now) c.stacks_at_front.ensures ∙ stacks.1;
    }
