use Rattle.std.proofs.Common.{◌≡◌, ◌+◌, ◌&&◌, List, ◌++◌, length, take, sym, ap, ◌∙◌}
use Rattle.std.specs.Prelude.{◌==◌}
use Rattle.std.specs.List.{flat_map}
use Rattle.grid_pieces.specs.declared.piece.StackAt.{StackAt}
use Rattle.via_arrays.specs.declared.parts.CutArray.{CutArray}
use Rattle.def_writer.specs.Wiring.{stack_words}
use Rattle.def_writer.proofs.TextLemmas.{flat_more, lines_written, first_after, stack_count}
use Rattle.def_writer.proofs.wiring.append_stacks.Goals as goal

pub loop-at-preserved : goal.loop-at-preserved
loop-at-preserved c =
    let tech = c.args.tech.now in
    let words = stack_words tech in
    let stacks = c.args.stacks.now in
    let i = c.loop-at.at-index in
    let at : StackAt = c.at-item.result in
    let before = flat_map words (take i stacks) in
    let all = flat_map words (take (i + 1) stacks) in
    let more : all ≡ before ++ words at = flat_more words stacks i at c.loop-at-test.true ∙ ap (λ (s : StackAt). before ++ words s) (sym c.at-item.is) in
    record {
      written = lines_written c.args.first before (words at) all c.loop-at.first c.args.out.now.items c.loop-at.out.items c.append_stack.new.out.items more c.loop-at.invariant.first c.loop-at.invariant.written
          c.in_ok-append_stack.ensures;
      first = first_after c.args.first c.loop-at.first c.is_first-first.result before (words at) all (length at.stack.arrays) more (stack_count tech at) c.loop-at.invariant.first
          (c.is_first-first.ensures ∙ ap (λ (l : List CutArray). c.loop-at.first && (length l == 0)) c.as_slice.ensures);
    }
