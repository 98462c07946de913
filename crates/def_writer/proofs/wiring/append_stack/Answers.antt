use Rattle.std.proofs.Common.{◌≡◌, ◌<◌, ◌+◌, ℤ, Bool, List, ◌++◌, length, take, map, get_or, subst, ◌∙◌, pos, to_z, of_z, rules}
use Rattle.std.specs.Int.{w64}
use Rattle.std.specs.List.{enumerate_from}
use Rattle.via_arrays.specs.declared.parts.CutArray.{CutArray}
use Rattle.def_writer.specs.Line.{line_of}
use Rattle.def_writer.specs.Wiring.{array_words, wiring_line}
use Rattle.def_writer.proofs.TextLemmas.{numbered_more, numbered_count, line_written}
use Rattle.def_writer.proofs.wiring.append_stack.Goals as goal

abbrev none : CutArray
none = record {
  rule = 0;
  columns = 0;
  rows = 0;
  cut_x = pos 0;
  cut_y = pos 0;
  pitch_x = pos 0;
  pitch_y = pos 0;
  lower_x = pos 0;
  lower_y = pos 0;
  upper_x = pos 0;
  upper_y = pos 0;
}

pub loop-level-preserved : goal.loop-level-preserved
loop-level-preserved c =
    let at = c.args.at.now in
    let tech = c.args.tech.now in
    let words = array_words tech (at.x, at.y) in
    let arrays = at.stack.arrays in
    let from = at.stack.from in
    let i = c.loop-level.level in
    let items = c.as_slice-array-items.result.now in
    let same : items ≡ arrays = c.as_slice-array-items.ensures in
    let within : i < length arrays = subst (λ (l : List CutArray). i < length l) same c.loop-level-test.true in
    let kept_x : to_z w64 (of_z w64 at.x) ≡ at.x = search rules in
    let kept_y : to_z w64 (of_z w64 at.y) ≡ at.y = search rules in
    let out = c.loop-level.out.items in
    let line = λ (b : Bool) (x y : ℤ) (l : List CutArray). out ++ line_of (wiring_line b (array_words tech (x, y) (from + i, get_or l i none))) in
    line_written c.args.first (map words (enumerate_from from (take i arrays))) (map words (enumerate_from from (take (i + 1) arrays))) (words (from + i, get_or arrays i none)) i
    c.args.out.now.items out c.append_array.new.out.items (numbered_more words from arrays i none within) (numbered_count words from arrays i within) c.loop-level.invariant
    (c.in_ok-append_array.ensures ∙ (λ k. line (c.is_first-begins.ensures k) (kept_x k) (kept_y k) (same k)))
