use Rattle.std.proofs.Common.{◌≡◌, ℕ, List, [], ◌∷◌, ◌++◌, All, codes, refl, sym, ap, subst, ◌∙◌}
use Rattle.std.specs.BTreeMap.{values}
use Rattle.std.specs.Map.{values_of}
use Rattle.std.proofs.lemmas.List.{append-nil}
use Rattle.std.proofs.lemmas.List.Elements.{All-weaker}
use Rattle.grid_pieces.specs.declared.piece.StackAt.{StackAt}
use Rattle.via_arrays.specs.declared.parts.CutArray.{CutArray}
use Rattle.def_writer.specs.declared.via.Via.{Via}
use Rattle.def_writer.specs.Limits.{ArrayFits, StackFits}
use Rattle.def_writer.specs.Line.{line_of, text_of}
use Rattle.def_writer.specs.Via.{arrays_of, by_via, vias_of}
use Rattle.def_writer.specs.Written.{head_lines, design_lines, via_lines, special_net_lines}
use Rattle.def_writer.proofs.TextLemmas.{text_grown}
use Rattle.def_writer.proofs.ViaLemmas.{vias_keep, arrays_keep}
use Rattle.def_writer.proofs.text.def_text.Goals as goal

pub append_vias-requires-clause-arrays : goal.append_vias-requires-clause-arrays
append_vias-requires-clause-arrays c =
    let tech = c.args.tech.now in
    let stacks = c.args.grid.now.stacks in
    let fits = arrays_keep (ArrayFits tech) stacks (All-weaker (StackFits tech) (λ (at : StackAt). All (ArrayFits tech) at.stack.arrays) (λ at h. h.arrays) stacks c.requires.grid.arrays) in
    let same : values c.in_ok-vias.vias ≡ vias_of (arrays_of stacks) = ap (λ (l : List (Via × CutArray)). values_of l) (c.in_ok-vias.ensures ∙ ap (λ (l : List StackAt). by_via (arrays_of l)) c.as_slice.ensures) in
    subst (All (ArrayFits tech)) (sym same) (vias_keep (ArrayFits tech) (arrays_of stacks) fits)

pub returns : goal.returns
returns c =
    let design = c.args.design.now in
    let tech = c.args.tech.now in
    let grid = c.args.grid.now in
    let none : List ℕ = [] in
    let same : values c.in_ok-vias.vias ≡ vias_of (arrays_of grid.stacks) =
    ap (λ (l : List (Via × CutArray)). values_of l) (c.in_ok-vias.ensures ∙ ap (λ (l : List StackAt). by_via (arrays_of l)) c.as_slice.ensures) in
    let vias : List (List (List ℕ)) = via_lines tech (vias_of (arrays_of grid.stacks)) in
    let nets : List (List (List ℕ)) = special_net_lines tech grid in
    let last : List (List ℕ) = codes "END" ∷ codes "DESIGN" ∷ [] in
    let one = c.append_head.new.out.items in
    let two = c.append_design.new.out.items in
    let three = c.append_vias.new.out.items in
    let four = c.append_nets.new.out.items in
    let five = c.append_line.new.out.items in
    let begun : one ≡ none ++ text_of head_lines = c.in_ok-append_head.ensures ∙ ap (λ l. l ++ text_of head_lines) c.new-out.ensures.items in
    let with_design : two ≡ none ++ text_of (head_lines ++ design_lines design) =
    text_grown none one two head_lines (design_lines design) (head_lines ++ design_lines design) begun c.in_ok-append_design.ensures refl in
    let written_vias : three ≡ two ++ text_of vias = c.in_ok-append_vias.ensures ∙ ap (λ (l : List CutArray). two ++ text_of (via_lines tech l)) same in
    let with_vias : three ≡ none ++ text_of (head_lines ++ design_lines design ++ vias) =
    text_grown none two three (head_lines ++ design_lines design) vias (head_lines ++ design_lines design ++ vias) with_design written_vias refl in
    let with_nets : four ≡ none ++ text_of (head_lines ++ design_lines design ++ vias ++ nets) =
    text_grown none three four (head_lines ++ design_lines design ++ vias) nets (head_lines ++ design_lines design ++ vias ++ nets) with_vias c.in_ok-append_nets.ensures refl in
    let ended : five ≡ four ++ text_of (last ∷ []) = c.in_ok-append_line.ensures ∙ ap (λ l. four ++ l) (sym (append-nil (line_of last))) in
    text_grown none four five (head_lines ++ design_lines design ++ vias ++ nets) (last ∷ []) (head_lines ++ design_lines design ++ vias ++ nets ++ last ∷ []) with_nets ended refl
