use Rattle.std.proofs.Common.{◌≡◌, List, ◌∷◌, ◌++◌, map, All, sym, ap, ◌∙◌, subst, append_assoc}
use Rattle.std.specs.Map.Iter.{deref}
use Rattle.std.proofs.lemmas.Map.Iter.{rest_more}
use Rattle.std.proofs.lemmas.List.Elements.{All-tail}
use Rattle.via_arrays.specs.declared.parts.CutArray.{CutArray}
use Rattle.def_writer.specs.Limits.{ArrayFits}
use Rattle.def_writer.specs.Line.{line_of, text_of}
use Rattle.def_writer.specs.Via.{via_line}
use Rattle.def_writer.proofs.vias.append_all.Goals as goal

pub loop-array-preserved : goal.loop-array-preserved
loop-array-preserved c =
    let tech = c.args.tech.now in
    let array : CutArray = c.in-Some.array.now in
    let left : List CutArray = c.next.new.self in
    let front : c.loop-array.array-iterator ≡ array ∷ left = rest_more (deref {X = CutArray}) c.loop-array.array-iterator left c.next.result c.in-Some.array c.in-Some.is c.next.ensures.steps in
    let e : c.append_via.new.out.items ≡ c.loop-array.out.items ++ line_of (via_line tech array) = c.in_ok-append_via.ensures in
    record {
      written =
          ap (λ l. l ++ text_of (map (via_line tech) left)) e
          ∙ append_assoc c.loop-array.out.items (line_of (via_line tech array)) (text_of (map (via_line tech) left))
          ∙ ap (λ l. c.loop-array.out.items ++ text_of (map (via_line tech) l)) (sym front)
          ∙ c.loop-array.invariant.written;
      left = All-tail (ArrayFits tech) array left (subst (All (ArrayFits tech)) front c.loop-array.invariant.left);
    }
