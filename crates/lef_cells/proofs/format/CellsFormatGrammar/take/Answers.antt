use Rattle.std.proofs.Common.{◌≡◌, [], ◌∷◌, ◌++◌, map, sym, ◌∙◌, ap, subst}
use Rattle.lef_cells.specs.declared.section.Standing.{Standing}
use Rattle.lef_cells.specs.Section.{standing_of, standing_after, section_after}
use Rattle.lef_cells.specs.inside.Held.{HoldsIn}
use Rattle.lef_cells.proofs.Taking.{standing_more}
use Rattle.reading.specs.Word.{heard_token}
use Rattle.lef_cells.proofs.format.CellsFormatGrammar.take.Goals as goal

pub returns : goal.returns
returns c = λ units few h taken heard.
    let unit = map heard_token c.args.unit.now in
    let old = c.args.said.now in
    let new = c.take_unit.new.said in
    let at : old.standing.section ≡ (standing_of units).section = ap (λ (z : Standing). z.section) h.standing in
    let more = standing_more units unit in
    record {
      standing = c.go_on.ensures heard ∙ ap (λ z. standing_after z unit) h.standing ∙ sym more;
      said = subst (λ z. HoldsIn z (units ++ unit ∷ []) new) (ap (λ z. section_after z unit) at ∙ sym (ap (λ (z : Standing). z.section) more))
          (c.in_ok-take_unit.ensures heard units at taken (subst (λ z. HoldsIn z units old.said) (sym at) h.said));
    }
