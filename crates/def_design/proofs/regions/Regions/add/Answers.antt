use Rattle.std.proofs.Common.{[], ◌∷◌, ◌++◌, map, ◌∙◌, ap, subst}
use Rattle.name_table.specs.Numbering.{TakesName}
use Rattle.def_design.proofs.Taking.{region_added}
use Rattle.def_design.proofs.Whole.{region_new, region_said, region_area}
use Rattle.reading.specs.Word.{heard_token}
use Rattle.def_design.proofs.regions.Regions.add.Goals as goal

pub returns : goal.returns
returns c = λ is units w.
    let rect = c.rect_of.result in
    region_added (map heard_token c.args.unit.now) c.args.self.now (record { names = c.add.new.self; items = c.push-2.new.self })
    (record { name = c.in_ok-new.field-0; rects = c.new-2.result }) rect is
    (subst (λ z. TakesName c.args.self.now.names.names c.add.new.self.names z) c.text_at-name.ensures c.in_ok-add.ensures.names) c.in_ok-push-2.ensures.items
    (c.in_ok-new.ensures ∙ c.text_at-name.ensures)
    (c.new-2.ensures ∙ c.in_ok-push.ensures.items ∙ ap (λ z. z ++ rect ∷ []) c.new-rects.ensures.items)
    (region_area units c.args.unit.now rect w is (c.rect_of.ensures (region_said units c.args.unit.now w is))) units (region_new units c.args.unit.now w is)
