use Rattle.std.proofs.Common.{false}
use Rattle.text_lex.specs.declared.word.Mode.TheVariants.{LefDef}
use Rattle.reading.specs.Laws.{one-record}
use Rattle.def_design.specs.Format.{format, kinds}
use Rattle.def_design.specs.Record.{IsDesign}
use Rattle.def_design.proofs.One.{design_one}
use Rattle.def_design.proofs.laws.texts_have_one_placed_design.Goals as goal

pub returns : goal.returns
returns c = λ text a b. one-record kinds LefDef (format false) IsDesign (λ bytes x y. c.one_split.ensures.one LefDef bytes x y) c.texts_have_one_result.ensures.read
    c.texts_have_one_result.ensures.refused c.texts_have_one_result.ensures.not_both (design_one c.texts_have_one_number.ensures) text a b
