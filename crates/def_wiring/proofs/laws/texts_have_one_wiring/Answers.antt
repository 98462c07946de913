use Rattle.text_lex.specs.declared.word.Mode.TheVariants.{LefDef}
use Rattle.reading.specs.Laws.{one-record}
use Rattle.def_wiring.specs.Format.{format, kinds}
use Rattle.def_wiring.specs.Record.{IsWires}
use Rattle.def_wiring.proofs.One.{one_wires, one_outcome}
use Rattle.def_wiring.proofs.laws.texts_have_one_wiring.Goals as goal

pub returns : goal.returns
returns c = one_outcome (λ text a b. one-record kinds LefDef format IsWires (λ bytes x y. c.one_split.ensures.one LefDef bytes x y) c.texts_have_one_result.ensures.read
    c.texts_have_one_result.ensures.refused c.texts_have_one_result.ensures.not_both (one_wires c.texts_have_one_number.ensures) text a b)
