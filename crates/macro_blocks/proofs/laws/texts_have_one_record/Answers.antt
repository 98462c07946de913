use Rattle.text_lex.specs.declared.word.Mode.TheVariants.{LefDef}
use Rattle.reading.specs.Laws.{one-record}
use Rattle.macro_blocks.specs.Format.{format, kinds}
use Rattle.macro_blocks.specs.Record.{IsBlocks}
use Rattle.macro_blocks.proofs.One.{one_blocks, one_outcome}
use Rattle.macro_blocks.proofs.laws.texts_have_one_record.Goals as goal

pub returns : goal.returns
returns c = one_outcome (λ text a b. one-record kinds LefDef format IsBlocks (λ bytes x y. c.one_split.ensures.one LefDef bytes x y) c.texts_have_one_result.ensures.read
    c.texts_have_one_result.ensures.refused c.texts_have_one_result.ensures.not_both (one_blocks c.texts_have_one_number.ensures) text a b)
