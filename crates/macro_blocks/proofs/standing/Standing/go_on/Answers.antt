use Rattle.std.proofs.Common.{map, ◌∙◌, ap}
use Rattle.macro_blocks.specs.Standing.{after_words, with_last}
use Rattle.macro_blocks.proofs.Words.{last_kept, last_stays}
use Rattle.reading.specs.Word.{heard_token}
use Rattle.macro_blocks.proofs.standing.Standing.go_on.Goals as goal

pub returns-in-Unfit : goal.returns-in-Unfit
returns-in-Unfit c =
    let unit = map heard_token c.args.unit.now in
    let old = c.args.self.now in
    last_kept unit c.after_words.new.self c.keep_last.new.self c.section-2.result c.section-2.ensures c.in-Unfit.is c.keep_last.ensures
    ∙ ap (with_last unit) (c.after_words.ensures ∙ ap (λ z. after_words z unit old) c.section.ensures)

pub returns-in_default : goal.returns-in_default
returns-in_default c =
    let unit = map heard_token c.args.unit.now in
    let old = c.args.self.now in
    last_stays unit c.after_words.new.self c.section-2.result c.section-2.ensures c.in_default.not-Unfit
    ∙ ap (with_last unit) (c.after_words.ensures ∙ ap (λ z. after_words z unit old) c.section.ensures)
