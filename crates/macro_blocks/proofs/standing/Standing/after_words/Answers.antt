use Rattle.std.proofs.Common.{map, sym, ◌∙◌, ap, arith}
use Rattle.std.proofs.lemmas.List.{length-map}
use Rattle.macro_blocks.specs.Standing.{after_more}
use Rattle.macro_blocks.proofs.Words.{long_leads}
use Rattle.reading.specs.Word.{heard_token}
use Rattle.macro_blocks.proofs.standing.Standing.after_words.Goals as goal

pub returns-in_default : goal.returns-in_default
returns-in_default c =
    let count = length-map c.args.unit.now heard_token in
    let many = c.in_default.len_at_least in
    let old = c.args.self.now in
    c.after_more.ensures ∙ ap (λ z. after_more c.args.section z old) c.is_rect.ensures
    ∙ sym (long_leads c.args.section (map heard_token c.args.unit.now) old (omega arith))
