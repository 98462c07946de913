use Rattle.std.proofs.Common.{◌≡◌, map, sym, subst, arith}
use Rattle.std.proofs.lemmas.List.{length-map}
use Rattle.macro_blocks.specs.Standing.{is_rect}
use Rattle.macro_blocks.proofs.Words.{no_word, few_words, many_words}
use Rattle.reading.specs.Laws.{six-items}
use Rattle.reading.specs.Word.{heard_token}
use Rattle.macro_blocks.proofs.standing.is_rect.Goals as goal

pub returns-in-len6 : goal.returns-in-len6
returns-in-len6 c =
    let xs = c.args.unit.now in
    subst (λ z. c.is_stop.result ≡ is_rect (map heard_token z)) (sym (six-items no_word xs c.in-len6.len_at_least c.in-len6.len_below)) c.is_stop.ensures

pub returns-in_default : goal.returns-in_default
returns-in_default c =
    few_words (map heard_token c.args.unit.now) (let count = length-map c.args.unit.now heard_token in let few = c.in_default.len_below in omega arith)

pub returns-in_default-2 : goal.returns-in_default-2
returns-in_default-2 c =
    many_words (map heard_token c.args.unit.now) (let count = length-map c.args.unit.now heard_token in let many = c.in_default.len_at_least in omega arith)
