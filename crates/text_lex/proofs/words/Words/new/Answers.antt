use Rattle.std.proofs.Common.{true, subst}
use Rattle.text_lex.specs.Split.{IsMadeOf, first_place}
use Rattle.text_lex.specs.inside.Splitting.{pieces_of}
use Rattle.text_lex.specs.declared.word.Mode.{Mode}
use Rattle.text_lex.proofs.Made.{made, words_left_split, split_is}
use Rattle.text_lex.proofs.Modes.{lines_refuse_none, lef_def_substitutes_none, words_within}
use Rattle.text_lex.proofs.words.Words.new.Goals as goal

pub returns-clause-words : goal.returns-clause-words
returns-clause-words c = words_left_split c.args.mode c.args.text.now

pub returns-clause-only : goal.returns-clause-only
returns-clause-only c = λ other h. split_is c.args.mode c.args.text.now other h

pub returns-clause-lines : goal.returns-clause-lines
returns-clause-lines c = λ is.
    let m = pieces_of c.args.mode true 0 c.args.text.now in
    lines_refuse_none m.pieces m.refusal c.args.text.now (subst (λ (mode : Mode). IsMadeOf mode true m.pieces m.refusal c.args.text.now) is (made c.args.mode true c.args.text.now))

pub returns-clause-lef_def : goal.returns-clause-lef_def
returns-clause-lef_def c = λ is.
    let m = pieces_of c.args.mode true 0 c.args.text.now in
    lef_def_substitutes_none m.pieces m.refusal c.args.text.now (subst (λ (mode : Mode). IsMadeOf mode true m.pieces m.refusal c.args.text.now) is (made c.args.mode true c.args.text.now))

pub returns-clause-count : goal.returns-clause-count
returns-clause-count c =
    let m = pieces_of c.args.mode true 0 c.args.text.now in
    words_within c.args.mode true first_place m.pieces m.refusal c.args.text.now (made c.args.mode true c.args.text.now)
