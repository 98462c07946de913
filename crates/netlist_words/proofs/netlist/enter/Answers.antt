use Rattle.std.proofs.Common.{true, false, None, refl, ◌∙◌, ap}
use Rattle.netlist_words.specs.declared.class.Class.TheVariants.{Passed, Begins, GoesOn, Strays, Ranges}
use Rattle.netlist_words.specs.declared.class.Before.TheVariants.{Nothing}
use Rattle.netlist_words.specs.Line.{line_of, line_start, words_of, words_on}
use Rattle.netlist_words.specs.inside.Left.{pending_in, words_in, words_end, with_end}
use Rattle.netlist_words.specs.Text.{with_form}
use Rattle.reading.specs.declared.word.Form.TheVariants.{Break}
use Rattle.netlist_words.proofs.Words.{bare_same}
use Rattle.netlist_words.proofs.Cards.{entered, passed, goes_plus, class_is, owed_none, owed_some}
use Rattle.netlist_words.proofs.netlist.enter.Goals as goal

pub rest_of_plus-requires : goal.rest_of_plus-requires
rest_of_plus-requires c =
    goes_plus c.args.before (line_of c.args.line)
    (class_is c.args.before (line_of c.args.line) c.class_of.result GoesOn _ c.from_first_word-front.ensures c.class_of.ensures c.in-GoesOn.is)

pub returns-in-Passed-clause-left : goal.returns-in-Passed-clause-left
returns-in-Passed-clause-left c =
    let is = class_is c.args.before (line_of c.args.line) c.class_of.result Passed _ c.from_first_word-front.ensures c.class_of.ensures c.in-Passed.is in
    passed c.args.owed c.args.before (line_of c.args.line) c.aside.result is c.aside.ensures

pub returns-in-Begins-clause-left : goal.returns-in-Begins-clause-left
returns-in-Begins-clause-left c =
    let line = line_of c.args.line in
    let is = class_is c.args.before line c.class_of.result Begins _ c.from_first_word-front.ensures c.class_of.ensures c.in-Begins.is in
    entered c.args.owed true c.args.before line Begins c.opened.result c.owed_at.result (words_in c.new.result) is (λ others. refl) (λ others end. refl)
    (c.opened.ensures _ c.from_first_word-front.ensures)
    (ap pending_in c.owed_at.ensures ∙ owed_some c.args.owed (line_start line))
    (c.new.ensures.words ∙ bare_same (line_start line) (words_of line.bytes))

pub returns-in-GoesOn-clause-left : goal.returns-in-GoesOn-clause-left
returns-in-GoesOn-clause-left c =
    let line = line_of c.args.line in
    let is = class_is c.args.before line c.class_of.result GoesOn _ c.from_first_word-front.ensures c.class_of.ensures c.in-GoesOn.is in
    entered c.args.owed true c.args.before line GoesOn c.again.result None (words_in c.rest_of_plus.result) is (λ others. refl) (λ others end. refl)
    c.again.ensures (owed_none c.args.owed) c.rest_of_plus.ensures.words

pub returns-in-Strays-clause-left : goal.returns-in-Strays-clause-left
returns-in-Strays-clause-left c =
    let line = line_of c.args.line in
    let is = class_is c.args.before line c.class_of.result Strays _ c.from_first_word-front.ensures c.class_of.ensures c.in-Strays.is in
    entered c.args.owed true c.args.before line Strays Nothing c.owed_at-in-Strays.result (words_in c.new-in-Strays.result) is (λ others. refl) (λ others end. refl)
    refl (ap pending_in c.owed_at-in-Strays.ensures ∙ owed_some c.args.owed (line_start line)) c.new-in-Strays.ensures.words

pub returns-in-Ranges-clause-left : goal.returns-in-Ranges-clause-left
returns-in-Ranges-clause-left c =
    let line = line_of c.args.line in
    let is = class_is c.args.before line c.class_of.result Ranges _ c.from_first_word-front.ensures c.class_of.ensures c.in-Ranges.is in
    entered c.args.owed false c.args.before line Ranges Nothing None (with_end true (words_in c.new-in-Ranges.result) (words_end c.new-in-Ranges.result)) is (λ others. refl) (λ others end. refl)
    refl (owed_none c.args.owed)
    (ap (λ z. with_end true z (words_end c.new-in-Ranges.result)) c.new-in-Ranges.ensures.words ∙ ap (λ z. with_end true (with_form Break (words_on line)) z) c.new-in-Ranges.ensures.end)
