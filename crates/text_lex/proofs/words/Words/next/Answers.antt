use Rattle.std.proofs.Common.{◌∙◌, sym, ap, subst}
use Rattle.text_lex.specs.Split.{with_front, place_after}
use Rattle.text_lex.specs.Piece.{Item, ends_command}
use Rattle.text_lex.specs.inside.Splitting.{words_after, CanCount}
use Rattle.text_lex.proofs.Steps.{HasWord, word_lengths, word_feeds, word_counts, word_left}
use Rattle.text_lex.proofs.Nexts.{left_after_gap, at_end, at_refusal}
use Rattle.text_lex.proofs.words.Words.next.Goals as goal

pub after-self-inside-requires-clause-lines : goal.after-self-inside-requires-clause-lines
after-self-inside-requires-clause-lines c =
    let s = c.self.inside in
    let start = c.skip_gap-start.result in
    let found = c.in-Word.ensures s.command_could_begin c.skip_gap-start.ensures.begins in
    let h : HasWord s.mode s.command_could_begin start.place start.rest.now c.in-Word.form c.in-Word.text.now c.in-Word.rest.now = record { is_word = found.0; is = found.1; counts = c.skip_gap-start.ensures.counts } in
    (word_lengths s.mode s.command_could_begin start.place start.rest.now c.in-Word.form c.in-Word.text.now c.in-Word.rest.now h).0

pub after-self-inside-requires-clause-feeds : goal.after-self-inside-requires-clause-feeds
after-self-inside-requires-clause-feeds c =
    let s = c.self.inside in
    let found = c.in-Word.ensures s.command_could_begin c.skip_gap-start.ensures.begins in
    word_feeds s.mode s.command_could_begin c.in-Word.form c.in-Word.text.now c.in-Word.rest.now found.0

pub invariant_of-self-in-Word : goal.invariant_of-self-in-Word
invariant_of-self-in-Word c =
    let s = c.self.inside in
    let start = c.skip_gap-start.result in
    let found = c.in-Word.ensures s.command_could_begin c.skip_gap-start.ensures.begins in
    let h : HasWord s.mode s.command_could_begin start.place start.rest.now c.in-Word.form c.in-Word.text.now c.in-Word.rest.now = record { is_word = found.0; is = found.1; counts = c.skip_gap-start.ensures.counts } in
    subst (λ p. CanCount p c.in-Word.rest.now) (sym c.after-self-inside.ensures) (word_counts s.mode s.command_could_begin start.place start.rest.now c.in-Word.form c.in-Word.text.now c.in-Word.rest.now h)

pub returns-in-End : goal.returns-in-End
returns-in-End c =
    let s = c.self.inside in
    let start = c.skip_gap-start.result in
    let left = left_after_gap s.mode s.command_could_begin s.place s.rest.now s.refusal c.args.self.now start.place start.rest.now c.self.view_is c.in_default.is c.skip_gap-start.ensures.words in
    let ends = c.in-End.ensures s.command_could_begin c.skip_gap-start.ensures.begins in
    (at_end s.mode s.command_could_begin start.place start.rest.now c.args.self.now left ends, ap (words_after s.mode s.command_could_begin start.place start.rest.now) c.in_default.is ∙ sym left)

pub returns-in-Refused : goal.returns-in-Refused
returns-in-Refused c =
    let s = c.self.inside in
    let start = c.skip_gap-start.result in
    let left = left_after_gap s.mode s.command_could_begin s.place s.rest.now s.refusal c.args.self.now start.place start.rest.now c.self.view_is c.in_default.is c.skip_gap-start.ensures.words in
    at_refusal s.mode s.command_could_begin start.place start.rest.now c.args.self.now c.in-Refused.kind left (c.in-Refused.ensures s.command_could_begin c.skip_gap-start.ensures.begins)

pub returns-in-Word : goal.returns-in-Word
returns-in-Word c =
    let s = c.self.inside in
    let start = c.skip_gap-start.result in
    let left = left_after_gap s.mode s.command_could_begin s.place s.rest.now s.refusal c.args.self.now start.place start.rest.now c.self.view_is c.in_default.is c.skip_gap-start.ensures.words in
    let form = c.in-Word.form in
    let word = c.in-Word.text.now in
    let more = c.in-Word.rest.now in
    let found = c.in-Word.ensures s.command_could_begin c.skip_gap-start.ensures.begins in
    let h : HasWord s.mode s.command_could_begin start.place start.rest.now form word more = record { is_word = found.0; is = found.1; counts = c.skip_gap-start.ensures.counts } in
    let after =
    ap (λ b. words_after s.mode b c.after-self-inside.result more s.refusal) c.ends_command-self-inside.ensures
    ∙ (ap (λ p. words_after s.mode (ends_command form) p more s.refusal) c.after-self-inside.ensures
    ∙ ap (words_after s.mode (ends_command form) (place_after start.place (Item form word)) more) c.in_default.is) in
    left ∙ (word_left s.mode s.command_could_begin start.place start.rest.now form word more h ∙ ap (with_front (record { text = word; place = start.place; form = form })) (sym after))
