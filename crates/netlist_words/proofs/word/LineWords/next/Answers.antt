use Rattle.std.proofs.Common.{◌<◌, sym, ◌∙◌, arith}
use Rattle.netlist_words.proofs.Parts.{words_none, words_some}
use Rattle.netlist_words.proofs.Words.{words_taken, end_taken, no_words, end_kept}
use Rattle.netlist_words.proofs.word.LineWords.next.Goals as goal

pub returns-then-len-eq0-clause-takes : goal.returns-then-len-eq0-clause-takes
returns-then-len-eq0-clause-takes c =
    let s = c.args.self.now in
    let none = words_none s.rest.now c.run_len.result c.run_len-len.result c.run_len.ensures c.run_len-len.ensures c.if-len-eq0.true in
    (no_words s.form s.place _ none.0, no_words s.form s.place _ none.1)

pub returns-then-len-eq0-clause-end : goal.returns-then-len-eq0-clause-end
returns-then-len-eq0-clause-end c =
    let s = c.args.self.now in
    let none = words_none s.rest.now c.run_len.result c.run_len-len.result c.run_len.ensures c.run_len-len.ensures c.if-len-eq0.true in
    end_kept s.place _ _ (none.1 ∙ sym none.0)

pub returns-clause-takes : goal.returns-clause-takes
returns-clause-takes c =
    let s = c.args.self.now in
    let some : 0 < c.run_len-len.result = omega arith in
    words_taken s.form s.place _ _ _ (words_some s.rest.now c.run_len.result c.run_len-len.result c.run_len.ensures c.run_len-len.ensures some)

pub returns-clause-end : goal.returns-clause-end
returns-clause-end c =
    let s = c.args.self.now in
    let some : 0 < c.run_len-len.result = omega arith in
    end_taken s.place _ _ _ (words_some s.rest.now c.run_len.result c.run_len-len.result c.run_len.ensures c.run_len-len.ensures some)
