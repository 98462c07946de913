use Rattle.std.proofs.Common.{sym, ◌∙◌}
use Rattle.netlist_words.specs.Line.{words_of}
use Rattle.netlist_words.proofs.Words.{end_is}
use Rattle.netlist_words.proofs.netlist.end_place.Goals as goal

pub returns : goal.returns
returns c =
    let s = c.next.new.self in
    sym (end_is s.form s.place (words_of s.rest.now) (c.in_default.ensures.takes.1)) ∙ c.next.ensures.end ∙ c.loop.invariant.end
