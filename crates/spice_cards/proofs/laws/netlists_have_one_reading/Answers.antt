use Rattle.std.proofs.Common.{sym, ◌∙◌, ap}
use Rattle.netlist_words.specs.Text.{netlist_text}
use Rattle.reading.specs.Error.{kind_of}
use Rattle.spice_cards.specs.Format.{kinds, told_at}
use Rattle.spice_cards.proofs.Reading.{same_error}
use Rattle.spice_cards.proofs.laws.netlists_have_one_reading.Goals as goal

pub returns-clause-units : goal.returns-clause-units
returns-clause-units c = λ text a b h k. c.texts_have_one_result.ensures.read (netlist_text text) a b h k

pub returns-clause-refusal : goal.returns-clause-refusal
returns-clause-refusal c = λ text a b h k.
    let e = c.texts_have_one_result.ensures.refused (netlist_text text) h.0 k.0 h.1 k.1 h.2 k.2 in
    same_error a b (sym h.3 ∙ (λ t. told_at (e.1 t) (e.0 t)) ∙ k.3) (sym h.4 ∙ ap (λ z. kind_of kinds z) e.1 ∙ k.4)

pub returns-clause-not_both : goal.returns-clause-not_both
returns-clause-not_both c = λ text units error h k. c.texts_have_one_result.ensures.not_both (netlist_text text) units k.0 k.1 h k.2
