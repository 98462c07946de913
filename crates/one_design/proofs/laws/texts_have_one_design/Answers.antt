use Rattle.one_design.proofs.Built.{refusal, apart, design}
use Rattle.one_design.proofs.Records.{AreReaders}
use Rattle.one_design.proofs.Stages.{AreStages}
use Rattle.one_design.proofs.laws.texts_have_one_design.Goals as goal

pub returns-clause-refusal : goal.returns-clause-refusal
returns-clause-refusal c t =
    let readers : AreReaders = record { tech = c.texts_have_one_tech.ensures; cells = c.texts_have_one_record.ensures; design = c.texts_have_one_design.ensures; script = c.texts_have_one_script.ensures; bias = c.texts_have_one_bias.ensures } in
    let stages : AreStages = record { places = c.read_commands_stand_apart.ensures.apart; one_drawing = c.one_drawing.ensures.one; one_undrawn = c.one_refusal_of_drawing.ensures.one; drawn_or_not = c.drawn_or_refused.ensures.want; one_network = c.one_network.ensures; one_unextracted = c.one_refusal_of_extraction.ensures; extracted_or_not = c.extracted_or_refused.ensures; one_limits = c.one_list_of_limits.ensures; one_unsupplied = c.one_first_unsupplied.ensures.one; supplied_or_not = c.one_first_unsupplied.ensures.none } in
    refusal readers stages t

pub returns-clause-apart : goal.returns-clause-apart
returns-clause-apart c told t =
    let readers : AreReaders = record { tech = c.texts_have_one_tech.ensures; cells = c.texts_have_one_record.ensures; design = c.texts_have_one_design.ensures; script = c.texts_have_one_script.ensures; bias = c.texts_have_one_bias.ensures } in
    let stages : AreStages = record { places = c.read_commands_stand_apart.ensures.apart; one_drawing = c.one_drawing.ensures.one; one_undrawn = c.one_refusal_of_drawing.ensures.one; drawn_or_not = c.drawn_or_refused.ensures.want; one_network = c.one_network.ensures; one_unextracted = c.one_refusal_of_extraction.ensures; extracted_or_not = c.extracted_or_refused.ensures; one_limits = c.one_list_of_limits.ensures; one_unsupplied = c.one_first_unsupplied.ensures.one; supplied_or_not = c.one_first_unsupplied.ensures.none } in
    apart readers stages t told

pub returns-clause-design : goal.returns-clause-design
returns-clause-design c told told' t =
    let readers : AreReaders = record { tech = c.texts_have_one_tech.ensures; cells = c.texts_have_one_record.ensures; design = c.texts_have_one_design.ensures; script = c.texts_have_one_script.ensures; bias = c.texts_have_one_bias.ensures } in
    let stages : AreStages = record { places = c.read_commands_stand_apart.ensures.apart; one_drawing = c.one_drawing.ensures.one; one_undrawn = c.one_refusal_of_drawing.ensures.one; drawn_or_not = c.drawn_or_refused.ensures.want; one_network = c.one_network.ensures; one_unextracted = c.one_refusal_of_extraction.ensures; extracted_or_not = c.extracted_or_refused.ensures; one_limits = c.one_list_of_limits.ensures; one_unsupplied = c.one_first_unsupplied.ensures.one; supplied_or_not = c.one_first_unsupplied.ensures.none } in
    design readers stages t told told'
