use Rattle.one_build.proofs.Built.{ArePlainLaws, refusal, apart, design}
use Rattle.one_build.proofs.Stages.{AreStages}
use Rattle.one_build.proofs.laws.texts_have_one_build.Goals as goal

pub returns-clause-refusal : goal.returns-clause-refusal
returns-clause-refusal c t =
    let plain : ArePlainLaws = record { refusal = c.texts_have_one_design.ensures.refusal; apart = c.texts_have_one_design.ensures.apart; design = c.texts_have_one_design.ensures.design; unread_or_read = c.texts_have_one_set_of_records.ensures.apart } in
    let stages : AreStages = record { one_records = c.texts_have_one_set_of_records.ensures.one; one_blocks = c.texts_have_one_record.ensures; places = c.read_commands_stand_apart.ensures.apart; one_drawing = c.one_drawing_over_blocks.ensures; one_undrawn = c.one_refusal_over_blocks.ensures; drawn_or_not = c.drawn_or_refused_over_blocks.ensures; one_network = c.one_network_over_blocks.ensures; one_unextracted = c.one_refusal_of_extraction_over_blocks.ensures; extracted_or_not = c.extracted_or_refused_over_blocks.ensures; one_limits = c.one_list_of_limits.ensures; one_unsupplied = c.one_first_unsupplied.ensures.one; supplied_or_not = c.one_first_unsupplied.ensures.none } in
    refusal plain stages t

pub returns-clause-apart : goal.returns-clause-apart
returns-clause-apart c told t =
    let plain : ArePlainLaws = record { refusal = c.texts_have_one_design.ensures.refusal; apart = c.texts_have_one_design.ensures.apart; design = c.texts_have_one_design.ensures.design; unread_or_read = c.texts_have_one_set_of_records.ensures.apart } in
    let stages : AreStages = record { one_records = c.texts_have_one_set_of_records.ensures.one; one_blocks = c.texts_have_one_record.ensures; places = c.read_commands_stand_apart.ensures.apart; one_drawing = c.one_drawing_over_blocks.ensures; one_undrawn = c.one_refusal_over_blocks.ensures; drawn_or_not = c.drawn_or_refused_over_blocks.ensures; one_network = c.one_network_over_blocks.ensures; one_unextracted = c.one_refusal_of_extraction_over_blocks.ensures; extracted_or_not = c.extracted_or_refused_over_blocks.ensures; one_limits = c.one_list_of_limits.ensures; one_unsupplied = c.one_first_unsupplied.ensures.one; supplied_or_not = c.one_first_unsupplied.ensures.none } in
    apart plain stages t told

pub returns-clause-design : goal.returns-clause-design
returns-clause-design c told told' t =
    let plain : ArePlainLaws = record { refusal = c.texts_have_one_design.ensures.refusal; apart = c.texts_have_one_design.ensures.apart; design = c.texts_have_one_design.ensures.design; unread_or_read = c.texts_have_one_set_of_records.ensures.apart } in
    let stages : AreStages = record { one_records = c.texts_have_one_set_of_records.ensures.one; one_blocks = c.texts_have_one_record.ensures; places = c.read_commands_stand_apart.ensures.apart; one_drawing = c.one_drawing_over_blocks.ensures; one_undrawn = c.one_refusal_over_blocks.ensures; drawn_or_not = c.drawn_or_refused_over_blocks.ensures; one_network = c.one_network_over_blocks.ensures; one_unextracted = c.one_refusal_of_extraction_over_blocks.ensures; extracted_or_not = c.extracted_or_refused_over_blocks.ensures; one_limits = c.one_list_of_limits.ensures; one_unsupplied = c.one_first_unsupplied.ensures.one; supplied_or_not = c.one_first_unsupplied.ensures.none } in
    design plain stages t told told'
