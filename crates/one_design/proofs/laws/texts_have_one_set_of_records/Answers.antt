use Rattle.one_design.proofs.Records.{AreReaders, same_records, unread_or_read}
use Rattle.one_design.proofs.laws.texts_have_one_set_of_records.Goals as goal

pub returns-clause-one : goal.returns-clause-one
returns-clause-one c t a b x y =
    let readers : AreReaders = record { tech = c.texts_have_one_tech.ensures; cells = c.texts_have_one_record.ensures; design = c.texts_have_one_design.ensures; script = c.texts_have_one_script.ensures; bias = c.texts_have_one_bias.ensures } in
    same_records readers t a b x y

pub returns-clause-apart : goal.returns-clause-apart
returns-clause-apart c t records a are x =
    let readers : AreReaders = record { tech = c.texts_have_one_tech.ensures; cells = c.texts_have_one_record.ensures; design = c.texts_have_one_design.ensures; script = c.texts_have_one_script.ensures; bias = c.texts_have_one_bias.ensures } in
    unread_or_read readers t a records x are
