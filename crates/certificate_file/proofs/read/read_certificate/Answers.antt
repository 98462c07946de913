use Rattle.certificate_file.proofs.Rows.{all_rows, is_lists, high_count, low_count}
use Rattle.certificate_file.specs.declared.lists.Lists.{Lists}
use Rattle.certificate_file.specs.Record.{IsLists}
use Rattle.certificate_file.proofs.read.read_certificate.Goals as goal

pub returns-in-Ok-read_into-clause-reads : goal.returns-in-Ok-read_into-clause-reads
returns-in-Ok-read_into-clause-reads c =
    let h = c.in-Ok-read_into.ensures in
    (h.0, h.1, h.2, h.3, is_lists c.args.names.now h.2 c.read_into.new.said _ h.4 (all_rows c.args.names.now h.0 h.2 h.3) c.new-in-Ok-read_into.ensures c.new-in-Ok-read_into-2.ensures)

pub returns-in-Ok-read_into-clause-high_count : goal.returns-in-Ok-read_into-clause-high_count
returns-in-Ok-read_into-clause-high_count c =
    let h = c.in-Ok-read_into.ensures in
    let lists : Lists = record { high = c.new-in-Ok-read_into.result; low = c.new-in-Ok-read_into-2.result } in
    let is : IsLists c.args.names.now h.2 lists =
    is_lists c.args.names.now h.2 c.read_into.new.said lists h.4 (all_rows c.args.names.now h.0 h.2 h.3) c.new-in-Ok-read_into.ensures c.new-in-Ok-read_into-2.ensures in
    high_count c.args.names.now h.2 lists is

pub returns-in-Ok-read_into-clause-low_count : goal.returns-in-Ok-read_into-clause-low_count
returns-in-Ok-read_into-clause-low_count c =
    let h = c.in-Ok-read_into.ensures in
    let lists : Lists = record { high = c.new-in-Ok-read_into.result; low = c.new-in-Ok-read_into-2.result } in
    let is : IsLists c.args.names.now h.2 lists =
    is_lists c.args.names.now h.2 c.read_into.new.said lists h.4 (all_rows c.args.names.now h.0 h.2 h.3) c.new-in-Ok-read_into.ensures c.new-in-Ok-read_into-2.ensures in
    low_count c.args.names.now h.2 lists is
