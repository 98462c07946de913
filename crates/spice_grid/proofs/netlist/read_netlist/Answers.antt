use Rattle.std.proofs.Common.{sym, subst}
use Rattle.spice_grid.specs.Netlist.{RefusesText}
use Rattle.spice_grid.proofs.OrderLemmas.{named_is, named_keeps}
use Rattle.spice_grid.proofs.ReadLemmas.{word_refused, build_refused}
use Rattle.spice_grid.proofs.netlist.read_netlist.Goals as goal

pub returns-in-Ok-build-clause-reads : goal.returns-in-Ok-build-clause-reads
returns-in-Ok-build-clause-reads c =
    let read = c.in-Ok.ensures.reads in
    (read.0, read.1, named_is read.0 _ _ read.2 c.in-Ok-build.ensures.named c.in-Ok-build.ensures.not_refused)

pub returns-in-Ok-build-clause-keeps : goal.returns-in-Ok-build-clause-keeps
returns-in-Ok-build-clause-keeps c = named_keeps _ _ c.in-Ok.ensures.numbers c.in-Ok.ensures.farads c.in-Ok-build.ensures.named

pub returns-in-Err-build-clause-reads : goal.returns-in-Err-build-clause-reads
returns-in-Err-build-clause-reads c =
    let read = c.in-Ok.ensures.reads in
    subst (RefusesText c.args.text.now c.without_place.result.place) (sym c.without_place.ensures)
    (build_refused c.args.text.now read.0 _ c.without_place.result.place _ read.1 read.2 c.in-Err-build.ensures.refused)

pub returns-in-Err-clause-reads : goal.returns-in-Err-clause-reads
returns-in-Err-clause-reads c = word_refused c.args.text.now c.in-Err.error _ c.in-Err.ensures.reads c.kind_of.ensures
