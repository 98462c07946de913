use Rattle.std.proofs.Common.{refl, arith}
use Rattle.outside.proofs.Tallies.{writes_read, writes_none_falls}
use Rattle.outside.proofs.calls.Calls.count_failed_read.Goals as goal

pub returns-clause-counted : goal.returns-clause-counted
returns-clause-counted c name at =
    writes_read c.self.inside.failing.items c.self.inside.tallies.items c.self.inside.faults _ c.args.self.now c.self.view_is name c.args.place c.index.result.now c.index_mut.result.now _ at c.index.ensures c.index_mut.ensures.value
    c.one_more.ensures.raised c.one_more-2.ensures.raised refl c.one_more-self-inside.ensures.raised

pub returns-clause-none_falls : goal.returns-clause-none_falls
returns-clause-none_falls c name at =
    writes_none_falls c.self.inside.failing.items c.self.inside.tallies.items c.self.inside.faults _ c.args.self.now c.self.view_is name c.args.place c.index.result.now c.index_mut.result.now _ at c.index.ensures c.index_mut.ensures.value
    c.one_more-2.ensures.at_least (omega arith) c.one_more-self-inside.ensures.at_least
