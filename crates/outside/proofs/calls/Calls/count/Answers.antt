use Rattle.std.proofs.Common.{refl}
use Rattle.outside.proofs.Tallies.{writes_none}
use Rattle.outside.proofs.calls.Calls.count.Goals as goal

pub returns : goal.returns
returns c name at =
    writes_none c.self.inside.failing.items c.self.inside.tallies.items c.self.inside.faults _ c.args.self.now c.self.view_is name c.args.place c.index.result.now c.index_mut.result.now _ at c.index.ensures c.index_mut.ensures.value
    c.one_more.ensures.raised refl refl refl
