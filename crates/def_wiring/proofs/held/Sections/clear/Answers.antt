use Rattle.std.proofs.Common.{None, refl}
use Rattle.def_wiring.proofs.Taking.{all_cleared}
use Rattle.def_wiring.proofs.held.Sections.clear.Goals as goal

pub returns : goal.returns
returns c =
    let old = c.args.self.now in
    all_cleared old (record old { late = None; segments = c.clear.new.self; places = c.clear-2.new.self }) refl refl refl refl refl
    c.clear.ensures.items c.clear-2.ensures.items
