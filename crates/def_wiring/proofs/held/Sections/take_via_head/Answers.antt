use Rattle.std.proofs.Common.{OnOk, sym, subst}
use Rattle.def_wiring.specs.declared.sort.Sort.{Sort}
use Rattle.def_wiring.specs.inside.Held.{Tells}
use Rattle.def_wiring.specs.Record.{Said, opened_via}
use Rattle.def_wiring.proofs.Taking.{not_minus_via}
use Rattle.reading.specs.Word.{token}
use Rattle.def_wiring.proofs.held.Sections.take_via_head.Goals as goal

pub returns-in-Minus : goal.returns-in-Minus
returns-in-Minus c =
    let old = c.args.self.now in
    subst (λ (z : Sort). OnOk c.open_via.result ((said : Said) → Tells said old → Tells (opened_via z (token c.args.second.now) said) c.open_via.new.self))
    (sym c.in-Minus.is) c.open_via.ensures

pub returns-in_default : goal.returns-in_default
returns-in_default c = λ said h.
    subst (λ z. Tells z c.args.self.now) (sym (not_minus_via c.args.first c.in_default.not-Minus (token c.args.second.now) said)) h
