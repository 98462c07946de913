use Rattle.std.proofs.Common.{[], ◌∷◌, sym, subst}
use Rattle.def_wiring.specs.declared.section.Section.{Section}
use Rattle.def_wiring.specs.declared.sort.Sort.{Sort}
use Rattle.def_wiring.specs.inside.Held.{Tells}
use Rattle.def_wiring.specs.Record.{said_unit, opened_via, opened_net}
use Rattle.def_wiring.proofs.Taking.{took, same_two}
use Rattle.reading.specs.Word.{token}
use Rattle.def_wiring.proofs.held.Sections.take_two.Goals as goal

pub returns-in-Vias : goal.returns-in-Vias
returns-in-Vias c =
    let second = token c.args.second.now in
    let new = c.take_via_head.new.self in
    took c.take_via_head.result _ _ (λ opens there word same said h.
    subst (λ (z : Section). Tells (said_unit z there (word ∷ second ∷ []) said) new) (sym c.in-Vias.is)
    (subst (λ (z : Sort). Tells (opened_via z second said) new) same (opens said h))) c.take_via_head.ensures

pub returns-in-Nets : goal.returns-in-Nets
returns-in-Nets c =
    let second = token c.args.second.now in
    let new = c.take_net_head.new.self in
    took c.take_net_head.result _ _ (λ opens there word same said h.
    subst (λ (z : Section). Tells (said_unit z there (word ∷ second ∷ []) said) new) (sym c.in-Nets.is)
    (subst (λ (z : Sort). Tells (opened_net z second said) new) same (opens said h))) c.take_net_head.ensures

pub returns-in_default : goal.returns-in_default
returns-in_default c = λ there word same said h.
    subst (λ z. Tells z c.args.self.now) (sym (same_two c.args.section c.in_default.not-Vias c.in_default.not-Nets there word (token c.args.second.now) said)) h
