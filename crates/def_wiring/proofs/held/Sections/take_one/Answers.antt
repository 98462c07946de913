use Rattle.std.proofs.Common.{[], ◌∷◌, sym, subst, ap}
use Rattle.def_wiring.specs.declared.section.Section.{Section}
use Rattle.def_wiring.specs.declared.section.Section.TheVariants.{Via, Net}
use Rattle.def_wiring.specs.inside.Held.{Tells}
use Rattle.def_wiring.specs.Record.{said_unit, said_word}
use Rattle.def_wiring.specs.Standing.{act_in}
use Rattle.def_wiring.proofs.Taking.{took, same_one}
use Rattle.reading.specs.Word.{token}
use Rattle.def_wiring.proofs.held.Sections.take_one.Goals as goal

pub returns-in-Via : goal.returns-in-Via
returns-in-Via c =
    let there = c.args.standing.now in
    let word = token c.args.word.now in
    let new = c.take_word.new.self in
    took c.take_word.result _ _ (λ all same said h.
    subst (λ (z : Section). Tells (said_unit z there (word ∷ []) said) new) (sym c.in-Via.is)
    (subst (λ z. Tells (said_word z there word said) new) (ap (act_in Via there) same) (all same said h))) c.take_word.ensures

pub returns-in-Net : goal.returns-in-Net
returns-in-Net c =
    let there = c.args.standing.now in
    let word = token c.args.word.now in
    let new = c.take_word-in-Net.new.self in
    took c.take_word-in-Net.result _ _ (λ all same said h.
    subst (λ (z : Section). Tells (said_unit z there (word ∷ []) said) new) (sym c.in-Net.is)
    (subst (λ z. Tells (said_word z there word said) new) (ap (act_in Net there) same) (all same said h))) c.take_word-in-Net.ensures

pub returns-in_default : goal.returns-in_default
returns-in_default c = λ same said h.
    subst (λ z. Tells z c.args.self.now) (sym (same_one c.args.section c.in_default.not-Via c.in_default.not-Net c.args.standing.now (token c.args.word.now) said)) h
