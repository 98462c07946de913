use Rattle.std.proofs.Common.{◌≡◌, List, [], ◌∷◌, ◌++◌, map, refl, sym, subst}
use Rattle.reading.specs.Word.{Token, heard_token}
use Rattle.wiring_file.specs.declared.held.Held.{Held}
use Rattle.wiring_file.specs.declared.section.Section.{Section}
use Rattle.wiring_file.specs.inside.Held.{Holds}
use Rattle.wiring_file.proofs.Standings.{on}
use Rattle.wiring_file.proofs.format.WiringFormatGrammar.take.Goals as goal

pub returns-in_default : goal.returns-in_default
returns-in_default c = λ units few held taken heard.
    let old : Held = c.args.said.now in
    let unit : List Token = map heard_token c.args.unit.now in
    let d = c.in_default in
    subst (λ (section : Section). Holds (units ++ unit ∷ []) (record old { section = section })) (sym c.next_section-said.ensures)
    (on units unit old held old.section refl d.not-ViasHead d.not-Vias d.not-NetsHead d.not-Nets d.not-First d.not-Next d.not-Line)
