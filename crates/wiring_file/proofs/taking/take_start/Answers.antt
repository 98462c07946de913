use Rattle.std.proofs.Common.{◌≡◌, List, map, refl}
use Rattle.reading.specs.Word.{Token, heard_token}
use Rattle.wiring_file.specs.declared.held.Held.{Held}
use Rattle.wiring_file.specs.declared.section.Section.TheVariants.{First, Next}
use Rattle.wiring_file.specs.Standing.{standing}
use Rattle.wiring_file.proofs.Standings.{moved, begun, counted_here}
use Rattle.wiring_file.proofs.taking.take_start.Goals as goal

pub returns-clause-first : goal.returns-clause-first
returns-clause-first c = λ e units few held taken heard.
    let old : Held = c.args.said.now in
    let unit : List Token = map heard_token c.args.unit.now in
    let new : Held = record old { section = c.start_section-said.result } in
    moved units unit old new held First e
    (begun (standing units) unit new c.start_section-said.ensures held.net held.stacked (counted_here units unit old new held First e refl) held.entries) refl refl refl refl refl

pub returns-clause-next : goal.returns-clause-next
returns-clause-next c = λ e units few held taken heard.
    let old : Held = c.args.said.now in
    let unit : List Token = map heard_token c.args.unit.now in
    let new : Held = record old { section = c.start_section-said.result } in
    moved units unit old new held Next e
    (begun (standing units) unit new c.start_section-said.ensures held.net held.stacked (counted_here units unit old new held Next e refl) held.entries) refl refl refl refl refl
