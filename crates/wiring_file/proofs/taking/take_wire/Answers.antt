use Rattle.std.proofs.Common.{◌≡◌, arith, false, List, map, refl, sym}
use Rattle.reading.specs.Word.{Token, heard_token}
use Rattle.wiring_file.specs.declared.held.Held.{Held}
use Rattle.wiring_file.specs.declared.section.Section.TheVariants.{Line, Next}
use Rattle.wiring_file.specs.Standing.{standing}
use Rattle.wiring_file.proofs.Lengths.{heard_here, matches_here, many_here, wire_long}
use Rattle.wiring_file.proofs.Standings.{wire_added, counted_here}
use Rattle.wiring_file.proofs.taking.take_wire.Goals as goal

pub returns : goal.returns
returns c = λ e other units few held taken heard.
    let old : Held = c.args.said.now in
    let unit : List Token = map heard_token c.args.unit.now in
    let new : Held = record old { wires = c.push.new.self; placed = false; section = Next } in
    let long = many_here units c.args.unit.now old held Line e 13 (wire_long unit (matches_here units c.args.unit.now old held Line e taken) other) in
    wire_added units unit old new held Line e c.in_ok-wire.wire
    (record { section = refl; net = held.net; stacked = sym other; count = λ h. counted_here units unit old new held Line e refl; entries = held.entries })
    refl refl other (c.in_ok-wire.ensures (standing units) held.net (heard_here units c.args.unit.now old held Line e heard) (omega arith)) refl c.in_ok-push.ensures.items refl
