use Rattle.std.proofs.lemmas.Bool.Decides.{nat_tests}
use Rattle.std.proofs.Common.{◌≡◌, length, arith, true, List, map, refl, sym}
use Rattle.reading.specs.Word.{Token, heard_token}
use Rattle.wiring_file.specs.declared.held.Held.{Held}
use Rattle.wiring_file.specs.declared.section.Section.TheVariants.{Line, Next}
use Rattle.wiring_file.specs.Standing.{standing}
use Rattle.wiring_file.proofs.Lengths.{heard_here, many_here}
use Rattle.wiring_file.proofs.Standings.{place_added, counted_here}
use Rattle.wiring_file.proofs.taking.take_place.Goals as goal

pub returns : goal.returns
returns c = λ e it units few held taken heard.
    let old : Held = c.args.said.now in
    let unit : List Token = map heard_token c.args.unit.now in
    let new : Held = record old { places = c.push.new.self; placed = true; section = Next } in
    let ten : length unit ≡ 10 = grind (arith, it, nat_tests) in
    let long = many_here units c.args.unit.now old held Line e 10 ten in
    place_added units unit old new held Line e c.in_ok-place.place
    (record { section = refl; net = held.net; stacked = sym it; count = λ h. counted_here units unit old new held Line e refl; entries = held.entries })
    refl refl it (c.in_ok-place.ensures (standing units) held.net (heard_here units c.args.unit.now old held Line e heard) (omega arith)) refl refl c.in_ok-push.ensures.items
