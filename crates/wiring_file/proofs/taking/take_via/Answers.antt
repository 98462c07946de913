use Rattle.std.proofs.Common.{◌≡◌, ◌+◌, true, false, List, map, refl, sym, ap, ◌∙◌, arith}
use Rattle.reading.specs.Word.{Token, heard_token}
use Rattle.wiring_file.specs.declared.held.Held.{Held}
use Rattle.wiring_file.specs.declared.section.Section.TheVariants.{Vias, NetsHead}
use Rattle.wiring_file.specs.Standing.{standing, one_more, at}
use Rattle.wiring_file.specs.Unit.{is_entry}
use Rattle.wiring_file.proofs.Lengths.{heard_here, matches_here, many_here, via_long}
use Rattle.wiring_file.proofs.Standings.{entries_few, moved, via_added, ended, goes_on, counted_here}
use Rattle.wiring_file.proofs.taking.take_via.Goals as goal

pub returns-then-not-is_entry : goal.returns-then-not-is_entry
returns-then-not-is_entry c = λ e units few held taken heard.
    let old : Held = c.args.said.now in
    let unit : List Token = map heard_token c.args.unit.now in
    let new : Held = record old { section = NetsHead } in
    let last : is_entry unit ≡ false = sym c.is_entry.ensures ∙ c.if-not-is_entry.true in
    moved units unit old new held Vias e (ended (standing units) unit new NetsHead _ refl last refl held.net held.stacked held.entries) last refl refl refl refl

pub returns : goal.returns
returns c = λ e units few held taken heard.
    let old : Held = c.args.said.now in
    let unit : List Token = map heard_token c.args.unit.now in
    let new : Held = record old { vias = c.push.new.self; entries = c.saturating_add-said.result } in
    let more : is_entry unit ≡ true = sym c.is_entry.ensures ∙ c.if-not-is_entry.false in
    let count : c.saturating_add-said.result ≡ old.entries + 1 = omega (arith, few, entries_few units, held.entries, c.saturating_add-said.ensures) in
    let long = many_here units c.args.unit.now old held Vias e 29 (via_long unit (matches_here units c.args.unit.now old held Vias e taken) more) in
    via_added units unit old new held Vias e c.in_ok-via.via
    (goes_on unit new (one_more Vias (standing units)) _ more (record {
      section = e;
      net = held.net;
      stacked = held.stacked;
      count = λ h. counted_here units unit old new held Vias e refl;
      entries = count ∙ ap (λ k. k + 1) held.entries;
    })) more refl (c.in_ok-via.ensures (standing units) (heard_here units c.args.unit.now old held Vias e heard) (omega arith)) c.in_ok-push.ensures.items refl refl
