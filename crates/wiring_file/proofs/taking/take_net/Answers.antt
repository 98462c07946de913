use Rattle.std.proofs.Common.{◌≡◌, ◌+◌, true, false, List, map, refl, sym, ap, ◌∙◌, arith}
use Rattle.reading.specs.Word.{Token, heard_token}
use Rattle.wiring_file.specs.declared.held.Held.{Held}
use Rattle.wiring_file.specs.declared.section.Section.TheVariants.{First, Nets, DesignEnd}
use Rattle.wiring_file.specs.Standing.{Standing, standing, at}
use Rattle.wiring_file.specs.Unit.{is_entry, text_at}
use Rattle.wiring_file.proofs.Standings.{entries_few, moved, ended, goes_on, counted_here}
use Rattle.wiring_file.proofs.taking.take_net.Goals as goal

pub returns-then-not-is_entry : goal.returns-then-not-is_entry
returns-then-not-is_entry c = λ e units few held taken heard.
    let old : Held = c.args.said.now in
    let unit : List Token = map heard_token c.args.unit.now in
    let new : Held = record old { section = DesignEnd } in
    let last : is_entry unit ≡ false = sym c.is_entry.ensures ∙ c.if-not-is_entry.true in
    moved units unit old new held Nets e (ended (standing units) unit new DesignEnd _ refl last refl held.net held.stacked held.entries) refl refl refl refl refl

pub returns : goal.returns
returns c = λ e units few held taken heard.
    let old : Held = c.args.said.now in
    let unit : List Token = map heard_token c.args.unit.now in
    let s : Standing = standing units in
    let new : Held = record old { net = c.in_ok-said.field-0; entries = c.saturating_add-said.result; section = First; placed = false } in
    let more : is_entry unit ≡ true = sym c.is_entry.ensures ∙ c.if-not-is_entry.false in
    let count : c.saturating_add-said.result ≡ old.entries + 1 = omega (arith, few, entries_few units, held.entries, c.saturating_add-said.ensures) in
    let next : Standing = record { section = First; count = s.count; entries = s.entries + 1; net = text_at 1 unit; placed = false } in
    moved units unit old new held Nets e
    (goes_on unit new next _ more (record {
      section = refl;
      net = c.in_ok-said.ensures;
      stacked = refl;
      count = λ h. counted_here units unit old new held Nets e refl;
      entries = count ∙ ap (λ k. k + 1) held.entries;
    })) refl refl refl refl refl
