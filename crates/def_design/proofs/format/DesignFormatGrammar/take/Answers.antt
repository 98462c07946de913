use Rattle.std.proofs.Common.{map, ◌∙◌, sym, ap}
use Rattle.def_statements.specs.Standing.{standing_after}
use Rattle.def_design.proofs.Standings.{standing_more}
use Rattle.reading.specs.Word.{heard_token}
use Rattle.def_design.proofs.format.DesignFormatGrammar.take.Goals as goal

pub returns : goal.returns
returns c = λ units few h taken heard.
    let unit = map heard_token c.args.unit.now in
    record {
      standing = c.go_on.ensures ∙ ap (λ z. standing_after z unit) h.standing ∙ sym (standing_more units unit);
      said = c.in_ok-take.ensures units (record { wiring = c.args.self.now.wiring_refused; taken = taken; heard = heard }) h.said;
    }
