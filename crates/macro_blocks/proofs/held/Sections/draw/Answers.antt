use Rattle.std.proofs.Common.{Some, map, refl, subst}
use Rattle.macro_blocks.specs.declared.act.Act.TheVariants as acts
use Rattle.macro_blocks.specs.declared.standing.Standing.{Standing}
use Rattle.macro_blocks.specs.Record.{noted_in}
use Rattle.macro_blocks.specs.inside.Held.{IsBad, Leads}
use Rattle.macro_blocks.proofs.Taking.{draw_bad, took}
use Rattle.reading.specs.Word.{heard_token}
use Rattle.macro_blocks.proofs.held.Sections.draw.Goals as goal

pub returns-in-Some : goal.returns-in-Some
returns-in-Some c = λ there.
    let old = c.args.self.now in
    draw_bad there c.args.unit.now old (record old { bad = Some c.in-Some.bad }) c.in-Some.bad (record { macros = refl; pins = refl; obstructions = refl }) refl c.requires refl
    (λ places numbers k. subst (λ z. IsBad (noted_in numbers (map heard_token c.args.unit.now)) z) c.in-Some.is (c.bad_in.ensures places numbers k))

pub returns-in-None : goal.returns-in-None
returns-in-None c =
    took c.draw_fine.result _ ((there : Standing) → Leads acts.Draws there c.args.unit.now c.args.self.now c.draw_fine.new.self)
    (λ all there said h words. all (λ numbers k. subst (λ z. IsBad (noted_in numbers (map heard_token c.args.unit.now)) z) c.in-None.is (c.bad_in.ensures words.0 numbers k))
    there said h words)
    c.draw_fine.ensures
