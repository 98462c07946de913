use Rattle.std.proofs.Common.{◌≡◌, Bool, true, ℕ, List, [], ◌∷◌, ◌++◌, map, refl, sym, ap, subst, ◌∙◌, arith, length}
use Rattle.std.specs.Prelude.{IsTrue, ◌↔◌}
use Rattle.std.proofs.lemmas.Bool.Decides.{nat_tests}
use Rattle.reading.specs.Grammar.{AreHeard}
use Rattle.reading.specs.Word.{Token, heard_token}
use Rattle.wiring_file.specs.declared.section.Section.{Section}
use Rattle.wiring_file.specs.declared.section.Section.TheVariants.{Line}
use Rattle.wiring_file.specs.Fault.{IsUnfit, IsUnfitLine}
use Rattle.wiring_file.specs.Standing.{standing}
use Rattle.wiring_file.specs.inside.Held.{is_counted}
use Rattle.wiring_file.specs.inside.Value.{says, SaysAt}
use Rattle.wiring_file.proofs.Heard.{compose, words_more, begun_badly, kept_at}
use Rattle.wiring_file.proofs.fault.is_unfit.Goals as goal

pub returns-then-before-eq9 : goal.returns-then-before-eq9
returns-then-before-eq9 c = λ units held heard word same said.
    let before = c.args.before.now in
    let part : List Token = map heard_token before ++ word ∷ [] in
    let test = c.if-before-eq9.true in
    let nine : length before ≡ 9 = grind (arith, test, nat_tests) in
    let ten : length part ≡ 10 = omega (arith, words_more before word) in
    let flat = c.is_flat.ensures (subst (λ (z : Section). AreHeard (says z) [] before) c.in-Die.is heard) nine word in
    subst (λ (z : Section). IsTrue c.is_flat.result ↔ IsUnfit z (standing units) part) (sym c.in-Die.is) (λ t. (ten, flat.0 t), λ h. flat.1 h.1)

pub returns-in-Vias : goal.returns-in-Vias
returns-in-Vias c = λ units held heard word same said.
    let before = c.args.before.now in
    let part : List Token = map heard_token before ++ word ∷ [] in
    let s = standing units in
    let known = held.count (ap is_counted (sym held.section ∙ c.in-Vias.is)) in
    subst (λ (z : Section). IsTrue c.is_begun_badly.result ↔ IsUnfit z s part) (sym c.in-Vias.is)
    (compose c.is_begun_badly.ensures
    (begun_badly c.texts_have_one_number.ensures s before word c.args.sort c.args.said.now.count c.args.said.now.entries known held.entries same))

pub returns-in-Nets : goal.returns-in-Nets
returns-in-Nets c = λ units held heard word same said.
    let before = c.args.before.now in
    let part : List Token = map heard_token before ++ word ∷ [] in
    let s = standing units in
    let known = held.count (ap is_counted (sym held.section ∙ c.in-Nets.is)) in
    subst (λ (z : Section). IsTrue c.is_begun_badly-in-Nets.result ↔ IsUnfit z s part) (sym c.in-Nets.is)
    (compose c.is_begun_badly-in-Nets.ensures
    (begun_badly c.texts_have_one_number.ensures s before word c.args.sort c.args.said.now.count c.args.said.now.entries known held.entries same))

pub returns-in-Line : goal.returns-in-Line
returns-in-Line c = λ units held heard word same said.
    let before = c.args.before.now in
    let part : List Token = map heard_token before ++ word ∷ [] in
    let s = standing units in
    let line = c.is_unfit_line.ensures (subst (λ (z : Section). AreHeard (says z) [] before) c.in-Line.is heard) word same
    (kept_at Line (length before) word.text c.args.value (subst (λ (z : Section). SaysAt z (length before) word.text c.args.value) c.in-Line.is said)) in
    subst (λ (z : Section). IsTrue c.is_unfit_line.result ↔ IsUnfit z s part) (sym c.in-Line.is)
    (subst (λ (z : Bool). IsTrue c.is_unfit_line.result ↔ IsUnfitLine z part) held.stacked line)
