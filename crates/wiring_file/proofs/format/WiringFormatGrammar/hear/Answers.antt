use Rattle.std.proofs.Common.{◌≡◌, ℕ, ◌+◌, List, ◌∷◌, [], ◌++◌, length, map, ℤ, sym, subst, ◌∙◌, ap, arith, Result}
use Rattle.std.proofs.lemmas.List.{length-map}
use Rattle.reading.specs.declared.refusal.Found.{Found}
use Rattle.reading.specs.Fault.{told_at}
use Rattle.reading.specs.Grammar.{Tells}
use Rattle.reading.specs.Laws.{tell-at}
use Rattle.reading.specs.Word.{Token, token, heard_token}
use Rattle.wiring_file.specs.declared.error.WiringKind.{WiringKind}
use Rattle.wiring_file.specs.Fault.{LastFault}
use Rattle.wiring_file.specs.Format.{format}
use Rattle.wiring_file.specs.Standing.{Standing, standing}
use Rattle.wiring_file.specs.inside.Value.{says}
use Rattle.wiring_file.proofs.Heard.{more}
use Rattle.wiring_file.proofs.format.WiringFormatGrammar.hear.Goals as goal

same_place : (a b n : ℕ) → a + 1 ≡ n → b + 1 ≡ n → a ≡ b
same_place a b n e f = omega arith

pub returns : goal.returns
returns c = λ units held heard same.
    let words = c.args.before.now in
    let before : List Token = map heard_token words in
    let word : Token = token c.args.word.now in
    let part : List Token = before ++ word ∷ [] in
    let s : Standing = standing units in
    let last : ℕ = length words in
    let many : last + 1 ≡ length part = omega (arith, more before word, length-map words heard_token) in
    subst (λ (o : Result ℤ (Found WiringKind)). Tells format (says s.section) units part o) (sym c.told_at.ensures)
    (tell-at format (says s.section) units part last (LastFault s part) (says s.section part) (λ a h. (same_place a.at last (length part) h.0 many, h.1)) (λ kind h. (many, h)) (λ value h. h)
    c.last_value.result (c.last_value.ensures units held heard same))
