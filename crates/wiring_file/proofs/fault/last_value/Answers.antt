use Rattle.std.proofs.Common.{◌≡◌, true, false, ℤ, Result, Ok, Err, List, [], ◌∷◌, ◌++◌, map, refl, sym, subst, ◌∙◌, inl, inr, length}
use Rattle.std.specs.Prelude.{IsErrAnd}
use Rattle.reading.specs.Fault.{FindsValue}
use Rattle.reading.specs.Grammar.{AreHeard}
use Rattle.reading.specs.Word.{Token, token, heard_token}
use Rattle.wiring_file.specs.declared.error.WiringKind.{WiringKind}
use Rattle.wiring_file.specs.declared.section.Section.{Section}
use Rattle.wiring_file.specs.Fault.{IsUnfit, LastFault}
use Rattle.wiring_file.specs.Standing.{standing}
use Rattle.wiring_file.specs.inside.Value.{says}
use Rattle.wiring_file.proofs.Heard.{refused_last, not_refused_last, said_last, kept_at}
use Rattle.wiring_file.proofs.fault.last_value.Goals as goal

no_true : false ≡ true → ⊥
no_true e = cc

-- The kind that is handed on.
handed : (shows : WiringKind → Type 0) (says_it : ℤ → Type 0) (r : Result ℤ WiringKind) (kind : WiringKind) → IsErrAnd r (λ e. e ≡ kind) → shows kind → FindsValue shows says_it r
handed shows says_it (Ok v) kind is h = absurd is
handed shows says_it (Err e) kind is h = subst shows (sym is) h

pub returns-in_err-value : goal.returns-in_err-value
returns-in_err-value c = λ units held heard same.
    let before = c.args.before.now in
    let word = token c.args.word.now in
    let s = standing units in
    let part : List Token = map heard_token before ++ word ∷ [] in
    handed (LastFault s part) (says s.section part) c.from_residual.result c.in_err-value.field-0.0 c.from_residual.ensures.1
    (inl (refused_last c.args.said.now.section s.section before word c.in_err-value.field-0.0 held.section c.in_err-value.ensures))

pub returns-then-is_unfit : goal.returns-then-is_unfit
returns-then-is_unfit c = λ units held heard same.
    let before = c.args.before.now in
    let word = token c.args.word.now in
    let s = standing units in
    let section = c.args.said.now.section in
    let there : AreHeard (says section) [] before = subst (λ (z : Section). AreHeard (says z) [] before) (sym held.section) heard in
    let unfit = c.is_unfit.ensures units held there word same (kept_at section (length before) word.text _ c.in_ok-value.ensures.1) in
    inr (refl, subst (λ (z : Section). IsUnfit z s (map heard_token before ++ word ∷ [])) held.section (unfit.0 c.if-is_unfit.true))

pub returns : goal.returns
returns c = λ units held heard same.
    let before = c.args.before.now in
    let word = token c.args.word.now in
    let s = standing units in
    let section = c.args.said.now.section in
    let there : AreHeard (says section) [] before = subst (λ (z : Section). AreHeard (says z) [] before) (sym held.section) heard in
    let said = kept_at section (length before) word.text _ c.in_ok-value.ensures.1 in
    let unfit = c.is_unfit.ensures units held there word same said in (
      (λ kind h. elim h [
        | inl number ↦ not_refused_last section s.section before word held.section c.in_ok-value.ensures.0 kind number
        | inr other ↦ no_true (sym c.if-is_unfit.false ∙ unfit.1 (subst (λ (z : Section). IsUnfit z s (map heard_token before ++ word ∷ [])) (sym held.section) other.1))
      ]),
      said_last section s.section before word _ held.section said,
    )
