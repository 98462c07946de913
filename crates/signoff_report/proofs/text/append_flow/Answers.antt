use Rattle.std.proofs.Common.{◌≡◌, ℕ, ℤ, Option, List, [], ◌++◌, ◌∷◌, codes, ap, ◌∙◌, to_z, of_z, rules}
use mir.Syntax.{w128}
use Rattle.fixed_decimal.specs.Printed.{printed}
use Rattle.em_rules.specs.declared.words.Verdict.{Verdict}
use Rattle.signoff_report.specs.Report.{word_of, stated_limit}
use Rattle.signoff_report.specs.inside.Lines.{flow_text}
use Rattle.signoff_report.proofs.Pieces.{flow_pieces}
use Rattle.signoff_report.proofs.text.append_flow.Goals as goal

pub returns : goal.returns
returns c =
    let out : List ℕ = c.args.out.now.items in
    let limit : List ℕ = stated_limit c.args.limit in
    let word : List ℕ = word_of c.current_verdict.result in
    let low : to_z w128 (of_z w128 c.args.shown.0) ≡ c.args.shown.0 = search rules in
    let high : to_z w128 (of_z w128 c.args.shown.1) ≡ c.args.shown.1 = search rules in
    let p : List ℕ = printed (to_z w128 (of_z w128 c.args.shown.0)) 9 in
    let q : List ℕ = printed (to_z w128 (of_z w128 c.args.shown.1)) 9 in
    let blank = c.in_ok-push.ensures.items ∙ ap (λ l. l ++ 32 ∷ []) c.in_ok-append_interval.ensures in
    let limited = c.in_ok-append_limit.ensures ∙ ap (λ l. l ++ limit) blank in
    c.in_ok-append_end.ensures ∙ ap (λ l. l ++ (32 ∷ (word ++ 10 ∷ []))) limited ∙ flow_pieces out p q limit word
    ∙ renamed out limit _ _ _ _ low high _ _ c.current_verdict.ensures
  where
    renamed : (out limit : List ℕ) (a a' b b' : ℤ) → a ≡ a' → b ≡ b' → (v w : Verdict) → v ≡ w
        → out ++ (32 ∷ (printed a 9 ++ (32 ∷ (printed b 9 ++ (32 ∷ (limit ++ (32 ∷ (word_of v ++ 10 ∷ [])))))))) ≡ out ++ (32 ∷ (printed a' 9 ++ (32 ∷ (printed b' 9 ++ (32 ∷ (limit ++ (32 ∷ (word_of w ++ 10 ∷ []))))))))
    renamed out limit a a' b b' e f v w g = λ i. out ++ (32 ∷ (printed (e i) 9 ++ (32 ∷ (printed (f i) 9 ++ (32 ∷ (limit ++ (32 ∷ (word_of (g i) ++ 10 ∷ []))))))))
