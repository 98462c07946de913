use Rattle.std.proofs.Common.{◌≡◌, ℕ, ℤ, List, [], ◌++◌, ◌∷◌, codes, ap, ◌∙◌, append_assoc, to_z, of_z, rules}
use mir.Syntax.{w128}
use Rattle.fixed_decimal.specs.Printed.{printed}
use Rattle.signoff_report.specs.Report.{line_of}
use Rattle.step_texts.proofs.report.append_node.Goals as goal

-- The pieces of a line are the line.
pieces : (out name p q : List ℕ) → ((((out ++ codes "node ") ++ name) ++ (32 ∷ p)) ++ (32 ∷ q)) ++ 10 ∷ [] ≡ out ++ line_of (codes "node" ∷ name ∷ p ∷ q ∷ [])
pieces out name p q = simp append_assoc

renamed : (out name : List ℕ) (a a' b b' : ℤ) → a ≡ a' → b ≡ b' → out ++ line_of (codes "node" ∷ name ∷ printed a 9 ∷ printed b 9 ∷ []) ≡ out ++ line_of (codes "node" ∷ name ∷ printed a' 9 ∷ printed b' 9 ∷ [])
renamed out name a a' b b' e f = λ i. out ++ line_of (codes "node" ∷ name ∷ printed (e i) 9 ∷ printed (f i) 9 ∷ [])

pub returns : goal.returns
returns c =
    let out : List ℕ = c.args.out.now.items in
    let name : List ℕ = c.args.name.now in
    let low : to_z w128 (of_z w128 c.args.shown.0) ≡ c.args.shown.0 = search rules in
    let high : to_z w128 (of_z w128 c.args.shown.1) ≡ c.args.shown.1 = search rules in
    let p : List ℕ = printed (to_z w128 (of_z w128 c.args.shown.0)) 9 in
    let q : List ℕ = printed (to_z w128 (of_z w128 c.args.shown.1)) 9 in
    let named = c.in_ok-extend_from_slice-2.ensures.items ∙ ap (λ l. l ++ name) c.in_ok-extend_from_slice.ensures.items in
    let first = c.in_ok-append_voltage.ensures ∙ ap (λ l. l ++ (32 ∷ p)) named in
    let second = c.in_ok-append_voltage-2.ensures ∙ ap (λ l. l ++ (32 ∷ q)) first in
    c.in_ok-push.ensures.items ∙ ap (λ l. l ++ 10 ∷ []) second ∙ pieces out name p q ∙ renamed out name _ _ _ _ low high
