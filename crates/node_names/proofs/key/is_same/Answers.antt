use Rattle.std.proofs.Common.{◌≡◌, ℕ, ◌+◌, ◌<◌, List, ◌∷◌, length, drop, get_or, sym, ◌∙◌, arith}
use Rattle.std.specs.Char.{to_ascii_lowercase}
use Rattle.std.specs.Str.{bytes_eq}
use Rattle.node_names.specs.Folding.{folded}
use Rattle.node_names.proofs.FoldedLemmas.{drop_folded, at_rests, same_bytes, other_bytes}
use Rattle.node_names.proofs.key.is_same.Goals as goal

-- The first bytes of the two rests.
rests : (first second : List ℕ) (i : ℕ) → i < length first → i < length second
    → bytes_eq (drop i (folded first)) (drop i (folded second)) ≡ bytes_eq (to_ascii_lowercase (get_or first i 0) ∷ drop (i + 1) (folded first)) (to_ascii_lowercase (get_or second i 0) ∷ drop (i + 1) (folded second))
rests first second i in_first in_second = at_rests bytes_eq (drop_folded first i in_first) (drop_folded second i in_second)

pub returns-then-to_ascii_lowercase : goal.returns-then-to_ascii_lowercase
returns-then-to_ascii_lowercase c =
    let within : c.loop-i.i < length c.args.second.now = omega (arith, c.loop-i-test.true, c.if-first-second.false) in
    sym (c.loop-i.invariant ∙ rests c.args.first.now c.args.second.now c.loop-i.i c.loop-i-test.true within
    ∙ other_bytes _ _ (drop (c.loop-i.i + 1) (folded c.args.first.now)) (drop (c.loop-i.i + 1) (folded c.args.second.now)) (λ e. c.if-to_ascii_lowercase.true (c.to_ascii_lowercase.ensures.value ∙ e ∙ sym c.to_ascii_lowercase-in-loop-i.ensures.value)))

pub loop-i-preserved : goal.loop-i-preserved
loop-i-preserved c =
    let within : c.loop-i.i < length c.args.second.now = omega (arith, c.loop-i-test.true, c.if-first-second.false) in
    c.loop-i.invariant ∙ rests c.args.first.now c.args.second.now c.loop-i.i c.loop-i-test.true within
    ∙ same_bytes _ _ (drop (c.loop-i.i + 1) (folded c.args.first.now)) (drop (c.loop-i.i + 1) (folded c.args.second.now)) (sym c.to_ascii_lowercase.ensures.value ∙ c.if-to_ascii_lowercase.false ∙ c.to_ascii_lowercase-in-loop-i.ensures.value)
