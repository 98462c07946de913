-- Rules by their numbers.
use Rattle.std.proofs.Common.{◌≡◌, ℕ, ◌+◌, ◌<◌, ◌≤◌, ◌⊎◌, inl, inr, length, get_or, Some, subst, sym, ◌∙◌, arith}
use Rattle.std.proofs.lemmas.Bool.{cases_lt}
use Rattle.std.proofs.lemmas.Option.{slice_get_read}
use Rattle.geom_rect.specs.declared.rect.Rect.{Rect}
use Rattle.lef_tech.specs.declared.rule.ViaRule.{ViaRule}
use Rattle.lef_tech.specs.declared.tech.Tech.{Tech}
use Rattle.via_arrays.specs.Choice.{IsRule, Suits, NoneBefore}

some_inner : {X : Type 0} (x y : X) → Some x ≡ Some y → x ≡ y
some_inner x y e = cc

-- A number has one rule.
pub rule_unique : (tech : Tech) (place : ℕ) (a b : ViaRule) → IsRule tech place a → IsRule tech place b → a ≡ b
rule_unique tech place a b is other = some_inner a b (sym is ∙ other)

-- A rule that was read.
pub rule_read : (tech : Tech) (place : ℕ) (rule : ViaRule) → place < length tech.rules → rule ≡ get_or tech.rules place rule → IsRule tech place rule
rule_read tech place rule within is = slice_get_read tech.rules (length tech.rules) place rule (omega arith) within is

-- One more rule that does not suit.
pub none_more : (tech : Tech) (lower upper : ℕ) (crossing : Rect) (units place : ℕ) (rule : ViaRule) → NoneBefore tech lower upper crossing units place
    → IsRule tech place rule → (Suits tech lower upper crossing units rule → ⊥) → NoneBefore tech lower upper crossing units (place + 1)
none_more tech lower upper crossing units place rule none is not_here k other before at suits = by_place (cases_lt k place)
  where
    by_place : (k < place) ⊎ (place ≤ k) → ⊥
    by_place (inl earlier) = none k other earlier at suits
    by_place (inr here) =
        let same : k ≡ place = omega arith in
        not_here (subst (Suits tech lower upper crossing units)
        (rule_unique tech place other rule (subst (λ n. IsRule tech n other) same at) is) suits)
