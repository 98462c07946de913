-- Rules: patterns as the source of a format has them.
use Rattle.std.specs.Prelude.{ℕ, Bool, false, ◌||◌, nat_eq, List, [], ◌∷◌, ◌≡◌, not}
use Rattle.reading.specs.declared.rule.Rule.{Rule, Nothing as Nothing_rule, One as One_rule, Other as Other_rule, Then' as Then_rule, Or' as Or_rule, Many' as Many_rule}
use Rattle.reading.specs.Pattern.{Pattern, Never, One, Then, Or, Many}

-- Whether the sort is one of these.
abbrev pub listed_in : {S : Type 0} → (S → ℕ) → List S → S → Bool
listed_in number [] sort = false
listed_in number (s ∷ sorts) sort = nat_eq (number s) (number sort) || listed_in number sorts sort

-- The rule, as a format's source has it, is the pattern.
abbrev pub IsRule : {S : Type 0} → (S → ℕ) → Rule S → Pattern S → Type 0
IsRule number Nothing_rule Never = Unit {0}
IsRule {S} number (One_rule sorts) (One class) = (s : S) → listed_in number sorts.now s ≡ class s
IsRule {S} number (Other_rule sorts) (One class) = (s : S) → not (listed_in number sorts.now s) ≡ class s
IsRule number (Then_rule a x b y) (Then p q) = IsRule number x p × IsRule number y q
IsRule number (Or_rule a x b y) (Or p q) = IsRule number x p × IsRule number y q
IsRule number (Many_rule a x) (Many p) = IsRule number x p
IsRule number rule p = ⊥
