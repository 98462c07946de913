-- What the standing of a unit tells of what is left of its pattern.
use Rattle.std.proofs.Common.{◌≡◌, Bool, true, false, cond, refl, sym, ◌∙◌, ap}
use Rattle.reading.specs.declared.patterns.Standing.{Standing}
use Rattle.reading.specs.declared.patterns.Standing.TheVariants.{Nowhere, Open, Whole}
use Rattle.reading.specs.Pattern.{Pattern, Never}
use Rattle.reading.specs.Tests.{skips}
use Rattle.reading.specs.inside.Patterns.{standing_of}

pub is-nowhere : {S : Type 0} (p : Pattern S) → p ≡ Never → Nowhere ≡ standing_of p
is-nowhere p e = ap standing_of (sym e)

pub is-by-skips : {S : Type 0} (p : Pattern S) (b : Bool) → (p ≡ Never → ⊥) → b ≡ skips p → cond b Whole Open ≡ standing_of p
is-by-skips Never b some e = absurd (some refl)
is-by-skips p b some e = ap (λ z. cond z Whole Open) e

some-there : (b : Bool) → Nowhere ≡ cond b Whole Open → ⊥
some-there true h = cc
some-there false h = cc

pub never-by : {S : Type 0} (p : Pattern S) → Nowhere ≡ standing_of p → p ≡ Never
never-by Never h = refl
never-by p h = absurd (some-there (skips p) h)

pub some-by : {S : Type 0} (p : Pattern S) (standing : Standing) → standing ≡ standing_of p → (standing ≡ Nowhere → ⊥) → p ≡ Never → ⊥
some-by p standing h some e = some (h ∙ ap standing_of e)

not-whole : (b : Bool) → Open ≡ cond b Whole Open → false ≡ b
not-whole true h = absurd (let t : Open ≡ Whole = h in cc)
not-whole false h = refl

pub goes_on-by : {S : Type 0} (p : Pattern S) → Open ≡ standing_of p → false ≡ skips p
goes_on-by Never h = refl
goes_on-by p h = not-whole (skips p) h

whole-left : (b : Bool) (standing : Standing) → standing ≡ cond b Whole Open → (standing ≡ Open → ⊥) → true ≡ b
whole-left true standing h others = refl
whole-left false standing h others = absurd (others h)

pub whole-by : {S : Type 0} (p : Pattern S) (standing : Standing) → standing ≡ standing_of p → (standing ≡ Nowhere → ⊥) → (standing ≡ Open → ⊥) → true ≡ skips p
whole-by Never standing h some others = absurd (some h)
whole-by p standing h some others = whole-left (skips p) standing h others
