-- Which vias stand somewhere, as a list of answers.
use Rattle.std.specs.Prelude.{◌≡◌, ◌↔◌, ℕ, ◌<◌, Bool, true, false, List, length, slice_index_or, Option, MatchOption}
use Rattle.wire_names.specs.declared.record.Spot.{Spot}
use Rattle.lef_tech.specs.declared.tech.Tech.{Tech}
use Rattle.wire_names.specs.declared.record.NamedVia.{NamedVia}
use Rattle.wire_limits.specs.Vias.{IsUsed, HasCutResistance, IsFirstUsedWithout, EachUsedHas}

-- For each of so many places whether the via there stands somewhere.
pub record AreUses (count : ℕ) (spots : List Spot) (used : List Bool) : Type 0 where
  pub as_many : length used ≡ count
  pub each : (k : ℕ) → k < count → (slice_index_or used k false ≡ true) ↔ IsUsed spots k

-- The place of the first via that stands somewhere and has not the property, or that each has it.
abbrev pub FindsUsed : (NamedVia → Type 0) → List NamedVia → List Spot → Option ℕ → Type 0
FindsUsed P vias spots answer = MatchOption answer (EachUsedHas P vias spots)
    (λ place. (via : NamedVia) × IsFirstUsedWithout P vias spots place via)

-- The lower layer of the first via that stands somewhere and has no resistance of a cut, or that each has one.
abbrev pub FindsLayer : Tech → List NamedVia → List Spot → Option ℕ → Type 0
FindsLayer tech vias spots answer = MatchOption answer (EachUsedHas (HasCutResistance tech) vias spots)
    (λ layer. (place : ℕ) × (via : NamedVia) × IsFirstUsedWithout (HasCutResistance tech) vias spots place via × (via.lower ≡ layer))
