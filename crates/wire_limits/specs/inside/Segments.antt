-- What the searches among segments answer.
use Rattle.std.specs.Prelude.{◌≡◌, ℕ, ℤ, List, Option, MatchOption}
use Rattle.geom_rect.specs.declared.drawn.Drawn.{Drawn}
use Rattle.lef_tech.specs.declared.tech.Tech.{Tech}
use Rattle.def_wiring.specs.declared.record.Segment.{Segment}
use Rattle.def_wiring.specs.declared.record.WiredNet.{WiredNet}
use Rattle.wire_limits.specs.First.{IsFirstWithout, EachHas}
use Rattle.wire_limits.specs.Segments.{IsEven, AreEven, HasSheet}

-- The width is that of the first segment whose width is odd or 0.
abbrev pub IsFirstOddOf : List Segment → ℤ → Type 0
IsFirstOddOf segments width =
    (number : ℕ) × (segment : Segment) × IsFirstWithout IsEven segments number segment × (segment.width ≡ width)

abbrev pub FindsOdd : List Segment → Option ℤ → Type 0
FindsOdd segments answer = MatchOption answer (EachHas IsEven segments) (IsFirstOddOf segments)

abbrev pub FindsOddNet : List WiredNet → Option (ℕ × ℤ) → Type 0
FindsOddNet nets answer = MatchOption answer (EachHas AreEven nets)
    (λ p. (net : WiredNet) × IsFirstWithout AreEven nets p.0 net × IsFirstOddOf net.segments p.1)

abbrev pub FindsBare : Tech → List Drawn → Option ℕ → Type 0
FindsBare tech shapes answer = MatchOption answer (EachHas (HasSheet tech) shapes)
    (λ layer. (place : ℕ) × (shape : Drawn) × IsFirstWithout (HasSheet tech) shapes place shape × (shape.layer ≡ layer))
