-- What the searches among segments and vias say together.
use Rattle.std.proofs.Common.{ℤ, pos, List}
use Rattle.def_wiring.specs.declared.record.Segment.{Segment}
use Rattle.wire_names.specs.declared.record.NamedVia.{NamedVia}
use Rattle.wire_limits.specs.First.{EachHas}
use Rattle.wire_limits.specs.Segments.{IsEven}
use Rattle.wire_limits.specs.inside.Segments.{IsFirstOddOf}

abbrev pub no_via : NamedVia
no_via = record {
  rule = 0;
  lower = 0;
  cut = 0;
  upper = 0;
  columns = 0;
  rows = 0;
  cut_x = pos 0;
  cut_y = pos 0;
  pitch_x = pos 0;
  pitch_y = pos 0;
  lower_x = pos 0;
  lower_y = pos 0;
  upper_x = pos 0;
  upper_y = pos 0;
}

-- Segments of which one is odd are not even.
pub odd_one : (segments : List Segment) (width : ℤ) → IsFirstOddOf segments width → EachHas IsEven segments → ⊥
odd_one segments width odd even = odd.2.lacks (even odd.0 odd.1 odd.2.stands)
