-- What a region holds once a slice of its cells, lent to be written, is given back.
use Rattle.std.specs.Prelude.{List, ℤ}
use Rattle.std.specs.Borrow.{Lends, LendsBoth, MutBor, Fml, Array, i128}
use Rattle.level_region.specs.declared.span.Span.{Span}
use Rattle.level_region.specs.Block.{Block, written_over, both_written}
use Rattle.level_region.specs.contracts.region.Region.{the_row}

-- The span's cells hold what was last written through r, and every other cell holds what it held.
-- A slice keeps its length, so that r has as many numbers as the span has cells.
abbrev pub LendsPart : MutBor Block → Span → MutBor (List ℤ) → Fml
LendsPart block span r = Lends the_row (Array i128 0) block r (written_over block.now span.start)

-- The same of two spans that do not overlap.
abbrev pub LendsTwoParts : MutBor Block → Span → Span → MutBor (List ℤ) × MutBor (List ℤ) → Fml
LendsTwoParts block a b r = LendsBoth the_row (Array i128 0) (Array i128 0) block r (both_written block.now a b)
