-- What `cut` answers, once and call after call.
use Rattle.std.specs.Prelude.{◌≡◌, ℕ, ◌+◌, ◌<◌, ◌↔◌, ⊤, List, [], ◌∷◌, length, Option, filter_map, IsNone, IfSome, OnSome, IfNone}
use Rattle.level_region.specs.declared.span.Span.{Span}
use Rattle.level_region.specs.Block.{Block, left_of}

-- `cut` was asked for n cells: the region before, the answer, and the region after.
pub record IsCut (before : Block) (n : ℕ) (answer : Option Span) (after : Block) : Type 0 where
  -- There is no span exactly where fewer than n cells are left.
  pub none : IsNone answer ↔ (left_of before < n)
  -- The span is the next n cells.
  pub next : IfSome answer (λ span. span ≡ record { start = before.used; len = n })
  -- Which are used from then on, and hold what they held.
  pub counted : OnSome answer (after ≡ record { cells = before.cells; used = before.used + n })
  -- Without a span nothing changes.
  pub unchanged : IfNone answer (after ≡ before)

-- One call of `cut`.
pub record Cut : Type 0 where
  pub before : Block
  pub n : ℕ
  pub answer : Option Span
  pub after : Block
  pub is : IsCut before n answer after

-- As many cells, and as many of them used: what holds where cells are only read and written.
abbrev pub SameUse : Block → Block → Type 0
SameUse old new = (length new.cells ≡ length old.cells) × (new.used ≡ old.used)

-- Calls of `cut` on one region, one after another, with no `reset` from the first to the last.
abbrev pub AreInTurn : List Cut → Type 0
AreInTurn [] = ⊤
AreInTurn (first ∷ []) = ⊤
AreInTurn (first ∷ second ∷ others) = SameUse first.after second.before × AreInTurn (second ∷ others)

-- The spans that calls of `cut` gave.
abbrev pub spans_of : List Cut → List Span
spans_of cuts = filter_map (λ (cut : Cut). cut.answer) cuts
