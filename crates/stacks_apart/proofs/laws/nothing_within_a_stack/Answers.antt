use Rattle.std.proofs.Common.{◌≡◌, ◌⊎◌, inl, inr, ℕ, ◌<◌, ◌≤◌, List, get_or, sym, arith}
use Rattle.std.proofs.lemmas.Bool.{cases_lt}
use Rattle.grid_pieces.specs.declared.piece.Piece.{Piece}
use Rattle.grid_pieces.specs.declared.piece.StackAt.{StackAt}
use Rattle.stacks_apart.proofs.Touched.{no_piece, no_stack}
use Rattle.stacks_apart.proofs.laws.nothing_within_a_stack.Goals as goal

pub returns-clause-piece : goal.returns-clause-piece
returns-clause-piece s pieces stacks k net layer x y d keep apart within inside at_x at_y held =
    no_piece pieces keep stacks apart.none k d within (apart.places k d within) net layer x y inside at_x at_y held

pub returns-clause-stack : goal.returns-clause-stack
returns-clause-stack s pieces stacks k l layer d keep apart in_k in_l inside inside' same = by (cases_lt k l) (cases_lt l k)
  where
    by : (k < l) ⊎ (l ≤ k) → (l < k) ⊎ (k ≤ l) → k ≡ l
    by (inl less) _ = absurd (no_stack pieces keep stacks apart.none k l d less in_l (apart.places k d in_k) (apart.places l d in_l) layer inside inside' (sym same.x) (sym same.y))
    by (inr _) (inl less) = absurd (no_stack pieces keep stacks apart.none l k d less in_k (apart.places l d in_l) (apart.places k d in_k) layer inside' inside same.x same.y)
    by (inr le) (inr ge) = omega (arith, le, ge)
