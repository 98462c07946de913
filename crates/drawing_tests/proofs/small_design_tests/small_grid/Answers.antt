use Rattle.std.proofs.Common.{◌≡◌, ◌<◌, ◌≤◌, ℕ, pos, negsuc, false, List, [], ◌∷◌, ◌++◌, All, length, refl, sym, ap, subst, ◌∙◌, arith}
use Rattle.std.specs.Prelude.{AllPairs}
use Rattle.std.specs.Ordering.{is_gt, nat_cmp, ordering_then, int_cmp}
use Rattle.std.proofs.lemmas.List.Elements.{All-nil, All-cons}
use Rattle.std.proofs.lemmas.List.Kept.{AllPairs-cons}
use Rattle.geom_rect.specs.declared.direction.Axis.TheVariants.{X, Y}
use Rattle.geom_rect.specs.declared.drawn.Shape.TheVariants.{Stripe, FollowPin}
use Rattle.grid_pieces.specs.declared.piece.Piece.{Piece}
use Rattle.grid_pieces.specs.declared.piece.StackAt.{StackAt}
use Rattle.grid_pieces.specs.Piece.{piece_order}
use Rattle.lef_tech.specs.declared.tech.Tech.{Tech}
use Rattle.def_writer.specs.Limits.{StackFits, stack_order}
use Rattle.grid_pieces.specs.Limits.{PieceKeeps}
use Rattle.written_wiring.specs.Fits.{StackReads}
use Rattle.std.proofs.lemmas.Int.{ints}
use Rattle.drawing_tests.specs.inside.Written.{IsSmallStack}
use Rattle.drawing_tests.proofs.small_design_tests.small_grid.Goals as goal

abbrev rail : ℕ → ℕ → Piece
rail net y = record {
  net = net;
  layer = 0;
  axis = X;
  centre = pos y;
  width = pos 340;
  from = pos 0;
  to = pos 8000;
  shape = FollowPin;
}

abbrev strap : ℕ → ℕ → Piece
strap net x = record {
  net = net;
  layer = 3;
  axis = Y;
  centre = pos x;
  width = pos 960;
  from = negsuc 169;
  to = pos 2970;
  shape = Stripe;
}

abbrev all_pieces : List Piece
all_pieces = rail 0 2800 ∷ strap 0 6000 ∷ rail 1 0 ∷ strap 1 2000 ∷ []

abbrev IsBefore : Piece → Piece → Type 0
IsBefore a b = is_gt (piece_order a b) ≡ false

none_pairs : {X : Type 0} (R : X → X → Type 0) → AllPairs R []
none_pairs R i j d lt within = absurd (omega arith)

in_order : AllPairs IsBefore all_pieces
in_order =
    AllPairs-cons IsBefore (rail 0 2800) (strap 0 6000 ∷ rail 1 0 ∷ strap 1 2000 ∷ [])
    (All-cons (IsBefore (rail 0 2800)) (strap 0 6000) (rail 1 0 ∷ strap 1 2000 ∷ []) refl
    (All-cons (IsBefore (rail 0 2800)) (rail 1 0) (strap 1 2000 ∷ []) refl (All-cons (IsBefore (rail 0 2800)) (strap 1 2000) [] refl (All-nil (IsBefore (rail 0 2800))))))
    (AllPairs-cons IsBefore (strap 0 6000) (rail 1 0 ∷ strap 1 2000 ∷ [])
    (All-cons (IsBefore (strap 0 6000)) (rail 1 0) (strap 1 2000 ∷ []) refl (All-cons (IsBefore (strap 0 6000)) (strap 1 2000) [] refl (All-nil (IsBefore (strap 0 6000)))))
    (AllPairs-cons IsBefore (rail 1 0) (strap 1 2000 ∷ []) (All-cons (IsBefore (rail 1 0)) (strap 1 2000) [] refl (All-nil (IsBefore (rail 1 0))))
    (AllPairs-cons IsBefore (strap 1 2000) [] (All-nil (IsBefore (strap 1 2000))) (none_pairs IsBefore))))

abbrev IsOn : Tech → Piece → Type 0
IsOn tech p = p.layer < length tech.routing

on_layers : (tech : Tech) → 4 ≤ length tech.routing → All (IsOn tech) all_pieces
on_layers tech many =
    All-cons (IsOn tech) (rail 0 2800) (strap 0 6000 ∷ rail 1 0 ∷ strap 1 2000 ∷ []) (omega arith)
    (All-cons (IsOn tech) (strap 0 6000) (rail 1 0 ∷ strap 1 2000 ∷ []) (omega arith)
    (All-cons (IsOn tech) (rail 1 0) (strap 1 2000 ∷ []) (omega arith) (All-cons (IsOn tech) (strap 1 2000) [] (omega arith) (All-nil (IsOn tech)))))

abbrev StandsBefore : StackAt → StackAt → Type 0
StandsBefore a b = is_gt (stack_order a b) ≡ false

pair : (a b : StackAt) → a.net ≡ 0 → b.net ≡ 1 → AllPairs StandsBefore (a ∷ b ∷ [])
pair a b first second =
    let less : StandsBefore a b = subst (λ n. is_gt (ordering_then (ordering_then (ordering_then (nat_cmp n b.net) (int_cmp a.x b.x)) (int_cmp a.y b.y)) (nat_cmp a.stack.from b.stack.from)) ≡ false) (sym first)
    (subst (λ n. is_gt (ordering_then (ordering_then (ordering_then (nat_cmp 0 n) (int_cmp a.x b.x)) (int_cmp a.y b.y)) (nat_cmp a.stack.from b.stack.from)) ≡ false) (sym second) refl) in
    AllPairs-cons StandsBefore a (b ∷ []) (All-cons (StandsBefore a) b [] less (All-nil (StandsBefore a)))
    (AllPairs-cons StandsBefore b [] (All-nil (StandsBefore b)) (none_pairs StandsBefore))

-- The pieces keep their limits.
keeps : (net : ℕ) → PieceKeeps (rail net 2800) × PieceKeeps (rail net 0) × PieceKeeps (strap net 6000) × PieceKeeps (strap net 2000)
keeps net = (
  ((omega (arith, ints), omega (arith, ints)), omega (arith, ints), ((omega (arith, ints), omega (arith, ints)), (omega (arith, ints), omega (arith, ints)), (omega (arith, ints), omega (arith, ints)), (omega (arith, ints), omega (arith, ints)))),
  ((omega (arith, ints), omega (arith, ints)), omega (arith, ints), ((omega (arith, ints), omega (arith, ints)), (omega (arith, ints), omega (arith, ints)), (omega (arith, ints), omega (arith, ints)), (omega (arith, ints), omega (arith, ints)))),
  ((omega (arith, ints), omega (arith, ints)), omega (arith, ints), ((omega (arith, ints), omega (arith, ints)), (omega (arith, ints), omega (arith, ints)), (omega (arith, ints), omega (arith, ints)), (omega (arith, ints), omega (arith, ints)))),
  ((omega (arith, ints), omega (arith, ints)), omega (arith, ints), ((omega (arith, ints), omega (arith, ints)), (omega (arith, ints), omega (arith, ints)), (omega (arith, ints), omega (arith, ints)), (omega (arith, ints), omega (arith, ints)))),
)

all_keep : All PieceKeeps all_pieces
all_keep =
    All-cons PieceKeeps (rail 0 2800) (strap 0 6000 ∷ rail 1 0 ∷ strap 1 2000 ∷ []) (keeps 0).0
    (All-cons PieceKeeps (strap 0 6000) (rail 1 0 ∷ strap 1 2000 ∷ []) (keeps 0).2
    (All-cons PieceKeeps (rail 1 0) (strap 1 2000 ∷ []) (keeps 1).1 (All-cons PieceKeeps (strap 1 2000) [] (keeps 1).3 (All-nil PieceKeeps))))

abbrev IsOf : ℕ → Piece → Type 0
IsOf nets p = p.net < nets

all_of : (nets : ℕ) → nets ≡ 2 → All (IsOf nets) all_pieces
all_of nets e =
    All-cons (IsOf nets) (rail 0 2800) (strap 0 6000 ∷ rail 1 0 ∷ strap 1 2000 ∷ []) (omega arith)
    (All-cons (IsOf nets) (strap 0 6000) (rail 1 0 ∷ strap 1 2000 ∷ []) (omega arith)
    (All-cons (IsOf nets) (rail 1 0) (strap 1 2000 ∷ []) (omega arith) (All-cons (IsOf nets) (strap 1 2000) [] (omega arith) (All-nil (IsOf nets)))))

abbrev StandsIn : ℕ → StackAt → Type 0
StandsIn nets at = at.net < nets

both_in : (nets : ℕ) (a b : StackAt) → nets ≡ 2 → a.net ≡ 0 → b.net ≡ 1 → All (StandsIn nets) (a ∷ b ∷ [])
both_in nets a b e f g = All-cons (StandsIn nets) a (b ∷ []) (omega arith) (All-cons (StandsIn nets) b [] (omega arith) (All-nil (StandsIn nets)))

pub returns : goal.returns
returns c =
    let a : StackAt = c.in_ok-stack.field-0 in
    let b : StackAt = c.in_ok-stack-2.field-0 in
    let first : IsSmallStack 0 (pos 6000) (pos 2800) a = c.in_ok-stack.ensures in
    let second : IsSmallStack 1 (pos 2000) (pos 0) b = c.in_ok-stack-2.ensures in
    let pieces : c.new-7.result ≡ all_pieces = c.new-7.ensures ∙ c.in_ok-from_slice-2.ensures.items in
    let stacks : c.new-8.result ≡ a ∷ b ∷ [] = c.new-8.ensures ∙ c.in_ok-push-4.ensures.items ∙ ap (λ (l : List StackAt). l ++ b ∷ []) (c.in_ok-push-3.ensures.items ∙ ap (λ (l : List StackAt). l ++ a ∷ []) c.new-stacks.ensures.items) in
    let nets : length c.new-3.result ≡ 2 = ap length (c.new-3.ensures ∙ c.in_ok-push-2.ensures.items ∙ ap (λ (l : List (List ℕ)). l ++ c.in_ok-new-2.field-0 ∷ []) (c.in_ok-push.ensures.items ∙ ap (λ (l : List (List ℕ)). l ++ c.in_ok-new.field-0 ∷ []) c.new-nets.ensures.items)) in
    let power : length c.new-4.result ≡ 2 = ap length (c.new-4.ensures ∙ c.in_ok-from_slice.ensures.items) in
    record {
      fits = λ tech layers rules. record {
        power = power ∙ sym nets;
        pieces = subst (AllPairs IsBefore) (sym pieces) in_order;
        stacks = subst (AllPairs StandsBefore) (sym stacks) (pair a b first.of_net second.of_net);
        layers = subst (All (IsOn tech)) (sym pieces) (on_layers tech layers);
        arrays = subst (All (StackFits tech)) (sym stacks)
            (All-cons (StackFits tech) a (b ∷ []) (first.fits tech layers rules) (All-cons (StackFits tech) b [] (second.fits tech layers rules) (All-nil (StackFits tech))));
      };
      pieces = subst (All PieceKeeps) (sym pieces) all_keep;
      stacks = subst (All StackReads) (sym stacks)
          (All-cons StackReads a (b ∷ []) (first.reads (omega arith) (omega arith)) (All-cons StackReads b [] (second.reads (omega arith) (omega arith)) (All-nil StackReads)));
      piece_nets = subst (All (IsOf (length c.new-3.result))) (sym pieces) (all_of (length c.new-3.result) nets);
      stack_nets = subst (All (StandsIn (length c.new-3.result))) (sym stacks) (both_in (length c.new-3.result) a b nets first.of_net second.of_net);
    }
