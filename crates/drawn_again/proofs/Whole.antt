-- The stacks of a drawing stand apart on its pieces.
use Rattle.std.proofs.Common.{◌≡◌, ℕ, ◌<◌, true, List, All, length, get_or, sym, subst, arith}
use Rattle.std.specs.Ordering.{is_lt}
use Rattle.lef_tech.specs.declared.tech.Tech.{Tech}
use Rattle.grid_pieces.specs.declared.grid.Grid.{Grid}
use Rattle.grid_pieces.specs.declared.piece.StackAt.{StackAt}
use Rattle.grid_pieces.specs.Limits.{PieceKeeps}
use Rattle.grid_shapes.specs.Drawing.{AreStacksOf, NothingTouches, PieceStands, StackStands}
use Rattle.grid_plan.specs.declared.record.Plan.{Plan}
use Rattle.grid_stacks.specs.declared.connect.Site.{Site}
use Rattle.grid_stacks.specs.Stacking.{place_order, IsStackAt, AreStacksAt}
use Rattle.rewired_stacks.specs.Rewired.{StandApart}
use Rattle.drawn_again.proofs.Arrays.{no_site, array_resists}
use Rattle.drawn_again.proofs.Ends.{IsPlaced}
use Rattle.drawn_again.proofs.Order.{by_place, is_placed}

abbrev pub site_at : List Site → ℕ → Site
site_at sites k = get_or sites k no_site

pub stack_at : (tech : Tech) (units : ℕ) (sites : List Site) (stacks : List StackAt) → AreStacksAt tech units sites stacks → (k : ℕ) (d : StackAt) → k < length stacks
    → IsStackAt tech units (site_at sites k) (get_or stacks k d)
stack_at tech units sites stacks are k d within = let many = are.as_many in are.each k no_site d (omega (arith, within, many))

-- the site at which a stack stands
abbrev as_site : Site → StackAt → Site
as_site site at = record {
  net = at.net;
  x = at.x;
  y = at.y;
  from = at.stack.from;
  to = at.stack.to;
  crossing = at.crossing;
  max_columns = site.max_columns;
  max_rows = site.max_rows;
}

same_site : (tech : Tech) (units : ℕ) (site : Site) (at : StackAt) → IsStackAt tech units site at → as_site site at ≡ site
same_site tech units site at is = λ i. record {
  net = is.net i;
  x = is.x i;
  y = is.y i;
  from = is.stack.lowest i;
  to = is.stack.highest i;
  crossing = is.crossing i;
  max_columns = site.max_columns;
  max_rows = site.max_rows;
}

pub stand_apart : (tech : Tech) (grid : Grid) (plan : Plan) → AreStacksOf tech plan grid.pieces grid.stacks → NothingTouches grid.pieces grid.stacks
    → All (PieceStands tech grid) grid.pieces → All (StackStands tech grid) grid.stacks → StandApart tech grid.pieces grid.stacks
stand_apart tech grid plan (sites, allowed, _, are) apart pieces stacks = record {
  keep = keep;
  whole = λ k d within. record {
    rising = (stacks k d within).rising;
    arrays = (stacks k d within).arrays;
    ohms = (stacks k d within).ohms;
    resist = array_resists tech plan.units (site_at sites k) (get_or grid.stacks k d) (at k d within);
  };
  ends = λ k d within. ((placed k d within).low, (placed k d within).high);
  in_order = in_order;
  apart = record { places = λ k d within. (placed k d within).has; none = apart };
}
  where
    keep : All PieceKeeps grid.pieces
    keep k d within = (pieces k d within).keeps

    at : (k : ℕ) (d : StackAt) → k < length grid.stacks → IsStackAt tech plan.units (site_at sites k) (get_or grid.stacks k d)
    at k d within = stack_at tech plan.units sites grid.stacks are k d within

    in_sites : (k : ℕ) → k < length grid.stacks → k < length sites
    in_sites k within = let many = are.as_many in omega (arith, within, many)

    same : (k : ℕ) (d : StackAt) → k < length grid.stacks → as_site (site_at sites k) (get_or grid.stacks k d) ≡ site_at sites k
    same k d within = same_site tech plan.units (site_at sites k) (get_or grid.stacks k d) (at k d within)

    placed : (k : ℕ) (d : StackAt) → k < length grid.stacks → IsPlaced grid.pieces (as_site (site_at sites k) (get_or grid.stacks k d))
    placed k d within =
        subst (IsPlaced grid.pieces) (sym (same k d within))
        (is_placed grid.pieces grid.stacks apart keep tech plan.connects plan.blocks (site_at sites k) (allowed.are.each k no_site (in_sites k within)))

    in_order : (i j : ℕ) (d : StackAt) → i < j → j < length grid.stacks
        → is_lt (place_order (as_site (site_at sites i) (get_or grid.stacks i d)) (as_site (site_at sites j) (get_or grid.stacks j d))) ≡ true
    in_order i j d less within =
        let before : i < length grid.stacks = omega (arith, less, within) in
        subst (λ s. is_lt (place_order s (as_site (site_at sites j) (get_or grid.stacks j d))) ≡ true) (sym (same i d before))
        (subst (λ s. is_lt (place_order (site_at sites i) s) ≡ true) (sym (same j d within))
        (by_place grid.pieces grid.stacks apart keep tech plan.connects plan.blocks (site_at sites i) (site_at sites j)
        (allowed.are.each i no_site (in_sites i before)) (allowed.are.each j no_site (in_sites j within)) (allowed.are.in_order i j no_site less (in_sites j within))))
