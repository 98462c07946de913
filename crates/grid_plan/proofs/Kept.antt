-- A plan keeps its limits, since the records that it is made of keep theirs and nothing refuses it.
use Rattle.std.proofs.Common.{◌≡◌, ◌≢◌, ℕ, zero, suc, ◌+◌, ◌-◌, ◌*◌, ◌%◌, ◌^◌, ◌<◌, ◌≤◌, ◌⊎◌, inl, inr, ℤ, pos, negsuc, ◌+ℤ◌, ◌-ℤ◌, ◌*ℤ◌, ◌≤ℤ◌, ◌<ℤ◌, Bool, true, false, cond, not, ◌&&◌, List, [], ◌∷◌, ◌++◌, All, Contains, length, get_or, map, filter, min, max, Option, Some, None, refl, sym, ap, ◌∙◌, subst, arith}
use Rattle.std.specs.Prelude.{unsigned_abs, slice_index_or, slice_get, nat_eq, MatchResult, IfOk, Result, Ok, Err}
use Rattle.std.specs.Int.{div_ceil}
use Rattle.std.specs.List.{list_any}
use Rattle.std.specs.Option.{option_map, unwrap_or, option_to_list}
use Rattle.std.specs.Str.{bytes_eq}
use Rattle.outside.specs.declared.place.Place.{Place}
use Rattle.std.proofs.lemmas.Bool.{eqb-true, eq-eqb}
use Rattle.std.proofs.lemmas.Int.{ints}
use Rattle.std.proofs.lemmas.List.{length-map}
use Rattle.std.proofs.lemmas.List.Elements.{All-nil, All-cons, All-head, All-tail, All-map, All-append, All-contains, All-contains_itself, Contains-get_or}
use Rattle.std.proofs.lemmas.List.Folds.{list_any_at}
use Rattle.std.proofs.lemmas.List.Sorted.{All-permutation}
use Rattle.std.proofs.lemmas.Nat.{mul-le}
use Rattle.std.proofs.Math.Nat.{one-le-mul}
use Rattle.geom_rect.specs.declared.direction.Axis.{Axis}
use Rattle.geom_rect.specs.declared.direction.Axis.TheVariants.{X, Y}
use Rattle.geom_rect.specs.declared.rect.Rect.{Rect}
use Rattle.geom_rect.specs.Drawn.{half}
use Rattle.entry_list.specs.InTurn.{InTurn}
use Rattle.lef_tech.specs.declared.layer.RoutingLayer.{RoutingLayer}
use Rattle.lef_tech.specs.declared.tech.Tech.{Tech}
use Rattle.lef_tech.specs.Limits.{TechKeeps}
use Rattle.lef_cells.specs.declared.record.Cells.{Cells}
use Rattle.lef_cells.specs.declared.record.Site.{Site}
use Rattle.lef_cells.specs.Limits.{CellsKeep}
use Rattle.def_design.specs.declared.record.Design.{Design}
use Rattle.def_design.specs.declared.record.Fence.{Fence}
use Rattle.def_design.specs.declared.record.Row.{Row}
use Rattle.def_design.specs.Limits.{DesignKeeps, RowKeeps, RectKeeps, AreaKeeps}
use Rattle.def_design.specs.Limits as design_limits
use Rattle.pdn_script.specs.declared.record.Connect.{Connect as Said}
use Rattle.pdn_script.specs.declared.record.Domain.{Domain}
use Rattle.pdn_script.specs.declared.record.GridRule.{GridRule}
use Rattle.pdn_script.specs.declared.record.Ring.{Ring}
use Rattle.pdn_script.specs.declared.record.Script.{Script}
use Rattle.pdn_script.specs.declared.record.Start.{Start}
use Rattle.pdn_script.specs.declared.record.Start.TheVariants.{Power, Ground}
use Rattle.pdn_script.specs.declared.record.Stripe.{Stripe}
use Rattle.pdn_script.specs.Limits.{ScriptKeeps, StripeKeeps}
use Rattle.pdn_script.specs.Limits as script_limits
use Rattle.rail_layout.specs.declared.row.RowBox.{RowBox}
use Rattle.grid_cores.specs.Owner.{rows_of}
use Rattle.grid_pieces.specs.declared.error.DrawError.{DrawError}
use Rattle.grid_pieces.specs.declared.error.DrawError.TheVariants as errors
use Rattle.grid_pieces.specs.declared.grid.DomainAt.{DomainAt}
use Rattle.grid_stacks.specs.Stacking.{ConnectKeeps}
use Rattle.via_arrays.specs.Choice.{direction}
use Rattle.via_arrays.specs.Lengths.{IsUnits, in_units}
use Rattle.grid_plan.specs.declared.order.PlacedConnect.{PlacedConnect}
use Rattle.grid_plan.specs.declared.record.GridAt.{GridAt}
use Rattle.grid_plan.specs.declared.record.Plan.{Plan}
use Rattle.grid_plan.specs.Keeping.{IsNear, most_of_rows, LiesNear, IsLength, IsLineWidth, RegionKeeps, DomainKeeps, GridKeeps, StrapsKeep, RailsKeep, RingKeeps, PlanKeeps}
use Rattle.grid_plan.specs.Lengths.{off_grid, odd, first_off, strap_lengths, stripe_lengths, ring_lengths, row_lengths, off_in_script, first_off_grid, first_odd}
use Rattle.grid_plan.specs.Names.{Names, names_of, place_in, domain_nets}
use Rattle.grid_plan.specs.Order.{first_some, placed, earlier}
use Rattle.grid_plan.specs.Planning.{Plans, IsPlanOf, or_else, meeting, name_refusal, layer_refusal, length_refusal, region_refusal, no_rows, regions_in, boxes_in, grids_in, stated_in, added_in}
use Rattle.grid_plan.specs.Regions.{is_drawn, is_bare, first_bare_from, first_bare, first_shaped, first_meeting, first_across, first_block}
use Rattle.grid_plan.specs.Resolved.{length_of, spacing_of, unstated, value_at, region_at, IsDomainAt, grid_at, in_order, start_of, nets_at, straps_of, rails_of, place_at, layer_at, is_upright, upright_of, ring_of, joins, connect_of, ring_connect_of}
use Rattle.grid_plan.specs.Rows.{site_width, site_height, box_of, row_box}
use Rattle.grid_plan.specs.Turned.{same_axis, are_parallel, upended_layer, first_straight, first_upended, first_parallel}
use Rattle.grid_plan.specs.Unknown.{unknown, unknown_net, unknown_in_stripe, unknown_in_ring, unknown_in_connect, grid_nets, domain_of, first_unknown, unknown_in_script, unknown_in_design, unknown_of_domains, unknown_of_stripes, unknown_of_rings, unknown_of_connects}
use Rattle.grid_plan.proofs.Nothing.{none_first, none_second, none_mapped, none_unplaced, none_placed, none_earlier, none_some, none_position, All-kept, or_default, place_within, is_known, contained, place_among}
use Rattle.grid_plan.proofs.Ordered.{some_append}
use Rattle.grid_plan.proofs.Stepped.{regions_turn}

-- ## lengths

most_units : (units n : ℕ) → units ≤ 20000 → n ≤ 10 ^ 11 → n * units ≤ 2 * 10 ^ 15
most_units units n few short = let p : n * units ≤ 10 ^ 11 * 20000 = mul-le n units (10 ^ 11) 20000 short few in omega arith

in_units_most : (units n : ℕ) → units ≤ 20000 → n ≤ 10 ^ 11 → in_units units n ≤ 2000000000
in_units_most units n few short = let p = most_units units n few short in omega arith

length_keeps : (units n : ℕ) → units ≤ 20000 → n ≤ 10 ^ 11 → IsLength (length_of units n)
length_keeps units n few short = let most = in_units_most units n few short in (omega (arith, ints), omega (arith, ints))

rounded_up_keeps : (units n : ℕ) → units ≤ 20000 → n ≤ 10 ^ 11 → IsLength (pos (div_ceil (n * units) 1000000))
rounded_up_keeps units n few short =
    let p = most_units units n few short in
    let most : div_ceil (n * units) 1000000 ≤ 2000000001 = omega arith in
    (omega (arith, ints), omega (arith, ints))

none_else : (b : Bool) (n : ℕ) → cond b None (Some n) ≡ None → b ≡ true
none_else true n h = refl
none_else false n h = absurd (let e : ◌≡◌ {A = Option ℕ} (Some n) None = h in cc)

on_grid : (units n : ℕ) → off_grid units n ≡ None → n * units % 1000000 ≡ 0
on_grid units n h = eqb-true (n * units % 1000000) 0 (none_else (nat_eq (n * units % 1000000) 0) n h)

is_even : (units n : ℕ) → odd units n ≡ None → in_units units n % 2 ≡ 0
is_even units n h = eqb-true (in_units units n % 2) 0 (none_else (nat_eq (in_units units n % 2) 0) n h)

some_units : (units n : ℕ) → 1 ≤ units → 0 < n → n * units % 1000000 ≡ 0 → 0 < in_units units n
some_units units n some wide whole = let p : 1 ≤ n * units = one-le-mul wide some in omega arith

two_halves : (u : ℕ) → u % 2 ≡ 0 → pos u ≡ half (pos u) +ℤ half (pos u)
two_halves u even = ap pos (omega arith)

width_keeps : (units n : ℕ) → 1 ≤ units → units ≤ 20000 → 0 < n → n ≤ 10 ^ 11 → off_grid units n ≡ None → odd units n ≡ None → IsLineWidth (length_of units n)
width_keeps units n some few wide short whole even =
    let least = some_units units n some wide (on_grid units n whole) in
    let most = in_units_most units n few short in
    ((omega (arith, ints), two_halves (in_units units n) (is_even units n even)), omega (arith, ints))

positive : (units n : ℕ) → 1 ≤ units → 0 < n → off_grid units n ≡ None → pos 0 <ℤ length_of units n
positive units n some wide whole = let least = some_units units n some wide (on_grid units n whole) in omega (arith, ints)

on_grid_none : (units n : ℕ) → n * units % 1000000 ≡ 0 → off_grid units n ≡ None
on_grid_none units n h = ap (λ b. cond b None (Some n)) (eq-eqb (n * units % 1000000) 0 h)

unstated_whole : (units : ℕ) → off_grid units unstated ≡ None
unstated_whole units = on_grid_none units unstated (omega arith)

unstated_even : (units : ℕ) → odd units unstated ≡ None
unstated_even units = ap (λ b. cond b None (Some unstated)) (eq-eqb (in_units units unstated % 2) 0 (omega arith))

-- ## rows

low_of : (most : ℕ) (z : ℤ) → unsigned_abs z ≤ most → pos 0 ≤ℤ (z +ℤ pos most)
low_of most (pos n) near = omega (arith, ints)
low_of most (negsuc n) near = omega (arith, ints)

high_of : (most : ℕ) (z : ℤ) → unsigned_abs z ≤ most → z ≤ℤ pos most
high_of most (pos n) near = omega (arith, ints)
high_of most (negsuc n) near = omega (arith, ints)

near_of : (most : ℕ) (z : ℤ) → pos 0 ≤ℤ (z +ℤ pos most) → z ≤ℤ pos most → IsNear most z
near_of most (pos n) low high = omega (arith, ints)
near_of most (negsuc n) low high = omega (arith, ints)

-- A place and a length behind it.
behind : (z : ℤ) (n : ℕ) → unsigned_abs z ≤ 2 ^ 30 → n ≤ 2 ^ 30 * 2000000000 → (z ≤ℤ (z +ℤ pos n)) × IsNear most_of_rows (z +ℤ pos n)
behind z n near far =
    let low = low_of (2 ^ 30) z near in
    let high = high_of (2 ^ 30) z near in
    (omega (arith, ints), near_of most_of_rows (z +ℤ pos n) (omega (arith, ints)) (omega (arith, ints)))

farther : (z : ℤ) → unsigned_abs z ≤ 2 ^ 30 → IsNear most_of_rows z
farther z near = omega arith

right_end : (x count step : ℤ) (w : ℕ) → unsigned_abs x ≤ 2 ^ 30 → pos 1 ≤ℤ count → unsigned_abs count ≤ 2 ^ 30 → pos 0 ≤ℤ step
    → unsigned_abs step ≤ 2000000000 → w ≤ 2000000000
    → (x ≤ℤ (x +ℤ (count -ℤ pos 1) *ℤ step +ℤ pos w)) × IsNear most_of_rows (x +ℤ (count -ℤ pos 1) *ℤ step +ℤ pos w)
right_end x (pos zero) step w near some few positive short narrow = absurd (omega (arith, ints))
right_end x (negsuc m) step w near some few positive short narrow = absurd (omega (arith, ints))
right_end x (pos (suc m)) (negsuc n) w near some few positive short narrow = absurd (omega (arith, ints))
right_end x (pos (suc m)) (pos n) w near some few positive short narrow =
    let before : m ≤ 2 ^ 30 - 1 = omega arith in
    let times : m * n ≤ (2 ^ 30 - 1) * 2000000000 = mul-le m n (2 ^ 30 - 1) 2000000000 before short in
    let total : m * n + w ≤ 2 ^ 30 * 2000000000 = omega arith in
    let one_less : pos (suc m) -ℤ pos 1 ≡ pos m = omega (arith, ints) in
    let is : x +ℤ pos (m * n + w) ≡ x +ℤ (pos (suc m) -ℤ pos 1) *ℤ pos n +ℤ pos w =
    joined x (m * n) w ∙ ap (λ z. x +ℤ z *ℤ pos n +ℤ pos w) (sym one_less) in
    subst (λ z. (x ≤ℤ z) × IsNear most_of_rows z) is (behind x (m * n + w) near total)
  where
    joined : (z : ℤ) (a b : ℕ) → z +ℤ pos (a + b) ≡ z +ℤ pos a +ℤ pos b
    joined z a b = omega (arith, ints)

step_keeps : (step : Option ℤ) (w : ℕ) → design_limits.Keeps design_limits.IsLength step → w ≤ 2000000000
    → (pos 0 ≤ℤ unwrap_or step (pos w)) × (unsigned_abs (unwrap_or step (pos w)) ≤ 2000000000)
step_keeps None w keeps narrow = (omega (arith, ints), narrow)
step_keeps (Some s) w keeps narrow = (keeps.0, omega (arith, keeps.1))

row_keeps : (row : Row) (w h : ℕ) → RowKeeps row → w ≤ 2000000000 → h ≤ 2000000000 → LiesNear most_of_rows (box_of row (pos w) (pos h)).rect
row_keeps row w h keeps narrow low =
    let step = step_keeps row.step w keeps.step narrow in
    let right = right_end row.x row.count (unwrap_or row.step (pos w)) w keeps.x keeps.some keeps.count step.0 step.1 narrow in
    let upper = behind row.y h keeps.y (omega arith) in
    record {
      in_order = (right.0, upper.0);
      x1 = farther row.x keeps.x;
      y1 = farther row.y keeps.y;
      x2 = right.1;
      y2 = upper.1;
    }

-- ## layers

choose : (d : ℕ → Axis) (a b : Axis) → d 0 ≡ a → d 1 ≡ b → same_axis a b ≡ false
    → (d (cond (is_upright a) 0 1) ≡ Y) × (d (1 - cond (is_upright a) 0 1) ≡ X)
choose d X X first second h = absurd (let e : true ≡ false = h in cc)
choose d Y Y first second h = absurd (let e : true ≡ false = h in cc)
choose d X Y first second h = (second, first)
choose d Y X first second h = (first, second)

one_of_two : (b : Bool) → (cond b 0 1 < 2) × ((1 - cond b 0 1) < 2)
one_of_two true = (omega arith, omega arith)
one_of_two false = (omega arith, omega arith)

layer_within : (names : List (List ℕ)) (layers : List (List ℕ)) (k : ℕ) → k < length layers → All (λ (n : List ℕ). unknown names n ≡ None) layers
    → place_at names (slice_get layers k) < length names
layer_within names [] k within known = absurd (omega arith)
layer_within names (l ∷ ls) zero within known = place_within names l (is_known names l (All-head (λ (n : List ℕ). unknown names n ≡ None) l ls known))
layer_within names (l ∷ ls) (suc k) within known = layer_within names ls k (omega arith) (All-tail (λ (n : List ℕ). unknown names n ≡ None) l ls known)

flat_by : (follow : Bool) (a : Axis) (n : ℕ) → follow ≡ true → cond (follow && is_upright a) (Some n) None ≡ None → a ≡ X
flat_by true X n is h = refl
flat_by true Y n is h = absurd (let e : ◌≡◌ {A = Option ℕ} (Some n) None = h in cc)
flat_by false a n is h = absurd (cc)

differs : (a b : Axis) → same_axis a b ≡ false → a ≢ b
differs X X h = absurd (let e : true ≡ false = h in cc)
differs Y Y h = absurd (let e : true ≡ false = h in cc)
differs X Y h = λ e. cc
differs Y X h = λ e. cc

joins_keep : (tech : Tech) (a b : ℕ) (columns rows : Option ℕ) → a < length tech.routing → b < length tech.routing
    → direction tech a ≢ direction tech b → ConnectKeeps tech (joins a b columns rows)
joins_keep tech a b columns rows first second turned = by_order (lower_one a b)
  where
    lower_one : (m n : ℕ) → (m ≤ n) ⊎ (n ≤ m)
    lower_one zero n = inl (omega arith)
    lower_one (suc m) zero = inr (omega arith)
    lower_one (suc m) (suc n) = elim (lower_one m n) [ inl h ↦ inl (omega arith) | inr h ↦ inr (omega arith) ]

    apart : a ≡ b → ⊥
    apart e = turned (ap (direction tech) e)

    by_order : (a ≤ b) ⊎ (b ≤ a) → ConnectKeeps tech (joins a b columns rows)
    by_order (inl h) =
        let low : min a b ≡ a = omega arith in
        let high : max a b ≡ b = omega arith in
        record {
          rising = omega (arith, apart);
          layers = omega arith;
          turned = λ e. turned (sym (ap (direction tech) low) ∙ e ∙ ap (direction tech) high);
        }
    by_order (inr h) =
        let low : min a b ≡ b = omega arith in
        let high : max a b ≡ a = omega arith in
        record {
          rising = omega (arith, apart);
          layers = omega arith;
          turned = λ e. turned (sym (sym (ap (direction tech) low) ∙ e ∙ ap (direction tech) high));
        }

-- ## lists

-- A domain's nets, in either order, where a property holds of the nets of each domain.
grid_nets_keep : (P : List ℕ → Type 0) (start : Start) (domains : List Domain) (k : ℕ) → All (λ (d : Domain). All P (domain_nets d)) domains
    → All P (in_order start (slice_index_or (map domain_nets domains) k []))
grid_nets_keep P Power [] zero h = All-nil P
grid_nets_keep P Power [] (suc k) h = All-nil P
grid_nets_keep P Ground [] zero h = All-nil P
grid_nets_keep P Ground [] (suc k) h = All-nil P
grid_nets_keep P Power (d ∷ domains) zero h = All-head (λ (e : Domain). All P (domain_nets e)) d domains h
grid_nets_keep P Ground (d ∷ domains) zero h =
    let two = All-head (λ (e : Domain). All P (domain_nets e)) d domains h in
    let first : P d.power = All-head P d.power (d.ground ∷ []) two in
    let second : P d.ground = All-head P d.ground [] (All-tail P d.power (d.ground ∷ []) two) in
    All-cons P d.ground (d.power ∷ []) second (All-cons P d.power [] first (All-nil P))
grid_nets_keep P Power (d ∷ domains) (suc k) h = grid_nets_keep P Power domains k (All-tail (λ (e : Domain). All P (domain_nets e)) d domains h)
grid_nets_keep P Ground (d ∷ domains) (suc k) h = grid_nets_keep P Ground domains k (All-tail (λ (e : Domain). All P (domain_nets e)) d domains h)

turn_length : {L E : Type 0} (says : L → E → Type 0) (lines : List L) (entries : List E) → InTurn says lines entries → length entries ≡ length lines
turn_length says [] [] h = refl
turn_length says (l ∷ lines) (e ∷ entries) h = ap suc (turn_length says lines entries h.1)
turn_length says [] (e ∷ entries) h = absurd h
turn_length says (l ∷ lines) [] h = absurd h

turn_all : {L E : Type 0} (says : L → E → Type 0) (Q : L → Type 0) (P : E → Type 0) → ((line : L) (entry : E) → Q line → says line entry → P entry)
    → (lines : List L) (entries : List E) → All Q lines → InTurn says lines entries → All P entries
turn_all says Q P said [] [] all h = All-nil P
turn_all says Q P said (l ∷ lines) (e ∷ entries) all h =
    All-cons P e entries (said l e (All-head Q l lines all) h.0) (turn_all says Q P said lines entries (All-tail Q l lines all) h.1)
turn_all says Q P said [] (e ∷ entries) all h = absurd h
turn_all says Q P said (l ∷ lines) [] all h = absurd h

-- ## domains that have rows

unless : (b : Bool) (k : ℕ) (o : Option ℕ) → cond b (Some k) o ≡ None → (b ≡ false) × (o ≡ None)
unless true k o h = absurd (let e : ◌≡◌ {A = Option ℕ} (Some k) None = h in cc)
unless false k o h = (refl, h)

none_bare : (all : List (Option Rect)) (rows : List RowBox) (grids : List GridAt) (k : ℕ) (later : List (Option Rect)) (j : ℕ)
    → first_bare_from all rows grids k later ≡ None → j < length later → is_bare all rows grids (k + j) (slice_index_or later j None) ≡ false
none_bare all rows grids k [] j h within = absurd (omega arith)
none_bare all rows grids k (region ∷ later) zero h within =
    subst (λ n. is_bare all rows grids n region ≡ false) (let e : k ≡ k + 0 = omega arith in e)
    (unless (is_bare all rows grids k region) k (first_bare_from all rows grids (k + 1) later) h).0
none_bare all rows grids k (region ∷ later) (suc j) h within =
    let rest = none_bare all rows grids (k + 1) later j (unless (is_bare all rows grids k region) k (first_bare_from all rows grids (k + 1) later) h).1 (omega arith) in
    subst (λ n. is_bare all rows grids n (slice_index_or later j None) ≡ false) (let e : (k + 1) + j ≡ k + suc j = omega arith in e) rest

some_rows : (rows : List RowBox) (drawn : Bool) → (nat_eq (length rows) 0 && drawn) ≡ false → drawn ≡ true → rows ≢ []
some_rows [] true h is = absurd (let e : true ≡ false = h in cc)
some_rows [] false h is = absurd (cc)
some_rows (row ∷ rows) drawn h is = λ e. cc

-- ## the plan

module _ (tech : Tech) (cells : Cells) (design : Design) (script : Script) (plan : Plan) (tech_keeps : TechKeeps tech) (cells_keep : CellsKeep cells)
    (design_keeps : DesignKeeps design) (script_keeps : ScriptKeeps script) (is : IsPlanOf tech cells design script plan) where
  abbrev names : Names
  names = names_of tech cells design script

  abbrev units : ℕ
  units = design.units

  plans : Plans tech cells names design script plan
  plans = is.plans

  some : 1 ≤ units
  some = design_keeps.some_units

  few : units ≤ 20000
  few = design_keeps.units

  -- ## nothing refuses it

  abbrev unknowns : Option DrawError
  unknowns = option_map errors.UnknownName (first_unknown names design script)

  abbrev off_grids : Option DrawError
  off_grids = option_map errors.OffGrid (first_off_grid cells names design script units)

  abbrev odd_widths : Option DrawError
  odd_widths = option_map errors.OddWidth (first_odd script units)

  abbrev straight_rings : Option DrawError
  straight_rings = option_map errors.RingLayers (first_straight tech names script.rings)

  abbrev upended_rails : Option DrawError
  upended_rails = option_map errors.RailLayer (first_upended tech names script.stripes)

  abbrev parallel_connects : Option DrawError
  parallel_connects = option_map errors.ParallelConnect (first_parallel tech names script.connects)

  abbrev shapes : Option DrawError
  shapes = option_map errors.RegionShape (first_shaped names design script.domains)

  abbrev meetings : Option DrawError
  meetings = option_map meeting (first_meeting (regions_in names design script))

  abbrev acrosses : Option DrawError
  acrosses = option_map errors.RowAcross (first_across (regions_in names design script) (boxes_in cells names design))

  abbrev empties : Option DrawError
  empties = option_map errors.EmptyDomain (first_bare (regions_in names design script) (boxes_in cells names design) (grids_in names script))

  abbrev blocks : Option DrawError
  blocks = option_map errors.MacroGrid (first_block cells names design (grids_in names script))

  no_name : name_refusal tech names design script ≡ None
  no_name = none_first (name_refusal tech names design script) (or_else (length_refusal cells names design script) (region_refusal cells names design script)) is.allowed

  no_rest : or_else (length_refusal cells names design script) (region_refusal cells names design script) ≡ None
  no_rest = none_second (name_refusal tech names design script) (or_else (length_refusal cells names design script) (region_refusal cells names design script)) is.allowed

  no_length : length_refusal cells names design script ≡ None
  no_length = none_first (length_refusal cells names design script) (region_refusal cells names design script) no_rest

  no_region : region_refusal cells names design script ≡ None
  no_region = none_second (length_refusal cells names design script) (region_refusal cells names design script) no_rest

  no_unknown : unknown_in_script names script ≡ None
  no_unknown = none_first (unknown_in_script names script) (unknown_in_design names design)
      (none_mapped errors.UnknownName (first_unknown names design script) (none_first unknowns (layer_refusal tech names script) no_name))

  no_layer : layer_refusal tech names script ≡ None
  no_layer = none_second unknowns (layer_refusal tech names script) no_name

  rings_turn : All (λ (r : Ring). are_parallel tech names r.layers ≡ false) script.rings
  rings_turn = none_position (λ (r : Ring). are_parallel tech names r.layers) 0 script.rings
      (none_mapped errors.RingLayers (first_straight tech names script.rings) (none_first straight_rings (or_else upended_rails parallel_connects) no_layer))

  rails_lie : All (λ (s : Stripe). upended_layer tech names s ≡ None) script.stripes
  rails_lie = none_some (upended_layer tech names) script.stripes
      (none_mapped errors.RailLayer (first_upended tech names script.stripes) (none_first upended_rails parallel_connects (none_second straight_rings (or_else upended_rails parallel_connects) no_layer)))

  connects_turn : All (λ (c : Said). are_parallel tech names c.layers ≡ false) script.connects
  connects_turn = none_position (λ (c : Said). are_parallel tech names c.layers) 0 script.connects
      (none_mapped errors.ParallelConnect (first_parallel tech names script.connects) (none_second upended_rails parallel_connects (none_second straight_rings (or_else upended_rails parallel_connects) no_layer)))

  unknown_parts : (earlier (unknown_of_domains names script.domains) (unknown_of_stripes names script script.stripes) ≡ None)
      × (earlier (unknown_of_rings names script script.rings) (unknown_of_connects names script.connects) ≡ None)
  unknown_parts = none_earlier (earlier (unknown_of_domains names script.domains) (unknown_of_stripes names script script.stripes))
      (earlier (unknown_of_rings names script script.rings) (unknown_of_connects names script.connects))
      (none_unplaced (earlier (earlier (unknown_of_domains names script.domains) (unknown_of_stripes names script script.stripes))
      (earlier (unknown_of_rings names script script.rings) (unknown_of_connects names script.connects))) no_unknown)

  stripes_known : All (λ (s : Stripe). unknown_in_stripe names script s ≡ None) script.stripes
  stripes_known = λ k d within. none_placed (get_or script.stripes k d).place (unknown_in_stripe names script (get_or script.stripes k d))
      (none_some (λ (s : Stripe). placed s.place (unknown_in_stripe names script s)) script.stripes
      (none_earlier (unknown_of_domains names script.domains) (unknown_of_stripes names script script.stripes) unknown_parts.0).1 k d within)

  rings_known : All (λ (r : Ring). unknown_in_ring names script r ≡ None) script.rings
  rings_known = λ k d within. none_placed (get_or script.rings k d).place (unknown_in_ring names script (get_or script.rings k d))
      (none_some (λ (r : Ring). placed r.place (unknown_in_ring names script r)) script.rings
      (none_earlier (unknown_of_rings names script script.rings) (unknown_of_connects names script.connects) unknown_parts.1).0 k d within)

  connects_known : All (λ (c : Said). unknown_in_connect names c ≡ None) script.connects
  connects_known = λ k d within. none_placed (get_or script.connects k d).place (unknown_in_connect names (get_or script.connects k d))
      (none_some (λ (c : Said). placed c.place (unknown_in_connect names c)) script.connects
      (none_earlier (unknown_of_rings names script script.rings) (unknown_of_connects names script.connects) unknown_parts.1).1 k d within)

  no_lengths : or_else off_grids odd_widths ≡ None
  no_lengths = none_second (no_rows design.rows) (or_else off_grids odd_widths) no_length

  abbrev off_stripes : Option (Place × ℕ)
  off_stripes = first_some (λ (s : Stripe). placed s.place (first_off units (stripe_lengths s))) script.stripes

  abbrev off_rings : Option (Place × ℕ)
  off_rings = first_some (λ (r : Ring). placed r.place (first_off units (ring_lengths r))) script.rings

  off_parts : (off_stripes ≡ None) × (off_rings ≡ None)
  off_parts = none_earlier off_stripes off_rings (none_unplaced (earlier off_stripes off_rings)
      (none_first (off_in_script units script) (first_some (λ (row : Row). first_off units (row_lengths cells names row)) design.rows)
      (none_mapped errors.OffGrid (first_off_grid cells names design script units) (none_first off_grids odd_widths no_lengths))))

  stripes_whole : All (λ (s : Stripe). first_off units (stripe_lengths s) ≡ None) script.stripes
  stripes_whole = λ k d within. none_placed (get_or script.stripes k d).place (first_off units (stripe_lengths (get_or script.stripes k d)))
      (none_some (λ (s : Stripe). placed s.place (first_off units (stripe_lengths s))) script.stripes off_parts.0 k d within)

  rings_whole : All (λ (r : Ring). first_off units (ring_lengths r) ≡ None) script.rings
  rings_whole = λ k d within. none_placed (get_or script.rings k d).place (first_off units (ring_lengths (get_or script.rings k d)))
      (none_some (λ (r : Ring). placed r.place (first_off units (ring_lengths r))) script.rings off_parts.1 k d within)

  abbrev odd_stripes : Option (Place × ℕ)
  odd_stripes = first_some (λ (s : Stripe). placed s.place (odd units s.width)) script.stripes

  abbrev odd_rings : Option (Place × ℕ)
  odd_rings = first_some (λ (r : Ring). placed r.place (first_some (odd units) r.widths)) script.rings

  odd_parts : (odd_stripes ≡ None) × (odd_rings ≡ None)
  odd_parts = none_earlier odd_stripes odd_rings (none_unplaced (earlier odd_stripes odd_rings)
      (none_mapped errors.OddWidth (first_odd script units) (none_second off_grids odd_widths no_lengths)))

  stripes_even : All (λ (s : Stripe). odd units s.width ≡ None) script.stripes
  stripes_even = λ k d within. none_placed (get_or script.stripes k d).place (odd units (get_or script.stripes k d).width)
      (none_some (λ (s : Stripe). placed s.place (odd units s.width)) script.stripes odd_parts.0 k d within)

  rings_even : All (λ (r : Ring). first_some (odd units) r.widths ≡ None) script.rings
  rings_even = λ k d within. none_placed (get_or script.rings k d).place (first_some (odd units) (get_or script.rings k d).widths)
      (none_some (λ (r : Ring). placed r.place (first_some (odd units) r.widths)) script.rings odd_parts.1 k d within)

  no_bare : first_bare (regions_in names design script) (boxes_in cells names design) (grids_in names script) ≡ None
  no_bare = none_mapped errors.EmptyDomain (first_bare (regions_in names design script) (boxes_in cells names design) (grids_in names script))
      (none_first empties blocks (none_second acrosses (or_else empties blocks) (none_second meetings (or_else acrosses (or_else empties blocks))
      (none_second shapes (or_else meetings (or_else acrosses (or_else empties blocks))) no_region))))

  -- ## places

  abbrev InNets : List ℕ → Type 0
  InNets name = place_in plan.nets name < length plan.nets

  net_within : (d : Domain) (name : List ℕ) → Contains script.domains d → Contains (domain_nets d) name → InNets name
  net_within d name there has = place_among plan.nets name ((plans.nets.are name).1 (d, there, has))

  lower_within : (d : Domain) → Contains script.domains d → InNets d.ground
  lower_within d there = net_within d d.ground there (1, omega arith, refl)

  upper_within : (d : Domain) → Contains script.domains d → InNets d.power
  upper_within d there = net_within d d.power there (0, omega arith, refl)

  domains_nets : All (λ (d : Domain). All InNets (domain_nets d)) script.domains
  domains_nets = λ k d within.
      let e = get_or script.domains k d in
      let there = Contains-get_or script.domains k d within in
      All-cons InNets e.power (e.ground ∷ []) (upper_within e there) (All-cons InNets e.ground [] (lower_within e there) (All-nil InNets))

  nets_keep : (grid : List ℕ) (own : Option Start) (stated : Option (List (List ℕ))) → unknown_net (grid_nets names script grid) stated ≡ None
      → All (λ (n : ℕ). n < length plan.nets) (nets_at names plan.nets script grid own stated)
  nets_keep grid own None h = All-map (λ (n : ℕ). n < length plan.nets) (place_in plan.nets) (in_order (start_of names script grid own) (grid_nets names script grid))
      (grid_nets_keep InNets (start_of names script grid own) script.domains (domain_of names script grid) domains_nets)
  nets_keep grid own (Some stated) h = All-map (λ (n : ℕ). n < length plan.nets) (place_in plan.nets) stated
      (λ k d within. All-contains InNets (grid_nets names script grid) (get_or stated k d)
      (grid_nets_keep InNets Power script.domains (domain_of names script grid) domains_nets)
      (contained (get_or stated k d) 0 (grid_nets names script grid) (is_known (grid_nets names script grid) (get_or stated k d)
      (none_some (unknown (grid_nets names script grid)) stated h k d within))))

  grid_within : (grid : List ℕ) → Contains names.grids grid → place_in names.grids grid < length plan.grids
  grid_within grid there =
      let as_many : length names.grids ≡ length plan.grids =
      length-map script.grids (λ (g : GridRule). g.name) ∙ sym (length-map script.grids (grid_at names)) ∙ sym (ap length plans.grids) in
      subst (λ n. place_in names.grids grid < n) as_many (place_among names.grids grid there)

  all_layers : length names.layers ≡ length tech.routing
  all_layers = length-map tech.routing (λ (layer : RoutingLayer). layer.name)

  layer_in : (name : List ℕ) → unknown names.layers name ≡ None → place_in names.layers name < length tech.routing
  layer_in name h = subst (λ n. place_in names.layers name < n) all_layers (place_within names.layers name (is_known names.layers name h))

  spacing_keeps : (layer : ℕ) → IsLength (spacing_of tech units layer)
  spacing_keeps layer = rounded_up_keeps units (slice_index_or (map (λ (l : RoutingLayer). l.spacing) tech.routing) layer 0) few
      (or_default (λ (n : ℕ). n ≤ 10 ^ 11) (map (λ (l : RoutingLayer). l.spacing) tech.routing) layer 0
      (All-map (λ (n : ℕ). n ≤ 10 ^ 11) (λ (l : RoutingLayer). l.spacing) tech.routing (λ k d within. (tech_keeps.routing k d within).spacing)) (omega arith))

  -- ## stripes

  straps_keep : (s : Stripe) → StripeKeeps names.grids s → unknown_in_stripe names script s ≡ None → first_off units (stripe_lengths s) ≡ None
      → odd units s.width ≡ None → not s.followpins ≡ true → StrapsKeep tech plan (straps_of tech names plan.nets script units s)
  straps_keep s keeps known whole even own =
      let lengths = without s.followpins (strap_lengths s) own (none_second (off_grid units s.width) (first_off units (cond s.followpins [] (strap_lengths s))) whole) in
      let net_names = not_following s.followpins (unknown_net (grid_nets names script s.grid) s.nets) own
      (none_second (unknown names.layers s.layer) (cond s.followpins None (unknown_net (grid_nets names script s.grid) s.nets)) known) in
      record {
        grid = grid_within s.grid keeps.grid;
        spacing = spacing_keeps (place_in names.layers s.layer);
        layer = layer_in s.layer (none_first (unknown names.layers s.layer) (cond s.followpins None (unknown_net (grid_nets names script s.grid) s.nets)) known);
        axis = refl;
        nets = nets_keep s.grid s.starts_with s.nets net_names;
        width = width_keeps units s.width some few keeps.width.0 keeps.width.1 (none_first (off_grid units s.width) (first_off units (cond s.followpins [] (strap_lengths s))) whole) even;
        pitch = positive units (unwrap_or s.pitch unstated) some (some_pitch s.pitch keeps.pitch) (whole_pitch s.pitch (option_to_list s.spacing) (s.offset ∷ []) lengths);
      }
    where
      without : (follow : Bool) (xs : List ℕ) → not follow ≡ true → first_off units (cond follow [] xs) ≡ None → first_off units xs ≡ None
      without false xs own h = h
      without true xs own h = absurd (let e : false ≡ true = own in cc)

      not_following : (follow : Bool) (o : Option (List ℕ)) → not follow ≡ true → cond follow None o ≡ None → o ≡ None
      not_following false o own h = h
      not_following true o own h = absurd (let e : false ≡ true = own in cc)

      some_pitch : (pitch : Option ℕ) → script_limits.Keeps script_limits.IsWidth pitch → 0 < unwrap_or pitch unstated
      some_pitch None h = omega arith
      some_pitch (Some p) h = h.0

      whole_pitch : (pitch : Option ℕ) (xs ys : List ℕ) → first_off units ((option_to_list pitch ++ xs) ++ ys) ≡ None → off_grid units (unwrap_or pitch unstated) ≡ None
      whole_pitch None xs ys h = unstated_whole units
      whole_pitch (Some p) xs ys h = none_first (off_grid units p) (first_off units (xs ++ ys)) h

  all_straps : All (StrapsKeep tech plan) plan.straps
  all_straps = subst (λ z. All (StrapsKeep tech plan) z) (sym plans.straps)
      (All-map (StrapsKeep tech plan) (straps_of tech names plan.nets script units) (filter (λ (s : Stripe). not s.followpins) script.stripes)
      (All-kept (λ (s : Stripe). not s.followpins) (λ (s : Stripe). StrapsKeep tech plan (straps_of tech names plan.nets script units s)) script.stripes
      (λ k d within own. straps_keep (get_or script.stripes k d) (script_keeps.stripes k d within) (stripes_known k d within) (stripes_whole k d within) (stripes_even k d within) own)))

  rails_keep : (s : Stripe) → StripeKeeps names.grids s → unknown_in_stripe names script s ≡ None → first_off units (stripe_lengths s) ≡ None
      → odd units s.width ≡ None → upended_layer tech names s ≡ None → s.followpins ≡ true → RailsKeep tech plan (rails_of tech names units s)
  rails_keep s keeps known whole even lies follow = record {
    grid = grid_within s.grid keeps.grid;
    spacing = spacing_keeps (place_in names.layers s.layer);
    layer = layer_in s.layer (none_first (unknown names.layers s.layer) (cond s.followpins None (unknown_net (grid_nets names script s.grid) s.nets)) known);
    axis = flat_by s.followpins (direction tech (place_in names.layers s.layer)) (place_in names.layers s.layer) follow lies;
    width = width_keeps units s.width some few keeps.width.0 keeps.width.1 (none_first (off_grid units s.width) (first_off units (cond s.followpins [] (strap_lengths s))) whole) even;
  }

  all_rails : All (RailsKeep tech plan) plan.rails
  all_rails = subst (λ z. All (RailsKeep tech plan) z) (sym plans.rails)
      (All-map (RailsKeep tech plan) (rails_of tech names units) (filter (λ (s : Stripe). s.followpins) script.stripes)
      (All-kept (λ (s : Stripe). s.followpins) (λ (s : Stripe). RailsKeep tech plan (rails_of tech names units s)) script.stripes
      (λ k d within follow. rails_keep (get_or script.stripes k d) (script_keeps.stripes k d within) (stripes_known k d within) (stripes_whole k d within) (stripes_even k d within)
      (rails_lie k d within) follow)))

  -- ## rings and connects

  layers_in : (layers : List (List ℕ)) → length layers ≡ 2 → first_some (unknown names.layers) layers ≡ None → (k : ℕ) → k < 2 → layer_at names layers k < length tech.routing
  layers_in layers two known k below = subst (λ n. layer_at names layers k < n) all_layers
      (layer_within names.layers layers k (omega arith) (none_some (unknown names.layers) layers known))

  ring_keeps : (r : Ring) → script_limits.RingKeeps names.grids r → unknown_in_ring names script r ≡ None → are_parallel tech names r.layers ≡ false
      → first_off units (ring_lengths r) ≡ None → first_some (odd units) r.widths ≡ None → RingKeeps tech plan (ring_of tech names plan.nets script units r)
  ring_keeps r keeps known turned whole even =
      let known_layers = none_first (first_some (unknown names.layers) r.layers) (unknown_net (grid_nets names script r.grid) r.nets) known in
      let within = layers_in r.layers keeps.layers known_layers in
      let upright = upright_of tech names r in
      let few_layers = one_of_two (is_upright (direction tech (layer_at names r.layers 0))) in
      let chosen = choose (λ (k : ℕ). direction tech (layer_at names r.layers k)) (direction tech (layer_at names r.layers 0)) (direction tech (layer_at names r.layers 1)) refl refl turned in
      record {
        grid = grid_within r.grid keeps.grid;
        vertical = within upright few_layers.0;
        horizontal = within (1 - upright) few_layers.1;
        upright = chosen.0;
        flat = chosen.1;
        nets = nets_keep r.grid r.starts_with r.nets (none_second (first_some (unknown names.layers) r.layers) (unknown_net (grid_nets names script r.grid) r.nets) known);
        width_v = width_at upright;
        width_h = width_at (1 - upright);
        spacing_v = length_at r.spacings upright keeps.spacings;
        spacing_h = length_at r.spacings (1 - upright) keeps.spacings;
        left = length_at r.core_offsets 0 keeps.core_offsets;
        bottom = length_at r.core_offsets 1 keeps.core_offsets;
        right = length_at r.core_offsets 2 keeps.core_offsets;
        top = length_at r.core_offsets 3 keeps.core_offsets;
      }
    where
      length_at : (values : List ℕ) (k : ℕ) → All script_limits.IsLength values → IsLength (length_of units (value_at values k 0))
      length_at values k short = or_default (λ (n : ℕ). IsLength (length_of units n)) values (k % length values) 0
          (λ j d below. length_keeps units (get_or values j d) few (short j d below)) (length_keeps units 0 few (omega arith))

      two_lists : first_some (off_grid units) (r.widths ++ r.spacings) ≡ None
      two_lists = none_first (first_some (off_grid units) (r.widths ++ r.spacings)) (first_some (off_grid units) r.core_offsets)
          (subst (λ (o : Option ℕ). o ≡ None) (some_append (off_grid units) (r.widths ++ r.spacings) r.core_offsets) whole)

      widths_whole : All (λ (n : ℕ). off_grid units n ≡ None) r.widths
      widths_whole = none_some (off_grid units) r.widths (none_first (first_some (off_grid units) r.widths) (first_some (off_grid units) r.spacings)
          (subst (λ (o : Option ℕ). o ≡ None) (some_append (off_grid units) r.widths r.spacings) two_lists))

      widths_even : All (λ (n : ℕ). odd units n ≡ None) r.widths
      widths_even = none_some (odd units) r.widths even

      width_at : (k : ℕ) → IsLineWidth (length_of units (value_at r.widths k unstated))
      width_at k = or_default (λ (n : ℕ). IsLineWidth (length_of units n)) r.widths (k % length r.widths) unstated
          (λ j d below. width_keeps units (get_or r.widths j d) some few (keeps.widths j d below).0 (keeps.widths j d below).1 (widths_whole j d below) (widths_even j d below))
          (width_keeps units unstated some few (omega arith) (omega arith) (unstated_whole units) (unstated_even units))

  all_rings : All (RingKeeps tech plan) plan.rings
  all_rings = subst (λ z. All (RingKeeps tech plan) z) (sym plans.rings)
      (All-map (RingKeeps tech plan) (ring_of tech names plan.nets script units) script.rings
      (λ k d within. ring_keeps (get_or script.rings k d) (script_keeps.rings k d within) (rings_known k d within) (rings_turn k d within) (rings_whole k d within) (rings_even k d within)))

  joined_keep : (layers : List (List ℕ)) (columns rows : Option ℕ) → length layers ≡ 2 → first_some (unknown names.layers) layers ≡ None → are_parallel tech names layers ≡ false
      → ConnectKeeps tech (joins (layer_at names layers 0) (layer_at names layers 1) columns rows)
  joined_keep layers columns rows two known turned = joins_keep tech (layer_at names layers 0) (layer_at names layers 1) columns rows
      (layers_in layers two known 0 (omega arith)) (layers_in layers two known 1 (omega arith))
      (differs (direction tech (layer_at names layers 0)) (direction tech (layer_at names layers 1)) turned)

  stated_keep : All (λ (c : PlacedConnect). ConnectKeeps tech c.connect) (stated_in names script.connects)
  stated_keep = All-map (λ (c : PlacedConnect). ConnectKeeps tech c.connect) (λ (c : Said). record { place = c.place; connect = connect_of names c }) script.connects
      (λ k d within. let c = get_or script.connects k d in
      joined_keep c.layers c.max_columns c.max_rows (script_keeps.connects k d within).layers (connects_known k d within) (connects_turn k d within))

  added_keep : All (λ (c : PlacedConnect). ConnectKeeps tech c.connect) (added_in names script.rings)
  added_keep = All-map (λ (c : PlacedConnect). ConnectKeeps tech c.connect) (λ (r : Ring). record { place = r.place; connect = ring_connect_of names r })
      (filter (λ (r : Ring). r.add_connect) script.rings)
      (All-kept (λ (r : Ring). r.add_connect) (λ (r : Ring). ConnectKeeps tech (ring_connect_of names r)) script.rings
      (λ k d within adds. let r = get_or script.rings k d in
      joined_keep r.layers None None (script_keeps.rings k d within).layers
      (none_first (first_some (unknown names.layers) r.layers) (unknown_net (grid_nets names script r.grid) r.nets) (rings_known k d within)) (rings_turn k d within)))

  all_connects : All (ConnectKeeps tech) plan.connects
  all_connects = subst (λ z. All (ConnectKeeps tech) z) (sym plans.connects.are)
      (All-map (ConnectKeeps tech) (λ (c : PlacedConnect). c.connect) plans.connects.placed
      (All-permutation (λ (c : PlacedConnect). ConnectKeeps tech c.connect) (stated_in names script.connects ++ added_in names script.rings) plans.connects.placed plans.connects.same
      (All-append (λ (c : PlacedConnect). ConnectKeeps tech c.connect) (stated_in names script.connects) (added_in names script.rings) stated_keep added_keep)))

  -- ## the die, domains, grids and rows

  lies_near : (rect : Rect) → RectKeeps rect → LiesNear (2 ^ 30) rect
  lies_near rect h = record { in_order = h.in_order; x1 = h.x1; y1 = h.y1; x2 = h.x2; y2 = h.y2 }

  first_rect : (rects : List Rect) → All AreaKeeps rects → RegionKeeps (slice_get rects 0)
  first_rect [] h = tt
  first_rect (r ∷ rects) h = lies_near r (All-head AreaKeeps r rects h).keeps

  region_keeps : (region : Option (List ℕ)) → RegionKeeps (region_at names design region)
  region_keeps None = tt
  region_keeps (Some region) = or_default RegionKeeps (map (λ (fence : Fence). slice_get fence.rects 0) design.regions) (place_in names.regions region) None
      (All-map RegionKeeps (λ (fence : Fence). slice_get fence.rects 0) design.regions
      (λ k d within. first_rect (get_or design.regions k d).rects (design_keeps.regions k d within).rects)) tt

  domain_keeps : (d : Domain) (at : DomainAt) → Contains script.domains d → IsDomainAt names plan.nets design d at → DomainKeeps plan at
  domain_keeps d at there says = record {
    lower_net = subst (λ n. n < length plan.nets) (sym says.lower_net) (lower_within d there);
    upper_net = subst (λ n. n < length plan.nets) (sym says.upper_net) (upper_within d there);
    region = subst RegionKeeps (sym says.region) (region_keeps d.region);
  }

  all_domains : All (DomainKeeps plan) plan.domains
  all_domains = turn_all (IsDomainAt names plan.nets design) (λ (d : Domain). Contains script.domains d) (DomainKeeps plan)
      (λ d at there says. domain_keeps d at there says) script.domains plan.domains (All-contains_itself script.domains) plans.domains

  grid_domains : All (λ (g : GridAt). g.domain < length script.domains) (grids_in names script)
  grid_domains = All-map (λ (g : GridAt). g.domain < length script.domains) (grid_at names) script.grids
      (λ k d within. subst (λ n. place_in names.domains (get_or script.grids k d).voltage_domains < n) (length-map script.domains (λ (domain : Domain). domain.name))
      (place_among names.domains (get_or script.grids k d).voltage_domains (script_keeps.grids k d within).domain))

  grid_keeps : All (GridKeeps plan) (grids_in names script)
  grid_keeps = λ k d within.
      let grids = grids_in names script in
      let g = get_or grids k d in
      let regions = regions_in names design script in
      let boxes = boxes_in cells names design in
      let below : g.domain < length script.domains = grid_domains k d within in
      let some_region : g.domain < length regions = subst (λ n. g.domain < n) (sym (length-map script.domains (λ (dom : Domain). region_at names design dom.region))) below in
      record {
        domain = subst (λ n. g.domain < n) (sym (turn_length (IsDomainAt names plan.nets design) script.domains plan.domains plans.domains)) below;
        rows = λ plain.
            let bare : is_bare regions boxes grids g.domain (slice_index_or regions g.domain None) ≡ false =
            subst (λ n. is_bare regions boxes grids n (slice_index_or regions g.domain None) ≡ false) (let e : 0 + g.domain ≡ g.domain = omega arith in e)
            (none_bare regions boxes grids 0 regions g.domain no_bare some_region) in
            let drawn : is_drawn grids g.domain ≡ true = list_any_at (λ (x : GridAt). nat_eq x.domain g.domain && not x.over_macros) grids k d within
            (both_true (nat_eq g.domain g.domain) g.over_macros (eq-eqb g.domain g.domain refl) plain) in
            let rows : rows_of regions (slice_index_or regions g.domain None) boxes ≢ [] =
            some_rows (rows_of regions (slice_index_or regions g.domain None) boxes) (is_drawn grids g.domain) bare drawn in
            subst (λ (rs : List (Option Rect)). rows_of rs (slice_index_or rs g.domain None) plan.rows ≢ []) (sym (regions_turn names plan.nets design script.domains plan.domains plans.domains))
            (subst (λ (bs : List RowBox). rows_of regions (slice_index_or regions g.domain None) bs ≢ []) (sym plans.rows) rows);
      }
    where
      both_true : (a b : Bool) → a ≡ true → b ≡ false → (a && not b) ≡ true
      both_true true false h k = refl
      both_true true true h k = absurd (cc)
      both_true false b h k = absurd (cc)

  site_short : (f : Site → ℕ) (k : ℕ) → All (λ (s : Site). f s ≤ 10 ^ 11) cells.sites → slice_index_or (map f cells.sites) k 0 ≤ 10 ^ 11
  site_short f k short = or_default (λ (n : ℕ). n ≤ 10 ^ 11) (map f cells.sites) k 0 (All-map (λ (n : ℕ). n ≤ 10 ^ 11) f cells.sites short) (omega arith)

  all_rows : All (λ (row : RowBox). LiesNear most_of_rows row.rect) plan.rows
  all_rows = subst (λ z. All (λ (row : RowBox). LiesNear most_of_rows row.rect) z) (sym plans.rows)
      (All-map (λ (row : RowBox). LiesNear most_of_rows row.rect) (row_box cells names units) design.rows
      (λ k d within. let row = get_or design.rows k d in
      row_keeps row (in_units units (site_width cells names row)) (in_units units (site_height cells names row)) (design_keeps.rows k d within)
      (in_units_most units (site_width cells names row) few (site_short (λ (s : Site). s.width) (place_in names.sites row.site) (λ j e below. (cells_keep.sites j e below).0)))
      (in_units_most units (site_height cells names row) few (site_short (λ (s : Site). s.height) (place_in names.sites row.site) (λ j e below. (cells_keep.sites j e below).1)))))

  pub plan_keeps : PlanKeeps tech plan
  plan_keeps = record {
    units = subst IsUnits (sym plans.units) (some, few);
    die = subst (LiesNear (2 ^ 30)) (sym plans.die) (lies_near design.die design_keeps.die.keeps);
    powers = ap length plans.power ∙ length-map plan.nets (λ (net : List ℕ). list_any (λ (domain : Domain). bytes_eq domain.power net) script.domains);
    domains = all_domains;
    grids = subst (λ z. All (GridKeeps plan) z) (sym plans.grids) grid_keeps;
    rows = all_rows;
    straps = all_straps;
    rails = all_rails;
    rings = all_rings;
    connects = all_connects;
  }

-- Of an answer.
pub kept : (tech : Tech) (cells : Cells) (design : Design) (script : Script) (refused : DrawError → Type 0) (r : Result Plan DrawError) → TechKeeps tech → CellsKeep cells
    → DesignKeeps design → ScriptKeeps script → MatchResult r (IsPlanOf tech cells design script) refused → IfOk r (PlanKeeps tech)
kept tech cells design script refused (Ok plan) a b c d is = plan_keeps tech cells design script plan a b c d is
kept tech cells design script refused (Err error) a b c d is = tt
