-- A plan's connects allow a column and a row, and its units are in their range.
use Rattle.std.proofs.Common.{◌≡◌, ◌⊎◌, inl, inr, ℕ, ◌≤◌, Option, Some, None, List, map, filter, Contains, subst, refl, sym, ap, arith}
use Rattle.std.proofs.lemmas.List.Elements.{All-contains, Contains-append_cases}
use Rattle.std.proofs.lemmas.List.Sorted.{IsPermutation-sym, Contains-permutation}
use Rattle.lef_tech.specs.declared.tech.Tech.{Tech}
use Rattle.lef_cells.specs.declared.record.Cells.{Cells}
use Rattle.def_design.specs.declared.record.Design.{Design}
use Rattle.def_design.specs.Limits.{DesignKeeps}
use Rattle.pdn_script.specs.declared.record.Connect.{Connect as Said}
use Rattle.pdn_script.specs.declared.record.GridRule.{GridRule}
use Rattle.pdn_script.specs.declared.record.Ring.{Ring}
use Rattle.pdn_script.specs.declared.record.Script.{Script}
use Rattle.pdn_script.specs.Limits.{ScriptKeeps, ConnectKeeps, Keeps, IsCount}
use Rattle.via_arrays.specs.Lengths.{IsUnits}
use Rattle.grid_pieces.specs.Laws.Amongst.{Among-map}
use Rattle.grid_stacks.specs.declared.connect.Connect.{Connect}
use Rattle.grid_stacks.specs.Crossing.{limit_of}
use Rattle.grid_plan.specs.declared.order.PlacedConnect.{PlacedConnect}
use Rattle.grid_plan.specs.declared.record.Plan.{Plan}
use Rattle.grid_plan.specs.Names.{Names}
use Rattle.grid_plan.specs.Planning.{IsPlanOf, AreConnects, connects_in, stated_in, added_in}
use Rattle.grid_plan.specs.Resolved.{connect_of, ring_connect_of}
use Rattle.one_drawing.proofs.Restacked.{AllowsOne}

some : (limit : Option ℕ) → Keeps IsCount limit → 1 ≤ limit_of limit
some None keeps = omega arith
some (Some n) keeps = omega (arith, keeps.0)

pub allows : (names : Names) (script : Script) → ScriptKeeps script → (connects : List Connect) → AreConnects names script connects → (c : Connect) → Contains connects c → AllowsOne c
allows names script keeps connects are c has =
    let placed = (Among-map (λ (p : PlacedConnect). p.connect) (λ (d : Connect). d ≡ c) are.placed).0 (c, subst (λ (l : List Connect). Contains l c) are.are has, refl) in
    let all : Contains (connects_in names script) placed.0 = Contains-permutation are.placed (connects_in names script) placed.0 (IsPermutation-sym (connects_in names script) are.placed are.same) placed.1 in
    subst AllowsOne placed.2 (of_all placed.0 (Contains-append_cases (stated_in names script.connects) (added_in names script.rings) placed.0 all))
  where
    of_all : (p : PlacedConnect) → Contains (stated_in names script.connects) p ⊎ Contains (added_in names script.rings) p → AllowsOne p.connect
    of_all p (inl stated) =
        let one = (Among-map (λ (s : Said). record { place = s.place; connect = connect_of names s }) (λ (d : PlacedConnect). d ≡ p) script.connects).0 (p, stated, refl) in
        let grids = map (λ (grid : GridRule). grid.name) script.grids in
        let kept : ConnectKeeps grids one.0 = All-contains (ConnectKeeps grids) script.connects one.0 keeps.connects one.1 in
        let room : AllowsOne (connect_of names one.0) = (some one.0.max_columns kept.max_columns, some one.0.max_rows kept.max_rows) in
        subst AllowsOne (ap (λ (d : PlacedConnect). d.connect) one.2) room
    of_all p (inr added) =
        let one = (Among-map (λ (r : Ring). record { place = r.place; connect = ring_connect_of names r }) (λ (d : PlacedConnect). d ≡ p) (filter (λ (r : Ring). r.add_connect) script.rings)).0 (p, added, refl) in
        let room : AllowsOne (ring_connect_of names one.0) = (omega arith, omega arith) in
        subst AllowsOne (ap (λ (d : PlacedConnect). d.connect) one.2) room

pub units_are : (tech : Tech) (cells : Cells) (design : Design) (script : Script) (plan : Plan) → DesignKeeps design → IsPlanOf tech cells design script plan → IsUnits plan.units
units_are tech cells design script plan keeps is =
    subst IsUnits (sym is.plans.units) (keeps.some_units, keeps.units)
