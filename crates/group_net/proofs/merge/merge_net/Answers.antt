use Rattle.std.proofs.Common.{◌≡◌, ℕ, arith, refl, sym, ◌∙◌, ap, subst, List, map, length, All, ◌≤ℤ◌}
use Rattle.std.specs.List.{range_with_len}
use Rattle.grid_net.specs.declared.part.Resistor.{Resistor}
use Rattle.grid_net.specs.declared.part.Pad.{Pad}
use Rattle.grid_net.specs.declared.part.Load.{Load}
use Rattle.grid_net.specs.declared.part.LoadRange.{LoadRange}
use Rattle.grid_net.specs.declared.error.NetError.{NetError}
use Rattle.grid_net.specs.Network.{Network}
use Rattle.grid_net.specs.Building.{BuildFails, PadsAgree, network_of}
use Rattle.grid_net.specs.Limits.{IsBuilt}
use Rattle.node_groups.specs.Groups.{AreGroups}
use Rattle.group_net.specs.Merging.{grouped_resistor, grouped_pad, grouped_loads}
use Rattle.group_net.specs.declared.merge.GroupError.{GroupError}
use Rattle.group_net.specs.Refusal.{IsRefusal}
use Rattle.group_net.specs.inside.Loads.{load_at}
use Rattle.group_net.specs.inside.Told.{IsLeft, AsTold}
use Rattle.node_groups.specs.Laws.{groups_at_most}
use Rattle.group_net.proofs.Limits.{ranges_in_order, keeps_limits, agree_by_group}
use Rattle.group_net.proofs.Refusals.{what_is_left, refusal_told}
use Rattle.group_net.proofs.Unshorted.{no_shorts, agree_unshorted, network_unshorted}
use Rattle.group_net.proofs.merge.merge_net.Goals as goal

-- The lists as the code has them are those of the groups.
record Told (net : Network) (shorts : List (ℕ × ℕ)) (group firsts : List ℕ) (count : ℕ) (rs : List Resistor)
    (ps : List Pad) (ls : List Load) : Type 0 where
  built : IsBuilt net
  groups : AreGroups net.nodes shorts group firsts
  counted : count ≡ length firsts
  resistors : rs ≡ map (grouped_resistor group) net.resistors
  pads : ps ≡ map (grouped_pad group) net.pads
  loads : ls ≡ grouped_loads net group

loads_are : (net : Network) (group slice : List ℕ) (loads : List LoadRange) → slice ≡ group → loads ≡ net.loads
    → length group ≡ net.nodes → map (load_at loads slice) (range_with_len 0 (length slice)) ≡ grouped_loads net group
loads_are net group slice loads e f size =
    ap (λ (g : List ℕ). map (load_at loads g) (range_with_len 0 (length g))) e
    ∙ ap (λ (ranges : List LoadRange). map (load_at ranges group) (range_with_len 0 (length group))) f
    ∙ ap (λ n. map (load_at net.loads group) (range_with_len 0 n)) size

-- What each call ensures: of the nodes, the groups and their slices, the parts of the network, and what is made of them.
record Ensured (net : Network) (shorts : List (ℕ × ℕ)) (group firsts slice heads : List ℕ) (nodes : ℕ)
    (rs rs0 : List Resistor) (ps ps0 : List Pad) (ls : List Load) (ranges : List LoadRange) : Type 0 where
  is_built : IsBuilt net
  counts : nodes ≡ net.nodes
  are_groups : AreGroups nodes shorts group firsts
  heads_are : heads ≡ firsts
  slice_is : slice ≡ group
  moved_resistors : (rs ≡ map (grouped_resistor slice) rs0) × (rs0 ≡ net.resistors)
  moved_pads : (ps ≡ map (grouped_pad slice) ps0) × (ps0 ≡ net.pads)
  summed : (ls ≡ map (load_at ranges slice) (range_with_len 0 (length slice))) × (ranges ≡ net.loads)

told_of : (net : Network) (shorts : List (ℕ × ℕ)) (group firsts slice heads : List ℕ) (nodes : ℕ)
    (rs rs0 : List Resistor) (ps ps0 : List Pad) (ls : List Load) (ranges : List LoadRange)
    → Ensured net shorts group firsts slice heads nodes rs rs0 ps ps0 ls ranges
    → Told net shorts group firsts (length heads) rs ps ls
told_of net shorts group firsts slice heads nodes rs rs0 ps ps0 ls ranges e = record {
  built = e.is_built;
  groups = subst (λ n. AreGroups n shorts group firsts) e.counts e.are_groups;
  counted = ap length e.heads_are;
  resistors = e.moved_resistors.0 ∙ ap (λ (g : List ℕ). map (grouped_resistor g) rs0) e.slice_is
      ∙ ap (map (grouped_resistor group)) e.moved_resistors.1;
  pads = e.moved_pads.0 ∙ ap (λ (g : List ℕ). map (grouped_pad g) ps0) e.slice_is
      ∙ ap (map (grouped_pad group)) e.moved_pads.1;
  loads = e.summed.0 ∙ loads_are net group slice ranges e.slice_is e.summed.1 (e.are_groups.one_a_node ∙ e.counts);
}

module _ (net : Network) (shorts : List (ℕ × ℕ)) (group firsts : List ℕ) (count : ℕ) (rs : List Resistor)
    (ps : List Pad) (ls : List Load) (t : Told net shorts group firsts count rs ps ls) where
  -- What holds of the lists of the groups holds of those of the code, and the other way round.
  to_code : (P : ℕ → List Resistor → List Pad → List Load → Type 0)
      → P (length firsts) (map (grouped_resistor group) net.resistors) (map (grouped_pad group) net.pads)
      (grouped_loads net group)
      → P count rs ps ls
  to_code P h =
      subst (λ x. P x rs ps ls) (sym t.counted)
      (subst (λ x. P (length firsts) x ps ls) (sym t.resistors)
      (subst (λ x. P (length firsts) (map (grouped_resistor group) net.resistors) x ls) (sym t.pads)
      (subst (λ x. P (length firsts) (map (grouped_resistor group) net.resistors) (map (grouped_pad group) net.pads) x)
      (sym t.loads) h)))

  from_code : (P : ℕ → List Resistor → List Pad → List Load → Type 0) → P count rs ps ls
      → P (length firsts) (map (grouped_resistor group) net.resistors) (map (grouped_pad group) net.pads)
      (grouped_loads net group)
  from_code P h =
      subst (λ x. P (length firsts) (map (grouped_resistor group) net.resistors) (map (grouped_pad group) net.pads) x)
      t.loads
      (subst (λ x. P (length firsts) (map (grouped_resistor group) net.resistors) x ls) t.pads
      (subst (λ x. P (length firsts) x ps ls) t.resistors
      (subst (λ x. P x rs ps ls) t.counted h)))

  left : (e : NetError) → BuildFails count rs ps ls e → IsLeft e count
  left e fails =
      subst (IsLeft e) (sym t.counted)
      (what_is_left (length firsts) (map (grouped_resistor group) net.resistors) (map (grouped_pad group) net.pads)
      (grouped_loads net group) (keeps_limits net shorts group firsts t.built t.groups) e
      (from_code (λ n a b c. BuildFails n a b c e) fails))

  refused : (e : NetError) (told : GroupError) → BuildFails count rs ps ls e → AsTold e firsts told
      → IsRefusal net shorts told
  refused e told fails as_told =
      refusal_told net shorts group firsts (map (grouped_resistor group) net.resistors) (grouped_loads net group) e told
      t.groups (keeps_limits net shorts group firsts t.built t.groups)
      (from_code (λ n a b c. BuildFails n a b c e) fails) as_told

pub returns-then-is_empty-clause-network : goal.returns-then-is_empty-clause-network
returns-then-is_empty-clause-network c =
    network_unshorted c.args.net c.args.shorts.now c.in_ok-groups.groups.group c.in_ok-groups.groups.firsts c.nodes.ensures.built
    (no_shorts c.args.shorts.now (sym c.is_empty.ensures ∙ c.if-is_empty.true))
    (subst (λ n. AreGroups n c.args.shorts.now c.in_ok-groups.groups.group c.in_ok-groups.groups.firsts) c.nodes.ensures.nodes
    c.in_ok-groups.ensures)

pub returns-then-is_empty-clause-agree : goal.returns-then-is_empty-clause-agree
returns-then-is_empty-clause-agree c ok =
    agree_unshorted c.args.net c.args.shorts.now c.nodes.ensures.built
    (no_shorts c.args.shorts.now (sym c.is_empty.ensures ∙ c.if-is_empty.true))

pub overflow_cast-firsts : goal.overflow_cast-firsts
overflow_cast-firsts c =
    let t = told_of c.args.net c.args.shorts.now c.in_ok-groups.groups.group c.in_ok-groups.groups.firsts
    c.as_slice-group.result.now c.as_slice-firsts.result.now c.nodes.result
    c.move_all.new.resistors.items c.into_parts-resistors.result.resistors.items
    c.move_all.new.pads.items c.into_parts-resistors.result.pads.items c.in_ok-loads.loads.items c.deref.result.now
    (record {
      is_built = c.nodes.ensures.built;
      counts = c.nodes.ensures.nodes;
      are_groups = c.in_ok-groups.ensures;
      heads_are = c.as_slice-firsts.ensures;
      slice_is = c.as_slice-group.ensures;
      moved_resistors = (c.move_all.ensures.resistors, c.into_parts-resistors.ensures.resistors);
      moved_pads = (c.move_all.ensures.pads, c.into_parts-resistors.ensures.pads);
      summed = (c.in_ok-loads.ensures, c.deref.ensures.value ∙ c.into_parts-resistors.ensures.loads);
    }) in
    let few = groups_at_most c.args.net.nodes c.args.shorts.now c.in_ok-groups.groups.group c.in_ok-groups.groups.firsts
    t.groups in
    let count = t.counted in
    let nodes = t.built.few_nodes in
    omega arith

pub build-requires : goal.build-requires
build-requires c =
    let t = told_of c.args.net c.args.shorts.now c.in_ok-groups.groups.group c.in_ok-groups.groups.firsts
    c.as_slice-group.result.now c.as_slice-firsts.result.now c.nodes.result
    c.move_all.new.resistors.items c.into_parts-resistors.result.resistors.items
    c.move_all.new.pads.items c.into_parts-resistors.result.pads.items c.in_ok-loads.loads.items c.deref.result.now
    (record {
      is_built = c.nodes.ensures.built;
      counts = c.nodes.ensures.nodes;
      are_groups = c.in_ok-groups.ensures;
      heads_are = c.as_slice-firsts.ensures;
      slice_is = c.as_slice-group.ensures;
      moved_resistors = (c.move_all.ensures.resistors, c.into_parts-resistors.ensures.resistors);
      moved_pads = (c.move_all.ensures.pads, c.into_parts-resistors.ensures.pads);
      summed = (c.in_ok-loads.ensures, c.deref.ensures.value ∙ c.into_parts-resistors.ensures.loads);
    }) in
    record {
      ranges = to_code c.args.net c.args.shorts.now c.in_ok-groups.groups.group c.in_ok-groups.groups.firsts (length c.as_slice-firsts.result.now)
          c.move_all.new.resistors.items c.move_all.new.pads.items c.in_ok-loads.loads.items t
          (λ n a b ls. All (λ l. l.low ≤ℤ l.high) ls)
          (ranges_in_order c.args.net c.args.shorts.now c.in_ok-groups.groups.group c.in_ok-groups.groups.firsts t.built t.groups);
    }

pub told-requires : goal.told-requires
told-requires c =
    let t = told_of c.args.net c.args.shorts.now c.in_ok-groups.groups.group c.in_ok-groups.groups.firsts
    c.as_slice-group.result.now c.as_slice-firsts.result.now c.nodes.result
    c.move_all.new.resistors.items c.into_parts-resistors.result.resistors.items
    c.move_all.new.pads.items c.into_parts-resistors.result.pads.items c.in_ok-loads.loads.items c.deref.result.now
    (record {
      is_built = c.nodes.ensures.built;
      counts = c.nodes.ensures.nodes;
      are_groups = c.in_ok-groups.ensures;
      heads_are = c.as_slice-firsts.ensures;
      slice_is = c.as_slice-group.ensures;
      moved_resistors = (c.move_all.ensures.resistors, c.into_parts-resistors.ensures.resistors);
      moved_pads = (c.move_all.ensures.pads, c.into_parts-resistors.ensures.pads);
      summed = (c.in_ok-loads.ensures, c.deref.ensures.value ∙ c.into_parts-resistors.ensures.loads);
    }) in
    left c.args.net c.args.shorts.now c.in_ok-groups.groups.group c.in_ok-groups.groups.firsts (length c.as_slice-firsts.result.now)
    c.move_all.new.resistors.items c.move_all.new.pads.items c.in_ok-loads.loads.items t c.in-Err.error c.in-Err.ensures.refused

pub returns-in-Ok-clause-network : goal.returns-in-Ok-clause-network
returns-in-Ok-clause-network c =
    let t = told_of c.args.net c.args.shorts.now c.in_ok-groups.groups.group c.in_ok-groups.groups.firsts
    c.as_slice-group.result.now c.as_slice-firsts.result.now c.nodes.result
    c.move_all.new.resistors.items c.into_parts-resistors.result.resistors.items
    c.move_all.new.pads.items c.into_parts-resistors.result.pads.items c.in_ok-loads.loads.items c.deref.result.now
    (record {
      is_built = c.nodes.ensures.built;
      counts = c.nodes.ensures.nodes;
      are_groups = c.in_ok-groups.ensures;
      heads_are = c.as_slice-firsts.ensures;
      slice_is = c.as_slice-group.ensures;
      moved_resistors = (c.move_all.ensures.resistors, c.into_parts-resistors.ensures.resistors);
      moved_pads = (c.move_all.ensures.pads, c.into_parts-resistors.ensures.pads);
      summed = (c.in_ok-loads.ensures, c.deref.ensures.value ∙ c.into_parts-resistors.ensures.loads);
    }) in
    from_code c.args.net c.args.shorts.now c.in_ok-groups.groups.group c.in_ok-groups.groups.firsts (length c.as_slice-firsts.result.now)
    c.move_all.new.resistors.items c.move_all.new.pads.items c.in_ok-loads.loads.items t
    (λ n a b d. c.in-Ok.net ≡ network_of n a b d) c.in-Ok.ensures.built

pub returns-in-Ok-clause-agree : goal.returns-in-Ok-clause-agree
returns-in-Ok-clause-agree c ok =
    let t = told_of c.args.net c.args.shorts.now c.in_ok-groups.groups.group c.in_ok-groups.groups.firsts
    c.as_slice-group.result.now c.as_slice-firsts.result.now c.nodes.result
    c.move_all.new.resistors.items c.into_parts-resistors.result.resistors.items
    c.move_all.new.pads.items c.into_parts-resistors.result.pads.items c.in_ok-loads.loads.items c.deref.result.now
    (record {
      is_built = c.nodes.ensures.built;
      counts = c.nodes.ensures.nodes;
      are_groups = c.in_ok-groups.ensures;
      heads_are = c.as_slice-firsts.ensures;
      slice_is = c.as_slice-group.ensures;
      moved_resistors = (c.move_all.ensures.resistors, c.into_parts-resistors.ensures.resistors);
      moved_pads = (c.move_all.ensures.pads, c.into_parts-resistors.ensures.pads);
      summed = (c.in_ok-loads.ensures, c.deref.ensures.value ∙ c.into_parts-resistors.ensures.loads);
    }) in
    agree_by_group c.args.net c.args.shorts.now c.in_ok-groups.groups.group c.in_ok-groups.groups.firsts t.built t.groups
    (from_code c.args.net c.args.shorts.now c.in_ok-groups.groups.group c.in_ok-groups.groups.firsts (length c.as_slice-firsts.result.now)
    c.move_all.new.resistors.items c.move_all.new.pads.items c.in_ok-loads.loads.items t
    (λ n a ps d. PadsAgree ps) (c.in-Ok.ensures.pads_agree refl))

pub returns-in-Err-clause-refused : goal.returns-in-Err-clause-refused
returns-in-Err-clause-refused c =
    let t = told_of c.args.net c.args.shorts.now c.in_ok-groups.groups.group c.in_ok-groups.groups.firsts
    c.as_slice-group.result.now c.as_slice-firsts.result.now c.nodes.result
    c.move_all.new.resistors.items c.into_parts-resistors.result.resistors.items
    c.move_all.new.pads.items c.into_parts-resistors.result.pads.items c.in_ok-loads.loads.items c.deref.result.now
    (record {
      is_built = c.nodes.ensures.built;
      counts = c.nodes.ensures.nodes;
      are_groups = c.in_ok-groups.ensures;
      heads_are = c.as_slice-firsts.ensures;
      slice_is = c.as_slice-group.ensures;
      moved_resistors = (c.move_all.ensures.resistors, c.into_parts-resistors.ensures.resistors);
      moved_pads = (c.move_all.ensures.pads, c.into_parts-resistors.ensures.pads);
      summed = (c.in_ok-loads.ensures, c.deref.ensures.value ∙ c.into_parts-resistors.ensures.loads);
    }) in
    refused c.args.net c.args.shorts.now c.in_ok-groups.groups.group c.in_ok-groups.groups.firsts (length c.as_slice-firsts.result.now)
    c.move_all.new.resistors.items c.move_all.new.pads.items c.in_ok-loads.loads.items t
    c.in-Err.error c.told.result c.in-Err.ensures.refused
    (subst (λ (xs : List ℕ). AsTold c.in-Err.error xs c.told.result) c.as_slice-firsts.ensures c.told.ensures)
