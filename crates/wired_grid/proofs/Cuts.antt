-- The arrays of the stacks of a wired grid have rules of the technology, and their cuts have lengths.
use Rattle.std.proofs.Common.{◌≡◌, ℕ, ◌+◌, ◌*◌, ◌<◌, ◌≤◌, ◌^◌, ℤ, pos, negsuc, ◌+ℤ◌, ◌*ℤ◌, ◌≤ℤ◌, ◌<ℤ◌, List, All, Contains, length, map, get_or, slice_get, Some, refl, sym, ◌∙◌, ap, subst, arith}
use Rattle.std.proofs.Math.Nat.{one-le-mul, mul-le-mul_left}
use Rattle.std.proofs.lemmas.Int.{ints}
use Rattle.std.proofs.lemmas.List.{length-map, get_or-map}
use Rattle.std.proofs.lemmas.List.Elements.{All-map}
use Rattle.std.proofs.lemmas.Option.{slice_get-get_or}
use Rattle.def_wiring.specs.declared.record.ViaDef.{ViaDef}
use Rattle.def_wiring.specs.declared.record.Wires.{Wires}
use Rattle.def_wiring.specs.Limits.{IsPositive, ViaKeeps, WiresKeep}
use Rattle.grid_pieces.specs.declared.piece.Piece.{Piece}
use Rattle.grid_pieces.specs.declared.piece.StackAt.{StackAt}
use Rattle.lef_tech.specs.declared.tech.Tech.{Tech}
use Rattle.via_arrays.specs.declared.parts.CutArray.{CutArray}
use Rattle.wire_chains.specs.declared.via.ViaAt.{ViaAt}
use Rattle.wire_chains.specs.Chain.{IsChain}
use Rattle.wire_limits.specs.declared.within.TheConstants.{MOST_SIZE}
use Rattle.wire_limits.specs.Limits.{SizesFit}
use Rattle.wire_limits.specs.Vias.{IsUsed, HasSize}
use Rattle.wire_names.specs.declared.record.NamedVia.{NamedVia}
use Rattle.wire_names.specs.declared.record.NamedWires.{NamedWires}
use Rattle.wire_names.specs.declared.record.Spot.{Spot}
use Rattle.wire_names.specs.Keeping.{NamedKeep, ViaStands}
use Rattle.wire_names.specs.Names.{names_of}
use Rattle.wire_names.specs.Wiring.{AreNamed, via_of}
use Rattle.wire_stacks.specs.Stacks.{AreStacks, IsStackOf, Stacked}
use Rattle.wire_stacks.specs.Vias.{via_at, array_of, AreViasAt}
use Rattle.wired_grid.specs.Wired.{IsLong, ArrayStands, ArraysStand}

-- A row of cuts is not longer than as many pitches.
row_fits : (n c p : ℕ) → 1 ≤ n → 1 ≤ c → c ≤ p → n * p ≤ 2 ^ 32 → (1 ≤ n * c) × (n * c ≤ 2 ^ 32)
row_fits n c p some cut le most = (
  one-le-mul some cut,
  (let a : n * c ≤ n * p = mul-le-mul_left n le in omega (arith, a, most)),
)

row : (n : ℕ) (c p : ℤ) → 1 ≤ n → IsPositive c → c ≤ℤ p → (pos n *ℤ p) ≤ℤ MOST_SIZE → IsLong (pos n *ℤ c)
row n (pos c) (pos p) some cut le most = let t = row_fits n c p some (let a = cut.0 in omega (arith, ints)) (omega (arith, ints)) (let a : (pos n *ℤ pos p) ≤ℤ pos (2 ^ 32) = most in omega (arith, ints)) in (omega (arith, ints, t.0), omega (arith, ints, t.1))
row n (pos c) (negsuc p) some cut le most = absurd (omega (arith, ints))
row n (negsuc c) p some cut le most = absurd (let a = cut.0 in omega (arith, ints))

-- The pitch is the cut and a gap.
abbrev Spaced : NamedVia → Type 0
Spaced via = (via.cut_x ≤ℤ via.pitch_x) × (via.cut_y ≤ℤ via.pitch_y)

spaced : (tech : Tech) (wires : Wires) (named : NamedWires) → WiresKeep wires → AreNamed tech wires named → All Spaced named.vias
spaced tech wires named keeps are =
    subst (All Spaced) (sym are.vias)
    (All-map Spaced (via_of (names_of tech wires)) wires.vias
    (λ k d within. let via : ViaKeeps (get_or wires.vias k d) = keeps.vias k d within in let x = via.gap_x.0 in let y = via.gap_y.0 in (omega (arith, ints), omega (arith, ints))))

module _ (tech : Tech) (wires : Wires) (named : NamedWires) (pieces : List Piece) (stacks : List StackAt) (keeps : WiresKeep wires) (are : AreNamed tech wires named)
    (keep : NamedKeep tech named) (sizes : SizesFit named) (stacks_are : AreStacks tech named.vias named.spots pieces stacks) where
  array_stands : (at : ViaAt) → Contains stacks_are.are_stacked.placed at → ArrayStands tech (array_of (via_at named.vias at.via))
  array_stands at (k, within, is) = record {
    rule = stands.rule;
    row = row via.columns via.cut_x via.pitch_x stands.keeps.some_columns stands.keeps.cut_x apart.0 size.columns;
    column = row via.rows via.cut_y via.pitch_y stands.keeps.some_rows stands.keeps.cut_y apart.1 size.rows;
  }
    where
      placed : AreViasAt named.vias pieces named.spots stacks_are.are_stacked.placed
      placed = stacks_are.are_stacked.are_placed

      below : k < length named.spots
      below = omega (arith, placed.as_many)

      spot : Spot
      spot = get_or named.spots k (record { net = 0; via = 0; x = pos 0; y = pos 0 })

      here : at.via ≡ spot.via
      here = (placed.each k spot at (slice_get-get_or named.spots k (record { net = 0; via = 0; x = pos 0; y = pos 0 }) below) (slice_get-get_or stacks_are.are_stacked.placed k at within ∙ ap Some is)).via

      defined : at.via < length named.vias
      defined = subst (λ (v : ℕ). v < length named.vias) (sym here) (keep.spots k (record { net = 0; via = 0; x = pos 0; y = pos 0 }) below).via

      via : NamedVia
      via = via_at named.vias at.via

      stands : ViaStands (length tech.routing) (length tech.cuts) (length tech.rules) via
      stands = keep.vias at.via _ defined

      apart : Spaced via
      apart = spaced tech wires named keeps are at.via _ defined

      used : IsUsed named.spots at.via
      used = (k, omega (arith, length-map named.spots (λ (s : Spot). s.via), below), get_or-map (λ (s : Spot). s.via) named.spots k (record { net = 0; via = 0; x = pos 0; y = pos 0 }) at.via below ∙ sym here)

      size : HasSize via
      size = sizes at.via via (slice_get-get_or named.vias at.via _ defined) used

  chain_stands : (s : Stacked) → IsChain stacks_are.are_stacked.placed s.chain → IsStackOf tech named.vias s.chain s.at → ArraysStand tech s.at
  chain_stands s chain stack =
      subst (All (ArrayStands tech)) (sym stack.arrays)
      (All-map (ArrayStands tech) (λ (via : ViaAt). array_of (via_at named.vias via.via)) s.chain
      (λ k d within. array_stands (get_or s.chain k d) (chain.within k d within)))

  pub arrays_stand : All (ArraysStand tech) stacks
  arrays_stand =
      subst (All (ArraysStand tech)) (sym stacks_are.are)
      (All-map (ArraysStand tech) (λ (s : Stacked). s.at) stacks_are.stacked
      (λ k d within. chain_stands (get_or stacks_are.stacked k d) (stacks_are.are_stacked.each k d within) (stacks_are.are_stacked.stacks k d within)))
