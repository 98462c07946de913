-- A grid has one list of limits, and a network one first node without supply.
use Rattle.std.proofs.Common.{◌≡◌, ◌⊎◌, inl, inr, ℕ, zero, suc, ◌*◌, ◌<◌, ◌≤◌, ℤ, List, All, refl, sym, subst, ap, ◌∙◌, arith}
use Rattle.std.specs.Prelude.{Option, Some, None, slice_get}
use Rattle.std.proofs.Math.Nat.{div-zero}
use Rattle.std.proofs.lemmas.Bool.{cases_lt}
use Rattle.std.proofs.lemmas.Option.{same_Some, slice_get_within, get_or_from_slice_get}
use Rattle.lef_tech.specs.declared.tech.Tech.{Tech}
use Rattle.lef_tech.specs.declared.layer.Density.{Density}
use Rattle.lef_tech.specs.declared.layer.Density.TheVariants.{Unlimited}
use Rattle.lef_tech.specs.declared.layer.RoutingLayer.{RoutingLayer}
use Rattle.lef_tech.specs.declared.layer.CutLayer.{CutLayer}
use Rattle.lef_tech.specs.declared.rule.ViaRule.{ViaRule}
use Rattle.lef_tech.specs.Limits.{TechKeeps, RoutingKeeps, CutKeeps}
use Rattle.bias_file.specs.declared.record.Bias.{Bias}
use Rattle.via_arrays.specs.declared.parts.CutArray.{CutArray}
use Rattle.grid_pieces.specs.declared.grid.Grid.{Grid}
use Rattle.grid_pieces.specs.declared.piece.Piece.{Piece}
use Rattle.grid_pieces.specs.declared.piece.StackAt.{StackAt}
use Rattle.grid_net.specs.Level.{IsSupplied, IsFirstUnsupplied}
use Rattle.grid_net.specs.Network.{Network}
use Rattle.grid_network.specs.declared.branch.Branch.{Branch}
use Rattle.grid_network.specs.declared.branch.Branch.TheVariants.{Wire, Cuts}
use Rattle.grid_network.specs.declared.key.Key.{Key}
use Rattle.em_rules.specs.Limit.{IsDensity, IsLimit, IsWireLimit, IsCutLimit}
use Rattle.grid_limits.specs.Limits.{IsBranchLimit, IsPieceLimit, IsArrayLimit, AreGridLimits}
use Rattle.signoff_report.specs.declared.records.Limits.{Limits}
use Rattle.entry_list.specs.Laws.{in-turn-one}

-- ## limits

-- what stands at a place
at_place : {X : Type 0} (P : X → Type 0) (xs : List X) (k : ℕ) (x : X) → All P xs → slice_get xs k ≡ Some x → P x
at_place P xs k x all is = subst P (get_or_from_slice_get xs k x x is) (all k x (slice_get_within xs k x is))

-- one place has one thing
one_get : {X : Type 0} (xs : List X) (k l : ℕ) (x y : X) → k ≡ l → slice_get xs k ≡ Some x → slice_get xs l ≡ Some y → x ≡ y
one_get xs k l x y same is other = same_Some x y (sym is ∙ ap (slice_get xs) same ∙ other)

-- a wire has one limit
abbrev WiresHaveOne : Type 0
WiresHaveOne = (layer : RoutingLayer) (width : ℤ) (units : ℕ) (a b : Option ℕ) → RoutingKeeps layer → 0 < units → IsWireLimit layer width units a
    → IsWireLimit layer width units b → a ≡ b

-- an array of cuts has one
abbrev ArraysHaveOne : Type 0
ArraysHaveOne = (layer : CutLayer) (array : CutArray) (units : ℕ) (a b : Option ℕ) → CutKeeps layer → 0 < units → IsCutLimit layer array units a
    → IsCutLimit layer array units b → a ≡ b

-- over no units at all a limit is 0
zero_limit : (stated : Density) (n d size limit : ℕ) → IsLimit stated n d size 0 limit → limit ≡ 0
zero_limit stated n d size limit h = h.is ∙ div-zero (h.density * size)

unlimited_none : (stated : Density) (n d size unit limit : ℕ) → stated ≡ Unlimited → IsLimit stated n d size unit limit → ⊥
unlimited_none stated n d size unit limit is h = subst (λ (z : Density). IsDensity z n d h.density) is h.is_density

zero_wire : (layer : RoutingLayer) (width : ℤ) (a b : Option ℕ) → IsWireLimit layer width 0 a → IsWireLimit layer width 0 b → a ≡ b
zero_wire layer width None None p q = refl
zero_wire layer width None (Some l) p q = absurd (unlimited_none layer.density _ _ _ _ l p q)
zero_wire layer width (Some k) None p q = absurd (unlimited_none layer.density _ _ _ _ k q p)
zero_wire layer width (Some k) (Some l) p q = ap (λ z. Some z) (zero_limit layer.density _ _ _ k p ∙ sym (zero_limit layer.density _ _ _ l q))

zero_array : (layer : CutLayer) (array : CutArray) (a b : Option ℕ) → IsCutLimit layer array 0 a → IsCutLimit layer array 0 b → a ≡ b
zero_array layer array None None p q = refl
zero_array layer array None (Some l) p q = absurd (unlimited_none layer.density _ _ _ _ l p q)
zero_array layer array (Some k) None p q = absurd (unlimited_none layer.density _ _ _ _ k q p)
zero_array layer array (Some k) (Some l) p q = ap (λ z. Some z) (zero_limit layer.density _ _ _ k p ∙ sym (zero_limit layer.density _ _ _ l q))

wire_one : WiresHaveOne → (layer : RoutingLayer) (width : ℤ) (units : ℕ) (a b : Option ℕ) → RoutingKeeps layer → IsWireLimit layer width units a
    → IsWireLimit layer width units b → a ≡ b
wire_one wires layer width zero a b keeps p q = zero_wire layer width a b p q
wire_one wires layer width (suc k) a b keeps p q = wires layer width (suc k) a b keeps (omega arith) p q

array_one : ArraysHaveOne → (layer : CutLayer) (array : CutArray) (units : ℕ) (a b : Option ℕ) → CutKeeps layer → IsCutLimit layer array units a
    → IsCutLimit layer array units b → a ≡ b
array_one arrays layer array zero a b keeps p q = zero_array layer array a b p q
array_one arrays layer array (suc k) a b keeps p q = arrays layer array (suc k) a b keeps (omega arith) p q

module _ (tech : Tech) (grid : Grid) (keeps : TechKeeps tech) where
  piece_limit_one : WiresHaveOne → (number : ℕ) (a b : Option ℕ) → IsPieceLimit tech grid number a → IsPieceLimit tech grid number b → a ≡ b
  piece_limit_one wires number a b (piece, layer, on, is) (piece', layer', on', is') =
      let piece_is : piece' ≡ piece = one_get grid.pieces number number piece' piece refl on'.is on.is in
      let layer_is : layer' ≡ layer = one_get tech.routing piece'.layer piece.layer layer' layer (ap (λ (p : Piece). p.layer) piece_is) on'.layer_is on.layer_is in
      wire_one wires layer piece.width grid.units a b (at_place RoutingKeeps tech.routing piece.layer layer keeps.routing on.layer_is) is
      (subst (λ (p : Piece). IsWireLimit layer p.width grid.units b) piece_is (subst (λ (l : RoutingLayer). IsWireLimit l piece'.width grid.units b) layer_is is'))

  array_limit_one : ArraysHaveOne → (number level : ℕ) (a b : Option ℕ) → IsArrayLimit tech grid number level a
      → IsArrayLimit tech grid number level b → a ≡ b
  array_limit_one arrays number level a b (array, layer, at, of, is) (array', layer', at', of', is') =
      let stack_is : at'.stack ≡ at.stack = one_get grid.stacks number number at'.stack at.stack refl at'.stack_is at.stack_is in
      let array_is : array' ≡ array =
      same_Some array' array (sym at'.is ∙ ap (λ (s : StackAt). slice_get s.stack.arrays level) stack_is ∙ at.is) in
      let rule_is : of'.rule ≡ of.rule = one_get tech.rules array'.rule array.rule of'.rule of.rule (ap (λ (z : CutArray). z.rule) array_is) of'.rule_is of.rule_is in
      let layer_is : layer' ≡ layer = one_get tech.cuts of'.rule.cut of.rule.cut layer' layer (ap (λ (r : ViaRule). r.cut) rule_is) of'.is of.is in
      array_one arrays layer array grid.units a b (at_place CutKeeps tech.cuts of.rule.cut layer keeps.cuts of.is) is
      (subst (λ (z : CutArray). IsCutLimit layer z grid.units b) array_is (subst (λ (l : CutLayer). IsCutLimit l array' grid.units b) layer_is is'))

  branch_limit_one : WiresHaveOne
      → ArraysHaveOne → (branch : Branch) (a b : Option ℕ) → IsBranchLimit tech grid branch a → IsBranchLimit tech grid branch b → a ≡ b
  branch_limit_one wires arrays (Wire number) a b p q = piece_limit_one wires number a b p q
  branch_limit_one wires arrays (Cuts number level) a b p q = array_limit_one arrays number level a b p q

  pub limits_one : WiresHaveOne
      → ArraysHaveOne → (keys : List Key) (branches : List Branch) (bias : Bias) (a b : Limits)
      → AreGridLimits tech grid keys branches bias a → AreGridLimits tech grid keys branches bias b → a ≡ b
  limits_one wires arrays keys branches bias a b p q =
      let of_branches = in-turn-one (IsBranchLimit tech grid) (branch_limit_one wires arrays) branches a.branches b.branches p.of_branches q.of_branches in
      let of_nets = p.of_nets ∙ sym q.of_nets in
      let nets_of = p.nets_of ∙ sym q.nets_of in
      λ i. record { branches = of_branches i; nets = of_nets i; net_of = nets_of i }

-- ## supply

pub first_one : (net : Network) (m n : ℕ) → IsFirstUnsupplied net m → IsFirstUnsupplied net n → m ≡ n
first_one net m n p q = by (cases_lt m n) (cases_lt n m)
  where
    by : (m < n) ⊎ (n ≤ m) → (n < m) ⊎ (m ≤ n) → m ≡ n
    by (inl less) _ = absurd (p.unsupplied (q.before m less))
    by (inr _) (inl less) = absurd (q.unsupplied (p.before n less))
    by (inr le) (inr ge) = omega arith

pub none_first : (net : Network) (n : ℕ) → ((i : ℕ) → i < net.nodes → IsSupplied net i) → IsFirstUnsupplied net n → ⊥
none_first net n each p = p.unsupplied (each n p.is_node)
