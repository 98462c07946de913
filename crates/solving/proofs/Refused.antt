-- Why a netlist is not signed off: one cause alone.
use Rattle.std.proofs.Common.{◌≡◌, ◌≢◌, ◌⊎◌, inl, inr, ℕ, List, Some, slice_get, sym, ap, subst, ◌∙◌}
use Rattle.std.proofs.lemmas.Bool.{cases_order}
use Rattle.grid_net.specs.Level.{IsFirstUnsupplied}
use Rattle.grid_net.specs.Network.{Network}
use Rattle.answers.specs.declared.answer.Answer.{Answer}
use Rattle.answers.specs.declared.answer.Answer.TheVariants.{Usage, Want, ReadFault, WriteFault, TooLong, Refused, NoGrid, Range, TooManySteps, PadConflict, FloatingCapacitor, Unsupplied, Built, SignedOff, Generated, Solved, Stepped, Certified, NotCertified}
use Rattle.judging.specs.Texts.{HasNetwork}
use Rattle.judging.specs.Stage.{GivesNetwork, HasNoNetwork, IsToNetlist}
use Rattle.short_merge.specs.declared.merged.Merged.{Merged}
use Rattle.spice_grid.specs.declared.named.Named.{Named}
use Rattle.solving.specs.Signed.{EachIsSupplied}
use Rattle.solving.specs.Refusal.{LacksSupply, IsUnsigned, IsToUnsigned}

-- The laws of netlists, as they are handed in.
pub record AreNetlistLaws : Type 0 where
  pub network : (text : List ℕ) (named other : Named) (merged fellow : Merged) → HasNetwork text named merged → HasNetwork text other fellow → (named ≡ other) × (merged ≡ fellow)
  pub refusal : (file text : List ℕ) (a b : Answer) → HasNoNetwork file text a → HasNoNetwork file text b → a ≢ Want → b ≢ Want → a ≡ b
  pub not_both : (file text : List ℕ) (named : Named) (merged : Merged) (answer : Answer) → HasNetwork text named merged → HasNoNetwork file text answer → answer ≡ Want
  pub sort : (file text : List ℕ) (answer : Answer) → HasNoNetwork file text answer → IsToNetlist answer

-- A node that lacks supply is answered by its name, or memory ran out.
pub unsigned : (merged : Merged) (node : ℕ) (answer : Answer) → IsFirstUnsupplied merged.net node → ((answer ≡ Want) ⊎ ((name : List ℕ) × (slice_get merged.names node ≡ Some name) × (answer ≡ Unsupplied name)))
    → (file text : List ℕ) (named : Named) → GivesNetwork text named merged → IsUnsigned file text answer
unsigned merged node answer first (inl want) file text named gives = inl (inl want)
unsigned merged node answer first (inr (name, is, told)) file text named gives =
    inr (record { named = named; merged = merged; gives = gives; node = node; first = first; name = name; named_so = is; told = told })

-- A network has one first node that lacks supply.
one_first : (net : Network) (i j : ℕ) → IsFirstUnsupplied net i → IsFirstUnsupplied net j → i ≡ j
one_first net i j x y =
    elim (cases_order i j) [
      | inl same ↦ same
      | inr rest ↦ elim rest [ inl less ↦ absurd (x.unsupplied (y.before i less)) | inr more ↦ absurd (y.unsupplied (x.before j more)) ]
    ]

some_same : {X : Type 0} (x y : X) → Some x ≡ Some y → x ≡ y
some_same {X} x y e = cc

module _ (laws : AreNetlistLaws) (file text : List ℕ) where
  one_lack : (a b : Answer) → LacksSupply text a → LacksSupply text b → a ≡ b
  one_lack a b x y =
      let same : x.merged ≡ y.merged = (laws.network text x.named y.named x.merged y.merged x.gives.network y.gives.network).1 in
      let first : IsFirstUnsupplied y.merged.net x.node = subst (λ (m : Merged). IsFirstUnsupplied m.net x.node) same x.first in
      let node : x.node ≡ y.node = one_first y.merged.net x.node y.node first y.first in
      let moved : slice_get y.merged.names y.node ≡ Some x.name = subst (λ n. slice_get y.merged.names n ≡ Some x.name) node (subst (λ (m : Merged). slice_get m.names x.node ≡ Some x.name) same x.named_so) in
      x.told ∙ ap Unsupplied (some_same x.name y.name (sym moved ∙ y.named_so)) ∙ sym y.told

  pub one_refusal : (a b : Answer) → IsUnsigned file text a → IsUnsigned file text b → a ≢ Want → b ≢ Want → a ≡ b
  one_refusal a b (inl x) (inl y) some_a some_b = laws.refusal file text a b x y some_a some_b
  one_refusal a b (inl x) (inr y) some_a some_b = absurd (some_a (laws.not_both file text y.named y.merged a y.gives.network x))
  one_refusal a b (inr x) (inl y) some_a some_b = absurd (some_b (laws.not_both file text x.named x.merged b x.gives.network y))
  one_refusal a b (inr x) (inr y) some_a some_b = one_lack a b x y

  pub supply_alone : (named : Named) (merged : Merged) (answer : Answer) → HasNetwork text named merged → IsUnsigned file text answer → answer ≢ Want → (¬ EachIsSupplied merged.net) × ((node : List ℕ) × (answer ≡ Unsupplied node))
  supply_alone named merged answer network (inl x) some = absurd (some (laws.not_both file text named merged answer network x))
  supply_alone named merged answer network (inr x) some =
      let same : merged ≡ x.merged = (laws.network text named x.named merged x.merged network x.gives.network).1 in (
        λ each. let supplied : EachIsSupplied x.merged.net = subst (λ (m : Merged). EachIsSupplied m.net) same each in x.first.unsupplied (supplied x.node x.first.is_node),
        (x.name, x.told),
      )

  netlist_to_unsigned : (a : Answer) → IsToNetlist a → IsToUnsigned a
  netlist_to_unsigned Want x = tt
  netlist_to_unsigned (Refused file place kind) x = tt
  netlist_to_unsigned (Range quantity at number) x = tt
  netlist_to_unsigned (PadConflict node first second) x = tt
  netlist_to_unsigned (Unsupplied node) x = tt
  netlist_to_unsigned Usage x = x
  netlist_to_unsigned (ReadFault file) x = x
  netlist_to_unsigned (WriteFault file) x = x
  netlist_to_unsigned (TooLong file) x = x
  netlist_to_unsigned (NoGrid refusal) x = x
  netlist_to_unsigned (Built built) x = x
  netlist_to_unsigned Generated x = x
  netlist_to_unsigned (FloatingCapacitor node) x = x
  netlist_to_unsigned (TooManySteps number) x = x
  netlist_to_unsigned (Stepped nodes steps) x = x
  netlist_to_unsigned (SignedOff numbers) x = x
  netlist_to_unsigned (Solved nodes resistors sweeps) x = x
  netlist_to_unsigned (Certified nodes) x = x
  netlist_to_unsigned (NotCertified node side found) x = x

  pub sort : (answer : Answer) → IsUnsigned file text answer → IsToUnsigned answer
  sort answer (inl x) = netlist_to_unsigned answer (laws.sort file text answer x)
  sort answer (inr x) = subst IsToUnsigned (sym x.told) tt
