-- The two nets with wiring.
use Rattle.std.specs.Prelude.{◌≡◌, ◌≢◌, ◌⊎◌, ℕ, true, false, [], ◌∷◌, length, map}
use Rattle.std.specs.Bool.{MatchBool}
use Rattle.name_table.specs.ByteOrder.{IsBefore}
use Rattle.def_wiring.specs.declared.record.WiredNet.{WiredNet}
use Rattle.def_wiring.specs.declared.record.Wires.{Wires}
use Rattle.wire_names.specs.declared.error.NameError.{NameError}
use Rattle.wire_names.specs.declared.error.NameError.TheVariants.{UnknownName, NetCount, Want}
use Rattle.wire_names.specs.declared.pair.Pair.{Pair}
use Rattle.wire_names.specs.Nets.{wired_nets}

-- The one power net and the one ground net with wiring.
pub record ArePair (wires : Wires) (pair : Pair) : Type 0 where
  pub power : map (λ (net : WiredNet). net.name) (wired_nets true wires) ≡ pair.power ∷ []
  pub ground : map (λ (net : WiredNet). net.name) (wired_nets false wires) ≡ pair.ground ∷ []
  pub order : MatchBool pair.power_first (IsBefore pair.power pair.ground) (IsBefore pair.ground pair.power)

-- So many power nets and ground nets have wiring, but not one of each.
pub record AreOther (wires : Wires) (power ground : ℕ) : Type 0 where
  pub power_is : power ≡ length (wired_nets true wires)
  pub ground_is : ground ≡ length (wired_nets false wires)
  pub other : (power ≢ 1) ⊎ (ground ≢ 1)

abbrev pub AreNoPair : Wires → NameError → Type 0
AreNoPair wires (UnknownName name) = ⊥
AreNoPair wires (NetCount power ground) = AreOther wires power ground
AreNoPair wires Want = Unit {0}
