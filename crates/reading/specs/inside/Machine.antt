-- What the tables of the engine know.
use Rattle.std.specs.Prelude.{◌≡◌, ℕ, ◌+◌, ◌*◌, ◌<◌, List, length, slice_get, Option, Some, ◌≤◌, ◌⊎◌}
use Rattle.reading.specs.declared.patterns.Node.{Node}
use Rattle.reading.specs.declared.machine.Rest.{Rest}
use Rattle.reading.specs.Pattern.{Pattern}
use Rattle.reading.specs.inside.Left.{left}
use Rattle.reading.specs.inside.Patterns.{Denotes, IsStanding, IsGraph}
use Rattle.reading.specs.declared.machine.Machine.{Machine}

-- What a table of patterns knows of what is left: at 64 times the node and the number of the sort, the node that is
-- left, and how a unit stands there.
pub record KnowsLefts {S : Type 0} (number : S → ℕ) (nodes : List Node) (lefts : List (Option Rest)) : Type 0 where
  pub is : (s : S) (i : ℕ) (v : Rest) → slice_get lefts (i * 64 + number s) ≡ Some (Some v) →
      (i < length nodes) × (v.node < length nodes)
      × ((p : Pattern S) → Denotes number nodes i p → Denotes number nodes v.node (left s p))
      × IsStanding number nodes v.node v.standing

-- What a table of patterns knows of the sections: at the number of the section the node of its pattern.
pub record KnowsStarts {S C : Type 0} (number : S → ℕ) (section : C → ℕ) (pattern : C → Pattern S) (nodes : List Node)
    (starts : List (Option ℕ)) : Type 0 where
  pub count : length starts ≡ 64
  pub is : (c : C) (v : ℕ) → slice_get starts (section c) ≡ Some (Some v) → (v < length nodes)
      × Denotes number nodes v (pattern c)

-- Each node has a row in the table of what is left.
abbrev pub HasRows : Machine → Type 0
HasRows m = length m.patterns.nodes.items * 64 ≤ length m.lefts.items

-- The tables of the machine are right.
pub record IsReady {S C : Type 0} (number : S → ℕ) (section : C → ℕ) (pattern : C → Pattern S)
    (m : Machine) : Type 0 where
  pub graph : IsGraph m.patterns.nodes.items
  pub rows : HasRows m
  pub lefts : KnowsLefts number m.patterns.nodes.items m.lefts.items
  pub starts : KnowsStarts number section pattern m.patterns.nodes.items m.starts.items

-- Nothing is known.
abbrev pub IsUnknown : {X : Type 0} → List (Option X) → Type 0
IsUnknown {X} table = (k : ℕ) (x : X) → slice_get table k ≡ Some (Some x) → ⊥

-- What is known now was known before.
abbrev pub TellsNoMore : {X : Type 0} → List (Option X) → List (Option X) → Type 0
TellsNoMore {X} old new = (k : ℕ) (x : X) → slice_get new k ≡ Some (Some x) → slice_get old k ≡ Some (Some x)

-- All but what is known to be left stays.
pub record KeepsOthers (old new : Machine) : Type 0 where
  pub patterns : new.patterns ≡ old.patterns
  pub starts : new.starts ≡ old.starts
  pub at : new.at ≡ old.at

-- What the table tells where one more entry was made, at the key.
abbrev pub Notes : {X : Type 0} → List (Option X) → List (Option X) → ℕ → X → Type 0
Notes {X} old new key v = (k : ℕ) (x : X) → slice_get new k ≡ Some (Some x) → (slice_get old k ≡ Some (Some x))
    ⊎ ((k ≡ key) × (x ≡ v))
