-- Patterns in a list of nodes, each made of earlier ones, and how the open unit stands where one is left of its own.
use Rattle.std.specs.Prelude.{ℕ, ◌<◌, ◌≡◌, List, slice_get, Some, ◌++◌, ◌/◌, ◌%◌, ◌^◌, Bool, nat_eq, ◌||◌, not, length, cond}
use Rattle.reading.specs.declared.patterns.Node.{Node}
use Rattle.reading.specs.Pattern.{Then, Or, Many, Pattern, Never, Empty, One}
use Rattle.reading.specs.inside.Left.{left}
use Rattle.reading.specs.declared.rule.Rule.{Rule}
use Rattle.reading.specs.Rule.{IsRule}
use Rattle.reading.specs.declared.patterns.Standing.{Standing}
use Rattle.reading.specs.declared.patterns.Standing.TheVariants.{Nowhere, Open, Whole}
use Rattle.reading.specs.Tests.{skips}
use Rattle.reading.specs.declared.patterns.Node.TheVariants as nodes

-- The parts of the node stand before n.
abbrev pub PartsBelow : ℕ → Node → Type 0
PartsBelow n (nodes.Then a b) = (a < n) × (b < n)
PartsBelow n (nodes.Or a b) = (a < n) × (b < n)
PartsBelow n (nodes.Many a) = a < n
PartsBelow n _ = Unit {0}

-- Each node's parts stand before it.
abbrev pub IsGraph : List Node → Type 0
IsGraph list = (i : ℕ) (node : Node) → slice_get list i ≡ Some node → PartsBelow i node

-- New has the nodes of old in front.
abbrev pub Extends : List Node → List Node → Type 0
Extends old new = (more : List Node) × (new ≡ old ++ more)

-- Whether the bit of this number is 1.
abbrev pub among : ℕ → ℕ → Bool
among n set = nat_eq (set / 2 ^ n % 2) 1

-- The set with one more number in it.
abbrev pub IsWith : ℕ → ℕ → ℕ → Type 0
IsWith set number new = (n : ℕ) → among n new ≡ (nat_eq number n || among n set)

-- The set with just the numbers below 64 that are not in it.
abbrev pub IsWithout : ℕ → ℕ → Type 0
IsWithout set new = (n : ℕ) → n < 64 → among n new ≡ not (among n set)

-- The bits of the numbers of the sorts in the class are 1, and those of the others 0.
abbrev pub IsSet : {S : Type 0} → (S → ℕ) → ℕ → (S → Bool) → Type 0
IsSet {S} number set class = (s : S) → among (number s) set ≡ class s

-- The node at the place is the pattern.
abbrev pub Denotes : {S : Type 0} → (S → ℕ) → List Node → ℕ → Pattern S → Type 0
Denotes number list at Never = slice_get list at ≡ Some nodes.Never
Denotes number list at Empty = slice_get list at ≡ Some nodes.Empty
Denotes number list at (One class) = (set : ℕ) × (slice_get list at ≡ Some (nodes.One set)) × IsSet number set class
Denotes number list at (Then p q) = (a : ℕ) × (b : ℕ) × (slice_get list at ≡ Some (nodes.Then a b))
    × Denotes number list a p × Denotes number list b q
Denotes number list at (Or p q) = (a : ℕ) × (b : ℕ) × (slice_get list at ≡ Some (nodes.Or a b))
    × Denotes number list a p × Denotes number list b q
Denotes number list at (Many p) = (a : ℕ) × (slice_get list at ≡ Some (nodes.Many a)) × Denotes number list a p

-- What building a node leads to: old patterns stay, and the new node is at its place.
pub record Placed (old new : List Node) (at : ℕ) (node : Node) : Type 0 where
  pub graph : IsGraph new
  pub extends : Extends old new
  pub is : slice_get new at ≡ Some node

-- What building a pattern leads to: old ones stay, and the new one is there.
pub record Grown (old new : List Node) (at : ℕ) : Type 0 where
  pub graph : IsGraph new
  pub extends : Extends old new
  pub within : at < length new

-- The new pattern is what join makes of the two.
pub record Joins {S : Type 0} (number : S → ℕ) (join : Pattern S → Pattern S → Pattern S) (old new : List Node)
    (a b at : ℕ) : Type 0 where
  pub grown : Grown old new at
  pub is : (p q : Pattern S) → Denotes number old a p → Denotes number old b q → Denotes number new at (join p q)

-- The new pattern is what is left after a word of the sort.
pub record Leaves {S : Type 0} (number : S → ℕ) (sort : S) (old new : List Node) (at rest : ℕ) : Type 0 where
  pub grown : Grown old new rest
  pub is : (p : Pattern S) → Denotes number old at p → Denotes number new rest (left sort p)

-- What building the pattern of a rule leads to: old ones stay, and the new one is there.
pub record Built {S : Type 0} (number : S → ℕ) (rule : Rule S) (old new : List Node) (at : ℕ) : Type 0 where
  pub grown : Grown old new at
  pub is : (p : Pattern S) → IsRule number rule p → Denotes number new at p

-- Where this is left.
abbrev pub standing_of : {S : Type 0} → Pattern S → Standing
standing_of Never = Nowhere
standing_of p = cond (skips p) Whole Open

-- Where the pattern of the node is left.
abbrev pub IsStanding : {S : Type 0} → (S → ℕ) → List Node → ℕ → Standing → Type 0
IsStanding {S} number nodes at standing = (p : Pattern S) → Denotes number nodes at p → standing ≡ standing_of p
