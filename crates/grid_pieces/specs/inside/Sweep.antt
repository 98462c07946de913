-- What the sweep over metal in order keeps.
use Rattle.std.specs.Prelude.{◌≡◌, ℕ, ℤ, ◌<◌, ◌≤◌, ◌<ℤ◌, ◌≤ℤ◌, ◌⊎◌, List, All, Contains, length, slice_index_or, Some, false}
use Rattle.std.specs.BTreeMap.{BTreeMap, get}
use Rattle.std.specs.Ordering.{nat_cmp, int_cmp, ordering_then, is_gt}
use Rattle.std.specs.declared.cmp.Ordering.{Ordering}
use Rattle.geom_rect.specs.declared.rect.Rect.{Rect}
use Rattle.grid_pieces.specs.Piece.{Among}
use Rattle.geom_rect.specs.Rect.{IsInOrder, SharePoint}
use Rattle.grid_pieces.specs.declared.metal.Metal.{Metal}

-- Two of the metal touch: they lie on one layer, and share a point.
abbrev pub Touch : Metal → Metal → Type 0
Touch a b = (a.layer ≡ b.layer) × SharePoint a.rect b.rect

-- They share a y.
abbrev pub Beside : Metal → Metal → Type 0
Beside a b = (a.rect.y1 ≤ℤ b.rect.y2) × (b.rect.y1 ≤ℤ a.rect.y2)

-- Each rectangle is in order, no metal lies on a lower layer than an earlier one, and on one layer none begins left of
-- an earlier one.
pub record IsSwept (all : List Metal) : Type 0 where
  pub upright : All (λ (m : Metal). IsInOrder m.rect) all
  pub layers : (i j : ℕ) (d : Metal) → i ≤ j → j < length all
      → (slice_index_or all i d).layer ≤ (slice_index_or all j d).layer
  pub lefts : (i j : ℕ) (d : Metal) → i ≤ j → j < length all
      → (slice_index_or all i d).layer ≡ (slice_index_or all j d).layer
      → (slice_index_or all i d).rect.x1 ≤ℤ (slice_index_or all j d).rect.x1

-- The metal at `place` is open with this lower edge.
abbrev pub Has : BTreeMap ℤ ℕ → ℤ → ℕ → Type 0
Has lying edge place = get int_cmp lying edge ≡ Some place

-- The open metal is some of the first `at`, by its lower edges, and lies apart in y.
pub record AreOpen (all : List Metal) (lying : BTreeMap ℤ ℕ) (at : ℕ) : Type 0 where
  pub places : (edge : ℤ) (place : ℕ) → Has lying edge place → place < at
  pub edges : (edge : ℤ) (place : ℕ) (d : Metal) → Has lying edge place → (slice_index_or all place d).rect.y1 ≡ edge
  pub apart : (edge next : ℤ) (place other : ℕ) (d : Metal) → Has lying edge place → Has lying next other → edge <ℤ next
      → (slice_index_or all place d).rect.y2 <ℤ next

-- Metal before both `at` and `first` is open, or touches none from `at` on.
abbrev pub AreKept : List Metal → BTreeMap ℤ ℕ → ℕ → ℕ → Type 0
AreKept all lying first at = (i : ℕ) (d : Metal) → i < at → i < first
    → Has lying (slice_index_or all i d).rect.y1 i
    ⊎ ((j : ℕ) → at ≤ j → j < length all → Touch (slice_index_or all i d) (slice_index_or all j d) → ⊥)

-- `first` is the number of all, or a place before `at` that touches a later one.
abbrev pub IsFound : List Metal → ℕ → ℕ → Type 0
IsFound all first at = (first ≡ length all)
    ⊎ ((j : ℕ) × (first < at) × (first < j) × (j < length all)
    × ((d : Metal) → Touch (slice_index_or all first d) (slice_index_or all j d)))

-- No metal before `first` touches later metal before `at`.
abbrev pub NoneBefore : List Metal → ℕ → ℕ → Type 0
NoneBefore all first at = (i j : ℕ) (d : Metal) → i < j → j < at → i < first
    → Touch (slice_index_or all i d) (slice_index_or all j d) → ⊥

-- What is known while the metal at `at` is looked at.
pub record IsSweptTo (all : List Metal) (lying : BTreeMap ℤ ℕ) (first at : ℕ) : Type 0 where
  pub are : AreOpen all lying at
  pub kept : AreKept all lying first at
  pub none : NoneBefore all first at
  pub found : IsFound all first at

-- None of the open metal lies beside it any more.
abbrev pub NoneBeside : List Metal → BTreeMap ℤ ℕ → ℕ → Type 0
NoneBeside all lying at = (edge : ℤ) (place : ℕ) (d : Metal) → Has lying edge place
    → Beside (slice_index_or all place d) (slice_index_or all at d) → ⊥

-- The last of the open metal that begins by an edge.
pub record IsLastUpTo (lying : BTreeMap ℤ ℕ) (edge : ℤ) (last : ℤ × ℕ) : Type 0 where
  pub is : Has lying last.0 last.1
  pub by_edge : last.0 ≤ℤ edge
  pub none_later : (other : ℤ) (place : ℕ) → Has lying other place → other ≤ℤ edge → other ≤ℤ last.0

-- This open metal lies beside it.
pub record IsBeside (all : List Metal) (lying : BTreeMap ℤ ℕ) (at : ℕ) (edge : ℤ) (place : ℕ) : Type 0 where
  pub is : Has lying edge place
  pub beside : (d : Metal) → Beside (slice_index_or all place d) (slice_index_or all at d)

-- The least place that touches a later one, or the number of all.
pub record IsFirstPlace (all : List Metal) (first : ℕ) : Type 0 where
  pub none : NoneBefore all first (length all)
  pub found : IsFound all first (length all)

-- Metal by layer, and on one layer by rectangle.
abbrev pub metal_order : Metal → Metal → Ordering
metal_order a b = ordering_then
    (ordering_then (ordering_then (ordering_then (nat_cmp a.layer b.layer) (int_cmp a.rect.x1 b.rect.x1))
    (int_cmp a.rect.y1 b.rect.y1)) (int_cmp a.rect.x2 b.rect.x2)) (int_cmp a.rect.y2 b.rect.y2)

-- No metal is greater than a later one.
abbrev pub AreInOrder : List Metal → Type 0
AreInOrder all = (i j : ℕ) (d : Metal) → i ≤ j → j < length all
    → is_gt (metal_order (slice_index_or all i d) (slice_index_or all j d)) ≡ false

-- Metal with the rectangle of another on its layer, or with this second rectangle there.
abbrev pub IsTwin : Metal → Metal → Rect → Type 0
IsTwin m one second = (m.layer ≡ one.layer) × ((m.rect ≡ one.rect) ⊎ (m.rect ≡ second))

-- All such metal is of one net, or some is of another.
abbrev pub OneNet : List Metal → Metal → Rect → Type 0
OneNet all one second = (m : Metal) → Contains all m → IsTwin m one second → m.net ≡ one.net

abbrev pub OtherNet : List Metal → Metal → Rect → Type 0
OtherNet all one second = Among (λ m. IsTwin m one second × (m.net ≡ one.net → ⊥)) all

-- The least place that touches a later one, and the least later one that it touches.
pub record AreLeast (all : List Metal) (first second : ℕ) : Type 0 where
  pub behind : first < second
  pub within : second < length all
  pub none : NoneBefore all first (length all)
  pub between : (j : ℕ) (d : Metal) → first < j → j < second
      → Touch (slice_index_or all first d) (slice_index_or all j d) → ⊥
  pub touch : (d : Metal) → Touch (slice_index_or all first d) (slice_index_or all second d)
