-- Whether a current that is known to lie in an interval keeps its limit.
use Rattle.std.specs.Prelude.{ℕ, ◌≤◌, ℤ, pos, neg_ℤ, ◌*ℤ◌, ◌≤ℤ◌, int_le, int_lt, ◌&&◌, ◌||◌, if◌then◌else◌, Option, Some, None}
use Rattle.em_rules.specs.declared.words.Verdict.{Verdict}
use Rattle.em_rules.specs.declared.words.Verdict.TheVariants.{Safe, Unsafe, Undecided, NoLimit}

-- The number z / q lies in the interval from low to high, ends included.
pub record LiesIn (low high : ℤ) (q : ℕ) (z : ℤ) : Type 0 where
  pub from : (pos q *ℤ low) ≤ℤ z
  pub to : z ≤ℤ (pos q *ℤ high)

-- The current z / q keeps a limit, in whichever direction it flows: its magnitude is at most the limit.
abbrev pub KeepsLimit : ℕ → ℕ → ℤ → Type 0
KeepsLimit limit q z = LiesIn (neg_ℤ (pos limit)) (pos limit) q z

-- Each current of the interval keeps the limit, over any denominator.
abbrev pub EachKeeps : ℤ → ℤ → ℕ → Type 0
EachKeeps low high limit = (q : ℕ) (z : ℤ) → 1 ≤ q → LiesIn low high q z → KeepsLimit limit q z

-- No current of the interval keeps the limit.
abbrev pub NoneKeeps : ℤ → ℤ → ℕ → Type 0
NoneKeeps low high limit = (q : ℕ) (z : ℤ) → 1 ≤ q → LiesIn low high q z → ¬ KeepsLimit limit q z

-- What the interval says of a limit.
abbrev pub IsVerdict : ℤ → ℤ → Option ℕ → Verdict → Type 0
IsVerdict low high None Safe = ⊥
IsVerdict low high None Unsafe = ⊥
IsVerdict low high None Undecided = ⊥
IsVerdict low high None NoLimit = Unit {0}
IsVerdict low high (Some limit) Safe = EachKeeps low high limit
IsVerdict low high (Some limit) Unsafe = NoneKeeps low high limit
IsVerdict low high (Some limit) Undecided = (¬ EachKeeps low high limit) × (¬ NoneKeeps low high limit)
IsVerdict low high (Some limit) NoLimit = ⊥

-- The same by the ends of the interval.
abbrev pub verdict_by_ends : ℤ → ℤ → Option ℕ → Verdict
verdict_by_ends low high None = NoLimit
verdict_by_ends low high (Some limit) =
    if int_le (neg_ℤ (pos limit)) low && int_le high (pos limit) then Safe else
    if int_lt high (neg_ℤ (pos limit)) || int_lt (pos limit) low then Unsafe else Undecided
