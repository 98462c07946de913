-- The greatest level of the nodes looked at so far.
use Rattle.std.proofs.Common.{◌≡◌, ◌⊎◌, inl, inr, ℕ, ◌+◌, ◌<◌, ◌≤◌, max, arith, subst, sym, Option, Some, None, unwrap_or}
use Rattle.std.proofs.lemmas.Bool.{cases_eq, cases_lt}
use Rattle.grid_net.specs.Network.{Network}
use Rattle.grid_net.specs.Level.{IsLevel, LevelIs, IsSupplied}

-- A supplied node has the level that is told.
pub level_told : (net : Network) (i : ℕ) (o : Option ℕ) → LevelIs net i o → IsSupplied net i → IsLevel net i (unwrap_or o 0)
level_told net i (Some k) level supplied = level
level_told net i None level supplied = absurd (level supplied.0 supplied.1)

module _ (net : Network) (n greatest k now : ℕ) (level : IsLevel net n k) (is : now ≡ max k greatest) where
  pub each_next : ((i : ℕ) → i < n → (m : ℕ) × (m ≤ greatest) × IsLevel net i m) → (i : ℕ) → i < n + 1 → (m : ℕ) × (m ≤ now) × IsLevel net i m
  each_next each i l = elim (cases_eq i n) [
    | inl e ↦ (k, omega (arith, is), subst (λ (j : ℕ). IsLevel net j k) (sym e) level)
    | inr ne ↦ (let m = each i (omega arith) in (m.0, omega (arith, is, m.1), m.2))
  ]

  pub met_next : ((n ≡ 0) × (greatest ≡ 0)) ⊎ ((i : ℕ) × (i < n) × IsLevel net i greatest) → ((n + 1 ≡ 0) × (now ≡ 0)) ⊎ ((i : ℕ) × (i < n + 1) × IsLevel net i now)
  met_next met = elim (cases_lt k greatest) [
    | inl below ↦ elim met [
      | inl none ↦ absurd (omega (arith, below, none.1))
      | inr some ↦ (let same : greatest ≡ now = omega (arith, is, below) in inr (some.0, omega (arith, some.1), subst (λ (m : ℕ). IsLevel net some.0 m) same some.2))
    ]
    | inr above ↦ (let same : k ≡ now = omega (arith, is, above) in inr (n, omega arith, subst (λ (m : ℕ). IsLevel net n m) same level))
  ]
