-- What a word says, or the fault that it shows by its kind.
use Rattle.std.specs.Prelude.{ℕ, Option, Some, None, Result, Ok, Err}
use Rattle.reading.specs.declared.refusal.Found.{Found}

-- The kind that is found, or that there is none.
abbrev pub Finds : {K : Type 0} → (K → Type 0) → Option K → Type 0
Finds {K} shows None = (kind : K) → shows kind → ⊥
Finds shows (Some kind) = shows kind

-- The value that is found, where there is no kind that is shown; or the kind.
abbrev pub FindsValue : {V K : Type 0} → (K → Type 0) → (V → Type 0) → Result V K → Type 0
FindsValue {K = K} shows says (Ok value) = ((kind : K) → shows kind → ⊥) × says value
FindsValue shows says (Err kind) = shows kind

-- The value, or the fault of this kind at the word that has n words of its unit before it.
abbrev pub told_at : {V K : Type 0} → ℕ → Result V K → Result V (Found K)
told_at n (Ok value) = Ok value
told_at n (Err kind) = Err (record { at = n; kind = kind })
