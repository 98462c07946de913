-- What the reader needs of options, inside this crate.
use Rattle.command_words.specs.declared.command.Command.{Command}
use Rattle.command_words.specs.declared.command.Command.TheVariants.{Build, Solve, Step, Signoff, Generate}
use Rattle.std.specs.Prelude.{◌≡◌, [], ◌∷◌, ℕ, List, map}
use Rattle.std.specs.Borrow.{Bor}

abbrev pub texts : List (Bor (List ℕ)) → List (List ℕ)
texts words = map (λ word. word.now) words

-- The command of the values of its options.
abbrev pub IsBuildOf : List (List ℕ) → Command → Type 0
IsBuildOf values (Build a b c d e f g h i) = values ≡ a ∷ b ∷ c ∷ d ∷ e ∷ f ∷ g ∷ h ∷ i ∷ []
IsBuildOf values command = ⊥

abbrev pub IsSignoffOf : List (List ℕ) → Command → Type 0
IsSignoffOf values (Signoff a b c d e f g h) = values ≡ a ∷ b ∷ c ∷ d ∷ e ∷ f ∷ g ∷ h ∷ []
IsSignoffOf values command = ⊥

abbrev pub IsSolveOf : List (List ℕ) → Command → Type 0
IsSolveOf values (Solve a b c) = values ≡ a ∷ b ∷ c ∷ []
IsSolveOf values command = ⊥

abbrev pub IsGenerateOf : List (List ℕ) → ℕ → ℕ → Command → Type 0
IsGenerateOf values number side (Generate n s a b c d e) =
    (x : List ℕ) × (y : List ℕ) × (values ≡ x ∷ y ∷ a ∷ b ∷ c ∷ d ∷ e ∷ []) × (n ≡ number) × (s ≡ side)
IsGenerateOf values number side command = ⊥

abbrev pub IsStepOf : List (List ℕ) → ℕ → ℕ → Command → Type 0
IsStepOf values time steps (Step a b t s c d) =
    (x : List ℕ) × (y : List ℕ) × (values ≡ x ∷ y ∷ a ∷ b ∷ c ∷ d ∷ []) × (t ≡ time) × (s ≡ steps)
IsStepOf values time steps command = ⊥
