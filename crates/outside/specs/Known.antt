-- What may be known of the outside: a meaning, or nothing.
use Rattle.std.specs.Prelude.{Option, Some, None}

-- Before and after a call as much is known: nothing both times, or two meanings of which the second follows on the
-- first by this step.
abbrev pub WhereKnown : {M : Type 0} → (M → M → Type 0) → Option M → Option M → Type 0
WhereKnown step None None = Unit {0}
WhereKnown step (Some old) (Some new) = step old new
WhereKnown step None (Some new) = ⊥
WhereKnown step (Some old) None = ⊥
