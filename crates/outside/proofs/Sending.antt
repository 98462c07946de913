-- How a run of writes goes on.
use Rattle.std.proofs.Common.{ℕ, ◌+◌, List, ◌++◌, take, drop, Option, Some, None, sym, ◌∙◌, ap, append_assoc}
use Rattle.std.proofs.Math.Seq.{take-add}
use Rattle.outside.specs.Known.{WhereKnown}
use Rattle.outside.specs.Sink.{Adds}

-- The first bytes of these were added.
abbrev pub Sent : List ℕ → ℕ → Option (List ℕ) → Option (List ℕ) → Type 0
Sent bytes sent old new = WhereKnown (Adds (take sent bytes)) old new

-- One write more.
pub more_sent : (bytes : List ℕ) (sent n : ℕ) (first old new : Option (List ℕ)) → Sent bytes sent first old → Sent (drop sent bytes) n old new → Sent bytes (sent + n) first new
more_sent bytes sent n None None None so_far one = tt
more_sent bytes sent n (Some a) (Some b) (Some c) so_far one =
    one ∙ ap (λ (l : List ℕ). l ++ take n (drop sent bytes)) so_far ∙ append_assoc a (take sent bytes) (take n (drop sent bytes)) ∙ ap (λ (l : List ℕ). a ++ l) (sym (take-add sent n bytes))
more_sent bytes sent n None None (Some c) so_far one = absurd one
more_sent bytes sent n None (Some b) c so_far one = absurd so_far
more_sent bytes sent n (Some a) None c so_far one = absurd so_far
more_sent bytes sent n (Some a) (Some b) None so_far one = absurd one
