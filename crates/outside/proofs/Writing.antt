-- How the writing of a file goes on.
use Rattle.std.proofs.Common.{ℕ, ◌+◌, List, [], ◌++◌, take, drop, Option, Some, None, sym, ◌∙◌, ap}
use Rattle.std.specs.Prelude.{unwrap_or}
use Rattle.std.proofs.Math.Seq.{take-add}
use Rattle.outside.specs.Files.{Holdings, Appends, HoldsAll}
use Rattle.outside.specs.Known.{WhereKnown}

-- The file of the name holds the first of these bytes.
abbrev pub Written : List ℕ → List ℕ → ℕ → Option Holdings → Option Holdings → Type 0
Written name bytes added old new = WhereKnown (HoldsAll name (take added bytes)) old new

-- One append more.
pub more_written : (name bytes : List ℕ) (added n : ℕ) (first old new : Option Holdings) → Written name bytes added first old → WhereKnown (Appends name (drop added bytes) n) old new → Written name bytes (added + n) first new
more_written name bytes added n None None None so_far one = tt
more_written name bytes added n (Some a) (Some b) (Some c) so_far one = record {
  named = one.named ∙ ap (λ (o : Option (List ℕ)). Some (unwrap_or o [] ++ take n (drop added bytes))) so_far.named ∙ ap (λ (l : List ℕ). Some l) (sym (take-add added n bytes));
  others = λ other differs. one.others other differs ∙ so_far.others other differs;
}
more_written name bytes added n None None (Some c) so_far one = absurd one
more_written name bytes added n None (Some b) c so_far one = absurd so_far
more_written name bytes added n (Some a) None c so_far one = absurd so_far
more_written name bytes added n (Some a) (Some b) None so_far one = absurd one
