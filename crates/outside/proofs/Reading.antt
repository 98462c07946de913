-- How a run of reads goes on.
use Rattle.std.proofs.Common.{◌≡◌, ℕ, ◌+◌, ◌≤◌, List, ◌++◌, length, take, Option, Some, None, sym, ◌∙◌, ap, subst, arith, append_assoc, length-take}
use Rattle.std.specs.Prelude.{IfSome}
use Rattle.std.proofs.lemmas.List.{take-take, take-append-le}
use Rattle.std.proofs.Math.Seq.{take-add, take-append-add}
use Rattle.outside.specs.Files.{Holdings, bytes_in, IsReadAt}

-- The first bytes of a buffer are those of the file, where they are known.
abbrev pub HasRead : Option Holdings → List ℕ → ℕ → List ℕ → Type 0
HasRead known name filled items = IfSome known (λ held. take filled items ≡ take filled (bytes_in held name))

-- What the buffer begins with after a read into its back part.
front_after : (filled n size : ℕ) (room into past tail : List ℕ) → filled ≤ length room → n ≤ length into → filled + n ≤ size → take (filled + n) (take size ((take filled room ++ (into ++ past)) ++ tail)) ≡ take filled room ++ take n into
front_after filled n size room into past tail fits read within =
    let long : length (take filled room) ≡ filled = omega (arith, length-take filled room) in
    let joined : (take filled room ++ (into ++ past)) ++ tail ≡ take filled room ++ (into ++ (past ++ tail)) = simp append_assoc in
    take-take (filled + n) size _ within
    ∙ ap (λ (l : List ℕ). take (filled + n) l) joined
    ∙ ap (λ k. take (k + n) (take filled room ++ (into ++ (past ++ tail)))) (sym long)
    ∙ take-append-add (take filled room) (into ++ (past ++ tail)) n
    ∙ ap (λ (l : List ℕ). take filled room ++ l) (take-append-le n into (past ++ tail) read)

-- One read more: the buffer had the first bytes, was given room, and its back part was read into.
pub more_read : (first known : Option Holdings) (name before room into past tail : List ℕ) (filled n size : ℕ)
    → known ≡ first → HasRead first name filled before → take filled room ≡ take filled before → filled ≤ length room → n ≤ length into → filled + n ≤ size
    → IfSome known (λ held. IsReadAt (bytes_in held name) filled n into)
    → HasRead first name (filled + n) (take size ((take filled room ++ (into ++ past)) ++ tail))
more_read None known name before room into past tail filled n size same so_far kept fits read within one = tt
more_read (Some held) known name before room into past tail filled n size same so_far kept fits read within one =
    let piece : IsReadAt (bytes_in held name) filled n into = subst (λ (o : Option Holdings). IfSome o (λ h. IsReadAt (bytes_in h name) filled n into)) same one in
    let text = bytes_in held name in
    front_after filled n size room into past tail fits read within
    ∙ ap (λ (l : List ℕ). l ++ take n into) (kept ∙ so_far)
    ∙ ap (λ (l : List ℕ). take filled text ++ l) piece.read
    ∙ sym (take-add filled n text)
