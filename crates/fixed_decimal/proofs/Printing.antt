-- Texts that are appended piece by piece.
use Rattle.std.proofs.Common.{◌≡◌, ℕ, ◌≤◌, List, ◌++◌, length, take, arith, ap, sym, ◌∙◌, refl, subst, Result, Ok, Err}
use Rattle.std.specs.Prelude.{OnOk, OnErr, is_ok, if◌then◌else◌}
use Rattle.std.proofs.lemmas.List.{take-take, take_at, length-append}

-- A value that is known, with a fact of what was written.
pub ok_with : {T X E : Type 0} (P Q : X → Type 0) (r : Result T E) (q : X) → P q → OnOk r (Q q) → OnOk r ((x : X) × P x × Q x)
ok_with P Q (Ok t) q p h = (q, p, h)
ok_with P Q (Err e) q p h = tt

-- What was there stays at the front of what has grown.
pub still_there : {T E : Type 0} (old more new : List ℕ) (r : Result T E) → OnErr r (take (length (old ++ more)) new ≡ old ++ more) → OnErr r (take (length old) new ≡ old)
still_there old more new (Ok t) h = h
still_there old more new (Err e) h =
    let fits : length old ≤ length (old ++ more) = omega (arith, length-append old more) in
    sym (take-take (length old) (length (old ++ more)) new fits) ∙ (ap (take (length old)) h ∙ take_at old more (length old) refl)

pub still_there_in : {T E : Type 0} (old more new whole : List ℕ) (r : Result T E) → whole ≡ old ++ more → OnErr r (take (length whole) new ≡ whole) → OnErr r (take (length old) new ≡ old)
still_there_in old more new whole r e h =
    let P : List ℕ → Type 0 = λ x. OnErr r (take (length x) new ≡ x) in
    still_there old more new r (subst P e h)

-- What a call that may fail wrote where it did not.
pub written_on_ok : {T E : Type 0} (r : Result T E) (new a b c : List ℕ) → new ≡ (if is_ok r then a else b) → a ≡ c → OnOk r (new ≡ c)
written_on_ok (Ok t) new a b c e f = e ∙ f
written_on_ok (Err x) new a b c e f = tt
