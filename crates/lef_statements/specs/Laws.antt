-- One more unit after others: in the last block, and among those of which the first counts.
use Rattle.std.proofs.Common.{◌≡◌, Bool, true, false, cond, List, [], ◌∷◌, ◌++◌, Option, Some, None, refl, ◌∙◌, ap}
use Rattle.lef_statements.specs.First.{first_with}
use Rattle.reading.specs.Blocks.{Block, blocks, with_unit}
use Rattle.reading.specs.Laws.{blocks-body}

-- The block with one more unit.
abbrev pub extended : {W : Type 0} → Block W → List W → Block W
extended block unit = record { head = block.head; body = block.body ++ unit ∷ [] }

last-extended : {W : Type 0} (done : List (Block W)) (last : Block W) (unit : List W) →
    with_unit (done ++ last ∷ []) unit ≡ done ++ extended last unit ∷ []
last-extended [] last unit = refl
last-extended (b ∷ []) last unit = refl
last-extended (b ∷ d ∷ done) last unit = ap (λ z. b ∷ z) (last-extended (d ∷ done) last unit)

-- Where there is no block, a unit that is no head begins none.
pub blocks-none : {W : Type 0} (is_head : List W → Bool) (units : List (List W)) (unit : List W) →
    is_head unit ≡ false → blocks is_head units ≡ [] →
    blocks is_head (units ++ unit ∷ []) ≡ []
blocks-none is_head units unit body none = blocks-body is_head units unit body ∙ ap (λ z. with_unit z unit) none

-- A unit that is no head goes to the last block.
pub blocks-last : {W : Type 0} (is_head : List W → Bool) (units : List (List W)) (unit : List W)
    (done : List (Block W)) (last : Block W) → is_head unit ≡ false →
    blocks is_head units ≡ done ++ last ∷ [] →
    blocks is_head (units ++ unit ∷ []) ≡ done ++ extended last unit ∷ []
blocks-last is_head units unit done last body is =
    blocks-body is_head units unit body ∙ (ap (λ z. with_unit z unit) is ∙ last-extended done last unit)

-- The first unit that is so stays the first.
pub first-stays : {U : Type 0} (test : U → Bool) (us : List U) (u first : U) →
    first_with test us ≡ Some first → first_with test (us ++ u ∷ []) ≡ Some first
first-stays test [] u first e = absurd (let t : None ≡ Some first = e in cc)
first-stays test (x ∷ us) u first e =
    elim (test x) as (λ b. cond b (Some x) (first_with test us) ≡ Some first →
    cond b (Some x) (first_with test (us ++ u ∷ [])) ≡ Some first)
    [ true ↦ λ h. h | false ↦ λ h. first-stays test us u first h ] e

-- Where none is so, it is the new one that may be.
pub first-more : {U : Type 0} (test : U → Bool) (us : List U) (u : U) →
    first_with test us ≡ None → first_with test (us ++ u ∷ []) ≡ cond (test u) (Some u) None
first-more test [] u e = refl
first-more {U} test (x ∷ us) u e =
    elim (test x) as (λ b. cond b (Some x) (first_with test us) ≡ None →
    cond b (Some x) (first_with test (us ++ u ∷ [])) ≡ cond (test u) (Some u) None) [
      | true ↦ λ h. absurd (let t : ◌≡◌ {A = Option U} (Some x) None = h in cc)
      | false ↦ λ h. first-more test us u h
    ] e

-- A unit that is not so changes nothing.
pub first-same : {U : Type 0} (test : U → Bool) (us : List U) (u : U) → test u ≡ false →
    first_with test (us ++ u ∷ []) ≡ first_with test us
first-same test [] u other = ap (λ b. cond b (Some u) None) other
first-same test (x ∷ us) u other = ap (λ z. cond (test x) (Some x) z) (first-same test us u other)
