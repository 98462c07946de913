-- What it tells that a name is among others.
use Rattle.std.proofs.Common.{◌≡◌, ◌↔◌, IsTrue, ℕ, ◌⊎◌, inl, inr, Bool, true, false, ◌||◌, List, [], ◌∷◌, Contains, refl, sym, ◌∙◌, ap, subst, arith}
use Rattle.std.proofs.Math.Bool.{or-true}
use Rattle.std.proofs.lemmas.Slice.Eq.{bytes_eq-Decides}
use Rattle.std.specs.Str.{bytes_eq}
use Rattle.name_table.specs.Laws.{member_cases, member_head, member_tail}
use Rattle.list_laws.specs.Among.{is_among}

pub no_member : {X : Type 0} (x : X) → Contains [] x → ⊥
no_member x (k, h, e) = absurd (omega arith)

or_left : (a b : Bool) → a ≡ true → (a || b) ≡ true
or_left true b h = refl
or_left false b h = absurd (let t : false ≡ true = h in cc)

or_right : (a b : Bool) → b ≡ true → (a || b) ≡ true
or_right a b h = ap (λ z. a || z) h ∙ or-true a

or_cases : (a b : Bool) → (a || b) ≡ true → (a ≡ true) ⊎ (b ≡ true)
or_cases true b h = inl refl
or_cases false b h = inr h

-- A member is among them.
pub among : (names : List (List ℕ)) (name : List ℕ) → Contains names name → is_among names name ≡ true
among [] name there = absurd (no_member name there)
among (x ∷ names) name there = elim (member_cases x names name there) [
  | inl e ↦ or_left (bytes_eq name x) (is_among names name) ((bytes_eq-Decides name x).1 (sym e))
  | inr rest ↦ or_right (bytes_eq name x) (is_among names name) (among names name rest)
]

-- What is among them is a member.
pub member : (names : List (List ℕ)) (name : List ℕ) → is_among names name ≡ true → Contains names name
member [] name h = absurd (let t : false ≡ true = h in cc)
member (x ∷ names) name h = elim (or_cases (bytes_eq name x) (is_among names name) h) [
  | inl e ↦ subst (λ z. Contains (x ∷ names) z) (sym ((bytes_eq-Decides name x).0 e)) (member_head x names)
  | inr rest ↦ member_tail x names name (member names name rest)
]

told_by : (names : List (List ℕ)) (name : List ℕ) (there test : Bool) → is_among names name ≡ test → IsTrue there ↔ Contains names name → there ≡ test
told_by names name true true e tells = refl
told_by names name false false e tells = refl
told_by names name true false e tells = absurd (let t : true ≡ false = sym (among names name (tells.0 refl)) ∙ e in cc)
told_by names name false true e tells = absurd (let t : false ≡ true = tells.1 (member names name e) in cc)

-- An answer that tells of membership is the test.
pub told : (names : List (List ℕ)) (name : List ℕ) (there : Bool) → IsTrue there ↔ Contains names name → there ≡ is_among names name
told names name there tells = told_by names name there (is_among names name) refl tells
