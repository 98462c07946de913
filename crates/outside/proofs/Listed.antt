-- The first entry of a name, and what a changed or a further entry leaves.
use Rattle.std.proofs.Common.{◌≡◌, ◌≢◌, ℕ, zero, suc, Bool, true, false, List, [], ◌∷◌, ◌++◌, length, get_or, set, Option, Some, None, refl, sym, ◌∙◌, ap, subst, arith, length-append}
use Rattle.std.specs.Prelude.{bytes_eq, if◌then◌else◌}
use Rattle.std.proofs.Math.ListN.{get_or-append}
use Rattle.std.proofs.Math.Seq.{get_or-append_seam}
use Rattle.std.proofs.lemmas.Bool.{false_from_ne_true}
use Rattle.std.proofs.lemmas.Slice.Eq.{bytes_eq-Decides}
use Rattle.outside.specs.Entries.{value_under}
use Rattle.outside.specs.inside.Entries.{IsFirstPlace, IsAbsent}

equal : (a b : List ℕ) → a ≡ b → bytes_eq a b ≡ true
equal a b is = (bytes_eq-Decides a b).1 is

apart : (a b : List ℕ) → a ≢ b → bytes_eq a b ≡ false
apart a b are = false_from_ne_true (bytes_eq a b) (λ same. are ((bytes_eq-Decides a b).0 same))

-- What holds of one name and of all others holds of each.
pub by_name : (P : List ℕ → Type 0) (name : List ℕ) → P name → ((other : List ℕ) → other ≢ name → P other) → (any : List ℕ) → P any
by_name P name named others any = by_case (bytes_eq any name) refl
  where
    by_case : (b : Bool) → bytes_eq any name ≡ b → P any
    by_case true is = subst P (sym ((bytes_eq-Decides any name).0 is)) named
    by_case false is = others any (λ same. let clash = sym is ∙ equal any name same in cc)

module _ {V : Type 0} where
  -- The first entry has the name.
  here : (entry : List ℕ × V) (entries : List (List ℕ × V)) (name : List ℕ) → entry.0 ≡ name → value_under (entry ∷ entries) name ≡ Some entry.1
  here entry entries name is = ap (λ b. if b then Some entry.1 else value_under entries name) (equal entry.0 name is)

  -- The first entry has another name.
  there : (entry : List ℕ × V) (entries : List (List ℕ × V)) (name : List ℕ) → entry.0 ≢ name → value_under (entry ∷ entries) name ≡ value_under entries name
  there entry entries name other = ap (λ b. if b then Some entry.1 else value_under entries name) (apart entry.0 name other)

  after_first : (first : List ℕ × V) (entries : List (List ℕ × V)) (name : List ℕ) (place : ℕ) → IsFirstPlace (first ∷ entries) name (suc place) → IsFirstPlace entries name place
  after_first first entries name place at = record {
    within = omega (arith, at.within);
    named = λ entry. at.named entry;
    before = λ k entry lt. at.before (suc k) entry (omega arith);
  }

  pub value_under-present : (entries : List (List ℕ × V)) (name : List ℕ) (place : ℕ) (entry : List ℕ × V) → IsFirstPlace entries name place → value_under entries name ≡ Some (get_or entries place entry).1
  value_under-present [] name place entry at = absurd (omega (arith, at.within))
  value_under-present (first ∷ entries) name zero entry at = here first entries name (at.named entry)
  value_under-present (first ∷ entries) name (suc place) entry at =
      there first entries name (at.before 0 entry (omega arith)) ∙ value_under-present entries name place entry (after_first first entries name place at)

  pub value_under-absent : (entries : List (List ℕ × V)) (name : List ℕ) → IsAbsent entries name → value_under entries name ≡ None
  value_under-absent [] name none = refl
  value_under-absent (first ∷ entries) name none =
      there first entries name (none 0 first (omega arith)) ∙ value_under-absent entries name (λ k entry lt. none (suc k) entry (omega arith))

  pub value_under-set_named : (entries : List (List ℕ × V)) (name : List ℕ) (place : ℕ) (entry : List ℕ × V) → IsFirstPlace entries name place → entry.0 ≡ name → value_under (set entries place entry) name ≡ Some entry.1
  value_under-set_named [] name place entry at is = absurd (omega (arith, at.within))
  value_under-set_named (first ∷ entries) name zero entry at is = here entry entries name is
  value_under-set_named (first ∷ entries) name (suc place) entry at is =
      there first (set entries place entry) name (at.before 0 entry (omega arith)) ∙ value_under-set_named entries name place entry (after_first first entries name place at) is

  same_after : (first : List ℕ × V) (some others : List (List ℕ × V)) (name : List ℕ) → value_under some name ≡ value_under others name → value_under (first ∷ some) name ≡ value_under (first ∷ others) name
  same_after first some others name same = ap (λ (o : Option V). if bytes_eq first.0 name then Some first.1 else o) same

  pub value_under-set_other : (entries : List (List ℕ × V)) (name : List ℕ) (place : ℕ) (entry : List ℕ × V) (other : List ℕ) → IsFirstPlace entries name place → entry.0 ≡ name → other ≢ name → value_under (set entries place entry) other ≡ value_under entries other
  value_under-set_other [] name place entry other at is apart = absurd (omega (arith, at.within))
  value_under-set_other (first ∷ entries) name zero entry other at is apart =
      there entry entries other (λ same. apart (sym same ∙ is)) ∙ sym (there first entries other (λ same. apart (sym same ∙ at.named entry)))
  value_under-set_other (first ∷ entries) name (suc place) entry other at is apart =
      same_after first (set entries place entry) entries other (value_under-set_other entries name place entry other (after_first first entries name place at) is apart)

  pub value_under-push_named : (entries : List (List ℕ × V)) (name : List ℕ) (entry : List ℕ × V) → IsAbsent entries name → entry.0 ≡ name → value_under (entries ++ entry ∷ []) name ≡ Some entry.1
  value_under-push_named [] name entry none is = here entry [] name is
  value_under-push_named (first ∷ entries) name entry none is =
      there first (entries ++ entry ∷ []) name (none 0 first (omega arith)) ∙ value_under-push_named entries name entry (λ k e lt. none (suc k) e (omega arith)) is

  pub value_under-push_other : (entries : List (List ℕ × V)) (name : List ℕ) (entry : List ℕ × V) (other : List ℕ) → entry.0 ≡ name → other ≢ name → value_under (entries ++ entry ∷ []) other ≡ value_under entries other
  value_under-push_other [] name entry other is apart = there entry [] other (λ same. apart (sym same ∙ is))
  value_under-push_other (first ∷ entries) name entry other is apart =
      same_after first (entries ++ entry ∷ []) entries other (value_under-push_other entries name entry other is apart)

  -- A further entry is the first of its name, where there was none.
  pub first_place-push : (entries : List (List ℕ × V)) (name : List ℕ) (entry : List ℕ × V) → IsAbsent entries name → entry.0 ≡ name → IsFirstPlace (entries ++ entry ∷ []) name (length entries)
  first_place-push entries name entry none is = record {
    within = omega (arith, length-append entries (entry ∷ []));
    named = λ d. ap (λ (e : List ℕ × V). e.0) (get_or-append_seam entries entry [] d) ∙ is;
    before = λ k d lt. let there = get_or-append entries (entry ∷ []) d k lt in subst (λ (e : List ℕ × V). e.0 ≢ name) (sym there) (none k d lt);
  }
