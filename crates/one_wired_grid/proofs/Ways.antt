-- What goes well, or badly in one way: step by step.
use Rattle.std.proofs.Common.{◌≡◌, ◌⊎◌, inl, inr, subst, sym, ◌∙◌}

-- It does not go well and badly, and badly in one way at most.
pub record One {E : Type 0} (Well : Type 0) (Badly : E → Type 0) : Type 0 where
  pub apart : (e : E) → Well → Badly e → ⊥
  pub one : (e f : E) → Badly e → Badly f → e ≡ f

-- The two parts of a pair.
pub left : {A B : Type 0} → A × B → A
left (a, b) = a

pub right : {A B : Type 0} → A × B → B
right (a, b) = b

-- A second step is gone after the first went well.
abbrev pub Then : {E : Type 0} → (E → Type 0) → Type 0 → (E → Type 0) → E → Type 0
Then B W C e = B e ⊎ (W × C e)

pub and_then : {E : Type 0} (W V : Type 0) (B C : E → Type 0) → One W B → One V C → One (W × V) (Then B W C)
and_then {E} W V B C first second = record { apart = apart; one = one }
  where
    apart : (e : E) → W × V → Then B W C e → ⊥
    apart e well (inl bad) = first.apart e well.0 bad
    apart e well (inr bad) = second.apart e well.1 bad.1

    one : (e f : E) → Then B W C e → Then B W C f → e ≡ f
    one e f (inl a) (inl b) = first.one e f a b
    one e f (inl a) (inr b) = absurd (first.apart e b.0 a)
    one e f (inr a) (inl b) = absurd (first.apart f a.0 b)
    one e f (inr a) (inr b) = second.one e f a.1 b.1

-- A step over what there is one of.
abbrev pub Over : {X : Type 0} → (X → Type 0) → (X → Type 0) → Type 0
Over {X} Is W = (x : X) × Is x × W x

abbrev pub BadOver : {E X : Type 0} → (X → Type 0) → (X → E → Type 0) → E → Type 0
BadOver {X = X} Is B e = (x : X) × Is x × B x e

pub over : {E X : Type 0} (Is : X → Type 0) (W : X → Type 0) (B : X → E → Type 0) → ((x y : X) → Is x → Is y → x ≡ y) → ((x : X) → Is x → One (W x) (B x))
    → One (Over Is W) (BadOver Is B)
over Is W B same each = record {
  apart = λ e well bad. (each well.0 well.1).apart e well.2 (subst (λ x. B x e) (sym (same well.0 bad.0 well.1 bad.1)) bad.2);
  one = λ e f a b. (each a.0 a.1).one e f a.2 (subst (λ x. B x f) (sym (same a.0 b.0 a.1 b.1)) b.2);
}

-- A step that goes badly in a way that is told.
pub told : {E : Type 0} (W V : Type 0) (e : E) → (W → V → ⊥) → One W (λ f. V × (f ≡ e))
told W V e not_both = record { apart = λ f well bad. not_both well bad.0; one = λ f g a b. a.1 ∙ sym b.1 }
