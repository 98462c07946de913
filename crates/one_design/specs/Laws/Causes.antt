-- Causes of answers that come one after the other.
use Rattle.std.proofs.Common.{◌≡◌, ◌≢◌, ◌⊎◌, inl, inr}
use Rattle.answers.specs.declared.answer.Answer.{Answer}
use Rattle.answers.specs.declared.answer.Answer.TheVariants.{Want}

-- Answers of one kind are one; an answer of the one kind is want of memory where there is one of the other.
abbrev pub One : (Answer → Type 0) → Type 0
One P = (a b : Answer) → a ≢ Want → b ≢ Want → P a → P b → a ≡ b

abbrev pub Apart : (P Q : Answer → Type 0) → Type 0
Apart P Q = (a b : Answer) → P a → Q b → a ≡ Want

pub one_of_two : (P Q : Answer → Type 0) → One P → One Q → Apart P Q → One (λ a. P a ⊎ Q a)
one_of_two P Q one_p one_q apart a b some_a some_b (inl x) (inl y) = one_p a b some_a some_b x y
one_of_two P Q one_p one_q apart a b some_a some_b (inl x) (inr y) = absurd (some_a (apart a b x y))
one_of_two P Q one_p one_q apart a b some_a some_b (inr x) (inl y) = absurd (some_b (apart b a y x))
one_of_two P Q one_p one_q apart a b some_a some_b (inr x) (inr y) = one_q a b some_a some_b x y

-- Four causes that come one after the other.
pub one_of_four : (A B C D : Answer → Type 0) → One A → One B → One C → One D → Apart A (λ a. B a ⊎ (C a ⊎ D a)) → Apart B (λ a. C a ⊎ D a) → Apart C D → One (λ a. A a ⊎ (B a ⊎ (C a ⊎ D a)))
one_of_four A B C D one_a one_b one_c one_d a_before b_before c_before =
    let last : One (λ a. C a ⊎ D a) = one_of_two C D one_c one_d c_before in
    let later : One (λ a. B a ⊎ (C a ⊎ D a)) = one_of_two B (λ a. C a ⊎ D a) one_b last b_before in
    one_of_two A (λ a. B a ⊎ (C a ⊎ D a)) one_a later a_before
