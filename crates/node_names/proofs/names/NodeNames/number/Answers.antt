use Rattle.std.proofs.Common.{◌≡◌, ℕ, List, Contains, Some, slice_get, length, ap, sym, subst, ◌∙◌, inl, refl, arith}
use Rattle.std.proofs.lemmas.List.{length-map}
use Rattle.name_table.specs.Numbering.{TakesName, AreDistinct}
use Rattle.node_names.specs.Folding.{folded}
use Rattle.node_names.specs.inside.Keys.{name_in, names_in}
use Rattle.node_names.proofs.KeyLemmas.{names_are_distinct, is_there, is_new, takes, name_there, name_at_first}
use Rattle.node_names.proofs.names.NodeNames.number.Goals as goal

pub returns-in_default-clause-full : goal.returns-in_default-clause-full
returns-in_default-clause-full c =
    let count : length c.args.self.now ≡ length (names_in c.self.inside.keys.keys) = ap length (sym c.self.view_is) in
    let none = is_new name_in (folded c.args.name.now) c.self.inside.keys.keys (sym c.in_default.ensures.found) in
    let N : List (List ℕ) → Type 0 = λ names. Contains names (folded c.args.name.now) → ⊥ in
    (λ _. (omega (arith, count, length-map c.self.inside.keys.keys name_in, c.len.ensures.len, c.if-len-eq-MOST_NAMES.true), subst N c.self.view_is none), λ _. refl)

pub returns-in_default-clause-distinct : goal.returns-in_default-clause-distinct
returns-in_default-clause-distinct c =
    subst AreDistinct c.self.view_is (names_are_distinct name_in c.self.inside.keys.keys c.len.ensures.unique)

pub returns-then-len-eq-MOST_NAMES-clause-number :
    goal.returns-then-len-eq-MOST_NAMES-clause-number
returns-then-len-eq-MOST_NAMES-clause-number c =
    let P : List (List ℕ) → Type 0 = λ names. slice_get names c.in-Some.number ≡ Some (folded c.args.name.now) in
    subst P c.self.view_is (name_at_first name_in c.self.inside.keys.keys c.in-Some.number (record { name = c.args.name; head = c.head_of.result; begun = c.head_of.ensures }) (sym c.in-Some.ensures.index))

pub returns-then-len-eq-MOST_NAMES-clause-taken : goal.returns-then-len-eq-MOST_NAMES-clause-taken
returns-then-len-eq-MOST_NAMES-clause-taken c =
    let P : List (List ℕ) → Type 0 = λ names. TakesName names names (folded c.args.name.now) in
    subst P c.self.view_is (inl (is_there name_in (folded c.args.name.now) c.self.inside.keys.keys (sym c.in-Some.ensures.found), refl))

pub returns-then-len-eq-MOST_NAMES-clause-full : goal.returns-then-len-eq-MOST_NAMES-clause-full
returns-then-len-eq-MOST_NAMES-clause-full c =
    let N : List (List ℕ) → Type 0 = λ names. Contains names (folded c.args.name.now) in
    let there = subst N c.self.view_is (is_there name_in (folded c.args.name.now) c.self.inside.keys.keys (sym c.in-Some.ensures.found)) in
    (λ e. cc, λ h. absurd (h.1 there))

pub returns-then-len-eq-MOST_NAMES-clause-distinct :
    goal.returns-then-len-eq-MOST_NAMES-clause-distinct
returns-then-len-eq-MOST_NAMES-clause-distinct c =
    subst AreDistinct c.self.view_is (names_are_distinct name_in c.self.inside.keys.keys c.len.ensures.unique)

pub returns-in_default-insert_full-clause-want : goal.returns-in_default-insert_full-clause-want
returns-in_default-insert_full-clause-want c _ =
    let N : List (List ℕ) → Type 0 = λ names. Contains names (folded c.args.name.now) → ⊥ in
    subst N c.self.view_is (is_new name_in (folded c.args.name.now) c.self.inside.keys.keys c.in_default-insert_full.ensures.absent)

pub returns-in_default-insert_full-clause-distinct :
    goal.returns-in_default-insert_full-clause-distinct
returns-in_default-insert_full-clause-distinct c = names_are_distinct name_in c.insert_full.new.self.keys c.insert_full.ensures.unique

pub returns-clause-number : goal.returns-clause-number
returns-clause-number c =
    let stored = c.in-Ok.ensures.stored in
    name_there name_in c.insert_full.new.self.keys c.in-Ok.number (record { name = c.args.name; head = c.head_of.result; begun = c.head_of.ensures }) stored.0 (ap (λ i. slice_get c.insert_full.new.self.keys i) c.in-Ok.number-is ∙ stored.1) stored.2

pub returns-clause-taken : goal.returns-clause-taken
returns-clause-taken c =
    let P : List (List ℕ) → Type 0 = λ names. TakesName names (names_in c.insert_full.new.self.keys) (folded c.args.name.now) in
    let Q : List (List ℕ) → Type 0 = λ names. TakesName (names_in c.self.inside.keys.keys) names (folded c.args.name.now) in
    subst P c.self.view_is (subst Q (ap names_in (sym c.in-Ok.ensures.keys)) (takes name_in c.self.inside.keys.keys (record { name = c.args.name; head = c.head_of.result; begun = _ })))

pub returns-clause-distinct : goal.returns-clause-distinct
returns-clause-distinct c = names_are_distinct name_in c.insert_full.new.self.keys c.insert_full.ensures.unique
