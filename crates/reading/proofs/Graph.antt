-- Patterns in a list keep what they are when it grows.
use Rattle.std.proofs.Common.{Bor, ◌≡◌, ℕ, zero, suc, ◌<◌, ◌≤◌, List, [], ◌∷◌, ◌++◌, length, slice_get, Some, None, refl, sym, ◌∙◌, ap, subst, append_assoc, arith, length-append, ◌⊎◌, inl, inr, get_or, Bool, true, false, cond, ◌&&◌, ◌||◌, Result, Ok, Err, IfOk}
use Rattle.std.proofs.lemmas.List.{append-nil}
use Rattle.std.proofs.lemmas.Option.{slice_get_within, slice_get_read}
use Rattle.reading.proofs.Left.{alt-none}
use Rattle.reading.specs.declared.patterns.Node.{Node}
use Rattle.reading.specs.declared.patterns.Node.TheVariants as nodes
use Rattle.reading.specs.declared.rule.Rule.{Rule, Then' as Then_rule, Or' as Or_rule, Many' as Many_rule}
use Rattle.reading.specs.Pattern.{Pattern, Never, Empty, One, Then, Or, Many}
use Rattle.reading.specs.Tests.{skips}
use Rattle.reading.specs.inside.Left.{seq, alt, left}
use Rattle.reading.specs.inside.Patterns.{PartsBelow, IsGraph, Extends, Denotes, Placed, Grown, Joins, Leaves, IsSet, among, Built}
use Rattle.reading.specs.Rule.{IsRule}

pub get-front : {X : Type 0} (xs ys : List X) (i : ℕ) (x : X) → slice_get xs i ≡ Some x → slice_get (xs ++ ys) i ≡ Some x
get-front [] ys i x h = absurd (let e : None ≡ Some x = h in cc)
get-front (z ∷ xs) ys zero x h = h
get-front (z ∷ xs) ys (suc i) x h = get-front xs ys i x h

pub get-last : {X : Type 0} (xs : List X) (y : X) → slice_get (xs ++ y ∷ []) (length xs) ≡ Some y
get-last [] y = refl
get-last (x ∷ xs) y = get-last xs y

pub get-either : {X : Type 0} (xs : List X) (y x : X) (i : ℕ) → slice_get (xs ++ y ∷ []) i ≡ Some x → (slice_get xs i ≡ Some x) ⊎ ((i ≡ length xs) × (y ≡ x))
get-either [] y x zero h = inr (refl, (let e : Some y ≡ Some x = h in cc))
get-either [] y x (suc i) h = absurd (let e : None ≡ Some x = h in cc)
get-either (z ∷ xs) y x zero h = inl h
get-either (z ∷ xs) y x (suc i) h = elim (get-either xs y x i h) [ inl t ↦ inl t | inr t ↦ inr (ap (λ n. suc n) t.0, t.1) ]

pub extends-same : (old : List Node) → Extends old old
extends-same old = ([], sym (append-nil old))

pub extends-then : (a b c : List Node) → Extends a b → Extends b c → Extends a c
extends-then a b c h k = (h.0 ++ k.0, k.1 ∙ ap (λ (z : List Node). z ++ k.0) h.1 ∙ append_assoc a h.0 k.0)

pub get-extends : (old new : List Node) → Extends old new → (i : ℕ) (x : Node) → slice_get old i ≡ Some x → slice_get new i ≡ Some x
get-extends old new h i x k = subst (λ z. slice_get z i ≡ Some x) (sym h.1) (get-front old h.0 i x k)

pub denotes-extends : {S : Type 0} (number : S → ℕ) (old new : List Node) → Extends old new → (at : ℕ) (p : Pattern S) → Denotes number old at p → Denotes number new at p
denotes-extends number old new h at Never d = get-extends old new h at _ d
denotes-extends number old new h at Empty d = get-extends old new h at _ d
denotes-extends number old new h at (One class) d = (d.0, get-extends old new h at _ d.1, d.2)
denotes-extends number old new h at (Then p q) d = (d.0, d.1, get-extends old new h at _ d.2, denotes-extends number old new h d.0 p d.3, denotes-extends number old new h d.1 q d.4)
denotes-extends number old new h at (Or p q) d = (d.0, d.1, get-extends old new h at _ d.2, denotes-extends number old new h d.0 p d.3, denotes-extends number old new h d.1 q d.4)
denotes-extends number old new h at (Many p) d = (d.0, get-extends old new h at _ d.1, denotes-extends number old new h d.0 p d.2)

pub placed-same : (old : List Node) (at : ℕ) (node : Node) → IsGraph old → slice_get old at ≡ Some node → Placed old old at node
placed-same old at node g h = record { graph = g; extends = extends-same old; is = h }

parts-at : (node other : Node) (n i : ℕ) → PartsBelow n node → i ≡ n → node ≡ other → PartsBelow i other
parts-at node other n i h e f = subst (λ z. PartsBelow i z) f (subst (λ z. PartsBelow z node) (sym e) h)

pub placed-more : (old : List Node) (node : Node) → IsGraph old → PartsBelow (length old) node → Placed old (old ++ node ∷ []) (length old) node
placed-more old node g b = record {
  graph = λ i other h. elim (get-either old node other i h) [ inl t ↦ g i other t | inr t ↦ parts-at node other (length old) i b t.0 t.1 ];
  extends = (node ∷ [], refl);
  is = get-last old node;
}

pub length-extends : (old new : List Node) → Extends old new → length old ≤ length new
length-extends old new h = let e : length new ≡ length (old ++ h.0) = ap length h.1 in omega (arith, length-append old h.0)

pub grown : (old new : List Node) (at : ℕ) (node : Node) → Placed old new at node → Grown old new at
grown old new at node p = record { graph = p.graph; extends = p.extends; within = slice_get_within new at node p.is }

-- The node that was read.
pub read-node : (list : List Node) (i : ℕ) (x : Node) → i < length list → x ≡ get_or list i x → slice_get list i ≡ Some x
read-node list i x h e = slice_get_read list (length list) i x refl h e

pub node-is : (list : List Node) (i : ℕ) (x y : Node) → i < length list → x ≡ get_or list i x → x ≡ y → slice_get list i ≡ Some y
node-is list i x y h e f = read-node list i x h e ∙ ap (λ (z : Node). Some z) f

pub stays : (old : List Node) (at : ℕ) → IsGraph old → at < length old → Grown old old at
stays old at g h = record { graph = g; extends = extends-same old; within = h }

pub then-grown : (a b c : List Node) (i j : ℕ) → Grown a b i → Grown b c j → Grown a c j
then-grown a b c i j g h = record { graph = h.graph; extends = extends-then a b c g.extends h.extends; within = h.within }

-- ## which pattern a node is

is-never : {S : Type 0} (number : S → ℕ) (list : List Node) (at : ℕ) (p : Pattern S) → slice_get list at ≡ Some nodes.Never → Denotes number list at p → p ≡ Never
is-never number list at Never h d = refl
is-never number list at Empty h d = cc
is-never number list at (One class) h d = let e : slice_get list at ≡ Some (nodes.One d.0) = d.1 in cc
is-never number list at (Then p q) h d = let e : slice_get list at ≡ Some (nodes.Then d.0 d.1) = d.2 in cc
is-never number list at (Or p q) h d = let e : slice_get list at ≡ Some (nodes.Or d.0 d.1) = d.2 in cc
is-never number list at (Many p) h d = let e : slice_get list at ≡ Some (nodes.Many d.0) = d.1 in cc

is-empty : {S : Type 0} (number : S → ℕ) (list : List Node) (at : ℕ) (p : Pattern S) → slice_get list at ≡ Some nodes.Empty → Denotes number list at p → p ≡ Empty
is-empty number list at Never h d = cc
is-empty number list at Empty h d = refl
is-empty number list at (One class) h d = let e : slice_get list at ≡ Some (nodes.One d.0) = d.1 in cc
is-empty number list at (Then p q) h d = let e : slice_get list at ≡ Some (nodes.Then d.0 d.1) = d.2 in cc
is-empty number list at (Or p q) h d = let e : slice_get list at ≡ Some (nodes.Or d.0 d.1) = d.2 in cc
is-empty number list at (Many p) h d = let e : slice_get list at ≡ Some (nodes.Many d.0) = d.1 in cc

abbrev OneParts : {S : Type 0} → (S → ℕ) → ℕ → Pattern S → Type 0
OneParts {S} number set p = (class : S → Bool) × (p ≡ One class) × IsSet number set class

is-one : {S : Type 0} (number : S → ℕ) (list : List Node) (at set : ℕ) (p : Pattern S) → slice_get list at ≡ Some (nodes.One set) → Denotes number list at p → OneParts number set p
is-one number list at set Never h d = cc
is-one number list at set Empty h d = cc
is-one number list at set (One class) h d =
    let e : slice_get list at ≡ Some (nodes.One d.0) = d.1 in
    let same : d.0 ≡ set = cc in
    (class, refl, subst (λ z. IsSet number z class) same d.2)
is-one number list at set (Then p q) h d = let e : slice_get list at ≡ Some (nodes.Then d.0 d.1) = d.2 in cc
is-one number list at set (Or p q) h d = let e : slice_get list at ≡ Some (nodes.Or d.0 d.1) = d.2 in cc
is-one number list at set (Many p) h d = let e : slice_get list at ≡ Some (nodes.Many d.0) = d.1 in cc

abbrev ThenParts : {S : Type 0} → (S → ℕ) → List Node → ℕ → ℕ → Pattern S → Type 0
ThenParts {S} number list a b p = (x : Pattern S) × (y : Pattern S) × (p ≡ Then x y) × Denotes number list a x × Denotes number list b y

is-then : {S : Type 0} (number : S → ℕ) (list : List Node) (at a b : ℕ) (p : Pattern S) → slice_get list at ≡ Some (nodes.Then a b) → Denotes number list at p → ThenParts number list a b p
is-then number list at a b Never h d = cc
is-then number list at a b Empty h d = cc
is-then number list at a b (One class) h d = let e : slice_get list at ≡ Some (nodes.One d.0) = d.1 in cc
is-then number list at a b (Then p q) h d =
    let e : slice_get list at ≡ Some (nodes.Then d.0 d.1) = d.2 in
    let i : d.0 ≡ a = cc in
    let j : d.1 ≡ b = cc in
    (p, q, refl, subst (λ z. Denotes number list z p) i d.3, subst (λ z. Denotes number list z q) j d.4)
is-then number list at a b (Or p q) h d = let e : slice_get list at ≡ Some (nodes.Or d.0 d.1) = d.2 in cc
is-then number list at a b (Many p) h d = let e : slice_get list at ≡ Some (nodes.Many d.0) = d.1 in cc

abbrev OrParts : {S : Type 0} → (S → ℕ) → List Node → ℕ → ℕ → Pattern S → Type 0
OrParts {S} number list a b p = (x : Pattern S) × (y : Pattern S) × (p ≡ Or x y) × Denotes number list a x × Denotes number list b y

is-or : {S : Type 0} (number : S → ℕ) (list : List Node) (at a b : ℕ) (p : Pattern S) → slice_get list at ≡ Some (nodes.Or a b) → Denotes number list at p → OrParts number list a b p
is-or number list at a b Never h d = cc
is-or number list at a b Empty h d = cc
is-or number list at a b (One class) h d = let e : slice_get list at ≡ Some (nodes.One d.0) = d.1 in cc
is-or number list at a b (Then p q) h d = let e : slice_get list at ≡ Some (nodes.Then d.0 d.1) = d.2 in cc
is-or number list at a b (Or p q) h d =
    let e : slice_get list at ≡ Some (nodes.Or d.0 d.1) = d.2 in
    let i : d.0 ≡ a = cc in
    let j : d.1 ≡ b = cc in
    (p, q, refl, subst (λ z. Denotes number list z p) i d.3, subst (λ z. Denotes number list z q) j d.4)
is-or number list at a b (Many p) h d = let e : slice_get list at ≡ Some (nodes.Many d.0) = d.1 in cc

is-many : {S : Type 0} (number : S → ℕ) (list : List Node) (at a : ℕ) (p : Pattern S) → slice_get list at ≡ Some (nodes.Many a) → Denotes number list at p → (x : Pattern S) × (p ≡ Many x) × Denotes number list a x
is-many number list at a Never h d = cc
is-many number list at a Empty h d = cc
is-many number list at a (One class) h d = let e : slice_get list at ≡ Some (nodes.One d.0) = d.1 in cc
is-many number list at a (Then p q) h d = let e : slice_get list at ≡ Some (nodes.Then d.0 d.1) = d.2 in cc
is-many number list at a (Or p q) h d = let e : slice_get list at ≡ Some (nodes.Or d.0 d.1) = d.2 in cc
is-many number list at a (Many p) h d =
    let e : slice_get list at ≡ Some (nodes.Many d.0) = d.1 in
    let i : d.0 ≡ a = cc in
    (p, refl, subst (λ z. Denotes number list z p) i d.2)

-- ## joins

pub seq-never : {S : Type 0} (number : S → ℕ) (old : List Node) (a b : ℕ) → IsGraph old → a < length old → slice_get old a ≡ Some nodes.Never → Joins number seq old old a b a
seq-never number old a b g h e = record {
  grown = stays old a g h;
  is = λ p q d f. subst (λ z. Denotes number old a (seq z q)) (sym (is-never number old a p e d)) e;
}

pub seq-empty : {S : Type 0} (number : S → ℕ) (old : List Node) (a b : ℕ) → IsGraph old → b < length old → slice_get old a ≡ Some nodes.Empty → Joins number seq old old a b b
seq-empty number old a b g h e = record {
  grown = stays old b g h;
  is = λ p q d f. subst (λ z. Denotes number old b (seq z q)) (sym (is-empty number old a p e d)) f;
}

then-there : {S : Type 0} (number : S → ℕ) (old new : List Node) (a b at : ℕ) (p q : Pattern S) → Placed old new at (nodes.Then a b) → Denotes number old a p → Denotes number old b q → Denotes number new at (Then p q)
then-there number old new a b at p q t d f = (a, b, t.is, denotes-extends number old new t.extends a p d, denotes-extends number old new t.extends b q f)

seq-there : {S : Type 0} (number : S → ℕ) (old new : List Node) (a b at : ℕ) (x : Node) → slice_get old a ≡ Some x → (x ≡ nodes.Never → ⊥) → (x ≡ nodes.Empty → ⊥) →
    Placed old new at (nodes.Then a b) → (p q : Pattern S) → Denotes number old a p → Denotes number old b q → Denotes number new at (seq p q)
seq-there number old new a b at x r n m t Never q d f = absurd (n cc)
seq-there number old new a b at x r n m t Empty q d f = absurd (m cc)
seq-there number old new a b at x r n m t p q d f = then-there number old new a b at p q t d f

pub seq-other : {S : Type 0} (number : S → ℕ) (old new : List Node) (a b at : ℕ) (x : Node) → slice_get old a ≡ Some x → (x ≡ nodes.Never → ⊥) → (x ≡ nodes.Empty → ⊥) →
    Placed old new at (nodes.Then a b) → Joins number seq old new a b at
seq-other number old new a b at x r n m t = record { grown = grown old new at _ t; is = seq-there number old new a b at x r n m t }

pub alt-first : {S : Type 0} (number : S → ℕ) (old : List Node) (a b : ℕ) → IsGraph old → b < length old → slice_get old a ≡ Some nodes.Never → Joins number alt old old a b b
alt-first number old a b g h e = record {
  grown = stays old b g h;
  is = λ p q d f. subst (λ z. Denotes number old b (alt z q)) (sym (is-never number old a p e d)) f;
}

pub alt-second : {S : Type 0} (number : S → ℕ) (old : List Node) (a b : ℕ) → IsGraph old → a < length old → slice_get old b ≡ Some nodes.Never → Joins number alt old old a b a
alt-second number old a b g h e = record {
  grown = stays old a g h;
  is = λ p q d f. subst (λ z. Denotes number old a (alt p z)) (sym (is-never number old b q e f)) (subst (λ z. Denotes number old a z) (sym (alt-none p)) d);
}

or-there : {S : Type 0} (number : S → ℕ) (old new : List Node) (a b at : ℕ) (p q : Pattern S) → Placed old new at (nodes.Or a b) → Denotes number old a p → Denotes number old b q → Denotes number new at (Or p q)
or-there number old new a b at p q t d f = (a, b, t.is, denotes-extends number old new t.extends a p d, denotes-extends number old new t.extends b q f)

alt-there : {S : Type 0} (number : S → ℕ) (old new : List Node) (a b at : ℕ) (x y : Node) → slice_get old a ≡ Some x → slice_get old b ≡ Some y → (x ≡ nodes.Never → ⊥) → (y ≡ nodes.Never → ⊥) →
    Placed old new at (nodes.Or a b) → (p q : Pattern S) → Denotes number old a p → Denotes number old b q → Denotes number new at (alt p q)
alt-there number old new a b at x y r s n m t Never q d f = absurd (n cc)
alt-there number old new a b at x y r s n m t p Never d f = absurd (m cc)
alt-there number old new a b at x y r s n m t p q d f = or-there number old new a b at p q t d f

pub alt-other : {S : Type 0} (number : S → ℕ) (old new : List Node) (a b at : ℕ) (x y : Node) → slice_get old a ≡ Some x → slice_get old b ≡ Some y → (x ≡ nodes.Never → ⊥) → (y ≡ nodes.Never → ⊥) →
    Placed old new at (nodes.Or a b) → Joins number alt old new a b at
alt-other number old new a b at x y r s n m t = record { grown = grown old new at _ t; is = alt-there number old new a b at x y r s n m t }

pub if_ok : {A E : Type 0} (r : Result A E) (P Q : A → Type 0) → IfOk r P → ((x : A) → P x → Q x) → IfOk r Q
if_ok (Ok x) P Q h f = f x h
if_ok (Err e) P Q h f = tt

-- ## no words

-- A result says of the pattern at the place whether it has no words.
abbrev pub Tells : {S : Type 0} → (S → ℕ) → List Node → ℕ → Bool → Type 0
Tells {S} number list at r = (p : Pattern S) → Denotes number list at p → r ≡ skips p

pub skips-never : {S : Type 0} (number : S → ℕ) (list : List Node) (at : ℕ) → slice_get list at ≡ Some nodes.Never → Tells number list at false
skips-never number list at h = λ p d. ap skips (sym (is-never number list at p h d))

pub skips-empty : {S : Type 0} (number : S → ℕ) (list : List Node) (at : ℕ) → slice_get list at ≡ Some nodes.Empty → Tells number list at true
skips-empty number list at h = λ p d. ap skips (sym (is-empty number list at p h d))

pub skips-one : {S : Type 0} (number : S → ℕ) (list : List Node) (at set : ℕ) → slice_get list at ≡ Some (nodes.One set) → Tells number list at false
skips-one number list at set h = λ p d. ap skips (sym (is-one number list at set p h d).1)

pub skips-many : {S : Type 0} (number : S → ℕ) (list : List Node) (at a : ℕ) → slice_get list at ≡ Some (nodes.Many a) → Tells number list at true
skips-many number list at a h = λ p d. ap skips (sym (is-many number list at a p h d).1)

pub skips-then-yes : {S : Type 0} (number : S → ℕ) (list : List Node) (at a b : ℕ) (r s : Bool) → slice_get list at ≡ Some (nodes.Then a b) → Tells number list a r → r ≡ true → Tells number list b s → Tells number list at s
skips-then-yes number list at a b r s h f e g = λ p d.
    let t = is-then number list at a b p h d in
    g t.1 t.4 ∙ ap (λ z. z && skips t.1) (sym e ∙ f t.0 t.3) ∙ ap skips (sym t.2)

pub skips-then-no : {S : Type 0} (number : S → ℕ) (list : List Node) (at a b : ℕ) (r : Bool) → slice_get list at ≡ Some (nodes.Then a b) → Tells number list a r → r ≡ false → Tells number list at r
skips-then-no number list at a b r h f e = λ p d.
    let t = is-then number list at a b p h d in
    e ∙ ap (λ z. z && skips t.1) (sym e ∙ f t.0 t.3) ∙ ap skips (sym t.2)

pub skips-or-yes : {S : Type 0} (number : S → ℕ) (list : List Node) (at a b : ℕ) (r : Bool) → slice_get list at ≡ Some (nodes.Or a b) → Tells number list a r → r ≡ true → Tells number list at r
skips-or-yes number list at a b r h f e = λ p d.
    let t = is-or number list at a b p h d in
    e ∙ ap (λ z. z || skips t.1) (sym e ∙ f t.0 t.3) ∙ ap skips (sym t.2)

pub skips-or-no : {S : Type 0} (number : S → ℕ) (list : List Node) (at a b : ℕ) (r s : Bool) → slice_get list at ≡ Some (nodes.Or a b) → Tells number list a r → r ≡ false → Tells number list b s → Tells number list at s
skips-or-no number list at a b r s h f e g = λ p d.
    let t = is-or number list at a b p h d in
    g t.1 t.4 ∙ ap (λ z. z || skips t.1) (sym e ∙ f t.0 t.3) ∙ ap skips (sym t.2)

-- ## after a word

pub left-never : {S : Type 0} (number : S → ℕ) (s : S) (old new : List Node) (at rest : ℕ) → slice_get old at ≡ Some nodes.Never → Placed old new rest nodes.Never → Leaves number s old new at rest
left-never number s old new at rest h t = record {
  grown = grown old new rest _ t;
  is = λ p d. subst (λ z. Denotes number new rest (left s z)) (sym (is-never number old at p h d)) t.is;
}

pub left-empty : {S : Type 0} (number : S → ℕ) (s : S) (old new : List Node) (at rest : ℕ) → slice_get old at ≡ Some nodes.Empty → Placed old new rest nodes.Never → Leaves number s old new at rest
left-empty number s old new at rest h t = record {
  grown = grown old new rest _ t;
  is = λ p d. subst (λ z. Denotes number new rest (left s z)) (sym (is-empty number old at p h d)) t.is;
}

pub left-one-yes : {S : Type 0} (number : S → ℕ) (s : S) (old new : List Node) (at rest set : ℕ) → slice_get old at ≡ Some (nodes.One set) → among (number s) set ≡ true →
    Placed old new rest nodes.Empty → Leaves number s old new at rest
left-one-yes number s old new at rest set h e t = record {
  grown = grown old new rest _ t;
  is = λ p d.
      let k = is-one number old at set p h d in
      let in_class : true ≡ k.0 s = sym e ∙ k.2 s in
      subst (λ z. Denotes number new rest (left s z)) (sym k.1) (subst (λ z. Denotes number new rest (cond z Empty Never)) in_class t.is);
}

pub left-one-no : {S : Type 0} (number : S → ℕ) (s : S) (old new : List Node) (at rest set : ℕ) → slice_get old at ≡ Some (nodes.One set) → among (number s) set ≡ false →
    Placed old new rest nodes.Never → Leaves number s old new at rest
left-one-no number s old new at rest set h e t = record {
  grown = grown old new rest _ t;
  is = λ p d.
      let k = is-one number old at set p h d in
      let in_class : false ≡ k.0 s = sym e ∙ k.2 s in
      subst (λ z. Denotes number new rest (left s z)) (sym k.1) (subst (λ z. Denotes number new rest (cond z Empty Never)) in_class t.is);
}

pub left-then-no : {S : Type 0} (number : S → ℕ) (s : S) (old one two : List Node) (at a b first rest : ℕ) (r : Bool) → slice_get old at ≡ Some (nodes.Then a b) →
    Leaves number s old one a first → Joins number seq one two first b rest → Tells number two a r → r ≡ false → Leaves number s old two at rest
left-then-no number s old one two at a b first rest r h l j k e =
    let g : Grown old two rest = then-grown old one two first rest l.grown j.grown in
    record {
      grown = g;
      is = λ p d.
          let t = is-then number old at a b p h d in
          let skip : false ≡ skips t.0 = sym e ∙ k t.0 (denotes-extends number old two g.extends a t.0 t.3) in
          subst (λ z. Denotes number two rest (left s z)) (sym t.2)
          (subst (λ z. Denotes number two rest (cond z (alt (seq (left s t.0) t.1) (left s t.1)) (seq (left s t.0) t.1))) skip
          (j.is (left s t.0) t.1 (l.is t.0 t.3) (denotes-extends number old one l.grown.extends b t.1 t.4)));
    }

pub left-then-yes : {S : Type 0} (number : S → ℕ) (s : S) (old one two three four : List Node) (at a b first both_ second rest : ℕ) (r : Bool) → slice_get old at ≡ Some (nodes.Then a b) →
    Leaves number s old one a first → Joins number seq one two first b both_ → Tells number two a r → r ≡ true →
    Leaves number s two three b second → Joins number alt three four both_ second rest → Leaves number s old four at rest
left-then-yes number s old one two three four at a b first both_ second rest r h l j k e m n =
    let g : Grown old two both_ = then-grown old one two first both_ l.grown j.grown in
    let g2 : Grown old three second = then-grown old two three both_ second g m.grown in
    record {
      grown = then-grown old three four second rest g2 n.grown;
      is = λ p d.
          let t = is-then number old at a b p h d in
          let skip : true ≡ skips t.0 = sym e ∙ k t.0 (denotes-extends number old two g.extends a t.0 t.3) in
          subst (λ z. Denotes number four rest (left s z)) (sym t.2)
          (subst (λ z. Denotes number four rest (cond z (alt (seq (left s t.0) t.1) (left s t.1)) (seq (left s t.0) t.1))) skip
          (n.is (seq (left s t.0) t.1) (left s t.1)
          (denotes-extends number two three m.grown.extends both_ _ (j.is (left s t.0) t.1 (l.is t.0 t.3) (denotes-extends number old one l.grown.extends b t.1 t.4)))
          (m.is t.1 (denotes-extends number old two g.extends b t.1 t.4))));
    }

pub left-or : {S : Type 0} (number : S → ℕ) (s : S) (old one two three : List Node) (at a b first second rest : ℕ) → slice_get old at ≡ Some (nodes.Or a b) →
    Leaves number s old one a first → Leaves number s one two b second → Joins number alt two three first second rest → Leaves number s old three at rest
left-or number s old one two three at a b first second rest h l m n =
    let g : Grown old two second = then-grown old one two first second l.grown m.grown in
    record {
      grown = then-grown old two three second rest g n.grown;
      is = λ p d.
          let t = is-or number old at a b p h d in
          subst (λ z. Denotes number three rest (left s z)) (sym t.2)
          (n.is (left s t.0) (left s t.1) (denotes-extends number one two m.grown.extends first _ (l.is t.0 t.3))
          (m.is t.1 (denotes-extends number old one l.grown.extends b t.1 t.4)));
    }

pub left-many : {S : Type 0} (number : S → ℕ) (s : S) (old one two : List Node) (at a first rest : ℕ) → slice_get old at ≡ Some (nodes.Many a) →
    Leaves number s old one a first → Joins number seq one two first at rest → Leaves number s old two at rest
left-many number s old one two at a first rest h l n = record {
  grown = then-grown old one two first rest l.grown n.grown;
  is = λ p d.
      let t = is-many number old at a p h d in
      subst (λ z. Denotes number two rest (left s z)) (sym t.1)
      (n.is (left s t.0) (Many t.0) (l.is t.0 t.2) (denotes-extends number old one l.grown.extends at (Many t.0) (subst (λ z. Denotes number old at z) t.1 d)));
}

-- ## parts stand earlier

pub then-below : (list : List Node) (at a b : ℕ) → IsGraph list → slice_get list at ≡ Some (nodes.Then a b) → (a < at) × (b < at)
then-below list at a b g h = g at (nodes.Then a b) h

pub or-below : (list : List Node) (at a b : ℕ) → IsGraph list → slice_get list at ≡ Some (nodes.Or a b) → (a < at) × (b < at)
or-below list at a b g h = g at (nodes.Or a b) h

pub many-below : (list : List Node) (at a : ℕ) → IsGraph list → slice_get list at ≡ Some (nodes.Many a) → a < at
many-below list at a g h = g at (nodes.Many a) h

pub kept : (old new : List Node) (at i : ℕ) → Grown old new at → i < length old → i < length new
kept old new at i g h = omega (arith, length-extends old new g.extends)

pub placed-pushed : (old new : List Node) (at : ℕ) (node : Node) → IsGraph old → PartsBelow (length old) node → new ≡ old ++ node ∷ [] → at ≡ length old → Placed old new at node
placed-pushed old new at node g b e f =
    subst (λ z. Placed old z at node) (sym e) (subst (λ z. Placed old (old ++ node ∷ []) z node) (sym f) (placed-more old node g b))

pub never-known : {S : Type 0} (number : S → ℕ) (list : List Node) (at : ℕ) → slice_get list at ≡ Some nodes.Never → (p : Pattern S) → Denotes number list at p → p ≡ Never
never-known number list at h p d = is-never number list at p h d

pub never-not : {S : Type 0} (number : S → ℕ) (list : List Node) (at : ℕ) (x : Node) → slice_get list at ≡ Some x → (x ≡ nodes.Never → ⊥) → (p : Pattern S) → Denotes number list at p → p ≡ Never → ⊥
never-not number list at x h n p d e =
    let t : slice_get list at ≡ Some nodes.Never = subst (λ z. Denotes number list at z) e d in n cc

-- ## the pattern of a rule

abbrev TwoRules : {S : Type 0} → (S → ℕ) → (Pattern S → Pattern S → Pattern S) → Rule S → Rule S → Pattern S → Type 0
TwoRules {S} number join x y r = (p : Pattern S) × (q : Pattern S) × (r ≡ join p q) × IsRule number x p × IsRule number y q

then-rules : {S : Type 0} (number : S → ℕ) (i j : Bor (Unit {0})) (x y : Rule S) (p : Pattern S) → IsRule number (Then_rule i x j y) p → TwoRules number Then x y p
then-rules number i j x y Never k = absurd k
then-rules number i j x y Empty k = absurd k
then-rules number i j x y (One class) k = absurd k
then-rules number i j x y (Then p q) k = (p, q, refl, k.0, k.1)
then-rules number i j x y (Or p q) k = absurd k
then-rules number i j x y (Many p) k = absurd k

or-rules : {S : Type 0} (number : S → ℕ) (i j : Bor (Unit {0})) (x y : Rule S) (p : Pattern S) → IsRule number (Or_rule i x j y) p → TwoRules number Or x y p
or-rules number i j x y Never k = absurd k
or-rules number i j x y Empty k = absurd k
or-rules number i j x y (One class) k = absurd k
or-rules number i j x y (Then p q) k = absurd k
or-rules number i j x y (Or p q) k = (p, q, refl, k.0, k.1)
or-rules number i j x y (Many p) k = absurd k

many-rules : {S : Type 0} (number : S → ℕ) (i : Bor (Unit {0})) (x : Rule S) (r : Pattern S) → IsRule number (Many_rule i x) r → (p : Pattern S) × (r ≡ Many p) × IsRule number x p
many-rules number i x Never k = absurd k
many-rules number i x Empty k = absurd k
many-rules number i x (One class) k = absurd k
many-rules number i x (Then p q) k = absurd k
many-rules number i x (Or p q) k = absurd k
many-rules number i x (Many p) k = (p, refl, k)

pub built-then : {S : Type 0} (number : S → ℕ) (rule : Rule S) (i j : Bor (Unit {0})) (x y : Rule S) (old one two three : List Node) (a b at : ℕ) → rule ≡ Then_rule i x j y →
    Built number x old one a → Built number y one two b → Placed two three at (nodes.Then a b) → Built number rule old three at
built-then number rule i j x y old one two three a b at e f g t = record {
  grown = then-grown old two three b at (then-grown old one two a b f.grown g.grown) (grown two three at _ t);
  is = λ r k.
      let m = then-rules number i j x y r (subst (λ z. IsRule number z r) e k) in
      subst (λ z. Denotes number three at z) (sym m.2)
      (a, b, t.is, denotes-extends number two three t.extends a m.0 (denotes-extends number one two g.grown.extends a m.0 (f.is m.0 m.3)), denotes-extends number two three t.extends b m.1 (g.is m.1 m.4));
}

pub built-or : {S : Type 0} (number : S → ℕ) (rule : Rule S) (i j : Bor (Unit {0})) (x y : Rule S) (old one two three : List Node) (a b at : ℕ) → rule ≡ Or_rule i x j y →
    Built number x old one a → Built number y one two b → Placed two three at (nodes.Or a b) → Built number rule old three at
built-or number rule i j x y old one two three a b at e f g t = record {
  grown = then-grown old two three b at (then-grown old one two a b f.grown g.grown) (grown two three at _ t);
  is = λ r k.
      let m = or-rules number i j x y r (subst (λ z. IsRule number z r) e k) in
      subst (λ z. Denotes number three at z) (sym m.2)
      (a, b, t.is, denotes-extends number two three t.extends a m.0 (denotes-extends number one two g.grown.extends a m.0 (f.is m.0 m.3)), denotes-extends number two three t.extends b m.1 (g.is m.1 m.4));
}

pub built-many : {S : Type 0} (number : S → ℕ) (rule : Rule S) (i : Bor (Unit {0})) (x : Rule S) (old one two : List Node) (a at : ℕ) → rule ≡ Many_rule i x →
    Built number x old one a → Placed one two at (nodes.Many a) → Built number rule old two at
built-many number rule i x old one two a at e f t = record {
  grown = then-grown old one two a at f.grown (grown one two at _ t);
  is = λ r k.
      let m = many-rules number i x r (subst (λ z. IsRule number z r) e k) in
      subst (λ z. Denotes number two at z) (sym m.1) (a, t.is, denotes-extends number one two t.extends a m.0 (f.is m.0 m.2));
}
