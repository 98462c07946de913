-- What is told of the words of a unit as they come.
use Rattle.std.proofs.Common.{◌≡◌, ℕ, ◌+◌, ◌-◌, ◌<◌, ◌≤◌, ◌⊎◌, inl, inr, ℤ, pos, List, [], ◌∷◌, ◌++◌, length, map, Some, None, Result, Ok, Err, refl, sym, ◌∙◌, ap, subst, arith}
use Rattle.std.proofs.lemmas.List.{length-map}
use Rattle.lef_tech.specs.declared.error.TechKind.{TechKind}
use Rattle.lef_tech.specs.declared.number.Quantity.{Quantity}
use Rattle.lef_tech.specs.declared.question.Question.{Question}
use Rattle.lef_tech.specs.declared.question.Question.TheVariants.{Nothing, Used}
use Rattle.lef_tech.specs.declared.section.Section.{Section}
use Rattle.lef_tech.specs.declared.section.Section.TheVariants as sections
use Rattle.lef_tech.specs.declared.shape.Shape.TheVariants.{One, Other}
use Rattle.lef_tech.specs.declared.sort.Sort.{Sort}
use Rattle.lef_tech.specs.declared.sort.Sort.TheVariants.{Layer}
use Rattle.lef_tech.specs.declared.state.State.{State}
use Rattle.lef_tech.specs.declared.value.Value.{Value}
use Rattle.lef_tech.specs.Fault.{LastFault, UsedFault, Asked}
use Rattle.lef_tech.specs.Format.{format}
use Rattle.lef_tech.specs.Question.{question_of}
use Rattle.lef_tech.specs.Shape.{shape_of, shape_in}
use Rattle.lef_tech.specs.Sort.{sort_of}
use Rattle.lef_tech.specs.Turn.{state_of}
use Rattle.lef_tech.specs.inside.Value.{used_of, SaysLast, SaysUsed, SaysHeard, SaysNext, SaysIn, says, TellsWith, TellsBy, TellsUsed, value_sort}
use Rattle.reading.specs.declared.refusal.Found.{Found}
use Rattle.reading.specs.declared.word.Form.TheVariants.{Bare}
use Rattle.reading.specs.declared.word.Heard.{Heard}
use Rattle.reading.specs.Fault.{FindsValue, told_at}
use Rattle.reading.specs.Grammar.{AreHeard, Tells}
use Rattle.reading.specs.Word.{Token, heard_token, last_of}

-- ## sorts

the_sort : Heard Value → Sort
the_sort heard = sort_of (heard_token heard)

-- The sorts that were heard are those of the words.
pub sorts_heard : (section : Section) (xs : List (Heard Value)) → AreHeard (SaysIn section) [] xs → shape_of (map value_sort xs) ≡ shape_in (map heard_token xs)
unfolding the_sort
sorts_heard section [] h = refl
sorts_heard section (a ∷ []) h =
    let a_is : a.value.sort ≡ the_sort a = h.0.0 in
    cc
sorts_heard section (a ∷ b ∷ []) h =
    let a_is : a.value.sort ≡ the_sort a = h.0.0 in
    let b_is : b.value.sort ≡ the_sort b = h.1.0.0.0 in
    cc
sorts_heard section (a ∷ b ∷ c ∷ []) h =
    let a_is : a.value.sort ≡ the_sort a = h.0.0 in
    let b_is : b.value.sort ≡ the_sort b = h.1.0.0.0 in
    let c_is : c.value.sort ≡ the_sort c = h.1.1.0.0.0 in
    cc
sorts_heard section (a ∷ b ∷ c ∷ d ∷ []) h =
    let a_is : a.value.sort ≡ the_sort a = h.0.0 in
    let b_is : b.value.sort ≡ the_sort b = h.1.0.0.0 in
    let c_is : c.value.sort ≡ the_sort c = h.1.1.0.0.0 in
    let d_is : d.value.sort ≡ the_sort d = h.1.1.1.0.0.0 in
    cc
sorts_heard section (a ∷ b ∷ c ∷ d ∷ e ∷ []) h =
    let a_is : a.value.sort ≡ the_sort a = h.0.0 in
    let b_is : b.value.sort ≡ the_sort b = h.1.0.0.0 in
    let c_is : c.value.sort ≡ the_sort c = h.1.1.0.0.0 in
    let d_is : d.value.sort ≡ the_sort d = h.1.1.1.0.0.0 in
    let e_is : e.value.sort ≡ the_sort e = h.1.1.1.1.0.0.0 in
    cc
sorts_heard section (a ∷ b ∷ c ∷ d ∷ e ∷ f ∷ []) h =
    let a_is : a.value.sort ≡ the_sort a = h.0.0 in
    let b_is : b.value.sort ≡ the_sort b = h.1.0.0.0 in
    let c_is : c.value.sort ≡ the_sort c = h.1.1.0.0.0 in
    let d_is : d.value.sort ≡ the_sort d = h.1.1.1.0.0.0 in
    let e_is : e.value.sort ≡ the_sort e = h.1.1.1.1.0.0.0 in
    let f_is : f.value.sort ≡ the_sort f = h.1.1.1.1.1.0.0.0 in
    cc
sorts_heard section (a ∷ b ∷ c ∷ d ∷ e ∷ f ∷ g ∷ xs) h = refl

-- The same with one more word.
pub sorts_with : (section : Section) (xs : List (Heard Value)) (sort : Sort) (w : Token) → AreHeard (SaysIn section) [] xs → sort ≡ sort_of w →
    shape_of (map value_sort xs ++ sort ∷ []) ≡ shape_in (map heard_token xs ++ w ∷ [])
unfolding the_sort
sorts_with section [] sort w h is = ap One is
sorts_with section (a ∷ []) sort w h is =
    let a_is : a.value.sort ≡ the_sort a = h.0.0 in
    cc
sorts_with section (a ∷ b ∷ []) sort w h is =
    let a_is : a.value.sort ≡ the_sort a = h.0.0 in
    let b_is : b.value.sort ≡ the_sort b = h.1.0.0.0 in
    cc
sorts_with section (a ∷ b ∷ c ∷ []) sort w h is =
    let a_is : a.value.sort ≡ the_sort a = h.0.0 in
    let b_is : b.value.sort ≡ the_sort b = h.1.0.0.0 in
    let c_is : c.value.sort ≡ the_sort c = h.1.1.0.0.0 in
    cc
sorts_with section (a ∷ b ∷ c ∷ d ∷ []) sort w h is =
    let a_is : a.value.sort ≡ the_sort a = h.0.0 in
    let b_is : b.value.sort ≡ the_sort b = h.1.0.0.0 in
    let c_is : c.value.sort ≡ the_sort c = h.1.1.0.0.0 in
    let d_is : d.value.sort ≡ the_sort d = h.1.1.1.0.0.0 in
    cc
sorts_with section (a ∷ b ∷ c ∷ d ∷ e ∷ []) sort w h is =
    let a_is : a.value.sort ≡ the_sort a = h.0.0 in
    let b_is : b.value.sort ≡ the_sort b = h.1.0.0.0 in
    let c_is : c.value.sort ≡ the_sort c = h.1.1.0.0.0 in
    let d_is : d.value.sort ≡ the_sort d = h.1.1.1.0.0.0 in
    let e_is : e.value.sort ≡ the_sort e = h.1.1.1.1.0.0.0 in
    cc
sorts_with section (a ∷ b ∷ c ∷ d ∷ e ∷ f ∷ []) sort w h is = refl
sorts_with section (a ∷ b ∷ c ∷ d ∷ e ∷ f ∷ g ∷ xs) sort w h is = refl

abbrev pub no_word : Heard Value
no_word = record {
  word = record { text = record { ref_ptr = (0, 0); now = [] }; place = record { line = 0; word = 0 }; form = Bare };
  value = record { sort = Layer; number = pos 0 };
}

pub long_shape : (xs : List (Heard Value)) (last : Sort) → 6 ≤ length xs → Other ≡ shape_of (map value_sort xs ++ last ∷ [])
long_shape (a ∷ b ∷ c ∷ d ∷ e ∷ f ∷ []) last h = refl
long_shape (a ∷ b ∷ c ∷ d ∷ e ∷ f ∷ g ∷ more) last h = refl
long_shape [] last h = absurd (omega arith)
long_shape (a ∷ []) last h = absurd (omega arith)
long_shape (a ∷ b ∷ []) last h = absurd (omega arith)
long_shape (a ∷ b ∷ c ∷ []) last h = absurd (omega arith)
long_shape (a ∷ b ∷ c ∷ d ∷ []) last h = absurd (omega arith)
long_shape (a ∷ b ∷ c ∷ d ∷ e ∷ []) last h = absurd (omega arith)

-- ## the last word

pub used_is : (asked : Question) (quantity : Quantity) → used_of asked ≡ Some quantity → asked ≡ Used quantity
used_is (Used other) quantity h = let e : other ≡ quantity = cc in ap Used e
used_is asked quantity h = absurd (let e : None ≡ Some quantity = h in cc)

not_used : (before : Token) (n : ℕ) (asked : Question) (found : Found TechKind) → used_of asked ≡ None → UsedFault before n asked found → ⊥
not_used before n (Used quantity) found none h = absurd (let e : Some quantity ≡ None = none in cc)
not_used before n asked found none h = h

says_unused : (asked : Question) (text : List ℕ) (number : ℤ) → used_of asked ≡ None → SaysUsed asked text number
says_unused (Used quantity) text number none = absurd (let e : Some quantity ≡ None = none in cc)
says_unused asked text number none = tt

-- What a match finds of the last word, after another one.
last_next : (state : State) (asked : Question) (b w : Token) (n : ℕ) (sort : Sort) (told : Result Value TechKind) → used_of asked ≡ None → sort ≡ sort_of w →
    FindsValue (LastFault state w asked) (SaysHeard (SaysLast asked w.text) sort) told →
    TellsWith (λ found. Asked state b w n asked found) (λ value. SaysNext asked b w value) (told_at (n + 1) told)
last_next state asked b w n sort (Ok value) none is h = (
  (λ found k. elim k [ inl x ↦ h.0 found.kind x.1 | inr y ↦ not_used b n asked found none y ]),
  ((h.1.0 ∙ is, h.1.1), says_unused asked b.text value.number none),
)
last_next state asked b w n sort (Err kind) none is h = inl (refl, h)

last_first : (state : State) (asked : Question) (w : Token) (sort : Sort) (told : Result Value TechKind) → sort ≡ sort_of w →
    FindsValue (LastFault state w asked) (SaysHeard (SaysLast asked w.text) sort) told → TellsBy state asked (w ∷ []) (told_at 0 told)
last_first state asked w sort (Ok value) is h = ((λ found k. h.0 found.kind k.1), (h.1.0 ∙ is, h.1.1))
last_first state asked w sort (Err kind) is h = (refl, h)

last_long : (state : State) (w : Token) (shows : Found TechKind → Type 0) (sort : Sort) (n : ℕ) (told : Result Value TechKind) → ((found : Found TechKind) → shows found → ⊥) →
    FindsValue (LastFault state w Nothing) (SaysHeard (SaysLast Nothing w.text) sort) told → TellsWith shows (λ value. Unit {0}) (told_at n told)
last_long state w shows sort n (Ok value) fine h = (fine, tt)
last_long state w shows sort n (Err kind) fine h = absurd h

pub last_told : (state : State) (asked : Question) (before : List Token) (w : Token) (sort : Sort) (told : Result Value TechKind) → used_of asked ≡ None → sort ≡ sort_of w →
    (6 ≤ length before → asked ≡ Nothing) → FindsValue (LastFault state w asked) (SaysHeard (SaysLast asked w.text) sort) told →
    TellsBy state asked (before ++ w ∷ []) (told_at (length before) told)
last_told state asked [] w sort told none is long h = last_first state asked w sort told is h
last_told state asked (a ∷ []) w sort told none is long h = last_next state asked a w 0 sort told none is h
last_told state asked (a ∷ b ∷ []) w sort told none is long h = last_next state asked b w 1 sort told none is h
last_told state asked (a ∷ b ∷ c ∷ []) w sort told none is long h = last_next state asked c w 2 sort told none is h
last_told state asked (a ∷ b ∷ c ∷ d ∷ []) w sort told none is long h = last_next state asked d w 3 sort told none is h
last_told state asked (a ∷ b ∷ c ∷ d ∷ e ∷ []) w sort told none is long h = last_next state asked e w 4 sort told none is h
last_told state asked (a ∷ b ∷ c ∷ d ∷ e ∷ f ∷ []) w sort told none is long h =
    last_long state w (λ found. ⊥) sort (length (a ∷ b ∷ c ∷ d ∷ e ∷ f ∷ [])) told (λ found k. k)
    (subst (λ z. FindsValue (LastFault state w z) (SaysHeard (SaysLast z w.text) sort) told) (long (omega arith)) h)
last_told state asked (a ∷ b ∷ c ∷ d ∷ e ∷ f ∷ g ∷ more) w sort told none is long h =
    last_long state w (λ found. ⊥) sort (length (a ∷ b ∷ c ∷ d ∷ e ∷ f ∷ g ∷ more)) told (λ found k. k)
    (subst (λ z. FindsValue (LastFault state w z) (SaysHeard (SaysLast z w.text) sort) told) (long (omega arith)) h)

-- ## the number before

used_next : (state : State) (quantity : Quantity) (b w : Token) (n : ℕ) (sort : Sort) (r : Result Value (Found TechKind)) → sort ≡ sort_of w → TellsUsed quantity b.text n sort r →
    TellsWith (λ found. Asked state b w n (Used quantity) found) (λ value. SaysNext (Used quantity) b w value) r
used_next state quantity b w n sort (Ok value) is h = (
  (λ found k. elim k [ inl x ↦ x.1 | inr y ↦ h.0 y.0 y.1 ]),
  ((h.1 ∙ is, tt), h.2),
)
used_next state quantity b w n sort (Err found) is h = inr h

pub used_told : (state : State) (quantity : Quantity) (before : List Token) (last w : Token) (sort : Sort) (r : Result Value (Found TechKind)) → last_of before ≡ Some last → sort ≡ sort_of w →
    length before < 6 → TellsUsed quantity last.text (length before - 1) sort r → TellsBy state (Used quantity) (before ++ w ∷ []) r
used_told state quantity [] last w sort r e is few h = absurd (let no : None ≡ Some last = e in cc)
used_told state quantity (a ∷ []) last w sort r e is few h =
    let same : last ≡ a = cc in used_next state quantity a w 0 sort r is (subst (λ (z : Token). TellsUsed quantity z.text 0 sort r) same h)
used_told state quantity (a ∷ b ∷ []) last w sort r e is few h =
    let same : last ≡ b = cc in used_next state quantity b w 1 sort r is (subst (λ (z : Token). TellsUsed quantity z.text 1 sort r) same h)
used_told state quantity (a ∷ b ∷ c ∷ []) last w sort r e is few h =
    let same : last ≡ c = cc in used_next state quantity c w 2 sort r is (subst (λ (z : Token). TellsUsed quantity z.text 2 sort r) same h)
used_told state quantity (a ∷ b ∷ c ∷ d ∷ []) last w sort r e is few h =
    let same : last ≡ d = cc in used_next state quantity d w 3 sort r is (subst (λ (z : Token). TellsUsed quantity z.text 3 sort r) same h)
used_told state quantity (a ∷ b ∷ c ∷ d ∷ f ∷ []) last w sort r e is few h =
    let same : last ≡ f = cc in used_next state quantity f w 4 sort r is (subst (λ (z : Token). TellsUsed quantity z.text 4 sort r) same h)
used_told state quantity (a ∷ b ∷ c ∷ d ∷ f ∷ g ∷ more) last w sort r e is few h = absurd (omega arith)

pub used_alone : (state : State) (quantity : Quantity) (before : List Token) (w : Token) (value : Value) → before ≡ [] → value.sort ≡ sort_of w →
    TellsBy state (Used quantity) (before ++ w ∷ []) (Ok value)
used_alone state quantity before w value none is = subst (λ z. TellsBy state (Used quantity) (z ++ w ∷ []) (Ok value)) (sym none) ((λ found k. k.1), (is, tt))

few_or_many : (n : ℕ) → (6 ≤ n) ⊎ (n < 6)
few_or_many n = grind arith

pub few_used : (n : ℕ) (quantity : Quantity) (asked : Question) → asked ≡ Used quantity → (6 ≤ n → asked ≡ Nothing) → n < 6
few_used n quantity asked is long = elim (few_or_many n) [
  | inl many ↦ absurd (let no : Used quantity ≡ Nothing = sym is ∙ long many in cc)
  | inr few ↦ few
]

-- ## what is heard

long_sorts : (before : List Token) (w : Token) → 6 ≤ length before → shape_in (before ++ w ∷ []) ≡ Other
long_sorts (a ∷ b ∷ c ∷ d ∷ e ∷ f ∷ []) w h = refl
long_sorts (a ∷ b ∷ c ∷ d ∷ e ∷ f ∷ g ∷ more) w h = refl
long_sorts [] w h = absurd (omega arith)
long_sorts (a ∷ []) w h = absurd (omega arith)
long_sorts (a ∷ b ∷ []) w h = absurd (omega arith)
long_sorts (a ∷ b ∷ c ∷ []) w h = absurd (omega arith)
long_sorts (a ∷ b ∷ c ∷ d ∷ []) w h = absurd (omega arith)
long_sorts (a ∷ b ∷ c ∷ d ∷ e ∷ []) w h = absurd (omega arith)

other_asks : (section : Section) → question_of section Other ≡ Nothing
other_asks sections.Top = refl
other_asks section = refl

tells_all : (units : List (List Token)) (part : List Token) (r : Result Value (Found TechKind)) →
    TellsBy (state_of units) (question_of (state_of units).place.section (shape_in part)) part r → Tells format (says units) units part r
tells_all units part (Ok value) h = h
tells_all units part (Err found) h = h

pub hear_told : (units : List (List Token)) (state : State) (xs : List (Heard Value)) (w : Token) (sort : Sort) (asked : Question) (r : Result Value (Found TechKind)) →
    state ≡ state_of units → AreHeard (says units) [] xs → sort ≡ sort_of w → asked ≡ question_of state.place.section (shape_of (map value_sort xs ++ sort ∷ [])) →
    (sort ≡ sort_of w → (6 ≤ length xs → asked ≡ Nothing) → TellsBy state asked (map heard_token xs ++ w ∷ []) r) →
    Tells format (says units) units (map heard_token xs ++ w ∷ []) r
hear_told units state xs w sort asked r same heard is asks told =
    let here = (state_of units).place.section in
    let part = map heard_token xs ++ w ∷ [] in
    let asks_part : asked ≡ question_of here (shape_in part) = asks ∙ ap (λ (z : State). question_of z.place.section (shape_of (map value_sort xs ++ sort ∷ []))) same
    ∙ ap (λ z. question_of here z) (sorts_with here xs sort w heard is) in
    let few : 6 ≤ length xs → asked ≡ Nothing = λ long. asks_part ∙ ap (λ z. question_of here z) (long_sorts (map heard_token xs) w (subst (λ z. 6 ≤ z) (sym (length-map xs heard_token)) long)) ∙ other_asks here in
    tells_all units part r (subst (λ z. TellsBy (state_of units) z part r) asks_part (subst (λ z. TellsBy z asked part r) same (told is few)))
