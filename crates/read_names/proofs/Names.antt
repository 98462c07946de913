-- The name of a design.
use Rattle.std.proofs.Common.{◌≡◌, ℕ, ◌==◌, ◌&&◌, not, Bool, true, false, cond, List, [], ◌∷◌, ◌++◌, length, codes, refl, sym, ◌∙◌, ap, subst, append_assoc, inl, inr, arith, Ok}
use Rattle.std.specs.Prelude.{Some, slice_get}
use Rattle.std.specs.Str.{bytes_eq}
use Rattle.std.proofs.lemmas.Slice.Eq.{bytes_eq-Decides}
use Rattle.text_lex.specs.Name.{IsName}
use Rattle.reading.specs.declared.word.Form.{Form}
use Rattle.reading.specs.declared.word.Form.TheVariants.{Bare, Quoted as QuotedForm, Braced, Break, Semicolon as SemicolonForm, End as EndForm}
use Rattle.reading.specs.Pattern.{Pattern, One, Then, Or, Matches, joined}
use Rattle.reading.specs.Reading.{Follows}
use Rattle.reading.specs.Word.{Token, seen_text}
use Rattle.lef_statements.specs.First.{first_with}
use Rattle.def_statements.specs.declared.section.Section.{Section}
use Rattle.def_statements.specs.declared.section.Section.TheVariants as places
use Rattle.def_statements.specs.declared.sort.Sort.{Sort}
use Rattle.def_statements.specs.declared.sort.Sort.TheVariants.{Design}
use Rattle.def_statements.specs.Sort.{the, number_of, all_sorts, listed, sort_of, sort_with, sort_of_text}
use Rattle.def_statements.specs.Unit.{sort_at, text_at}
use Rattle.def_statements.specs.Pattern as patterns
use Rattle.def_statements.specs.Pattern.{is_name, key, name, design, pattern}
use Rattle.def_statements.specs.Standing.{section_of}
use Rattle.def_design.specs.declared.record.Design.{Design as Record}
use Rattle.def_design.specs.Unit.{is_design}
use Rattle.def_design.specs.Record.{SaysName, Stated}
use Rattle.def_design.specs.Format.{format, ReadsDesign}
use Rattle.read_names.specs.Laws.Words.{IsGood, AreGood, good-front, good-rest, good_split, good_heard}

-- ## sorts

no_true : true ≡ false → ⊥
no_true h = cc

no_false : false ≡ true → ⊥
no_false h = cc

sort_is : (s : Sort) → (number_of s == 16) ≡ true → s ≡ Design
sort_is s h =
    let at : number_of s ≡ 16 = grind (arith, h) in
    let same : Some s ≡ Some Design = sym (listed s) ∙ ap (slice_get all_sorts) at in
    cc

-- A word of a name's sort is bare, and not `;`.
name_text_by : (text : List ℕ) (b : Bool) → bytes_eq text (codes ";") ≡ b → is_name (sort_of_text text) ≡ true → text ≡ codes ";" → ⊥
name_text_by text true e h same = no_false (sym (ap (λ z. is_name (sort_of_text z)) same) ∙ h)
name_text_by text false e h same = no_false (sym e ∙ (bytes_eq-Decides text (codes ";")).1 same)

name_of : (w : Token) (form : Form) → w.form ≡ form → is_name (sort_with form w.text) ≡ true → IsGood w → IsName w.text
name_of w Bare e h good = (good e, name_text_by w.text (bytes_eq w.text (codes ";")) refl h)
name_of w QuotedForm e h good = absurd (no_false h)
name_of w Braced e h good = absurd (no_false h)
name_of w Break e h good = absurd (no_false h)
name_of w SemicolonForm e h good = absurd (no_false h)
name_of w EndForm e h good = absurd (no_false h)

-- ## units of three words that begin with `DESIGN`

two : (a b : Bool) → (a && b) ≡ true → (a ≡ true) × (b ≡ true)
two true true h = (refl, refl)
two true false h = absurd (no_false h)
two false b h = absurd (no_false h)

not_of : (b : Bool) → not b ≡ true → b ≡ true → ⊥
not_of true h k = no_false h
not_of false h k = no_false k

-- No unit of this pattern begins with `DESIGN`.
abbrev begins_other : Pattern Sort → Bool
begins_other (One class) = not (class Design)
begins_other (Then p q) = begins_other p
begins_other (Or p q) = begins_other p && begins_other q
begins_other _ = false

begins : (p : Pattern Sort) (u more : List Token) → begins_other p ≡ true → Matches sort_of p u → sort_at 0 (u ++ more) ≡ Design → ⊥
begins (One class) u more h (w, is, same) first =
    let word : sort_of w ≡ Design = sym (ap (λ z. sort_at 0 (z ++ more)) same) ∙ first in
    not_of (class Design) h (sym (ap class word) ∙ is)
begins (Then p q) u more h (x, y, front, rest, whole) first =
    begins p x (y ++ more) h front (ap (sort_at 0) (sym (append_assoc x y more)) ∙ sym (ap (λ z. sort_at 0 (z ++ more)) whole) ∙ first)
begins (Or p q) u more h m first = let t = two (begins_other p) (begins_other q) h in elim m [
  | inl k ↦ begins p u more t.0 k first
  | inr k ↦ begins q u more t.1 k first
]
begins p u more h m first = absurd (no_false h)

-- No unit of this pattern has three words and begins with `DESIGN`.
abbrev is_apart : Pattern Sort → Bool
is_apart (One class) = true
is_apart (Then p q) = begins_other p
is_apart (Or p q) = is_apart p && is_apart q
is_apart _ = false

apart : (p : Pattern Sort) (u : List Token) → is_apart p ≡ true → Matches sort_of p u → sort_at 0 u ≡ Design → length u ≡ 3 → ⊥
apart (One class) u h (w, is, same) first three =
    let few : length u ≡ 1 = ap length same in omega arith
apart (Then p q) u h (x, y, front, rest, whole) first three = begins p x y h front (sym (ap (sort_at 0) whole) ∙ first)
apart (Or p q) u h m first three = let t = two (is_apart p) (is_apart q) h in elim m [
  | inl k ↦ apart p u t.0 k first three
  | inr k ↦ apart q u t.1 k first three
]
apart p u h m first three = absurd (no_false h)

-- The second word of `DESIGN name ;`.
second : (u : List Token) → Matches sort_of design u → AreGood u → IsName (text_at 1 u)
second u (x, y, (w, is, same), (x', y', (v, named, same'), rest, whole'), whole) good =
    let all : u ≡ w ∷ v ∷ y' = whole ∙ ap (λ z. z ++ y) same ∙ ap (λ z. w ∷ z) (whole' ∙ ap (λ z. z ++ y') same') in
    let g : AreGood (w ∷ v ∷ y') = subst AreGood all good in
    subst (λ z. IsName (text_at 1 z)) (sym all) (name_of v v.form refl named g.1.0)

-- What else stands between the sections.
abbrev others : Pattern Sort
others = Or patterns.units (Or patterns.die (Or patterns.row (Or patterns.section_head (Or (patterns.end_of Design) (One patterns.is_other)))))

named : (section : Section) (u : List Token) → Matches sort_of (pattern section) u → AreGood u → sort_at 0 u ≡ Design → length u ≡ 3 → IsName (text_at 1 u)
named places.Top u (inl m) good first three = second u m good
named places.Top u (inr m) good first three = absurd (apart others u refl m first three)
named places.Components u m good first three = absurd (apart (pattern places.Components) u refl m first three)
named places.Entry u m good first three = absurd (apart (pattern places.Entry) u refl m first three)
named places.EntryPart u m good first three = absurd (apart (pattern places.EntryPart) u refl m first three)
named places.Blockages u m good first three = absurd (apart (pattern places.Blockages) u refl m first three)
named places.BlockageKind u m good first three = absurd (apart (pattern places.BlockageKind) u refl m first three)
named places.Parts u m good first three = absurd (apart (pattern places.Parts) u refl m first three)
named places.Part u m good first three = absurd (apart (pattern places.Part) u refl m first three)
named places.Rects u m good first three = absurd (apart (pattern places.Rects) u refl m first three)
named places.Placement u m good first three = absurd (apart (pattern places.Placement) u refl m first three)
named places.Regions u m good first three = absurd (apart (pattern places.Regions) u refl m first three)
named places.Region u m good first three = absurd (apart (pattern places.Region) u refl m first three)
named places.Wiring u m good first three = absurd (apart (pattern places.Wiring) u refl m first three)
named places.WiringPart u m good first three = absurd (apart (pattern places.WiringPart) u refl m first three)
named places.WiringEnd u m good first three = absurd (apart (pattern places.WiringEnd) u refl m first three)
named places.Passed u m good first three = absurd (apart (pattern places.Passed) u refl m first three)
named places.Ended u m good first three = absurd (apart (pattern places.Ended) u refl m first three)

-- ## the first of them

found_by : (before units : List (List Token)) (u : List Token) (b : Bool) (n : List ℕ) → is_design u ≡ b → Matches sort_of (pattern (section_of before)) u → AreGood u →
    (Stated SaysName (first_with is_design units) (Some n) → IsName n) → Stated SaysName (cond b (Some u) (first_with is_design units)) (Some n) → IsName n
found_by before units u true n e m good later says =
    let t = two (length u == 3) (the Design (sort_at 0 u)) e in
    let three : length u ≡ 3 = (let k = t.0 in grind (arith, k)) in
    subst IsName (sym says) (named (section_of before) u m good (sort_is (sort_at 0 u) t.1) three)
found_by before units u false n e m good later says = later says

found : (before units : List (List Token)) (n : List ℕ) → Follows (format true) before units → AreGood (joined units) → Stated SaysName (first_with is_design units) (Some n) → IsName n
found before [] n follows good says = absurd says
found before (u ∷ units) n follows good says =
    found_by before units u (is_design u) n refl follows.1 (good-front u (joined units) good)
    (λ later. found (before ++ u ∷ []) units n follows.2 (good-rest u (joined units) good) later) says

pub names_are : (text : List ℕ) (design : Record) → ReadsDesign text (Ok design) → IsName design.name
names_are text design (split, is, units, (heard, hears, read), says) =
    let good : AreGood heard.words = good_heard (format true) (seen_text split) heard (length heard.words) hears (good_split text split is) in
    found [] units design.name read.whole (subst AreGood read.is good) says.name
