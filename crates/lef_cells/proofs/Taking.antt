-- One more unit.
use Rattle.std.proofs.Common.{◌≡◌, ℕ, Bool, true, false, cond, List, [], ◌∷◌, ◌++◌, length, map, filter, Contains, Option, Some, None, Result, Ok, Err, OnOk, refl, sym, ◌∙◌, ap, subst}
use Rattle.std.specs.Prelude.{unwrap_or}
use Rattle.std.specs.declared.alloc.AllocError.{AllocError}
use Rattle.entry_list.specs.InTurn.{InTurn}
use Rattle.named_entries.specs.Laws.{named-added, named-kept}
use Rattle.named_entries.specs.Named.{NamedList, HoldsNamed}
use Rattle.name_table.specs.Numbering.{TakesName}
use Rattle.lef_cells.specs.declared.error.CellsKind.TheVariants.{Twice}
use Rattle.lef_cells.specs.declared.held.Open.{Open}
use Rattle.lef_cells.specs.declared.held.Sections.{Sections}
use Rattle.lef_cells.specs.declared.held.Size.{Size as TheSize}
use Rattle.lef_cells.specs.declared.record.MacroCell.{MacroCell}
use Rattle.lef_cells.specs.declared.record.Site.{Site as TheSite}
use Rattle.lef_cells.specs.declared.section.Section.{Section}
use Rattle.lef_cells.specs.declared.section.Section.TheVariants as places
use Rattle.lef_cells.specs.declared.section.Standing.{Standing}
use Rattle.lef_cells.specs.declared.sort.Sort.{Sort}
use Rattle.lef_cells.specs.declared.sort.Sort.TheVariants.{Site, Macro, End, Size, Class}
use Rattle.lef_cells.specs.Fault.{SecondFault, last_name}
use Rattle.lef_cells.specs.Format.{format}
use Rattle.lef_cells.specs.Record.{SaysSize, SaysSite, SaysMacro, is_block, makes_block}
use Rattle.lef_cells.specs.Rule.{opens, is_head, is_size, is_class, starts, name_of}
use Rattle.lef_cells.specs.Section.{sized, section_by, section_after, standing_of, standing_from, standing_after}
use Rattle.lef_cells.specs.Sort.{the, sort_of}
use Rattle.lef_cells.specs.inside.Held.{is_open, HoldsAll, HoldsIn, HoldsOpen, HasSize, IsOpen, IsSized, class_said, first_size, Leads}
use Rattle.lef_cells.proofs.Shape.{head_there, end_there, class_there, size_there}
use Rattle.lef_statements.specs.First.{first_with}
use Rattle.lef_statements.specs.Laws.{extended, blocks-last, first-stays, first-more, first-same}
use Rattle.reading.specs.Blocks.{Block, blocks, with_unit}
use Rattle.reading.specs.Grammar.{IsTaken}
use Rattle.reading.specs.Laws.{blocks-head, blocks-body}
use Rattle.reading.specs.Word.{Token}

-- ## where units lead

more_from : (standing : Standing) (units : List (List Token)) (unit : List Token) →
    standing_from standing (units ++ unit ∷ []) ≡ standing_after (standing_from standing units) unit
more_from standing [] unit = refl
more_from standing (u ∷ units) unit = more_from (standing_after standing u) units unit

pub standing_more : (units : List (List Token)) (unit : List Token) → standing_of (units ++ unit ∷ []) ≡ standing_after (standing_of units) unit
standing_more units unit = more_from _ units unit

-- ## a section with one more unit says what it said

size_some : (o : Option (List Token)) (w h : ℕ) → SaysSize o w h → (x : List Token) × (o ≡ Some x)
size_some None w h s = absurd s
size_some (Some x) w h s = (x, refl)

size_stays : (body : List (List Token)) (unit : List Token) (w h : ℕ) → SaysSize (first_with is_size body) w h →
    SaysSize (first_with is_size (body ++ unit ∷ [])) w h
size_stays body unit w h s =
    let some = size_some (first_with is_size body) w h s in
    subst (λ z. SaysSize z w h) (some.1 ∙ sym (first-stays is_size body unit some.0 some.1)) s

site_stays : (unit : List Token) (section : Block Token) (site : TheSite) → SaysSite section site → SaysSite (extended section unit) site
site_stays unit section site h = record { name = h.name; size = size_stays section.body unit site.width site.height h.size }

macro_stays : (unit : List Token) → is_class unit ≡ false → (section : Block Token) (cell : MacroCell) → SaysMacro section cell →
    SaysMacro (extended section unit) cell
macro_stays unit other section cell h = record {
  name = h.name;
  size = size_stays section.body unit cell.width cell.height h.size;
  block = h.block ∙ ap is_block (sym (first-same is_class section.body unit other));
}

turn_step : {E : Type 0} (says : Block Token → E → Type 0) (there : Bool) (b c : Block Token) (rest more : List (Block Token)) (es : List E) →
    ((e : E) → says b e → says c e) → ((es : List E) → InTurn says rest es → InTurn says more es) →
    InTurn says (cond there (b ∷ rest) rest) es → InTurn says (cond there (c ∷ more) more) es
turn_step says false b c rest more es one all h = all es h
turn_step says true b c rest more [] one all h = absurd h
turn_step says true b c rest more (e ∷ es) one all h = (one e h.0, all es h.1)

turn_stays : {E : Type 0} (says : Block Token → E → Type 0) (word : Sort) (unit : List Token) →
    ((section : Block Token) (e : E) → says section e → says (extended section unit) e) → (sections : List (Block Token)) (es : List E) →
    InTurn says (filter (starts word) sections) es → InTurn says (filter (starts word) (with_unit sections unit)) es
turn_stays says word unit stays [] es h = h
turn_stays says word unit stays (b ∷ []) es h =
    turn_step says (starts word b) b (extended b unit) [] [] es (stays b) (λ xs k. k) h
turn_stays says word unit stays (b ∷ d ∷ sections) es h =
    turn_step says (starts word b) b b (filter (starts word) (d ∷ sections)) (filter (starts word) (with_unit (d ∷ sections) unit)) es
    (λ e k. k) (λ xs k. turn_stays says word unit stays (d ∷ sections) xs k) h

names_step : (there : Bool) (b c : Block Token) (rest more : List (Block Token)) → name_of c ≡ name_of b →
    map name_of more ≡ map name_of rest → map name_of (cond there (c ∷ more) more) ≡ map name_of (cond there (b ∷ rest) rest)
names_step false b c rest more one all = all
names_step true b c rest more one all = ap (λ z. z ∷ map name_of more) one ∙ ap (λ z. name_of b ∷ z) all

names_stay : (word : Sort) (unit : List Token) (sections : List (Block Token)) →
    map name_of (filter (starts word) (with_unit sections unit)) ≡ map name_of (filter (starts word) sections)
names_stay word unit [] = refl
names_stay word unit (b ∷ []) = names_step (starts word b) b (extended b unit) [] [] refl refl
names_stay word unit (b ∷ d ∷ sections) =
    names_step (starts word b) b b (filter (starts word) (d ∷ sections)) (filter (starts word) (with_unit (d ∷ sections) unit)) refl
    (names_stay word unit (d ∷ sections))

named_stays : {E : Type 0} (says : Block Token → E → Type 0) (word : Sort) (unit : List Token) →
    ((section : Block Token) (e : E) → says section e → says (extended section unit) e) → (sections : List (Block Token)) (named : NamedList E) →
    HoldsNamed says name_of (filter (starts word) sections) named → HoldsNamed says name_of (filter (starts word) (with_unit sections unit)) named
named_stays says word unit stays sections named h = record {
  names = h.names ∙ sym (names_stay word unit sections);
  entries = turn_stays says word unit stays sections named.entries h.entries;
}

-- ## a unit of another kind

all_stays : (units : List (List Token)) (unit : List Token) (said : Sections) → is_head unit ≡ false → is_class unit ≡ false →
    HoldsAll (blocks is_head units) said → HoldsAll (blocks is_head (units ++ unit ∷ [])) said
all_stays units unit said head class h =
    subst (λ z. HoldsAll z said) (sym (blocks-body is_head units unit head)) (record {
      sites = named_stays SaysSite Site unit (site_stays unit) (blocks is_head units) said.sites h.sites;
      macros = named_stays SaysMacro Macro unit (macro_stays unit class) (blocks is_head units) said.macros h.macros;
    })

abbrev pub with_open : Sections → Open → Sections
with_open said one = record { sites = said.sites; macros = said.macros; «open» = one }

open_more : (word : Sort) (units : List (List Token)) (unit : List Token) (old : Sections) (one : Open) (h : HoldsOpen word units old) → is_head unit ≡ false →
    IsOpen word (extended h.last unit) (with_open old one) → HoldsOpen word (units ++ unit ∷ []) (with_open old one)
open_more word units unit old one h head is = record {
  before = h.before;
  last = extended h.last unit;
  is = blocks-last is_head units unit h.before h.last head h.is;
  all = record { sites = h.all.sites; macros = h.all.macros };
  one = is;
  fresh = h.fresh;
}

open_stays : (word : Sort) (units : List (List Token)) (unit : List Token) (said : Sections) → is_head unit ≡ false → is_size unit ≡ false → is_class unit ≡ false →
    HoldsOpen word units said → HoldsOpen word (units ++ unit ∷ []) said
open_stays word units unit said head size class h = open_more word units unit said said.open h head (record {
  begins = h.one.begins;
  name = h.one.name;
  size = subst (λ z. IsSized z said.open.size) (sym (first-same is_size h.last.body unit size)) h.one.size;
  block = h.one.block ∙ ap class_said (sym (first-same is_class h.last.body unit class));
})

in_stays : (section : Section) (units : List (List Token)) (unit : List Token) (said : Sections) → is_head unit ≡ false → is_size unit ≡ false → is_class unit ≡ false →
    HoldsIn section units said → HoldsIn section (units ++ unit ∷ []) said
in_stays places.Site units unit said head size class h = open_stays Site units unit said head size class h
in_stays places.SizedSite units unit said head size class h = (open_stays Site units unit said head size class h.0, h.1)
in_stays places.Macro units unit said head size class h = open_stays Macro units unit said head size class h
in_stays places.SizedMacro units unit said head size class h = (open_stays Macro units unit said head size class h.0, h.1)
in_stays section units unit said head size class h = all_stays units unit said head class h

-- A unit that is no head, no SIZE, no CLASS and no end leaves what is held.
pub other_leads : (section : Section) (unit : List Token) (said : Sections) → is_head unit ≡ false → is_size unit ≡ false → is_class unit ≡ false →
    section_after section unit ≡ section → Leads section unit said said
other_leads section unit said head size class same = λ units at taken h.
    subst (λ z. HoldsIn z (units ++ unit ∷ []) said) (sym same) (in_stays section units unit said head size class h)

-- So does the end of the library.
pub end_leads : (section : Section) (first name : Token) (said : Sections) → sort_of first ≡ End → (section ≡ places.SizedSite → ⊥) →
    (section ≡ places.SizedMacro → ⊥) → Leads section (first ∷ name ∷ []) said said
end_leads section first name said is a b = λ units at taken h.
    let top = end_there section units first name at taken is a b in
    subst (λ z. HoldsIn (section_by z (sort_of first)) (units ++ (first ∷ name ∷ []) ∷ []) said) (sym top)
    (subst (λ z. HoldsIn (section_by places.Top z) (units ++ (first ∷ name ∷ []) ∷ []) said) (sym is)
    (all_stays units (first ∷ name ∷ []) said (ap opens is) (ap (the Class) is) (subst (λ z. HoldsIn z units said) top h)))

-- A first word of two that is no keyword of them.
other_word : (s : Sort) → (s ≡ Site → ⊥) → (s ≡ Macro → ⊥) → (s ≡ End → ⊥) → (s ≡ Class → ⊥) →
    (opens s ≡ false) × (the Class s ≡ false) × ((section : Section) → section_by section s ≡ section)
other_word Site a b c d = absurd (a refl)
other_word Macro a b c d = absurd (b refl)
other_word End a b c d = absurd (c refl)
other_word Class a b c d = absurd (d refl)
other_word s a b c d = (refl, refl, λ section. refl)

pub other_two : (section : Section) (first second : Token) (said : Sections) → (sort_of first ≡ Site → ⊥) → (sort_of first ≡ Macro → ⊥) →
    (sort_of first ≡ End → ⊥) → (sort_of first ≡ Class → ⊥) → Leads section (first ∷ second ∷ []) said said
other_two section first second said a b c d =
    let e = other_word (sort_of first) a b c d in
    other_leads section (first ∷ second ∷ []) said e.0 refl e.1 (e.2 section)

-- ## a head

head_open : (word : Sort) (units : List (List Token)) (first name : Token) (said : Sections) (one : Open) → sort_of first ≡ word → opens word ≡ true →
    the word word ≡ true → HoldsAll (blocks is_head units) said → one.name.now ≡ name.text → one.size ≡ None → one.block ≡ None →
    (Contains (map name_of (filter (starts word) (blocks is_head units))) name.text → ⊥) →
    HoldsOpen word (units ++ (first ∷ name ∷ []) ∷ []) (with_open said one)
head_open word units first name said one is opening same h named size block fresh = record {
  before = blocks is_head units;
  last = record { head = first ∷ name ∷ []; body = [] };
  is = blocks-head is_head units (first ∷ name ∷ []) (ap opens is ∙ opening);
  all = record { sites = h.sites; macros = h.macros };
  one = record {
    begins = ap (the word) is ∙ same;
    name = named;
    size = subst (λ z. IsSized None z) (sym size) tt;
    block = block;
  };
  fresh = fresh;
}

head_by : (s : Sort) (units : List (List Token)) (first name : Token) (said : Sections) (one : Open) → sort_of first ≡ s → opens s ≡ true →
    places.Top ≡ (standing_of units).section → IsTaken format units (first ∷ name ∷ []) →
    HoldsAll (blocks is_head units) said → one.name.now ≡ name.text → one.size ≡ None → one.block ≡ None →
    HoldsIn (section_by places.Top s) (units ++ (first ∷ name ∷ []) ∷ []) (with_open said one)
head_by Site units first name said one is opening at taken h named size block =
    head_open Site units first name said one is refl refl h named size block (λ there.
    taken.fine.1.0 (record { at = 1; kind = Twice }) (
      refl,
      subst (λ z. SecondFault z (standing_of units).section units name.text Twice) (sym is)
          (subst (λ z. SecondFault Site z units name.text Twice) at (refl, there)),
    ))
head_by Macro units first name said one is opening at taken h named size block =
    head_open Macro units first name said one is refl refl h named size block (λ there.
    taken.fine.1.0 (record { at = 1; kind = Twice }) (
      refl,
      subst (λ z. SecondFault z (standing_of units).section units name.text Twice) (sym is)
          (subst (λ z. SecondFault Macro z units name.text Twice) at (refl, there)),
    ))
head_by s units first name said one is opening at taken h named size block = absurd (let t : false ≡ true = opening in cc)

pub head_leads : (section : Section) (first name : Token) (said : Sections) (one : Open) → opens (sort_of first) ≡ true →
    one.name.now ≡ name.text → one.size ≡ None → one.block ≡ None → Leads section (first ∷ name ∷ []) said (with_open said one)
head_leads section first name said one opening named size block = λ units at taken h.
    let top = head_there section units first name at taken opening in
    subst (λ z. HoldsIn (section_by z (sort_of first)) (units ++ (first ∷ name ∷ []) ∷ []) (with_open said one)) (sym top)
    (head_by (sort_of first) units first name said one refl opening (sym top ∙ at) taken (subst (λ z. HoldsIn z units said) top h) named size block)

-- ## a size

sized_by : (body : List (List Token)) (unit : List Token) (o : Option (List Token)) (old : Option TheSize) (size : TheSize) → first_with is_size body ≡ o →
    is_size unit ≡ true → SaysSize (Some unit) size.width size.height → IsSized o old →
    IsSized (first_with is_size (body ++ unit ∷ [])) (Some (unwrap_or old size))
sized_by body unit None None size is one says h =
    subst (λ z. IsSized z (Some size)) (sym (first-more is_size body unit is ∙ ap (λ z. cond z (Some unit) None) one)) says
sized_by body unit None (Some old) size is one says h = absurd h
sized_by body unit (Some x) None size is one says h = absurd h
sized_by body unit (Some x) (Some old) size is one says h = subst (λ z. IsSized z (Some old)) (sym (first-stays is_size body unit x is)) h

size_open : (word : Sort) (units : List (List Token)) (unit : List Token) (said : Sections) (size : TheSize) → is_head unit ≡ false → is_class unit ≡ false →
    is_size unit ≡ true → SaysSize (Some unit) size.width size.height → HoldsOpen word units said →
    HoldsOpen word (units ++ unit ∷ []) (with_open said (record { name = said.open.name; size = Some (unwrap_or said.open.size size); block = said.open.block }))
size_open word units unit said size head class one says h = open_more word units unit said _ h head (record {
  begins = h.one.begins;
  name = h.one.name;
  size = sized_by h.last.body unit (first_with is_size h.last.body) said.open.size size refl one says h.one.size;
  block = h.one.block ∙ ap class_said (sym (first-same is_class h.last.body unit class));
})

size_in : (section : Section) (units : List (List Token)) (unit : List Token) (said : Sections) (size : TheSize) → is_open section ≡ true → is_head unit ≡ false →
    is_class unit ≡ false → is_size unit ≡ true → SaysSize (Some unit) size.width size.height → HoldsIn section units said →
    HoldsIn (sized section) (units ++ unit ∷ []) (with_open said (record { name = said.open.name; size = Some (unwrap_or said.open.size size); block = said.open.block }))
size_in places.Site units unit said size there head class one says h = (size_open Site units unit said size head class one says h, tt)
size_in places.SizedSite units unit said size there head class one says h = (size_open Site units unit said size head class one says h.0, tt)
size_in places.Macro units unit said size there head class one says h = (size_open Macro units unit said size head class one says h, tt)
size_in places.SizedMacro units unit said size there head class one says h = (size_open Macro units unit said size head class one says h.0, tt)
size_in section units unit said size there head class one says h = absurd (let t : false ≡ true = there in cc)

is_the_size : (s : Sort) → the Size s ≡ true → s ≡ Size
is_the_size Size h = refl
is_the_size s h = absurd (let t : false ≡ true = h in cc)

pub size_leads : (section : Section) (first width by height stop : Token) (said : Sections) (size : TheSize) →
    (sort_of first ≡ Size → SaysSize (Some (first ∷ width ∷ by ∷ height ∷ stop ∷ [])) size.width size.height) →
    Leads section (first ∷ width ∷ by ∷ height ∷ stop ∷ []) said (with_open said (record { name = said.open.name; size = Some (unwrap_or said.open.size size); block = said.open.block }))
size_leads section first width by height stop said size says = λ units at taken h.
    let there = size_there section units first width by height stop at taken in
    size_in section units (first ∷ width ∷ by ∷ height ∷ stop ∷ []) said size there.0 refl refl there.1 (says (is_the_size _ there.1)) h

-- ## a class

class_by : (body : List (List Token)) (unit : List Token) (o : Option (List Token)) → first_with is_class body ≡ o → is_class unit ≡ true →
    Some (unwrap_or (class_said o) (makes_block unit)) ≡ class_said (first_with is_class (body ++ unit ∷ []))
class_by body unit None is one = sym (ap class_said (first-more is_class body unit is ∙ ap (λ z. cond z (Some unit) None) one))
class_by body unit (Some x) is one = sym (ap class_said (first-stays is_class body unit x is))

class_open : (word : Sort) (units : List (List Token)) (unit : List Token) (said : Sections) (block : Bool) → is_head unit ≡ false → is_size unit ≡ false →
    is_class unit ≡ true → block ≡ makes_block unit → HoldsOpen word units said →
    HoldsOpen word (units ++ unit ∷ []) (with_open said (record { name = said.open.name; size = said.open.size; block = Some (unwrap_or said.open.block block) }))
class_open word units unit said block head size one makes h = open_more word units unit said _ h head (record {
  begins = h.one.begins;
  name = h.one.name;
  size = subst (λ z. IsSized z said.open.size) (sym (first-same is_size h.last.body unit size)) h.one.size;
  block =
      ap (λ z. Some (unwrap_or z block)) h.one.block
      ∙ ap (λ z. Some (unwrap_or (class_said (first_with is_class h.last.body)) z)) makes
      ∙ class_by h.last.body unit (first_with is_class h.last.body) refl one;
})

class_in : (section : Section) (units : List (List Token)) (unit : List Token) (said : Sections) (block : Bool) → is_open section ≡ true → is_head unit ≡ false →
    is_size unit ≡ false → is_class unit ≡ true → block ≡ makes_block unit → HoldsIn section units said →
    HoldsIn section (units ++ unit ∷ []) (with_open said (record { name = said.open.name; size = said.open.size; block = Some (unwrap_or said.open.block block) }))
class_in places.Site units unit said block there head size one makes h = class_open Site units unit said block head size one makes h
class_in places.SizedSite units unit said block there head size one makes h = (class_open Site units unit said block head size one makes h.0, h.1)
class_in places.Macro units unit said block there head size one makes h = class_open Macro units unit said block head size one makes h
class_in places.SizedMacro units unit said block there head size one makes h = (class_open Macro units unit said block head size one makes h.0, h.1)
class_in section units unit said block there head size one makes h = absurd (let t : false ≡ true = there in cc)

pub class_leads : (section : Section) (first class : Token) (said : Sections) (block : Bool) → sort_of first ≡ Class →
    block ≡ makes_block (first ∷ class ∷ []) →
    Leads section (first ∷ class ∷ []) said (with_open said (record { name = said.open.name; size = said.open.size; block = Some (unwrap_or said.open.block block) }))
class_leads section first class said block is makes = λ units at taken h.
    let new = with_open said (record { name = said.open.name; size = said.open.size; block = Some (unwrap_or said.open.block block) }) in
    let there = class_there section units first class at taken is in
    subst (λ z. HoldsIn z (units ++ (first ∷ class ∷ []) ∷ []) new) (sym (ap (section_by section) is))
    (class_in section units (first ∷ class ∷ []) said block there (ap opens is) refl (ap (the Class) is) makes h)

-- ## an end

site_only : (s : Sort) → the Site s ≡ true → the Macro s ≡ false
site_only Site h = refl
site_only s h = absurd (let t : false ≡ true = h in cc)

macro_only : (s : Sort) → the Macro s ≡ true → the Site s ≡ false
macro_only Macro h = refl
macro_only s h = absurd (let t : false ≡ true = h in cc)

no_macro : (head : List Token) (body : List (List Token)) → starts Site (record { head = head; body = body }) ≡ true →
    starts Macro (record { head = head; body = body }) ≡ false
no_macro [] body h = absurd (let t : false ≡ true = h in cc)
no_macro (first ∷ words) body h = site_only (sort_of first) h

no_site : (head : List Token) (body : List (List Token)) → starts Macro (record { head = head; body = body }) ≡ true →
    starts Site (record { head = head; body = body }) ≡ false
no_site [] body h = absurd (let t : false ≡ true = h in cc)
no_site (first ∷ words) body h = macro_only (sort_of first) h

sized_says : (o : Option (List Token)) (size : Option TheSize) (w h : ℕ) → first_size size ≡ record { width = w; height = h } → HasSize size → IsSized o size → SaysSize o w h
sized_says o None w h e some s = absurd some
sized_says None (Some size) w h e some s = absurd s
sized_says (Some unit) (Some size) w h e some s = subst (λ (z : TheSize). SaysSize (Some unit) z.width z.height) e s

-- A macro's class is what its first CLASS says.
block_says : (o : Option (List Token)) → unwrap_or (class_said o) false ≡ is_block o
block_says None = refl
block_says (Some unit) = refl

abbrev pub with_sites : Sections → NamedList TheSite → Sections
with_sites said sites = record { sites = sites; macros = said.macros; «open» = said.open }

abbrev pub with_macros : Sections → NamedList MacroCell → Sections
with_macros said macros = record { sites = said.sites; macros = macros; «open» = said.open }

site_ends : (units : List (List Token)) (unit : List Token) (said : Sections) (sites : NamedList TheSite) (site : TheSite) → is_head unit ≡ false →
    site.name ≡ said.open.name.now → first_size said.open.size ≡ record { width = site.width; height = site.height } →
    TakesName said.sites.names sites.names said.open.name.now → sites.entries ≡ said.sites.entries ++ site ∷ [] →
    HoldsOpen Site units said × HasSize said.open.size → HoldsAll (blocks is_head (units ++ unit ∷ [])) (with_sites said sites)
site_ends units unit said sites site head named size taken entries (h, some) =
    subst (λ z. HoldsAll z (with_sites said sites)) (sym (blocks-last is_head units unit h.before h.last head h.is)) (record {
      sites = named-added SaysSite name_of (starts Site) h.before (extended h.last unit) said.sites sites site h.one.begins h.all.sites h.fresh
          (site_stays unit h.last site (record {
            name = named ∙ h.one.name;
            size = sized_says (first_with is_size h.last.body) said.open.size site.width site.height size some h.one.size;
          }))
          (subst (λ z. TakesName said.sites.names sites.names z) h.one.name taken) entries;
      macros = named-kept SaysMacro name_of (starts Macro) h.before (extended h.last unit) said.macros
          (no_macro h.last.head (h.last.body ++ unit ∷ []) h.one.begins) h.all.macros;
    })

macro_ends : (units : List (List Token)) (unit : List Token) (said : Sections) (macros : NamedList MacroCell) (cell : MacroCell) → is_head unit ≡ false →
    is_class unit ≡ false → cell.name ≡ said.open.name.now → first_size said.open.size ≡ record { width = cell.width; height = cell.height } →
    cell.block ≡ unwrap_or said.open.block false →
    TakesName said.macros.names macros.names said.open.name.now → macros.entries ≡ said.macros.entries ++ cell ∷ [] →
    HoldsOpen Macro units said × HasSize said.open.size → HoldsAll (blocks is_head (units ++ unit ∷ [])) (with_macros said macros)
macro_ends units unit said macros cell head class named size block taken entries (h, some) =
    subst (λ z. HoldsAll z (with_macros said macros)) (sym (blocks-last is_head units unit h.before h.last head h.is)) (record {
      sites = named-kept SaysSite name_of (starts Site) h.before (extended h.last unit) said.sites
          (no_site h.last.head (h.last.body ++ unit ∷ []) h.one.begins) h.all.sites;
      macros = named-added SaysMacro name_of (starts Macro) h.before (extended h.last unit) said.macros macros cell h.one.begins h.all.macros h.fresh
          (macro_stays unit class h.last cell (record {
            name = named ∙ h.one.name;
            size = sized_says (first_with is_size h.last.body) said.open.size cell.width cell.height size some h.one.size;
            block = block ∙ ap (λ z. unwrap_or z false) h.one.block ∙ block_says (first_with is_class h.last.body);
          }))
          (subst (λ z. TakesName said.macros.names macros.names z) h.one.name taken) entries;
    })

pub site_leads : (said : Sections) (sites : NamedList TheSite) (site : TheSite) (r : Result (Unit {0}) AllocError) →
    site.name ≡ said.open.name.now → first_size said.open.size ≡ record { width = site.width; height = site.height } →
    OnOk r (TakesName said.sites.names sites.names said.open.name.now) → OnOk r (sites.entries ≡ said.sites.entries ++ site ∷ []) →
    OnOk r ((first name : Token) → sort_of first ≡ End → Leads places.SizedSite (first ∷ name ∷ []) said (with_sites said sites))
site_leads said sites site (Err x) named size added entries = tt
site_leads said sites site (Ok x) named size added entries = λ first name is units at taken h.
    subst (λ z. HoldsIn (section_by places.SizedSite z) (units ++ (first ∷ name ∷ []) ∷ []) (with_sites said sites)) (sym is)
    (site_ends units (first ∷ name ∷ []) said sites site (ap opens is) named size added entries h)

pub macro_leads : (said : Sections) (macros : NamedList MacroCell) (cell : MacroCell) (r : Result (Unit {0}) AllocError) →
    cell.name ≡ said.open.name.now → first_size said.open.size ≡ record { width = cell.width; height = cell.height } →
    cell.block ≡ unwrap_or said.open.block false →
    OnOk r (TakesName said.macros.names macros.names said.open.name.now) → OnOk r (macros.entries ≡ said.macros.entries ++ cell ∷ []) →
    OnOk r ((first name : Token) → sort_of first ≡ End → Leads places.SizedMacro (first ∷ name ∷ []) said (with_macros said macros))
macro_leads said macros cell (Err x) named size block added entries = tt
macro_leads said macros cell (Ok x) named size block added entries = λ first name is units at taken h.
    subst (λ z. HoldsIn (section_by places.SizedMacro z) (units ++ (first ∷ name ∷ []) ∷ []) (with_macros said macros)) (sym is)
    (macro_ends units (first ∷ name ∷ []) said macros cell (ap opens is) (ap (the Class) is) named size block added entries h)

-- ## units by the number of their words

-- What follows, where all went well.
pub on_ok : (A B : Type 0) (r : Result (Unit {0}) AllocError) → (A → B) → OnOk r A → OnOk r B
on_ok A B (Err x) f h = tt
on_ok A B (Ok x) f h = f h

-- A unit that has neither two words nor five leaves what is held.
pub length_leads : (section : Section) (unit : List Token) (said : Sections) → (length unit ≡ 2 → ⊥) → (length unit ≡ 5 → ⊥) → Leads section unit said said
length_leads section [] said a b = other_leads section [] said refl refl refl refl
length_leads section (x ∷ []) said a b = other_leads section (x ∷ []) said refl refl refl refl
length_leads section (x ∷ y ∷ []) said a b = absurd (a refl)
length_leads section (x ∷ y ∷ z ∷ []) said a b = other_leads section (x ∷ y ∷ z ∷ []) said refl refl refl refl
length_leads section (x ∷ y ∷ z ∷ v ∷ []) said a b = other_leads section (x ∷ y ∷ z ∷ v ∷ []) said refl refl refl refl
length_leads section (x ∷ y ∷ z ∷ v ∷ w ∷ []) said a b = absurd (b refl)
length_leads section (x ∷ y ∷ z ∷ v ∷ w ∷ u ∷ unit) said a b = other_leads section (x ∷ y ∷ z ∷ v ∷ w ∷ u ∷ unit) said refl refl refl refl

-- ## the name of the section that is open

last_is : (before : List (Block Token)) (last : Block Token) → last_name (before ++ last ∷ []) ≡ name_of last
last_is [] last = refl
last_is (b ∷ []) last = refl
last_is (b ∷ d ∷ before) last = last_is (d ∷ before) last

pub open_name : (word : Sort) (units : List (List Token)) (said : Sections) → HoldsOpen word units said → said.open.name.now ≡ last_name (blocks is_head units)
open_name word units said h = h.one.name ∙ sym (ap last_name h.is ∙ last_is h.before h.last)
