-- Six readings of texts, one after the other: the technology, the cells of two texts, and three more. There is one refusal, and none
-- where all texts are read.
use Rattle.std.proofs.Common.{◌≡◌, ◌≢◌, ◌⊎◌, inl, inr, ℕ, List, Option, None, Result, refl}
use Rattle.answers.specs.declared.answer.Answer.{Answer}
use Rattle.answers.specs.declared.answer.Answer.TheVariants.{Want}
use Rattle.answers.specs.declared.kind.TextKind.{TextKind}
use Rattle.reading.specs.declared.error.ReadError.{ReadError}
use Rattle.lef_tech.specs.declared.error.TechKind.TheVariants as tech
use Rattle.lef_tech.specs.Format.{ReadsTech}
use Rattle.lef_cells.specs.declared.error.CellsKind.TheVariants as cells
use Rattle.lef_cells.specs.Format.{ReadsCells}
use Rattle.building.specs.Inputs.{FileText}
use Rattle.building.specs.Kinds.{tech_kind, cells_kind}
use Rattle.building.specs.Reading.{IsRefused, HasRecord}
use Rattle.one_design.specs.Laws.Causes.{One, Apart, one_of_two}
use Rattle.one_design.specs.Laws.Texts.{HasOneResult, one_refused, refused_or_read}

module _ {R4 R5 R6 K4 K5 K6 : Type 0} (lef other fourth fifth sixth : FileText) (one_tech_of : HasOneResult ReadsTech tech.Want) (one_cells_of : HasOneResult ReadsCells cells.Want)
    (reads4 : List ℕ → Result R4 (ReadError K4) → Type 0) (want4 : K4) (kind4 : K4 → Option TextKind) (none4 : kind4 want4 ≡ None) (one4 : HasOneResult reads4 want4)
    (reads5 : List ℕ → Result R5 (ReadError K5) → Type 0) (want5 : K5) (kind5 : K5 → Option TextKind) (none5 : kind5 want5 ≡ None) (one5 : HasOneResult reads5 want5)
    (reads6 : List ℕ → Result R6 (ReadError K6) → Type 0) (want6 : K6) (kind6 : K6 → Option TextKind) (none6 : kind6 want6 ≡ None) (one6 : HasOneResult reads6 want6) where
  -- ---- what is refused at each text
  abbrev HasLef : Type 0
  HasLef = HasRecord ReadsTech lef × HasRecord ReadsCells lef × HasRecord ReadsCells other

  abbrev RefusesTech : Answer → Type 0
  RefusesTech a = IsRefused ReadsTech tech_kind lef a

  abbrev RefusesOwnCells : Answer → Type 0
  RefusesOwnCells a = HasRecord ReadsTech lef × IsRefused ReadsCells cells_kind lef a

  abbrev RefusesCells : Answer → Type 0
  RefusesCells a = HasRecord ReadsTech lef × HasRecord ReadsCells lef × IsRefused ReadsCells cells_kind other a

  abbrev RefusesFourth : Answer → Type 0
  RefusesFourth a = HasLef × IsRefused reads4 kind4 fourth a

  abbrev RefusesFifth : Answer → Type 0
  RefusesFifth a = HasLef × HasRecord reads4 fourth × IsRefused reads5 kind5 fifth a

  abbrev RefusesSixth : Answer → Type 0
  RefusesSixth a = HasLef × HasRecord reads4 fourth × HasRecord reads5 fifth × IsRefused reads6 kind6 sixth a

  abbrev IsUnread : Answer → Type 0
  IsUnread a = (a ≡ Want) ⊎ (RefusesTech a ⊎ (RefusesOwnCells a ⊎ (RefusesCells a ⊎ (RefusesFourth a ⊎ (RefusesFifth a ⊎ RefusesSixth a)))))

  -- ---- one refusal
  one_tech : One (RefusesTech)
  one_tech = one_refused ReadsTech tech.Want tech_kind refl one_tech_of lef

  one_own : One (RefusesOwnCells)
  one_own a b some_a some_b x y = one_refused ReadsCells cells.Want cells_kind refl one_cells_of lef a b some_a some_b x.1 y.1

  one_cells : One (RefusesCells)
  one_cells a b some_a some_b x y = one_refused ReadsCells cells.Want cells_kind refl one_cells_of other a b some_a some_b x.2 y.2

  one_fourth : One (RefusesFourth)
  one_fourth a b some_a some_b x y = one_refused reads4 want4 kind4 none4 one4 fourth a b some_a some_b x.1 y.1

  one_fifth : One (RefusesFifth)
  one_fifth a b some_a some_b x y = one_refused reads5 want5 kind5 none5 one5 fifth a b some_a some_b x.2 y.2

  one_sixth : One (RefusesSixth)
  one_sixth a b some_a some_b x y = one_refused reads6 want6 kind6 none6 one6 sixth a b some_a some_b x.3 y.3

  -- ---- no refusal where there is a record
  tech_or_not : (a : Answer) → RefusesTech a → HasRecord ReadsTech lef → a ≡ Want
  tech_or_not = refused_or_read ReadsTech tech.Want tech_kind refl one_tech_of lef

  own_or_not : (a : Answer) → RefusesOwnCells a → HasRecord ReadsCells lef → a ≡ Want
  own_or_not a x has = refused_or_read ReadsCells cells.Want cells_kind refl one_cells_of lef a x.1 has

  cells_or_not : (a : Answer) → RefusesCells a → HasRecord ReadsCells other → a ≡ Want
  cells_or_not a x has = refused_or_read ReadsCells cells.Want cells_kind refl one_cells_of other a x.2 has

  fourth_or_not : (a : Answer) → RefusesFourth a → HasRecord reads4 fourth → a ≡ Want
  fourth_or_not a x has = refused_or_read reads4 want4 kind4 none4 one4 fourth a x.1 has

  fifth_or_not : (a : Answer) → RefusesFifth a → HasRecord reads5 fifth → a ≡ Want
  fifth_or_not a x has = refused_or_read reads5 want5 kind5 none5 one5 fifth a x.2 has

  sixth_or_not : (a : Answer) → RefusesSixth a → HasRecord reads6 sixth → a ≡ Want
  sixth_or_not a x has = refused_or_read reads6 want6 kind6 none6 one6 sixth a x.3 has

  -- ---- the refusals after each text
  abbrev FromFifth : Answer → Type 0
  FromFifth a = RefusesFifth a ⊎ RefusesSixth a

  abbrev FromFourth : Answer → Type 0
  FromFourth a = RefusesFourth a ⊎ FromFifth a

  abbrev FromCells : Answer → Type 0
  FromCells a = RefusesCells a ⊎ FromFourth a

  abbrev FromOwn : Answer → Type 0
  FromOwn a = RefusesOwnCells a ⊎ FromCells a

  lef_of : (a : Answer) → FromFourth a → HasLef
  lef_of a (inl x) = x.0
  lef_of a (inr (inl x)) = x.0
  lef_of a (inr (inr x)) = x.0

  from_fifth : One FromFifth
  from_fifth = one_of_two (RefusesFifth) (RefusesSixth) one_fifth one_sixth (λ a b x y. fifth_or_not a x y.2)

  from_fourth : One FromFourth
  from_fourth = one_of_two (RefusesFourth) FromFifth one_fourth from_fifth (λ a b x y. elim y [ inl z ↦ fourth_or_not a x z.1 | inr z ↦ fourth_or_not a x z.1 ])

  from_cells : One FromCells
  from_cells = one_of_two (RefusesCells) FromFourth one_cells from_fourth (λ a b x y. let has = lef_of b y in cells_or_not a x has.2)

  own_before : Apart (RefusesOwnCells) FromCells
  own_before a b x (inl y) = own_or_not a x y.1
  own_before a b x (inr y) = let has = lef_of b y in own_or_not a x has.1

  from_own : One FromOwn
  from_own = one_of_two (RefusesOwnCells) FromCells one_own from_cells own_before

  tech_before : Apart (RefusesTech) FromOwn
  tech_before a b x (inl y) = tech_or_not a x y.0
  tech_before a b x (inr (inl y)) = tech_or_not a x y.0
  tech_before a b x (inr (inr y)) = let has = lef_of b y in tech_or_not a x has.0

  from_tech : One (λ a. RefusesTech a ⊎ FromOwn a)
  from_tech = one_of_two (RefusesTech) FromOwn one_tech from_own tech_before

  pub one_unread : One (IsUnread)
  one_unread a b some_a some_b (inl want) y = absurd (some_a want)
  one_unread a b some_a some_b (inr x) (inl want) = absurd (some_b want)
  one_unread a b some_a some_b (inr x) (inr y) = from_tech a b some_a some_b x y

  pub unread_or_read : (a : Answer) → HasLef → HasRecord reads4 fourth → HasRecord reads5 fifth → HasRecord reads6 sixth → IsUnread a → a ≡ Want
  unread_or_read a has has4 has5 has6 (inl want) = want
  unread_or_read a has has4 has5 has6 (inr (inl x)) = tech_or_not a x has.0
  unread_or_read a has has4 has5 has6 (inr (inr (inl x))) = own_or_not a x has.1
  unread_or_read a has has4 has5 has6 (inr (inr (inr (inl x)))) = cells_or_not a x has.2
  unread_or_read a has has4 has5 has6 (inr (inr (inr (inr (inl x))))) = fourth_or_not a x has4
  unread_or_read a has has4 has5 has6 (inr (inr (inr (inr (inr (inl x)))))) = fifth_or_not a x has5
  unread_or_read a has has4 has5 has6 (inr (inr (inr (inr (inr (inr x)))))) = sixth_or_not a x has6
