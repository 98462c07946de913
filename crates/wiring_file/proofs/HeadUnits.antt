-- What stands before the vias.
use Rattle.std.proofs.Common.{◌≡◌, ℕ, suc, ◌<◌, ◌≤◌, true, false, ℤ, pos, List, [], ◌∷◌, ◌++◌, length, take, codes, Ok, refl, sym, ◌∙◌, subst, arith, inl, inr}
use Rattle.std.specs.Prelude.{decimal}
use Rattle.std.specs.Fmt.{signed_decimal}
use Rattle.std.proofs.lemmas.Int.{ints}
use Rattle.std.proofs.lemmas.List.{length-take-le}
use Rattle.number_place.specs.declared.place.NumberSign.TheVariants.{Any, Positive}
use Rattle.number_place.specs.Place.{IsNumberAt}
use Rattle.reading.specs.Word.{Token}
use Rattle.wiring_file.specs.declared.number.Quantity.TheVariants as quantities
use Rattle.wiring_file.specs.declared.section.Section.{Section}
use Rattle.wiring_file.specs.declared.section.Section.TheVariants as sections
use Rattle.wiring_file.specs.Sort.{sort_of_text}
use Rattle.wiring_file.specs.Number.{place_of}
use Rattle.wiring_file.specs.Rule.{is_number, version, divider, bus_bits, design, units, die}
use Rattle.wiring_file.specs.Standing.{Standing}
use Rattle.wiring_file.specs.Fault.{IsFlat}
use Rattle.wiring_file.specs.Written.{HeadText, HeadReads, point}
use Rattle.wiring_file.proofs.Digits.{Laws, number_is, number_word, number_bare, IsNumberWord, same_number}
use Rattle.written_words.specs.Numbers.{whole}
use Rattle.wiring_file.proofs.Spelled.{is_bare}
use Rattle.written_words.specs.Spelled.{Written, bare, quoted, tokens, IsWritten}
use Rattle.wiring_file.proofs.Sorts.{in_turn_match, number_sort}
use Rattle.wiring_file.proofs.Blocks.{Says_in, no_fault, nothing, joins_written}
use Rattle.wiring_file.proofs.Facts.{IsNameWord, IsNumber, name_word, number}
use Rattle.wiring_file.proofs.ViaUnits.{bares, standing_at}

pub record HeadFacts (head : HeadText) : Type 0 where
  pub name : IsNameWord head.name
  pub units_is : IsNumberAt (place_of quantities.Microns) (decimal head.units) (Ok (pos head.units))
  pub units_sort : is_number (sort_of_text (decimal head.units)) ≡ true
  pub units_word : IsWritten (bare (decimal head.units))
  pub x1 : IsNumber Any head.x1
  pub y1 : IsNumber Any head.y1
  pub x2 : IsNumber Any head.x2
  pub y2 : IsNumber Any head.y2
  pub wide : head.x1 ≡ head.x2 → ⊥
  pub high : head.y1 ≡ head.y2 → ⊥

pub head_facts : Laws → (head : HeadText) → HeadReads head → HeadFacts head
head_facts laws head h =
    let some : 1 ≤ head.units = h.some_units in
    let is : IsNumberAt (whole 20000 Positive) (decimal head.units) (Ok (pos head.units)) =
    number_is laws Positive (pos head.units) 20000 (omega (arith, ints)) h.units (omega arith) in
    let word : IsNumberWord (decimal head.units) = number_word 20000 Positive (decimal head.units) (pos head.units) is in
    record {
      name = name_word head.name h.name;
      units_is = is;
      units_sort = number_sort (decimal head.units) word;
      units_word = is_bare (decimal head.units) (number_bare (decimal head.units) word);
      x1 = number laws Any head.x1 tt h.x1;
      y1 = number laws Any head.y1 tt h.y1;
      x2 = number laws Any head.x2 tt h.x2;
      y2 = number laws Any head.y2 tt h.y2;
      wide = h.wide;
      high = h.high;
    }

abbrev at : Section → Standing
at section = standing_at section [] 0 [] false

abbrev pub version_words : List Written
version_words = bares (codes "VERSION" ∷ codes "5.8" ∷ codes ";" ∷ [])

abbrev pub divider_words : List Written
divider_words = bare (codes "DIVIDERCHAR") ∷ quoted (codes "/") ∷ bare (codes ";") ∷ []

abbrev pub bus_words : List Written
bus_words = bare (codes "BUSBITCHARS") ∷ quoted (codes "[]") ∷ bare (codes ";") ∷ []

abbrev pub design_words : HeadText → List (List ℕ)
design_words head = codes "DESIGN" ∷ head.name ∷ codes ";" ∷ []

abbrev pub units_words : HeadText → List (List ℕ)
units_words head = codes "UNITS" ∷ codes "DISTANCE" ∷ codes "MICRONS" ∷ decimal head.units ∷ codes ";" ∷ []

abbrev pub die_words : HeadText → List (List ℕ)
die_words head = codes "DIEAREA" ∷ (point head.x1 head.y1 ++ point head.x2 head.y2 ++ codes ";" ∷ [])

version_taken : Laws → Says_in (at sections.Version) (version_words ∷ []) (at sections.DividerChar) nothing
version_taken laws f =
    let u : List Token = tokens f (version_words) in
    record {
      taken = (omega arith, in_turn_match version u (refl, (refl, (refl, tt))), no_fault laws (at sections.Version) u tt (λ n within unfit. unfit), tt);
      leads = refl;
      vias = tt;
      wires = tt;
      places = tt;
    }

divider_taken : Laws → Says_in (at sections.DividerChar) (divider_words ∷ []) (at sections.BusBitChars) nothing
divider_taken laws f =
    let u : List Token = tokens f (divider_words) in
    record {
      taken = (omega arith, in_turn_match divider u (refl, (refl, (refl, tt))), no_fault laws (at sections.DividerChar) u tt (λ n within unfit. unfit), tt);
      leads = refl;
      vias = tt;
      wires = tt;
      places = tt;
    }

bus_taken : Laws → Says_in (at sections.BusBitChars) (bus_words ∷ []) (at sections.Design) nothing
bus_taken laws f =
    let u : List Token = tokens f (bus_words) in
    record {
      taken = (omega arith, in_turn_match bus_bits u (refl, (refl, (refl, tt))), no_fault laws (at sections.BusBitChars) u tt (λ n within unfit. unfit), tt);
      leads = refl;
      vias = tt;
      wires = tt;
      places = tt;
    }

design_taken : Laws → (head : HeadText) → HeadFacts head → Says_in (at sections.Design) (bares (design_words head) ∷ []) (at sections.Units) nothing
design_taken laws head h f =
    let u : List Token = tokens f (bares (design_words head)) in
    record {
      taken = (omega arith, in_turn_match design u (refl, (h.name.sort, (refl, tt))), no_fault laws (at sections.Design) u tt (λ n within unfit. unfit), tt);
      leads = refl;
      vias = tt;
      wires = tt;
      places = tt;
    }

units_taken : Laws → (head : HeadText) → HeadFacts head → Says_in (at sections.Units) (bares (units_words head) ∷ []) (at sections.Die) nothing
units_taken laws head h f =
    let u : List Token = tokens f (bares (units_words head)) in
    record {
      taken = (omega arith, in_turn_match units u (refl, (refl, (refl, (h.units_sort, (refl, tt))))), no_fault laws (at sections.Units) u (λ within. (pos head.units, h.units_is), tt) (λ n within unfit. unfit), tt);
      leads = refl;
      vias = tt;
      wires = tt;
      places = tt;
    }

-- A die is asked whether it is flat.
die_fit : (u : List Token) → (IsFlat (take 10 u) → ⊥) → (n : ℕ) → n < length u → (length (take (suc n) u) ≡ 10) × IsFlat (take (suc n) u) → ⊥
die_fit u none n within h =
    let count : length (take (suc n) u) ≡ suc n = length-take-le (suc n) u (omega arith) in
    none (subst (λ z. IsFlat (take z u)) (sym count ∙ h.0) h.1)

same_both : Laws → (a b x : ℤ) → IsNumber Any a → IsNumber Any b → IsNumberAt (place_of quantities.Coordinate) (signed_decimal a) (Ok x) →
    IsNumberAt (place_of quantities.Coordinate) (signed_decimal b) (Ok x) → a ≡ b
same_both laws a b x h k p q =
    same_number a x (laws.one (place_of quantities.Coordinate) (signed_decimal a) (Ok a) (Ok x) h.is p)
    ∙ sym (same_number b x (laws.one (place_of quantities.Coordinate) (signed_decimal b) (Ok b) (Ok x) k.is q))

die_taken : Laws → (head : HeadText) → HeadFacts head → Says_in (at sections.Die) (bares (die_words head) ∷ []) (at sections.ViasHead) nothing
die_taken laws head h f =
    let u : List Token = tokens f (bares (die_words head)) in
    let flat : IsFlat (take 10 u) → ⊥ = λ k. elim k [
      | inl x ↦ h.wide (same_both laws head.x1 head.x2 x.0 h.x1 h.x2 x.1 x.2)
      | inr y ↦ h.high (same_both laws head.y1 head.y2 y.0 h.y1 h.y2 y.1 y.2)
    ] in
    record {
      taken = (
        omega arith,
        in_turn_match die u (refl, (refl, (h.x1.sort, (h.y1.sort, (refl, (refl, (h.x2.sort, (h.y2.sort, (refl, (refl, tt)))))))))),
        no_fault laws (at sections.Die) u (λ within. (head.x1, h.x1.is), (λ within. (head.y1, h.y1.is), (λ within. (head.x2, h.x2.is), (λ within. (head.y2, h.y2.is), tt)))) (λ n within unfit. die_fit u flat n within unfit),
        tt,
      );
      leads = refl;
      vias = tt;
      wires = tt;
      places = tt;
    }

-- All of it.
abbrev pub head_units : HeadText → List (List Written)
head_units head =
    version_words ∷ divider_words ∷ bus_words ∷ bares (design_words head) ∷ bares (units_words head) ∷ bares (die_words head) ∷ []

pub head_taken : Laws → (head : HeadText) → HeadFacts head → Says_in (standing_at sections.Version [] 0 [] false) (head_units head) (standing_at sections.ViasHead [] 0 [] false) nothing
head_taken laws head h =
    joins_written (at sections.Version) (at sections.DividerChar) (at sections.ViasHead) (version_words ∷ [])
    (divider_words ∷ bus_words ∷ bares (design_words head) ∷ bares (units_words head) ∷ bares (die_words head) ∷ []) nothing nothing (version_taken laws)
    (joins_written (at sections.DividerChar) (at sections.BusBitChars) (at sections.ViasHead) (divider_words ∷ [])
    (bus_words ∷ bares (design_words head) ∷ bares (units_words head) ∷ bares (die_words head) ∷ []) nothing nothing (divider_taken laws)
    (joins_written (at sections.BusBitChars) (at sections.Design) (at sections.ViasHead) (bus_words ∷ [])
    (bares (design_words head) ∷ bares (units_words head) ∷ bares (die_words head) ∷ []) nothing nothing (bus_taken laws)
    (joins_written (at sections.Design) (at sections.Units) (at sections.ViasHead) (bares (design_words head) ∷ [])
    (bares (units_words head) ∷ bares (die_words head) ∷ []) nothing nothing (design_taken laws head h)
    (joins_written (at sections.Units) (at sections.Die) (at sections.ViasHead) (bares (units_words head) ∷ [])
    (bares (die_words head) ∷ []) nothing nothing (units_taken laws head h) (die_taken laws head h)))))
