-- What stands before the vias, and the heads and ends of the sections.
use Rattle.std.proofs.Common.{◌≡◌, ℕ, suc, ◌^◌, ◌≤◌, true, false, ℤ, pos, List, [], ◌∷◌, ◌++◌, codes, Option, Some, refl, ap, arith, inl, inr}
use Rattle.std.specs.Prelude.{decimal}
use Rattle.std.specs.Fmt.{signed_decimal}
use Rattle.std.specs.Str.{bytes_eq}
use Rattle.std.proofs.lemmas.Int.{ints}
use Rattle.outside.specs.declared.place.Place.{Place}
use Rattle.lef_statements.specs.declared.passing.Passing.{Passing}
use Rattle.lef_statements.specs.declared.passing.Passing.TheVariants.{Statement}
use Rattle.lef_statements.specs.Passing.{unless}
use Rattle.lef_statements.specs.Word.{is_word as is_the_word}
use Rattle.reading.specs.Word.{Token, form_of}
use Rattle.def_wiring.specs.declared.error.WiresKind.{WiresKind}
use Rattle.def_wiring.specs.declared.number.Quantity.TheVariants.{NotNegative}
use Rattle.def_wiring.specs.declared.section.Section.TheVariants.{Top, Vias, Nets, Ended}
use Rattle.def_wiring.specs.declared.standing.Standing.{Standing}
use Rattle.def_wiring.specs.Number.{NumberFault}
use Rattle.def_wiring.specs.Record.{Said, Heard}
use Rattle.def_wiring.specs.Rule.{is_word, is_number, is_other}
use Rattle.def_wiring.specs.Sort.{sort_of, sort_of_text}
use Rattle.def_wiring.specs.Standing.{passed_by}
use Rattle.wiring_file.specs.Written.{HeadText, HeadReads, point}
use Rattle.written_words.specs.Spelled.{Written, bare, quoted, tokens}
use Rattle.def_wiring.proofs.written.Words.{Laws, IsNameWord, IsNumberWord, name_word, number_word, number_is, no_fault}
use Rattle.def_wiring.proofs.written.Steps.{Takes, Leads, at_word, past_all, units_of, joins_words, singles, between}
use Rattle.def_wiring.proofs.written.NetSteps.{bares, tok, name_is_word}

-- ## statements that are passed over

abbrev token_of : Place → Written → Token
token_of p w = record { text = w.text; place = p; form = form_of w.form }

-- In a statement that is passed over.
abbrev passing_at : Standing → Said → Option Passing → Heard
passing_at junk said passing = record { standing = record junk { section = Top; passing = passing }; said = said }

-- A word that does not end it.
record IsPassed (w : Written) : Type 0 where
  word : (p : Place) → is_word (sort_of (token_of p w)) ≡ true
  no_end : (p : Place) → is_the_word (codes ";") (token_of p w) ≡ false

abbrev AllPassed : List Written → Type 0
AllPassed [] = Unit {0}
AllPassed (w ∷ ws) = IsPassed w × AllPassed ws

-- A word that begins a statement that is passed over.
record Begins (text : List ℕ) : Type 0 where
  other : is_other (sort_of_text text) ≡ true
  passed : (p : Place) → passed_by (sort_of_text text) (tok p text) ≡ Some Statement

abbrev semicolon : List Written
semicolon = bares (codes ";" ∷ [])

-- ## what stands before the vias

pub record HeadFacts (head : HeadText) : Type 0 where
  pub name : IsNameWord head.name
  pub units : IsNumberWord (pos head.units)
  pub x1 : IsNumberWord head.x1
  pub y1 : IsNumberWord head.y1
  pub x2 : IsNumberWord head.x2
  pub y2 : IsNumberWord head.y2

pub head_facts : Laws → (head : HeadText) → HeadReads head → HeadFacts head
head_facts laws head h = record {
  name = name_word head.name h.name;
  units = number_word laws (pos head.units) (omega (arith, ints, h.units));
  x1 = number_word laws head.x1 h.x1;
  y1 = number_word laws head.y1 h.y1;
  x2 = number_word laws head.x2 h.x2;
  y2 = number_word laws head.y2 h.y2;
}

key : (text : List ℕ) → is_word (sort_of_text text) ≡ true → bytes_eq text (codes ";") ≡ false → IsPassed (bare text)
key text word no_end = record { word = λ p. word; no_end = λ p. no_end }

name_passed : (text : List ℕ) → IsNameWord text → IsPassed (bare text)
name_passed text h = record { word = λ p. name_is_word (sort_of_text text) h.sort; no_end = λ p. h.no_end }

number_passed : (v : ℤ) → IsNumberWord v → IsPassed (bare (signed_decimal v))
number_passed v h = record { word = λ p. ap is_word h.sort; no_end = λ p. h.no_end }

string_passed : (text : List ℕ) → IsPassed (quoted text)
string_passed text = record { word = λ p. refl; no_end = λ p. refl }

abbrev pub version_words : List Written
version_words = bares (codes "VERSION" ∷ codes "5.8" ∷ codes ";" ∷ [])

abbrev pub divider_words : List Written
divider_words = bare (codes "DIVIDERCHAR") ∷ quoted (codes "/") ∷ bare (codes ";") ∷ []

abbrev pub bus_words : List Written
bus_words = bare (codes "BUSBITCHARS") ∷ quoted (codes "[]") ∷ bare (codes ";") ∷ []

abbrev pub design_words : HeadText → List (List ℕ)
design_words head = codes "DESIGN" ∷ head.name ∷ codes ";" ∷ []

abbrev pub units_words : HeadText → List (List ℕ)
units_words head = codes "UNITS" ∷ codes "DISTANCE" ∷ codes "MICRONS" ∷ decimal head.units ∷ codes ";" ∷ []

abbrev pub die_words : HeadText → List (List ℕ)
die_words head = codes "DIEAREA" ∷ (point head.x1 head.y1 ++ point head.x2 head.y2 ++ codes ";" ∷ [])

begins : (text : List ℕ) → is_other (sort_of_text text) ≡ true → ((p : Place) → passed_by (sort_of_text text) (tok p text) ≡ Some Statement) → Begins text
begins text other passed = record { other = other; passed = passed }

-- Its lines after the first one, and all of them.
abbrev after_version : HeadText → List Written
after_version head = divider_words ++ (bus_words ++ (bares (design_words head) ++ (bares (units_words head) ++ bares (die_words head))))

abbrev pub head_words : HeadText → List Written
head_words head = version_words ++ after_version head

-- ## heads and ends of sections

pub count_word : Laws → (k : ℕ) → k ≤ 2 ^ 61 → IsNumberWord (pos k)
count_word laws k few = number_word laws (pos k) (omega (arith, ints))

abbrev pub vias_head : ℕ → List Written
vias_head k = bares (codes "VIAS" ∷ decimal k ∷ codes ";" ∷ [])

abbrev pub nets_head : ℕ → List Written
nets_head k = bares (codes "SPECIALNETS" ∷ decimal k ∷ codes ";" ∷ [])

abbrev pub end_of : List ℕ → List Written
end_of text = bares (codes "END" ∷ text ∷ [])

-- F says when no word shows a fault: what is asked of numbers and of names before is asked under it alone, and all else holds
-- without it.
module _ (F : Type 0) where
  word_passes : (junk : Standing) (said : Said) (w : Written) → IsPassed w → (p : Place) → Takes F (passing_at junk said (Some Statement)) (token_of p w ∷ []) (passing_at junk said (Some Statement))
  word_passes junk said w h p = record {
    some = omega arith;
    matches = (token_of p w, h.word p, refl);
    fine = λ ok. (λ a faulty. faulty.1, tt);
    goes_on = refl;
    leads = ap (λ b. passing_at junk said (unless b Statement)) (h.no_end p);
  }

  words_pass : (junk : Standing) (said : Said) (ws : List Written) → AllPassed ws → (f : ℕ → Place) →
      Leads F (passing_at junk said (Some Statement)) (units_of f (singles ws)) (passing_at junk said (Some Statement))
  words_pass junk said [] h f = refl
  words_pass junk said (w ∷ ws) h f = (passing_at junk said (Some Statement), word_passes junk said w h.0 (f 0), words_pass junk said ws h.1 (λ n. f (suc n)))

  statement : (junk : Standing) (said : Said) (text : List ℕ) (ws : List Written) → Begins text → AllPassed ws → (f : ℕ → Place) →
      Leads F (between Top junk said) (units_of f (singles (bare text ∷ (ws ++ semicolon)))) (between Top junk said)
  statement junk said text ws begins h f =
      let t : Token = tok (f 0) text in
      let g : ℕ → Place = λ n. f (suc n) in
      let k : ℕ → Place = past_all (singles ws) g in
      let last : Token = tok (k 0) (codes ";") in
      let inside : Heard = passing_at junk said (Some Statement) in (
        inside,
        record {
          some = omega arith;
          matches = inr (inr (t, begins.other, refl));
          fine = λ ok. (λ a faulty. faulty.1, tt);
          goes_on = refl;
          leads = ap (λ z. passing_at junk said z) (begins.passed (f 0));
        },
        joins_words F g inside inside (between Top junk said) ws semicolon (words_pass junk said ws h g)
            (between Top junk said, record { some = omega arith; matches = (last, refl, refl); fine = λ ok. (λ a faulty. faulty.1, tt); goes_on = refl; leads = refl }, refl),
      )

  pub statements_lead : (head : HeadText) → HeadFacts head → (junk : Standing) (said : Said) (f : ℕ → Place) → Leads F (between Top junk said) (units_of f (singles (head_words head))) (between Top junk said)
  statements_lead head h junk said f =
      let a : Heard = between Top junk said in
      let dw : List Written = bares (design_words head) in
      let uw : List Written = bares (units_words head) in
      let ew : List Written = bares (die_words head) in
      let f1 : ℕ → Place = past_all (singles version_words) f in
      let f2 : ℕ → Place = past_all (singles divider_words) f1 in
      let f3 : ℕ → Place = past_all (singles bus_words) f2 in
      let f4 : ℕ → Place = past_all (singles dw) f3 in
      let f5 : ℕ → Place = past_all (singles uw) f4 in
      joins_words F f a a a version_words (after_version head)
      (statement junk said (codes "VERSION") (bares (codes "5.8" ∷ [])) (begins _ refl (λ p. refl)) (key (codes "5.8") refl refl, tt) f)
      (joins_words F f1 a a a divider_words (bus_words ++ (dw ++ (uw ++ ew)))
      (statement junk said (codes "DIVIDERCHAR") (quoted (codes "/") ∷ []) (begins _ refl (λ p. refl)) (string_passed (codes "/"), tt) f1)
      (joins_words F f2 a a a bus_words (dw ++ (uw ++ ew))
      (statement junk said (codes "BUSBITCHARS") (quoted (codes "[]") ∷ []) (begins _ refl (λ p. refl)) (string_passed (codes "[]"), tt) f2)
      (joins_words F f3 a a a dw (uw ++ ew)
      (statement junk said (codes "DESIGN") (bares (head.name ∷ [])) (begins _ refl (λ p. refl)) (name_passed head.name h.name, tt) f3)
      (joins_words F f4 a a a uw ew
      (statement junk said (codes "UNITS") (bares (codes "DISTANCE" ∷ codes "MICRONS" ∷ decimal head.units ∷ [])) (begins _ refl (λ p. refl))
      (key (codes "DISTANCE") refl refl, (key (codes "MICRONS") refl refl, (number_passed (pos head.units) h.units, tt))) f4)
      (statement junk said (codes "DIEAREA") (bares (point head.x1 head.y1 ++ point head.x2 head.y2)) (begins _ refl (λ p. refl)) (
        key (codes "(") refl refl,
        (
          number_passed head.x1 h.x1,
          (
            number_passed head.y1 h.y1,
            (
              key (codes ")") refl refl,
              (key (codes "(") refl refl, (number_passed head.x2 h.x2, (number_passed head.y2 h.y2, (key (codes ")") refl refl, tt)))),
            ),
          ),
        ),
      ) f5)))))

  count_fine : Laws → (k : ℕ) → k ≤ 2 ^ 30 → (kind : WiresKind) → NumberFault NotNegative (decimal k) kind → ⊥
  count_fine laws k few = no_fault laws NotNegative (decimal k) (pos k) (number_is laws NotNegative (pos k) (omega (arith, ints)) (omega (arith, ints)))

  pub vias_begin : Laws → (k : ℕ) → k ≤ 2 ^ 61 → (F → k ≤ 2 ^ 30) → (junk : Standing) (said : Said) (f : ℕ → Place) → Takes F (between Top junk said) (tokens f (vias_head k)) (between Vias junk said)
  vias_begin laws k most few junk said f =
      let a : Token = tok (f 0) (codes "VIAS") in
      let n : Token = tok (f 1) (decimal k) in
      let e : Token = tok (f 2) (codes ";") in
      let word : IsNumberWord (pos k) = count_word laws k most in
      record {
        some = omega arith;
        matches = inl (a ∷ [], n ∷ e ∷ [], (a, refl, refl), (n ∷ [], e ∷ [], (n, ap is_number word.sort, refl), (e, refl, refl), refl), refl);
        fine = λ ok. (λ x faulty. faulty.1, (λ x faulty. at_word (NumberFault NotNegative (decimal k)) (count_fine laws k (few ok)) x.kind faulty.1, (λ x faulty. faulty, tt)));
        goes_on = refl;
        leads = refl;
      }

  pub nets_begin : Laws → (k : ℕ) → k ≤ 2 ^ 61 → (F → k ≤ 2 ^ 30) → (junk : Standing) (said : Said) (f : ℕ → Place) → Takes F (between Top junk said) (tokens f (nets_head k)) (between Nets junk said)
  nets_begin laws k most few junk said f =
      let a : Token = tok (f 0) (codes "SPECIALNETS") in
      let n : Token = tok (f 1) (decimal k) in
      let e : Token = tok (f 2) (codes ";") in
      let word : IsNumberWord (pos k) = count_word laws k most in
      record {
        some = omega arith;
        matches = inl (a ∷ [], n ∷ e ∷ [], (a, refl, refl), (n ∷ [], e ∷ [], (n, ap is_number word.sort, refl), (e, refl, refl), refl), refl);
        fine = λ ok. (λ x faulty. faulty.1, (λ x faulty. at_word (NumberFault NotNegative (decimal k)) (count_fine laws k (few ok)) x.kind faulty.1, (λ x faulty. faulty, tt)));
        goes_on = refl;
        leads = refl;
      }

  pub vias_end : (junk : Standing) (said : Said) (f : ℕ → Place) → Takes F (between Vias junk said) (tokens f (end_of (codes "VIAS"))) (between Top junk said)
  vias_end junk said f =
      let a : Token = tok (f 0) (codes "END") in
      let b : Token = tok (f 1) (codes "VIAS") in
      record {
        some = omega arith;
        matches = inr (a ∷ [], b ∷ [], (a, refl, refl), (b, refl, refl), refl);
        fine = λ ok. (λ x faulty. faulty.1, (λ x faulty. at_word (λ kind. ⊥) (λ kind h. h) x.kind faulty.1, tt));
        goes_on = refl;
        leads = refl;
      }

  pub nets_end : (junk : Standing) (said : Said) (f : ℕ → Place) → Takes F (between Nets junk said) (tokens f (end_of (codes "SPECIALNETS"))) (between Top junk said)
  nets_end junk said f =
      let a : Token = tok (f 0) (codes "END") in
      let b : Token = tok (f 1) (codes "SPECIALNETS") in
      record {
        some = omega arith;
        matches = inr (a ∷ [], b ∷ [], (a, refl, refl), (b, refl, refl), refl);
        fine = λ ok. (λ x faulty. faulty.1, (λ x faulty. at_word (λ kind. ⊥) (λ kind h. h) x.kind faulty.1, tt));
        goes_on = refl;
        leads = refl;
      }

  pub design_ends : (junk : Standing) (said : Said) (f : ℕ → Place) → Takes F (between Top junk said) (tokens f (end_of (codes "DESIGN"))) (between Ended junk said)
  design_ends junk said f =
      let a : Token = tok (f 0) (codes "END") in
      let b : Token = tok (f 1) (codes "DESIGN") in
      record {
        some = omega arith;
        matches = inr (inl (a ∷ [], b ∷ [], (a, refl, refl), (b, refl, refl), refl));
        fine = λ ok. (λ x faulty. faulty.1, (λ x faulty. at_word (λ kind. ⊥) (λ kind h. h) x.kind faulty.1, tt));
        goes_on = refl;
        leads = refl;
      }
