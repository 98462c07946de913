-- The units of vias.
use Rattle.std.proofs.Common.{◌≡◌, ℕ, suc, ◌+◌, ◌≤◌, Bool, true, false, ℤ, pos, List, [], ◌∷◌, length, map, codes, Ok, refl, subst, arith, inl, inr}
use Rattle.std.specs.Prelude.{decimal}
use Rattle.std.specs.Fmt.{signed_decimal}
use Rattle.std.proofs.lemmas.Int.{ints}
use Rattle.number_place.specs.declared.place.NumberSign.TheVariants.{NotNegative, Positive}
use Rattle.number_place.specs.Place.{IsNumberAt}
use Rattle.reading.specs.declared.word.Form.TheVariants.{Bare}
use Rattle.reading.specs.Word.{Token}
use Rattle.wiring_file.specs.declared.record.ViaText.{ViaText}
use Rattle.wiring_file.specs.declared.record.Wiring.{Wiring}
use Rattle.wiring_file.specs.declared.number.Quantity.TheVariants as quantities
use Rattle.wiring_file.specs.declared.section.Section.{Section}
use Rattle.wiring_file.specs.declared.section.Section.TheVariants as sections
use Rattle.wiring_file.specs.Number.{limit, place_of}
use Rattle.wiring_file.specs.Rule.{via}
use Rattle.wiring_file.specs.Standing.{Standing}
use Rattle.wiring_file.specs.Fault.{HasCount}
use Rattle.wiring_file.specs.Written.{via_words, ViaReads}
use Rattle.wiring_file.proofs.Digits.{Laws, same_number, no_true}
use Rattle.written_words.specs.Spelled.{Written, bare, tokens, AreWritten}
use Rattle.wiring_file.proofs.Sorts.{in_turn_match}
use Rattle.wiring_file.proofs.Blocks.{Says_in, no_fault, nothing, joins_written, none_written}
use Rattle.wiring_file.proofs.Facts.{known, IsNameWord, IsNumber, name_word, number, counted_fit}

abbrev pub bares : List (List ℕ) → List Written
bares words = map bare words

abbrev pub standing_at : Section → List ℕ → ℕ → List ℕ → Bool → Standing
standing_at section count entries net placed = record { section = section; count = count; entries = entries; net = net; placed = placed }

abbrev pub vias_said : List ViaText → Wiring
vias_said vias = record { vias = vias; wires = []; places = [] }

-- The names and numbers of a via as words.
pub record ViaFacts (v : ViaText) : Type 0 where
  pub name : IsNameWord v.name
  pub rule : IsNameWord v.rule
  pub cut_x : IsNumber Positive v.cut_x
  pub cut_y : IsNumber Positive v.cut_y
  pub lower : IsNameWord v.lower
  pub cut : IsNameWord v.cut
  pub upper : IsNameWord v.upper
  pub gap_x : IsNumber NotNegative v.gap_x
  pub gap_y : IsNumber NotNegative v.gap_y
  pub lower_x : IsNumber NotNegative v.lower_x
  pub lower_y : IsNumber NotNegative v.lower_y
  pub upper_x : IsNumber NotNegative v.upper_x
  pub upper_y : IsNumber NotNegative v.upper_y
  pub rows : IsNumber Positive v.rows
  pub columns : IsNumber Positive v.columns

pub via_facts : Laws → (v : ViaText) → ViaReads v → ViaFacts v
via_facts laws v h = record {
  name = name_word v.name h.name;
  rule = name_word v.rule h.rule;
  cut_x = number laws Positive v.cut_x h.cut_x.0 h.cut_x.1;
  cut_y = number laws Positive v.cut_y h.cut_y.0 h.cut_y.1;
  lower = name_word v.lower h.lower;
  cut = name_word v.cut h.cut;
  upper = name_word v.upper h.upper;
  gap_x = number laws NotNegative v.gap_x h.gap_x.0 h.gap_x.1;
  gap_y = number laws NotNegative v.gap_y h.gap_y.0 h.gap_y.1;
  lower_x = number laws NotNegative v.lower_x h.lower_x.0 h.lower_x.1;
  lower_y = number laws NotNegative v.lower_y h.lower_y.0 h.lower_y.1;
  upper_x = number laws NotNegative v.upper_x h.upper_x.0 h.upper_x.1;
  upper_y = number laws NotNegative v.upper_y h.upper_y.0 h.upper_y.1;
  rows = number laws Positive v.rows h.rows.0 h.rows.1;
  columns = number laws Positive v.columns h.columns.0 h.columns.1;
}

pub via_written : (v : ViaText) → ViaFacts v → AreWritten (bares (via_words v))
via_written v h = (known (codes "-") refl, (h.name.word, (known (codes "+") refl, (known (codes "VIARULE") refl, (h.rule.word, (known (codes "+") refl, (known (codes "CUTSIZE") refl, (h.cut_x.word, (h.cut_y.word, (known (codes "+") refl, (known (codes "LAYERS") refl, (h.lower.word, (h.cut.word, (h.upper.word, (known (codes "+") refl, (known (codes "CUTSPACING") refl, (h.gap_x.word, (h.gap_y.word, (known (codes "+") refl, (known (codes "ENCLOSURE") refl, (h.lower_x.word, (h.lower_y.word, (h.upper_x.word, (h.upper_y.word, (known (codes "+") refl, (known (codes "ROWCOL") refl, (h.rows.word, (h.columns.word, (known (codes ";") refl, tt)))))))))))))))))))))))))))))

abbrev via_rest : ViaText → List (List ℕ)
via_rest v = v.name ∷ codes "+" ∷ codes "VIARULE" ∷ v.rule ∷ codes "+" ∷ codes "CUTSIZE" ∷ signed_decimal v.cut_x ∷ signed_decimal v.cut_y ∷ codes "+" ∷ codes "LAYERS" ∷ v.lower ∷ v.cut ∷ v.upper ∷ codes "+" ∷ codes "CUTSPACING" ∷ signed_decimal v.gap_x ∷ signed_decimal v.gap_y ∷ codes "+" ∷ codes "ENCLOSURE" ∷ signed_decimal v.lower_x ∷ signed_decimal v.lower_y ∷ signed_decimal v.upper_x ∷ signed_decimal v.upper_y ∷ codes "+" ∷ codes "ROWCOL" ∷ signed_decimal v.rows ∷ signed_decimal v.columns ∷ codes ";" ∷ []

-- The count of a list.
pub count_number : Laws → (k : ℕ) → k ≤ limit → IsNumber NotNegative (pos k)
count_number laws k few = number laws NotNegative (pos k) (omega (arith, ints)) few

pos_is : (a b : ℕ) → ◌≡◌ {A = ℤ} (pos a) (pos b) → a ≡ b
pos_is a b h = cc

pub count_of : Laws → (k : ℕ) (v : ℤ) → k ≤ limit → IsNumberAt (place_of quantities.NotNegative) (decimal k) (Ok v) → v ≡ pos k
count_of laws k v few h = same_number v (pos k) (laws.one (place_of quantities.NotNegative) (decimal k) (Ok v) (Ok (pos k)) h (count_number laws k few).is)

pub count_is : Laws → (k entries : ℕ) → k ≤ limit → IsNumberAt (place_of quantities.NotNegative) (decimal k) (Ok (pos entries)) → entries ≡ k
count_is laws k entries few h = pos_is entries k (count_of laws k (pos entries) few h)

via_taken : Laws → (v : ViaText) → ViaFacts v → (count : List ℕ) (entries : ℕ) (net : List ℕ) (placed : Bool) →
    (HasCount (standing_at sections.Vias count entries net placed) (pos entries) → ⊥) →
    Says_in (standing_at sections.Vias count entries net placed) (bares (via_words v) ∷ []) (standing_at sections.Vias count (entries + 1) net placed) (vias_said (v ∷ []))
via_taken laws v h count entries net placed room f =
    let s : Standing = standing_at sections.Vias count entries net placed in
    let first : Token = record { text = codes "-"; place = f 0; form = Bare } in
    let rest : List Token = tokens (λ n. f (suc n)) (bares (via_rest v)) in
    let u : List Token = first ∷ rest in
    record {
      taken = (
        omega arith,
        inl (in_turn_match via u (refl, (h.name.sort, (refl, (refl, (h.rule.sort, (refl, (refl, (h.cut_x.sort, (h.cut_y.sort, (refl, (refl, (h.lower.sort, (h.cut.sort, (h.upper.sort, (refl, (refl, (h.gap_x.sort, (h.gap_y.sort, (refl, (refl, (h.lower_x.sort, (h.lower_y.sort, (h.upper_x.sort, (h.upper_y.sort, (refl, (refl, (h.rows.sort, (h.columns.sort, (refl, tt)))))))))))))))))))))))))))))),
        no_fault laws s u (λ within. (v.cut_x, h.cut_x.is), (λ within. (v.cut_y, h.cut_y.is), (λ within. (v.gap_x, h.gap_x.is), (λ within. (v.gap_y, h.gap_y.is), (λ within. (v.lower_x, h.lower_x.is), (λ within. (v.lower_y, h.lower_y.is), (λ within. (v.upper_x, h.upper_x.is), (λ within. (v.upper_y, h.upper_y.is), (λ within. (v.rows, h.rows.is), (λ within. (v.columns, h.columns.is), tt)))))))))) (λ n within unfit. counted_fit s first rest
            (λ other. elim other [ inl more ↦ room more.1 | inr few ↦ absurd (no_true few.0) ]) n within unfit),
        tt,
      );
      leads = refl;
      vias = (record { name = refl; rule = refl; cut_x = h.cut_x.is; cut_y = h.cut_y.is; lower = refl; cut = refl; upper = refl; gap_x = h.gap_x.is; gap_y = h.gap_y.is; lower_x = h.lower_x.is; lower_y = h.lower_y.is; upper_x = h.upper_x.is; upper_y = h.upper_y.is; rows = h.rows.is; columns = h.columns.is }, tt);
      wires = tt;
      places = tt;
    }

abbrev pub AllVias : List ViaText → Type 0
AllVias [] = Unit {0}
AllVias (v ∷ vias) = ViaFacts v × AllVias vias

abbrev pub vias_units : List ViaText → List (List Written)
vias_units vias = map (λ v. bares (via_words v)) vias

-- The vias, each counted, from the one after so many on.
pub vias_taken : Laws → (vias : List ViaText) → AllVias vias → (k entries : ℕ) (net : List ℕ) (placed : Bool) → k ≤ limit → entries + length vias ≡ k →
    Says_in (standing_at sections.Vias (decimal k) entries net placed) (vias_units vias) (standing_at sections.Vias (decimal k) k net placed) (vias_said vias)
vias_taken laws [] h k entries net placed few e =
    let same : entries ≡ k = omega arith in
    subst (λ z. Says_in (standing_at sections.Vias (decimal k) entries net placed) [] (standing_at sections.Vias (decimal k) z net placed) nothing) same
    (none_written (standing_at sections.Vias (decimal k) entries net placed))
vias_taken laws (v ∷ vias) h k entries net placed few e =
    joins_written (standing_at sections.Vias (decimal k) entries net placed) (standing_at sections.Vias (decimal k) (entries + 1) net placed) (standing_at sections.Vias (decimal k) k net placed)
    (bares (via_words v) ∷ []) (vias_units vias) (vias_said (v ∷ [])) (vias_said vias)
    (via_taken laws v h.0 (decimal k) entries net placed (λ full. let same : entries ≡ k = count_is laws k entries few full in omega arith))
    (vias_taken laws vias h.1 k (entries + 1) net placed few (omega arith))
