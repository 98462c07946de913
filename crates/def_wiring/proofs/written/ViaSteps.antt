-- The entries of VIAS.
use Rattle.std.proofs.Common.{◌^◌, ◌≤◌, ◌≡◌, ℕ, suc, Bool, true, false, if◌then◌else◌, ℤ, List, [], ◌∷◌, ◌++◌, length, map, codes, None, refl, sym, ◌∙◌, ap, subst, append_assoc, arith, inl, inr, length-append}
use Rattle.std.specs.Prelude.{unsigned_abs, ◌⊎◌, Contains, flat_map}
use Rattle.std.specs.Fmt.{signed_decimal}
use Rattle.std.proofs.lemmas.List.{append-nil}
use Rattle.outside.specs.declared.place.Place.{Place}
use Rattle.entry_list.specs.InTurn.{InTurn}
use Rattle.reading.specs.Word.{Token}
use Rattle.def_wiring.specs.declared.act.Act.{Act}
use Rattle.def_wiring.specs.declared.act.Act.TheVariants as acts
use Rattle.def_wiring.specs.declared.act.Stage.TheVariants as stages
use Rattle.def_wiring.specs.declared.error.Late.{Late}
use Rattle.def_wiring.specs.declared.error.Shown.{Shown}
use Rattle.def_wiring.specs.declared.error.WiresKind.{WiresKind}
use Rattle.def_wiring.specs.declared.error.WiresKind.TheVariants.{Twice}
use Rattle.def_wiring.specs.declared.number.Quantity.{Quantity}
use Rattle.def_wiring.specs.declared.number.Quantity.TheVariants.{Any, NotNegative, Positive}
use Rattle.def_wiring.specs.declared.section.Section.TheVariants.{Vias, Via}
use Rattle.def_wiring.specs.declared.sort.Sort.{Sort}
use Rattle.def_wiring.specs.declared.sort.Sort.TheVariants as sorts
use Rattle.def_wiring.specs.declared.standing.Cue.TheVariants as cues
use Rattle.def_wiring.specs.declared.standing.Standing.{Standing}
use Rattle.def_wiring.specs.Act.{via_act, passes}
use Rattle.def_wiring.specs.Fault.{WordFault, AskedFault, NoneLate, IsFirstLate, HasNumbers, ViaFault}
use Rattle.def_wiring.specs.Limits.{IsLength, IsPositive}
use Rattle.def_wiring.specs.Number.{IsNumber, NumberFault}
use Rattle.def_wiring.specs.Path.{no_path}
use Rattle.def_wiring.specs.Record.{Asked, Said, SaidVia, SaidNet, Heard, SaysVia, SaysNumbers, said_word, said_name, known_vias, numbers_of}
use Rattle.def_wiring.specs.Rule.{is_word, is_name}
use Rattle.def_wiring.specs.Sort.{sort_of, sort_of_text}
use Rattle.def_wiring.specs.Standing.{after_via}
use Rattle.wiring_file.specs.declared.record.ViaText.{ViaText}
use Rattle.wiring_file.specs.Written.{ViaReads, via_words}
use Rattle.written_words.specs.Spelled.{Written, AreWritten, tokens}
use Rattle.def_wiring.specs.WrittenFits.{ViaFits, via_name}
use Rattle.def_wiring.specs.Written.{via_def}
use Rattle.def_wiring.proofs.written.Words.{Laws, IsNameWord, IsNumberWord, name_word, number_word, number_is, no_fault, known}
use Rattle.def_wiring.proofs.written.Steps.{Takes, Leads, at_word, past, past_all, units_of, joins, joins_words, singles, between}
use Rattle.def_wiring.proofs.written.NetSteps.{bares, tok, name_is_word}
use Rattle.def_wiring.proofs.written.NetEntries.{said_at, entry_words, end_words, AreFresh}

-- What stands between the name and the `;`.
abbrev pub via_body : ViaText → List (List ℕ)
via_body v =
    codes "+" ∷ codes "VIARULE" ∷ v.rule
    ∷ codes "+" ∷ codes "CUTSIZE" ∷ signed_decimal v.cut_x ∷ signed_decimal v.cut_y
    ∷ codes "+" ∷ codes "LAYERS" ∷ v.lower ∷ v.cut ∷ v.upper
    ∷ codes "+" ∷ codes "CUTSPACING" ∷ signed_decimal v.gap_x ∷ signed_decimal v.gap_y
    ∷ codes "+" ∷ codes "ENCLOSURE" ∷ signed_decimal v.lower_x ∷ signed_decimal v.lower_y ∷ signed_decimal v.upper_x ∷ signed_decimal v.upper_y
    ∷ codes "+" ∷ codes "ROWCOL" ∷ signed_decimal v.rows ∷ signed_decimal v.columns ∷ []

-- ## the words of an entry

-- After the words of so many acts.
abbrev asked_of : List Act → List Token → List Asked
asked_of [] ts = []
asked_of (act ∷ acts) [] = []
asked_of (act ∷ acts) (t ∷ ts) = record { act = act; path = no_path; word = t } ∷ asked_of acts ts

abbrev via_at : List ℕ → List Token → Said → List Asked → Heard
via_at name entry said asked = record {
  standing = record { section = Via; passing = None; name = name; entry = entry; power = None; cue = cues.Nothing; stage = stages.Parts; path = no_path };
  said = record said { asked = asked };
}

abbrev via_next : List ℕ → List Token → Said → List Asked → Token → Act → Heard
via_next name entry said asked t act =
    let h : Heard = via_at name entry said asked in
    record { standing = after_via act t h.standing; said = said_word act h.standing t h.said }

-- Such a word shows no fault.
none_kept : (act : Act) → (act ≡ acts.Keeps) ⊎ (act ≡ acts.Number) → (vias : List (List ℕ)) (asked : List Asked) (words : List Token) (shown : Shown) → ViaFault act vias asked words shown → ⊥
none_kept act (inl e) vias asked words shown h = subst (λ (z : Act). ViaFault z vias asked words shown) e h
none_kept act (inr e) vias asked words shown h = subst (λ (z : Act). ViaFault z vias asked words shown) e h

abbrev alone : List Token → List (List Token)
alone [] = []
alone (t ∷ ts) = (t ∷ []) ∷ alone ts

units_alone : (f : ℕ → Place) (ws : List Written) → units_of f (singles ws) ≡ alone (tokens f ws)
units_alone f [] = refl
units_alone f (w ∷ ws) = ap (λ z. tokens f (w ∷ []) ∷ z) (units_alone (past (w ∷ []) f) ws)

one_more : (entry : List Token) (t : Token) → suc (length entry) ≡ length (entry ++ t ∷ [])
one_more entry t = let n = length-append entry (t ∷ []) in omega arith

none_first : (vias : List (List ℕ)) (asked : List Asked) (late : Late) → NoneLate vias asked → IsFirstLate vias asked late → ⊥
none_first vias [] late h k = k
none_first vias (a ∷ asked) late h k = elim k [ inl here ↦ h.0 late.kind here.0 | inr later ↦ none_first vias asked late h.1 later.1 ]

-- ## the end of an entry

ends_fine : (act : Act) → act ≡ acts.EndsVia → (vias : List (List ℕ)) (asked : List Asked) (words : List Token) → NoneLate vias asked → HasNumbers words → (shown : Shown) →
    ViaFault act vias asked words shown → ⊥
ends_fine act e vias asked words none numbers shown h = elim (subst (λ (z : Act). ViaFault z vias asked words shown) e h) [
  | inl late ↦ none_first vias asked late.0 none late.1
  | inr other ↦ other.1 numbers
]

-- ## an entry

abbrev K : Act
K = acts.Keeps

abbrev N : Act
N = acts.Number

abbrev via_acts : List Act
via_acts = K ∷ K ∷ K ∷ K ∷ K ∷ N ∷ N ∷ K ∷ K ∷ K ∷ K ∷ K ∷ K ∷ K ∷ N ∷ N ∷ K ∷ K ∷ N ∷ N ∷ N ∷ N ∷ K ∷ K ∷ N ∷ N ∷ []

is_kept_name : (b : Bool) (act : Act) → b ≡ true → (if b then acts.Keeps else act) ≡ acts.Keeps
is_kept_name true act h = refl
is_kept_name false act h = cc

abbrev NameAt : ℕ → Type 0
NameAt n = (s : Sort) → via_act n s ≡ (if is_name s then acts.Keeps else passes s)

abbrev pub via_units : ViaText → List (List Written)
via_units v = entry_words v.name ∷ singles (bares (via_body v) ++ end_words)

abbrev pub said_via : (ℕ → Place) → ViaText → SaidVia
said_via f v = record { name = v.name; words = tokens (past (entry_words v.name) f) (bares (via_body v)) }

abbrev pub said_vias : (ℕ → Place) → List ViaText → List SaidVia
said_vias f [] = []
said_vias f (v ∷ vias) = said_via f v ∷ said_vias (past_all (via_units v) f) vias

pub said_names : (f : ℕ → Place) (vias : List ViaText) → map said_name (said_vias f vias) ≡ map via_name vias
said_names f [] = refl
said_names f (v ∷ vias) = ap (λ z. v.name ∷ z) (said_names (past_all (via_units v) f) vias)

-- F says when no word shows a fault: what is asked of numbers and of names before is asked under it alone, and all else holds
-- without it.
module _ (F : Type 0) where
  -- ## names and numbers

  -- A number as a word: as one of any sign, and as one of its own.
  pub record IsSize (q : Quantity) (v : ℤ) : Type 0 where
    pub word : IsNumberWord v
    pub any : F → IsNumber Any (signed_decimal v) v
    pub is : F → IsNumber q (signed_decimal v) v

  pub record ViaFacts (v : ViaText) : Type 0 where
    pub name : IsNameWord v.name
    pub rule : IsNameWord v.rule
    pub cut_x : IsSize Positive v.cut_x
    pub cut_y : IsSize Positive v.cut_y
    pub lower : IsNameWord v.lower
    pub cut : IsNameWord v.cut
    pub upper : IsNameWord v.upper
    pub gap_x : IsSize NotNegative v.gap_x
    pub gap_y : IsSize NotNegative v.gap_y
    pub lower_x : IsSize NotNegative v.lower_x
    pub lower_y : IsSize NotNegative v.lower_y
    pub upper_x : IsSize NotNegative v.upper_x
    pub upper_y : IsSize NotNegative v.upper_y
    pub rows : IsSize Positive v.rows
    pub columns : IsSize Positive v.columns

  length_size : Laws → (v : ℤ) → unsigned_abs v ≤ 2 ^ 61 → (F → IsLength v) → IsSize NotNegative v
  length_size laws v few h =
      record { word = number_word laws v few; any = λ ok. number_is laws Any v tt (h ok).1; is = λ ok. number_is laws NotNegative v (h ok).0 (h ok).1 }

  positive_size : Laws → (v : ℤ) → unsigned_abs v ≤ 2 ^ 61 → (F → IsPositive v) → IsSize Positive v
  positive_size laws v few h =
      record { word = number_word laws v few; any = λ ok. number_is laws Any v tt (h ok).1; is = λ ok. number_is laws Positive v (h ok).0 (h ok).1 }

  pub via_facts : Laws → (v : ViaText) → ViaReads v → (F → ViaFits v) → ViaFacts v
  via_facts laws v reads fits = record {
    name = name_word v.name reads.name;
    rule = name_word v.rule reads.rule;
    cut_x = positive_size laws v.cut_x reads.cut_x.1 (λ ok. (fits ok).cut_x);
    cut_y = positive_size laws v.cut_y reads.cut_y.1 (λ ok. (fits ok).cut_y);
    lower = name_word v.lower reads.lower;
    cut = name_word v.cut reads.cut;
    upper = name_word v.upper reads.upper;
    gap_x = length_size laws v.gap_x reads.gap_x.1 (λ ok. (fits ok).gap_x);
    gap_y = length_size laws v.gap_y reads.gap_y.1 (λ ok. (fits ok).gap_y);
    lower_x = length_size laws v.lower_x reads.lower_x.1 (λ ok. (fits ok).lower_x);
    lower_y = length_size laws v.lower_y reads.lower_y.1 (λ ok. (fits ok).lower_y);
    upper_x = length_size laws v.upper_x reads.upper_x.1 (λ ok. (fits ok).upper_x);
    upper_y = length_size laws v.upper_y reads.upper_y.1 (λ ok. (fits ok).upper_y);
    rows = positive_size laws v.rows reads.rows.1 (λ ok. (fits ok).rows);
    columns = positive_size laws v.columns reads.columns.1 (λ ok. (fits ok).columns);
  }

  pub via_written : (v : ViaText) → ViaFacts v → AreWritten (bares (via_words v))
  via_written v h = (
    known (codes "-") refl,
    (
      h.name.word,
      (
        known (codes "+") refl,
        (
          known (codes "VIARULE") refl,
          (
            h.rule.word,
            (
              known (codes "+") refl,
              (
                known (codes "CUTSIZE") refl,
                (
                  h.cut_x.word.word,
                  (
                    h.cut_y.word.word,
                    (
                      known (codes "+") refl,
                      (
                        known (codes "LAYERS") refl,
                        (
                          h.lower.word,
                          (
                            h.cut.word,
                            (
                              h.upper.word,
                              (
                                known (codes "+") refl,
                                (
                                  known (codes "CUTSPACING") refl,
                                  (
                                    h.gap_x.word.word,
                                    (
                                      h.gap_y.word.word,
                                      (
                                        known (codes "+") refl,
                                        (
                                          known (codes "ENCLOSURE") refl,
                                          (
                                            h.lower_x.word.word,
                                            (
                                              h.lower_y.word.word,
                                              (
                                                h.upper_x.word.word,
                                                (
                                                  h.upper_y.word.word,
                                                  (
                                                    known (codes "+") refl,
                                                    (
                                                      known (codes "ROWCOL") refl,
                                                      (
                                                        h.rows.word.word,
                                                        (
                                                          h.columns.word.word,
                                                          (known (codes ";") refl, tt),
                                                        ),
                                                      ),
                                                    ),
                                                  ),
                                                ),
                                              ),
                                            ),
                                          ),
                                        ),
                                      ),
                                    ),
                                  ),
                                ),
                              ),
                            ),
                          ),
                        ),
                      ),
                    ),
                  ),
                ),
              ),
            ),
          ),
        ),
      ),
    ),
  )

  via_opens : (junk : Standing) (vn nn : List (List ℕ)) (vs : List SaidVia) (ns : List SaidNet) (name : List ℕ) → is_name (sort_of_text name) ≡ true → (F → Contains vn name → ⊥) → (f : ℕ → Place) →
      Takes F (between Vias junk (said_at vn nn vs ns)) (tokens f (entry_words name)) (via_at name [] (said_at (vn ++ name ∷ []) nn vs ns) [])
  via_opens junk vn nn vs ns name is_name fresh f =
      let first : Token = tok (f 0) (codes "-") in
      let second : Token = tok (f 1) name in
      record {
        some = omega arith;
        matches = inl (first ∷ [], second ∷ [], (first, refl, refl), (second, is_name, refl), refl);
        fine = λ ok. (λ a faulty. faulty.1, (λ a faulty. at_word (λ kind. Contains vn name × (kind ≡ Twice)) (λ kind h. fresh ok h.0) a.kind faulty.1, tt));
        goes_on = refl;
        leads = refl;
      }

  -- A word that does this after so many others belongs to the form of a generated via, and if it stands for a number is one.
  record IsKept (n : ℕ) (t : Token) (act : Act) : Type 0 where
    word : is_word (sort_of t) ≡ true
    does : via_act n (sort_of t) ≡ act
    kept : (act ≡ acts.Keeps) ⊎ ((act ≡ acts.Number) × (F → (kind : WiresKind) → NumberFault Any t.text kind → ⊥))

  abbrev AreKept : ℕ → List Act → List Token → Type 0
  AreKept n [] [] = Unit {0}
  AreKept n (act ∷ acts) (t ∷ ts) = IsKept n t act × AreKept (suc n) acts ts
  AreKept n _ _ = ⊥

  none_asked : F → (vias : List (List ℕ)) (act : Act) (t : Token) → (act ≡ acts.Keeps) ⊎ ((act ≡ acts.Number) × (F → (kind : WiresKind) → NumberFault Any t.text kind → ⊥)) →
      (kind : WiresKind) → AskedFault vias (record { act = act; path = no_path; word = t }) kind → ⊥
  none_asked ok vias act t (inl e) kind h = subst (λ (z : Act). WordFault vias z no_path t kind) e h
  none_asked ok vias act t (inr e) kind h = e.1 ok kind (subst (λ (z : Act). WordFault vias z no_path t kind) e.0 h)

  keeps : (name : List ℕ) (entry : List Token) (said : Said) (asked : List Asked) (t : Token) → is_word (sort_of t) ≡ true → via_act (length entry) (sort_of t) ≡ acts.Keeps →
      Takes F (via_at name entry said asked) (t ∷ []) (via_at name (entry ++ t ∷ []) said (asked ++ record { act = acts.Keeps; path = no_path; word = t } ∷ []))
  keeps name entry said asked t word does = record {
    some = omega arith;
    matches = (t, word, refl);
    fine = λ ok. (λ a faulty. none_kept (via_act (length entry) (sort_of t)) (inl does) (known_vias said) asked entry a.kind faulty.1, tt);
    goes_on = refl;
    leads = ap (λ z. via_next name entry said asked t z) does;
  }

  counts : (name : List ℕ) (entry : List Token) (said : Said) (asked : List Asked) (t : Token) → is_word (sort_of t) ≡ true → via_act (length entry) (sort_of t) ≡ acts.Number →
      Takes F (via_at name entry said asked) (t ∷ []) (via_at name (entry ++ t ∷ []) said (asked ++ record { act = acts.Number; path = no_path; word = t } ∷ []))
  counts name entry said asked t word does = record {
    some = omega arith;
    matches = (t, word, refl);
    fine = λ ok. (λ a faulty. none_kept (via_act (length entry) (sort_of t)) (inr does) (known_vias said) asked entry a.kind faulty.1, tt);
    goes_on = refl;
    leads = ap (λ z. via_next name entry said asked t z) does;
  }

  is_kept : (name : List ℕ) (entry : List Token) (said : Said) (asked : List Asked) (t : Token) (act : Act) → IsKept (length entry) t act →
      Takes F (via_at name entry said asked) (t ∷ []) (via_at name (entry ++ t ∷ []) said (asked ++ record { act = act; path = no_path; word = t } ∷ []))
  is_kept name entry said asked t act h = elim h.kept [
    | inl e ↦
        let step = keeps name entry said asked t h.word (h.does ∙ e) in
        subst (λ (z : Act). Takes F (via_at name entry said asked) (t ∷ []) (via_at name (entry ++ t ∷ []) said (asked ++ record { act = z; path = no_path; word = t } ∷ []))) (sym e) step
    | inr e ↦
        let step = counts name entry said asked t h.word (h.does ∙ e.0) in
        subst (λ (z : Act). Takes F (via_at name entry said asked) (t ∷ []) (via_at name (entry ++ t ∷ []) said (asked ++ record { act = z; path = no_path; word = t } ∷ []))) (sym e.0) step
  ]

  body_leads : (name : List ℕ) (said : Said) (entry : List Token) (asked : List Asked) (acts : List Act) (ts : List Token) → AreKept (length entry) acts ts →
      Leads F (via_at name entry said asked) (alone ts) (via_at name (entry ++ ts) said (asked ++ asked_of acts ts))
  body_leads name said entry asked [] [] h =
      ap (λ (z : List Token). via_at name z said asked) (sym (append-nil entry)) ∙ ap (λ (z : List Asked). via_at name (entry ++ []) said z) (sym (append-nil asked))
  body_leads name said entry asked (act ∷ acts) (t ∷ ts) h =
      let one : Asked = record { act = act; path = no_path; word = t } in
      let next : Heard = via_at name (entry ++ t ∷ []) said (asked ++ one ∷ []) in
      let last : Heard = via_at name ((entry ++ t ∷ []) ++ ts) said ((asked ++ one ∷ []) ++ asked_of acts ts) in
      let same : last ≡ via_at name (entry ++ t ∷ ts) said (asked ++ one ∷ asked_of acts ts) =
      ap (λ (z : List Token). via_at name z said ((asked ++ one ∷ []) ++ asked_of acts ts)) (append_assoc entry (t ∷ []) ts)
      ∙ ap (λ (z : List Asked). via_at name (entry ++ t ∷ ts) said z) (append_assoc asked (one ∷ []) (asked_of acts ts)) in (
        next,
        is_kept name entry said asked t act h.0,
        subst (λ z. Leads F next (alone ts) z) same
            (body_leads name said (entry ++ t ∷ []) (asked ++ one ∷ []) acts ts (subst (λ n. AreKept n acts ts) (one_more entry t) h.1)),
      )
  body_leads name said entry asked [] (t ∷ ts) h = absurd h
  body_leads name said entry asked (act ∷ acts) [] h = absurd h

  none_late : F → (vias : List (List ℕ)) (n : ℕ) (acts : List Act) (ts : List Token) → AreKept n acts ts → NoneLate vias (asked_of acts ts)
  none_late ok vias n [] [] h = tt
  none_late ok vias n (act ∷ acts) (t ∷ ts) h = (none_asked ok vias act t h.0.kept, none_late ok vias (suc n) acts ts h.1)
  none_late ok vias n [] (t ∷ ts) h = absurd h
  none_late ok vias n (act ∷ acts) [] h = absurd h

  via_ends : (name : List ℕ) (entry : List Token) (vn nn : List (List ℕ)) (vs : List SaidVia) (ns : List SaidNet) (asked : List Asked) → length entry ≡ 26 → (F → NoneLate (map said_name vs) asked) →
      (F → HasNumbers entry) → (f : ℕ → Place) →
      Takes F (via_at name entry (said_at vn nn vs ns) asked) (tok (f 0) (codes ";") ∷ [])
      (between Vias (via_at name entry (said_at vn nn vs ns) asked).standing (said_at vn nn (vs ++ record { name = name; words = entry } ∷ []) ns))
  via_ends name entry vn nn vs ns asked long none numbers f =
      let t : Token = tok (f 0) (codes ";") in
      let does : via_act (length entry) sorts.Semicolon ≡ acts.EndsVia = ap (λ n. via_act n sorts.Semicolon) long in
      record {
        some = omega arith;
        matches = (t, refl, refl);
        fine = λ ok. (λ a faulty. ends_fine (via_act (length entry) sorts.Semicolon) does (map said_name vs) asked entry (none ok) (numbers ok) a.kind faulty.1, tt);
        goes_on = refl;
        leads = ap (λ z. via_next name entry (said_at vn nn vs ns) asked t z) does;
      }

  keyword : (n : ℕ) (p : Place) (text : List ℕ) → is_word (sort_of_text text) ≡ true → via_act n (sort_of_text text) ≡ acts.Keeps → IsKept n (tok p text) acts.Keeps
  keyword n p text word does = record { word = word; does = does; kept = inl refl }

  a_name : (n : ℕ) (p : Place) (text : List ℕ) → NameAt n → IsNameWord text → IsKept n (tok p text) acts.Keeps
  a_name n p text at h = record {
    word = name_is_word (sort_of_text text) h.sort;
    does = at (sort_of_text text) ∙ is_kept_name (is_name (sort_of_text text)) (passes (sort_of_text text)) h.sort;
    kept = inl refl;
  }

  a_number : Laws → (q : Quantity) (n : ℕ) (p : Place) (v : ℤ) → via_act n sorts.Other ≡ acts.Number → IsSize q v → IsKept n (tok p (signed_decimal v)) acts.Number
  a_number laws q n p v at h = record {
    word = ap is_word h.word.sort;
    does = ap (λ z. via_act n z) h.word.sort ∙ at;
    kept = inr (refl, λ ok kind fault. no_fault laws Any (signed_decimal v) v (h.any ok) kind fault);
  }

  body_kept : Laws → (v : ViaText) → ViaFacts v → (f : ℕ → Place) → AreKept 0 via_acts (tokens f (bares (via_body v)))
  body_kept laws v h f = (
    keyword 0 (f 0) (codes "+") refl refl,
    (
      keyword 1 (f 1) (codes "VIARULE") refl refl,
      (
        a_name 2 (f 2) v.rule (λ s. refl) h.rule,
        (
          keyword 3 (f 3) (codes "+") refl refl,
          (
            keyword 4 (f 4) (codes "CUTSIZE") refl refl,
            (
              a_number laws Positive 5 (f 5) v.cut_x refl h.cut_x,
              (
                a_number laws Positive 6 (f 6) v.cut_y refl h.cut_y,
                (
                  keyword 7 (f 7) (codes "+") refl refl,
                  (
                    keyword 8 (f 8) (codes "LAYERS") refl refl,
                    (
                      a_name 9 (f 9) v.lower (λ s. refl) h.lower,
                      (
                        a_name 10 (f 10) v.cut (λ s. refl) h.cut,
                        (
                          a_name 11 (f 11) v.upper (λ s. refl) h.upper,
                          (
                            keyword 12 (f 12) (codes "+") refl refl,
                            (
                              keyword 13 (f 13) (codes "CUTSPACING") refl refl,
                              (
                                a_number laws NotNegative 14 (f 14) v.gap_x refl h.gap_x,
                                (
                                  a_number laws NotNegative 15 (f 15) v.gap_y refl h.gap_y,
                                  (
                                    keyword 16 (f 16) (codes "+") refl refl,
                                    (
                                      keyword 17 (f 17) (codes "ENCLOSURE") refl refl,
                                      (
                                        a_number laws NotNegative 18 (f 18) v.lower_x refl h.lower_x,
                                        (
                                          a_number laws NotNegative 19 (f 19) v.lower_y refl h.lower_y,
                                          (
                                            a_number laws NotNegative 20 (f 20) v.upper_x refl h.upper_x,
                                            (
                                              a_number laws NotNegative 21 (f 21) v.upper_y refl h.upper_y,
                                              (
                                                keyword 22 (f 22) (codes "+") refl refl,
                                                (
                                                  keyword 23 (f 23) (codes "ROWCOL") refl refl,
                                                  (
                                                    a_number laws Positive 24 (f 24) v.rows refl h.rows,
                                                    (
                                                      a_number laws Positive 25 (f 25) v.columns refl h.columns,
                                                      tt,
                                                    ),
                                                  ),
                                                ),
                                              ),
                                            ),
                                          ),
                                        ),
                                      ),
                                    ),
                                  ),
                                ),
                              ),
                            ),
                          ),
                        ),
                      ),
                    ),
                  ),
                ),
              ),
            ),
          ),
        ),
      ),
    ),
  )

  pub says_numbers : F → (v : ViaText) → ViaFacts v → (f : ℕ → Place) → SaysNumbers (tokens f (bares (via_body v))) (numbers_of (via_def v))
  says_numbers ok v h f = record {
    cut_x = h.cut_x.is ok;
    cut_y = h.cut_y.is ok;
    gap_x = h.gap_x.is ok;
    gap_y = h.gap_y.is ok;
    lower_x = h.lower_x.is ok;
    lower_y = h.lower_y.is ok;
    upper_x = h.upper_x.is ok;
    upper_y = h.upper_y.is ok;
    rows = h.rows.is ok;
    columns = h.columns.is ok;
  }

  -- An entry leads from between entries to between entries.
  pub record ViasLead (junk : Standing) (before after : Said) (us : List (List Token)) : Type 0 where
    pub left : Standing
    pub leads : Leads F (between Vias junk before) us (between Vias left after)

  via_leads : Laws → (v : ViaText) (junk : Standing) (vn nn : List (List ℕ)) (vs : List SaidVia) (ns : List SaidNet) → ViaFacts v → (F → Contains vn v.name → ⊥) → (f : ℕ → Place) →
      ViasLead junk (said_at vn nn vs ns) (said_at (vn ++ v.name ∷ []) nn (vs ++ said_via f v ∷ []) ns) (units_of f (via_units v))
  via_leads laws v junk vn nn vs ns h fresh f =
      let names : List (List ℕ) = vn ++ v.name ∷ [] in
      let said : Said = said_at names nn vs ns in
      let g : ℕ → Place = past (entry_words v.name) f in
      let ts : List Token = tokens g (bares (via_body v)) in
      let asked : List Asked = asked_of via_acts ts in
      let kept : AreKept 0 via_acts ts = body_kept laws v h g in
      let k : ℕ → Place = past_all (singles (bares (via_body v))) g in
      let a : Heard = via_at v.name [] said [] in
      let b : Heard = via_at v.name ts said asked in
      let left : Standing = b.standing in
      let c : Heard = between Vias left (said_at names nn (vs ++ said_via f v ∷ []) ns) in
      record {
        left = left;
        leads = (
          a,
          via_opens junk vn nn vs ns v.name h.name.sort fresh f,
          joins_words F g a b c (bares (via_body v)) end_words
              (subst (λ z. Leads F a z b) (sym (units_alone g (bares (via_body v)))) (body_leads v.name said [] [] via_acts ts kept))
              (c, via_ends v.name ts names nn vs ns asked refl (λ ok. none_late ok (map said_name vs) 0 via_acts ts kept) (λ ok. (numbers_of (via_def v), says_numbers ok v h g)) k, refl),
        );
      }

  -- ## all entries

  abbrev pub AllVias : List ViaText → Type 0
  AllVias [] = Unit {0}
  AllVias (v ∷ vias) = ViaFacts v × AllVias vias

  pub says_vias : F → (f : ℕ → Place) (vias : List ViaText) → AllVias vias → InTurn SaysVia (said_vias f vias) (map via_def vias)
  says_vias ok f [] h = tt
  says_vias ok f (v ∷ vias) h = (
    record { name = refl; rule = refl; lower = refl; cut = refl; upper = refl; numbers = says_numbers ok v h.0 (past (entry_words v.name) f) },
    says_vias ok (past_all (via_units v) f) vias h.1,
  )

  pub vias_lead : Laws → (vias : List ViaText) (junk : Standing) (vn nn : List (List ℕ)) (vs : List SaidVia) (ns : List SaidNet) → AllVias vias → AreFresh F vn (map via_name vias) → (f : ℕ → Place) →
      ViasLead junk (said_at vn nn vs ns) (said_at (vn ++ map via_name vias) nn (vs ++ said_vias f vias) ns) (units_of f (flat_map via_units vias))
  vias_lead laws [] junk vn nn vs ns h fresh f = record {
    left = junk;
    leads = ap (λ (z : List (List ℕ)). between Vias junk (said_at z nn vs ns)) (sym (append-nil vn)) ∙ ap (λ (z : List SaidVia). between Vias junk (said_at (vn ++ []) nn z ns)) (sym (append-nil vs));
  }
  vias_lead laws (v ∷ vias) junk vn nn vs ns h fresh f =
      let one = via_leads laws v junk vn nn vs ns h.0 fresh.0 f in
      let names : List (List ℕ) = vn ++ v.name ∷ [] in
      let said : List SaidVia = vs ++ said_via f v ∷ [] in
      let g : ℕ → Place = past_all (via_units v) f in
      let more = vias_lead laws vias one.left names nn said ns h.1 fresh.1 g in
      let a : Heard = between Vias junk (said_at vn nn vs ns) in
      let b : Heard = between Vias one.left (said_at names nn said ns) in
      let c : Heard = between Vias more.left (said_at (names ++ map via_name vias) nn (said ++ said_vias g vias) ns) in
      let same : c ≡ between Vias more.left (said_at (vn ++ map via_name (v ∷ vias)) nn (vs ++ said_vias f (v ∷ vias)) ns) =
      ap (λ (z : List (List ℕ)). between Vias more.left (said_at z nn (said ++ said_vias g vias) ns)) (append_assoc vn (v.name ∷ []) (map via_name vias))
      ∙ ap (λ (z : List SaidVia). between Vias more.left (said_at (vn ++ map via_name (v ∷ vias)) nn z ns)) (append_assoc vs (said_via f v ∷ []) (said_vias g vias)) in
      record {
        left = more.left;
        leads = subst (λ z. Leads F a (units_of f (via_units v ++ flat_map via_units vias)) z) same (joins F f a b c (via_units v) (flat_map via_units vias) one.leads more.leads);
      }
