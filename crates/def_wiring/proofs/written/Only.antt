-- Whatever is read of a written wiring is its wires.
use Rattle.std.proofs.Common.{◌≡◌, ℕ, ◌^◌, ◌<◌, ◌≤◌, true, false, ℤ, List, [], ◌∷◌, ◌++◌, length, map, Ok, refl, sym, ◌∙◌, ap, subst, append_assoc, arith, inl, inr, length-append}
use Rattle.std.specs.Prelude.{All, unsigned_abs}
use Rattle.std.specs.Fmt.{signed_decimal}
use Rattle.std.proofs.lemmas.List.{append-nil}
use Rattle.std.proofs.lemmas.List.Elements.{All-head, All-tail}
use Rattle.outside.specs.declared.place.Place.{Place}
use Rattle.entry_list.specs.InTurn.{InTurn}
use Rattle.number_place.specs.declared.place.NumberSign.TheVariants as signs
use Rattle.number_place.specs.Place.{IsNumberAt}
use Rattle.text_lex.specs.declared.word.Mode.TheVariants.{LefDef}
use Rattle.text_lex.specs.Split.{Split, IsSplit}
use Rattle.reading.specs.Pattern.{Matches, joined}
use Rattle.reading.specs.Outcome.{IsReadAs}
use Rattle.reading.specs.Reading.{Text, Follows, IsEnding}
use Rattle.reading.specs.Word.{Token, end_after, end_at, seen_text}
use Rattle.written_words.specs.Numbers.{whole}
use Rattle.written_words.specs.Spelled.{Written, AllWritten, text_bytes, tokens, IsSeen}
use Rattle.wiring_file.specs.declared.record.PlaceText.{PlaceText}
use Rattle.wiring_file.specs.declared.record.ViaText.{ViaText}
use Rattle.wiring_file.specs.declared.record.WireText.{WireText}
use Rattle.wiring_file.specs.Written.{HeadText, NetText, ViaReads, WireReads, PlaceReads, NetReads, CanBeWritten, wiring_text}
use Rattle.def_wiring.specs.declared.number.Quantity.{Quantity}
use Rattle.def_wiring.specs.declared.number.Quantity.TheVariants.{Any, NotNegative, Positive}
use Rattle.def_wiring.specs.declared.record.Segment.{Segment}
use Rattle.def_wiring.specs.declared.record.ViaDef.{ViaDef}
use Rattle.def_wiring.specs.declared.record.ViaPlace.{ViaPlace}
use Rattle.def_wiring.specs.declared.record.WiredNet.{WiredNet}
use Rattle.def_wiring.specs.declared.record.Wires.{Wires}
use Rattle.def_wiring.specs.declared.section.Section.{Section}
use Rattle.def_wiring.specs.declared.section.Section.TheVariants as places
use Rattle.def_wiring.specs.declared.sort.Sort.{Sort}
use Rattle.def_wiring.specs.declared.sort.Sort.TheVariants as sorts
use Rattle.def_wiring.specs.Format.{format, section_of, ReadsWires}
use Rattle.def_wiring.specs.Number.{IsNumber}
use Rattle.def_wiring.specs.Record.{Said, Heard, SaysVia, SaysNumbers, SaysSegment, SaysPlace, SaysNet, SaysWires, IsWires, numbers_of, heard_of, heard_after}
use Rattle.def_wiring.specs.Rule.{pattern, is_read, is_other}
use Rattle.def_wiring.specs.Section.{is_ended}
use Rattle.def_wiring.specs.Sort.{the, sort_of}
use Rattle.def_wiring.specs.Standing.{section_in}
use Rattle.def_wiring.specs.Written.{via_def, via_place, IsSegment, IsNet, IsWired}
use Rattle.def_wiring.specs.WrittenFits.{NetIsPlain, via_name, net_name}
use Rattle.def_wiring.proofs.One.{one_wires}
use Rattle.def_wiring.proofs.written.Words.{Laws, same_number}
use Rattle.def_wiring.proofs.written.Steps.{start, leads-to, heard-end, follow, fronts_go_on, past, past_all, units_of, joined-units, between}
use Rattle.def_wiring.proofs.written.LineSteps.{said_segment, said_place}
use Rattle.def_wiring.proofs.written.NetEntries.{entry_words, said_at, said_net}
use Rattle.def_wiring.proofs.written.NetSteps.{bares}
use Rattle.def_wiring.proofs.written.ViaSteps.{via_body, via_units, said_vias}
use Rattle.def_wiring.proofs.written.Whole.{IsText, text_is, all_units, end_sort, is_the_end, joined-append, says_use}

-- ## how many words a unit has

abbrev top_size : Sort → ℕ
top_size sorts.Vias = 3
top_size sorts.SpecialNets = 3
top_size sorts.End = 2
top_size _ = 1

-- By its section and the sort of its first word.
abbrev unit_size : Section → Sort → ℕ
unit_size places.Top sort = top_size sort
unit_size places.Vias sort = 2
unit_size places.Nets sort = 2
unit_size _ sort = 1

no_such : {P : Type 0} → false ≡ true → P
no_such h = absurd (cc)

read_size : (s : Sort) → is_read s ≡ true → top_size s ≡ 3
read_size sorts.Vias h = refl
read_size sorts.SpecialNets h = refl
read_size s h = no_such h

end_size : (s : Sort) → the sorts.End s ≡ true → top_size s ≡ 2
end_size sorts.End h = refl
end_size s h = no_such h

other_size : (s : Sort) → is_other s ≡ true → top_size s ≡ 1
other_size sorts.Vias h = no_such h
other_size sorts.SpecialNets h = no_such h
other_size sorts.End h = no_such h
other_size s h = refl

first_is : (w a : Token) (ws rest : List Token) → w ∷ ws ≡ a ∷ rest → w ≡ a
first_is w a ws rest e = cc

rest_is : (w a : Token) (ws rest : List Token) → w ∷ ws ≡ a ∷ rest → ws ≡ rest
rest_is w a ws rest e = cc

top_has : (w : Token) (ws : List Token) → Matches sort_of (pattern places.Top) (w ∷ ws) → length (w ∷ ws) ≡ top_size (sort_of w)
top_has w ws (inl (x, y, (a, ha, ea), (x2, y2, (b, hb, eb), (c, hc, ec), e2), e)) =
    let all : w ∷ ws ≡ a ∷ b ∷ c ∷ [] = e ∙ ap (λ z. z ++ y) ea ∙ ap (λ z. a ∷ z) (e2 ∙ ap (λ z. z ++ y2) eb ∙ ap (λ z. b ∷ z) ec) in
    ap length all ∙ sym (ap (λ z. top_size (sort_of z)) (first_is w a ws (b ∷ c ∷ []) all) ∙ read_size (sort_of a) ha)
top_has w ws (inr (inl (x, y, (a, ha, ea), (b, hb, eb), e))) =
    let all : w ∷ ws ≡ a ∷ b ∷ [] = e ∙ ap (λ z. z ++ y) ea ∙ ap (λ z. a ∷ z) eb in
    ap length all ∙ sym (ap (λ z. top_size (sort_of z)) (first_is w a ws (b ∷ []) all) ∙ end_size (sort_of a) ha)
top_has w ws (inr (inr (a, ha, ea))) = ap length ea ∙ sym (ap (λ z. top_size (sort_of z)) (first_is w a ws [] ea) ∙ other_size (sort_of a) ha)

abbrev TwoWords : List Token → Type 0
TwoWords words = length words ≡ 2

two_has : (words x y : List Token) (a b : Token) → x ≡ a ∷ [] → y ≡ b ∷ [] → words ≡ x ++ y → TwoWords words
two_has words x y a b ea eb e = ap length (e ∙ ap (λ z. z ++ y) ea ∙ ap (λ z. a ∷ z) eb)

has_size : (X : Section) (w : Token) (ws : List Token) → Matches sort_of (pattern X) (w ∷ ws) → length (w ∷ ws) ≡ unit_size X (sort_of w)
has_size places.Top w ws h = top_has w ws h
has_size places.Vias w ws (inl (x, y, (a, ha, ea), (b, hb, eb), e)) = two_has (w ∷ ws) x y a b ea eb e
has_size places.Vias w ws (inr (x, y, (a, ha, ea), (b, hb, eb), e)) = two_has (w ∷ ws) x y a b ea eb e
has_size places.Nets w ws (inl (x, y, (a, ha, ea), (b, hb, eb), e)) = two_has (w ∷ ws) x y a b ea eb e
has_size places.Nets w ws (inr (x, y, (a, ha, ea), (b, hb, eb), e)) = two_has (w ∷ ws) x y a b ea eb e
has_size places.Via w ws (a, ha, ea) = ap length ea
has_size places.Net w ws (a, ha, ea) = ap length ea
has_size places.Passed w ws (a, ha, ea) = ap length ea
has_size places.Ended w ws (a, ha, ea) = ap length ea

-- ## units of one text

same_front : (u v x y : List Token) → length u ≡ length v → u ++ x ≡ v ++ y → (u ≡ v) × (x ≡ y)
same_front [] [] x y n e = (refl, e)
same_front [] (b ∷ v) x y n e = absurd (omega arith)
same_front (a ∷ u) [] x y n e = absurd (omega arith)
same_front (a ∷ u) (b ∷ v) x y n e =
    let more = same_front u v x y (omega arith) (rest_is a b (u ++ x) (v ++ y) e) in
    (ap (λ z. z ∷ u) (first_is a b (u ++ x) (v ++ y) e) ∙ ap (λ z. b ∷ z) more.0, more.1)

one_unit : (X : Section) (u v x y : List Token) → 0 < length u → 0 < length v → Matches sort_of (pattern X) u → Matches sort_of (pattern X) v → u ++ x ≡ v ++ y → (u ≡ v) × (x ≡ y)
one_unit X [] v x y some_u some_v hu hv e = absurd (omega arith)
one_unit X (a ∷ u) [] x y some_u some_v hu hv e = absurd (omega arith)
one_unit X (a ∷ u) (b ∷ v) x y some_u some_v hu hv e =
    let first : a ≡ b = first_is a b (u ++ x) (v ++ y) e in
    same_front (a ∷ u) (b ∷ v) x y (has_size X a u hu ∙ ap (λ z. unit_size X (sort_of z)) first ∙ sym (has_size X b v hv)) e

-- These units begin those.
record Begins (us vs : List (List Token)) : Type 0 where
  more : List (List Token)
  is : us ≡ vs ++ more

units_begin : (before us vs : List (List Token)) (rest : List Token) → Follows format before us → Follows format before vs → joined us ≡ joined vs ++ rest → Begins us vs
units_begin before us [] rest h k e = record { more = us; is = refl }
units_begin before [] (v ∷ vs) rest h k e =
    let some : 0 < length v = k.0 in
    let n : 0 ≡ length ((v ++ joined vs) ++ rest) = ap length e in
    absurd (omega (arith, length-append (v ++ joined vs) rest, length-append v (joined vs)))
units_begin before (u ∷ us) (v ∷ vs) rest h k e =
    let one = one_unit (section_of before) u v (joined us) (joined vs ++ rest) h.0 k.0 h.1 k.1 (e ∙ append_assoc v (joined vs) rest) in
    let follows : Follows format (before ++ v ∷ []) us = subst (λ (z : List Token). Follows format (before ++ z ∷ []) us) one.0 h.2 in
    let later = units_begin (before ++ v ∷ []) us vs rest follows k.2 one.1 in
    record { more = later.more; is = ap (λ (z : List Token). z ∷ us) one.0 ∙ ap (λ z. v ∷ z) later.is }

-- A list that is not longer begins the other.
record Prefixed (xs ys : List Token) : Type 0 where
  rest : List Token
  is : xs ≡ ys ++ rest

prefixed : (xs bs ys ds : List Token) → xs ++ bs ≡ ys ++ ds → length ys ≤ length xs → Prefixed xs ys
prefixed xs bs [] ds e few = record { rest = xs; is = refl }
prefixed [] bs (y ∷ ys) ds e few = absurd (omega arith)
prefixed (x ∷ xs) bs (y ∷ ys) ds e few =
    let later = prefixed xs bs ys ds (rest_is x y (xs ++ bs) (ys ++ ds) e) (omega arith) in
    record { rest = later.rest; is = ap (λ z. z ∷ xs) (first_is x y (xs ++ bs) (ys ++ ds) e) ∙ ap (λ z. y ∷ z) later.is }

follows-append : (before us : List (List Token)) (u : List Token) → Follows format before us → Follows format (before ++ us) (u ∷ []) → Follows format before (us ++ u ∷ [])
follows-append before [] u h k = subst (λ z. Follows format z (u ∷ [])) (append-nil before) k
follows-append before (v ∷ us) u h k =
    (h.0, h.1, follows-append (before ++ v ∷ []) us u h.2 (subst (λ z. Follows format z (u ∷ [])) (sym (append_assoc before (v ∷ []) us)) k))

-- Units that end a text, no front of which does, are all that is read of it, with the end after them.
only_units : (text : Text Token) (units others : List (List Token)) (last : Token) → text.words ≡ joined units ++ last ∷ [] → Follows format [] units →
    Follows format units ((end_after (joined units) ∷ []) ∷ []) → format.ends units ≡ true →
    ((front : List (List Token)) (next : List Token) (back : List (List Token)) → units ≡ front ++ next ∷ back → format.ends front ≡ false) → IsReadAs format text others →
    others ≡ units ++ (end_after (joined units) ∷ []) ∷ []
only_units text units others last is whole end ends fronts (heard, inl (past_all_ends, same), read) =
    let mine : IsEnding format text units = record { whole = whole; ends = ends; rest = last ∷ []; is = is } in
    let long : length heard.words < length (joined units) = past_all_ends units mine in
    let words : heard.words ≡ joined units ++ last ∷ [] = ap (λ (z : Text Token). z.words) same ∙ is in
    let size = ap length words in
    absurd (omega (arith, length-append (joined units) (last ∷ [])))
only_units text units others last is whole end ends fronts (heard, inr (first, ending, earliest, size, same), read) =
    let mine : IsEnding format text units = record { whole = whole; ends = ends; rest = last ∷ []; is = is } in
    let cut = prefixed (joined units) (last ∷ []) (joined first) ending.rest (sym is ∙ ending.is) (earliest units mine) in
    let begins : Begins units first = units_begin [] units first cut.rest whole ending.whole cut.is in
    let first_is_all : first ≡ units = all_of begins.more first begins.is ending.ends in
    let words : heard.words ≡ joined (units ++ (end_after (joined units) ∷ []) ∷ []) =
    ap (λ (z : Text Token). z.words) same ∙ ap (λ (z : List (List Token)). joined z ++ end_after (joined z) ∷ []) first_is_all
    ∙ sym (joined-append units ((end_after (joined units) ∷ []) ∷ [])) in
    sym (read.only (units ++ (end_after (joined units) ∷ []) ∷ []) (follows-append [] units (end_after (joined units) ∷ []) whole end) words)
  where
    all_of : (more first : List (List Token)) → units ≡ first ++ more → format.ends first ≡ true → first ≡ units
    all_of [] first e ended = sym (e ∙ append-nil first)
    all_of (next ∷ back) first e ended = no_such (sym (fronts first next back e) ∙ ended)

-- ## numbers

-- A number is read as no other one.
within_any : Laws → (v w : ℤ) → unsigned_abs v ≤ 2 ^ 61 → IsNumberAt (whole (2 ^ 61) signs.Any) (signed_decimal v) (Ok w) → w ≡ v
within_any laws v w near is =
    same_number w v (laws.one (whole (2 ^ 61) signs.Any) (signed_decimal v) (Ok w) (Ok v) is (laws.value signs.Any v (2 ^ 61) tt near (omega arith)))

number_within : Laws → (q : Quantity) (v w : ℤ) → unsigned_abs v ≤ 2 ^ 61 → IsNumber q (signed_decimal v) w → w ≡ v
number_within laws Any v w near (sign, (number, form, within)) =
    let few : unsigned_abs w ≤ 2 ^ 30 = within.within in
    within_any laws v w near (λ h. h, (number, form, record { value = within.value; within = omega arith; stays = within.stays }))
number_within laws NotNegative v w near (sign, (number, form, within)) =
    let few : unsigned_abs w ≤ 2 ^ 30 = within.within in
    within_any laws v w near (λ h. h, (number, form, record { value = within.value; within = omega arith; stays = within.stays }))
number_within laws Positive v w near (sign, (number, form, within)) =
    let few : unsigned_abs w ≤ 2 ^ 30 = within.within in
    within_any laws v w near (λ h. h, (number, form, record { value = within.value; within = omega arith; stays = within.stays }))

-- What is read of a number is the number.
itself : Laws → (q : Quantity) (v w : ℤ) → unsigned_abs v ≤ 2 ^ 61 → IsNumber q (signed_decimal v) w → (z : ℤ) → z ≡ v → IsNumber q (signed_decimal v) z
itself laws q v w near h z e = subst (λ (n : ℤ). IsNumber q (signed_decimal v) n) (number_within laws q v w near h ∙ sym e) h

-- ## what is said is said of the wires

numbers_say : Laws → (v : ViaText) → ViaReads v → (f : ℕ → Place) (o : ViaDef) → SaysNumbers (tokens f (bares (via_body v))) (numbers_of o) → SaysNumbers (tokens f (bares (via_body v))) (numbers_of (via_def v))
numbers_say laws v reads f o h = record {
  cut_x = itself laws Positive v.cut_x o.cut_x reads.cut_x.1 h.cut_x v.cut_x refl;
  cut_y = itself laws Positive v.cut_y o.cut_y reads.cut_y.1 h.cut_y v.cut_y refl;
  gap_x = itself laws NotNegative v.gap_x o.gap_x reads.gap_x.1 h.gap_x v.gap_x refl;
  gap_y = itself laws NotNegative v.gap_y o.gap_y reads.gap_y.1 h.gap_y v.gap_y refl;
  lower_x = itself laws NotNegative v.lower_x o.lower_x reads.lower_x.1 h.lower_x v.lower_x refl;
  lower_y = itself laws NotNegative v.lower_y o.lower_y reads.lower_y.1 h.lower_y v.lower_y refl;
  upper_x = itself laws NotNegative v.upper_x o.upper_x reads.upper_x.1 h.upper_x v.upper_x refl;
  upper_y = itself laws NotNegative v.upper_y o.upper_y reads.upper_y.1 h.upper_y v.upper_y refl;
  rows = itself laws Positive v.rows o.rows reads.rows.1 h.rows v.rows refl;
  columns = itself laws Positive v.columns o.columns reads.columns.1 h.columns v.columns refl;
}

vias_say : Laws → (f : ℕ → Place) (vias : List ViaText) → All ViaReads vias → (others : List ViaDef) → InTurn SaysVia (said_vias f vias) others → InTurn SaysVia (said_vias f vias) (map via_def vias)
vias_say laws f [] reads others h = tt
vias_say laws f (v ∷ vias) reads [] h = absurd h
vias_say laws f (v ∷ vias) reads (o ∷ others) h = (
  record {
    name = refl;
    rule = refl;
    lower = refl;
    cut = refl;
    upper = refl;
    numbers = numbers_say laws v (All-head ViaReads v vias reads) (past (entry_words v.name) f) o h.0.numbers;
  },
  vias_say laws (past_all (via_units v) f) vias (All-tail ViaReads v vias reads) others h.1,
)

segment_says : Laws → (net : List ℕ) (w : WireText) → WireReads net w → (o s : Segment) → SaysSegment (said_segment w) o → IsSegment w s → SaysSegment (said_segment w) s
segment_says laws net w reads o s h is =
    let x1 : o.x1 ≡ w.x1 = number_within laws Any w.x1 o.x1 reads.x1 h.x1 in
    let y1 : o.y1 ≡ w.y1 = number_within laws Any w.y1 o.y1 reads.y1 h.y1 in
    let x2 : o.x2 ≡ w.x2 = number_within laws Any w.x2 o.x2 reads.x2 h.x2 in
    let y2 : o.y2 ≡ w.y2 = number_within laws Any w.y2 o.y2 reads.y2 h.y2 in
    record {
      layer = is.layer;
      width = itself laws NotNegative w.width o.width reads.width.1 h.width s.width is.width;
      x1 = itself laws Any w.x1 o.x1 reads.x1 h.x1 s.x1 is.x1;
      y1 = itself laws Any w.y1 o.y1 reads.y1 h.y1 s.y1 is.y1;
      e1 = is.e1;
      x2 = itself laws Any w.x2 o.x2 reads.x2 h.x2 s.x2 is.x2;
      y2 = itself laws Any w.y2 o.y2 reads.y2 h.y2 s.y2 is.y2;
      e2 = is.e2;
      straight = elim h.straight [
        | inl x ↦ inl (is.x1 ∙ sym x1 ∙ x ∙ x2 ∙ sym is.x2)
        | inr y ↦ inr (is.y1 ∙ sym y1 ∙ y ∙ y2 ∙ sym is.y2)
      ];
      shape = is.shape;
    }

segments_say : Laws → (net : List ℕ) (wires : List WireText) → All (WireReads net) wires → (others segments : List Segment) → InTurn SaysSegment (map said_segment wires) others →
    InTurn IsSegment wires segments → InTurn SaysSegment (map said_segment wires) segments
segments_say laws net [] reads others [] h k = tt
segments_say laws net [] reads others (s ∷ segments) h k = absurd k
segments_say laws net (w ∷ wires) reads others [] h k = absurd k
segments_say laws net (w ∷ wires) reads [] (s ∷ segments) h k = absurd h
segments_say laws net (w ∷ wires) reads (o ∷ others) (s ∷ segments) h k = (
  segment_says laws net w (All-head (WireReads net) w wires reads) o s h.0 k.0,
  segments_say laws net wires (All-tail (WireReads net) w wires reads) others segments h.1 k.1,
)

places_say : Laws → (net : List ℕ) (texts : List PlaceText) → All (PlaceReads net) texts → (others : List ViaPlace) → InTurn SaysPlace (map said_place texts) others →
    InTurn SaysPlace (map said_place texts) (map via_place texts)
places_say laws net [] reads others h = tt
places_say laws net (p ∷ texts) reads [] h = absurd h
places_say laws net (p ∷ texts) reads (o ∷ others) h =
    let here = All-head (PlaceReads net) p texts reads in (
      record { via = refl; layer = refl; x = itself laws Any p.x o.x here.x h.0.x p.x refl; y = itself laws Any p.y o.y here.y h.0.y p.y refl },
      places_say laws net texts (All-tail (PlaceReads net) p texts reads) others h.1,
    )

net_says : Laws → (n : NetText) → NetReads n → (o w : WiredNet) → SaysNet (said_net n) o → IsNet n w → SaysNet (said_net n) w
net_says laws n reads o w h is = record {
  name = is.name;
  power = says_use n.supply w.power is.power;
  segments = segments_say laws n.name n.wires reads.wires o.segments w.segments h.segments is.segments;
  vias = subst (λ (z : List ViaPlace). InTurn SaysPlace (map said_place n.places) z) (sym is.vias) (places_say laws n.name n.places reads.places o.vias h.vias);
}

nets_say : Laws → (nets : List NetText) → All NetReads nets → (others wired : List WiredNet) → InTurn SaysNet (map said_net nets) others → InTurn IsNet nets wired →
    InTurn SaysNet (map said_net nets) wired
nets_say laws [] reads others [] h k = tt
nets_say laws [] reads others (w ∷ wired) h k = absurd k
nets_say laws (n ∷ nets) reads others [] h k = absurd k
nets_say laws (n ∷ nets) reads [] (w ∷ wired) h k = absurd h
nets_say laws (n ∷ nets) reads (o ∷ others) (w ∷ wired) h k =
    (net_says laws n (All-head NetReads n nets reads) o w h.0 k.0, nets_say laws nets (All-tail NetReads n nets reads) others wired h.1 k.1)

-- ## the law

abbrev pub OneSplit : Type 0
OneSplit = (text : List ℕ) (a b : Split) → IsSplit LefDef text a → IsSplit LefDef text b → a ≡ b

pub only_wires : Laws → OneSplit → ((lines : List (List Written)) → AllWritten lines → IsSeen (text_bytes lines) (joined lines)) → (head : HeadText) (vias : List ViaText) (nets : List NetText)
    (wires other : Wires) → CanBeWritten head vias nets → All NetIsPlain nets → IsWired vias nets wires → ReadsWires (wiring_text head vias nets) (Ok other) → other ≡ wires
only_wires laws one_split split head vias nets wires other written plain is (found, made, units_read, read, says) =
    let text : IsText ⊥ head vias nets = text_is ⊥ laws split head vias nets written plain (λ never. absurd never) in
    let units : List (List Token) = units_of text.seen.places (all_units head vias nets) in
    let said : Said = said_at (map via_name vias) (map net_name nets) (said_vias text.names vias) (map said_net nets) in
    let end : Heard = between places.Ended text.whole.left said in
    let t : List Token = end_after (joined units) ∷ [] in
    let all : List (List Token) = units ++ t ∷ [] in
    let heard : heard_of units ≡ end = leads-to ⊥ start end units text.whole.leads in
    let here : section_of units ≡ places.Ended = ap (λ z. section_in z.standing) heard in
    let same : found ≡ text.seen.split = one_split (wiring_text head vias nets) found text.seen.split made text.seen.is in
    let read_here : IsReadAs format (seen_text text.seen.split) units_read = subst (λ (z : Split). IsReadAs format (seen_text z) units_read) same read in
    let words : (seen_text text.seen.split).words ≡ joined units ++ end_at text.seen.end ∷ [] =
    text.seen.words ∙ ap (λ z. z ++ end_at text.seen.end ∷ []) (sym (joined-units text.seen.places (all_units head vias nets))) in
    let follows_end : Follows format units (t ∷ []) = (
      omega arith,
      subst (λ (z : Section). Matches sort_of (pattern z) t) (sym here) (end_after (joined units), is_the_end (sort_of (end_after (joined units))) (end_sort (joined units)), refl),
      tt,
    ) in
    let these : units_read ≡ all = only_units (seen_text text.seen.split) units units_read (end_at text.seen.end) words (follow ⊥ [] units start end refl text.whole.leads) follows_end
    (ap is_ended here) (λ front next back e. fronts_go_on ⊥ start end units front next back text.whole.leads e) read_here in
    let other_says : IsWires all other = subst (λ (z : List (List Token)). IsWires z other) these says in
    let ended : heard_of all ≡ heard_after end t = heard-end ⊥ start end units t text.whole.leads in
    let o : SaysWires said other = subst (λ (z : Heard). SaysWires z.said other) ended other_says in
    let mine : SaysWires said wires = record {
      vias = subst (λ (z : List ViaDef). InTurn SaysVia (said_vias text.names vias) z) (sym is.vias) (vias_say laws text.names vias written.vias_read other.vias o.vias);
      nets = nets_say laws nets written.nets_read other.nets wires.nets o.nets is.nets;
    } in
    one_wires laws.one all other wires other_says (subst (λ (z : Heard). SaysWires z.said wires) (sym ended) mine)
