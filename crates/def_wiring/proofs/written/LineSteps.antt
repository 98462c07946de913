-- The lines of wiring of a net.
use Rattle.std.proofs.Common.{◌≡◌, ℕ, ◌^◌, ◌≤◌, Bool, true, false, ℤ, pos, List, [], ◌∷◌, ◌++◌, map, codes, Ok, refl, sym, ◌∙◌, ap, subst, append_assoc, arith, inl, inr}
use Rattle.std.specs.Prelude.{unsigned_abs, ◌⊎◌, Contains}
use Rattle.std.proofs.lemmas.Int.{ints}
use Rattle.std.proofs.lemmas.Fmt.{decimal_digit}
use Rattle.std.specs.Fmt.{signed_decimal}
use Rattle.reading.specs.Word.{Token}
use Rattle.def_wiring.specs.Standing.{cue_after}
use Rattle.std.proofs.lemmas.List.{append-nil}
use Rattle.outside.specs.declared.place.Place.{Place}
use Rattle.def_wiring.specs.declared.act.Act.TheVariants as acts
use Rattle.def_wiring.specs.declared.act.Stage.{Stage}
use Rattle.def_wiring.specs.declared.act.Stage.TheVariants as stages
use Rattle.def_wiring.specs.declared.error.WiresKind.{WiresKind}
use Rattle.def_wiring.specs.declared.number.Quantity.TheVariants.{Any, NotNegative}
use Rattle.def_wiring.specs.declared.path.Path.{Path}
use Rattle.def_wiring.specs.declared.sort.Sort.{Sort}
use Rattle.def_wiring.specs.declared.sort.Sort.TheVariants as sorts
use Rattle.def_wiring.specs.declared.standing.Cue.{Cue}
use Rattle.def_wiring.specs.declared.standing.Cue.TheVariants as cues
use Rattle.def_wiring.specs.Act.{net_act}
use Rattle.def_wiring.specs.Fault.{SlantFault}
use Rattle.def_wiring.specs.Limits.{IsNear}
use Rattle.def_wiring.specs.Number.{place_of, IsNumber, IsOther}
use Rattle.def_wiring.specs.Record.{Said, SaidSegment, SaidPlace, Heard, known_vias}
use Rattle.def_wiring.specs.Sort.{sort_of_text}
use Rattle.wiring_file.specs.declared.record.PlaceText.{PlaceText}
use Rattle.wiring_file.specs.declared.record.WireText.{WireText}
use Rattle.wiring_file.specs.Written.{point, wire_words, place_words, WireReads, PlaceReads}
use Rattle.written_words.specs.Spelled.{Written, bare, IsWritten, AreWritten}
use Rattle.def_wiring.specs.WrittenFits.{WireFits, PlaceIsPlain, PlaceFits}
use Rattle.def_wiring.proofs.written.Words.{Laws, IsNameWord, IsNumberWord, name_word, number_word, number_is, known, same_number}
use Rattle.def_wiring.proofs.written.Steps.{Leads, units_of, past_all, singles, joins_words}
use Rattle.def_wiring.proofs.written.NetSteps.{bares, tok, in_net, net_takes, point_at, ended, begun, path_words, with_segments, IsCoordinate, IsWidth, IsShapeWord, point_leads, head_leads, first_leads}

abbrev IsShape : List ℕ → Type 0
IsShape text = IsShapeWord text × IsWritten (bare text)

shape_is : (text : List ℕ) → (text ≡ codes "RING") ⊎ ((text ≡ codes "STRIPE") ⊎ (text ≡ codes "FOLLOWPIN")) → IsShape text
shape_is text (inl e) = subst IsShape (sym e) (record { word = refl; does = refl }, known (codes "RING") refl)
shape_is text (inr (inl e)) = subst IsShape (sym e) (record { word = refl; does = refl }, known (codes "STRIPE") refl)
shape_is text (inr (inr e)) = subst IsShape (sym e) (record { word = refl; does = refl }, known (codes "FOLLOWPIN") refl)

abbrev pub said_segment : WireText → SaidSegment
said_segment w = record {
  layer = w.layer;
  width = signed_decimal w.width;
  shape = sort_of_text w.shape;
  from = point_at (signed_decimal w.x1) (signed_decimal w.y1);
  to = point_at (signed_decimal w.x2) (signed_decimal w.y2);
}

-- The path after a piece.
abbrev wire_path : Path → WireText → Path
wire_path path w =
    ended (ended (begun path w.layer (signed_decimal w.width) (sort_of_text w.shape)) (signed_decimal w.x1) (signed_decimal w.y1)) (signed_decimal w.x2) (signed_decimal w.y2)

abbrev pub said_place : PlaceText → SaidPlace
said_place p = record { via = p.via; layer = p.layer; x = signed_decimal p.x; y = signed_decimal p.y }

abbrev pub with_places : Said → List SaidPlace → Said
with_places said more = record said { places = said.places ++ more }

abbrev zero_text : List ℕ
zero_text = codes "0"

zero_is : signed_decimal (pos 0) ≡ zero_text
zero_is = decimal_digit 0 (omega arith)

stripe_word : IsShapeWord (codes "STRIPE")
stripe_word = record { word = refl; does = refl }

-- ## lines

abbrev pub start_words : Bool → List (List ℕ)
start_words true = codes "+" ∷ codes "ROUTED" ∷ []
start_words false = codes "NEW" ∷ []

-- Where a line may begin, which is the first one of its net or is not, and where the net may end.
abbrev pub IsReady : Bool → Stage → Type 0
IsReady true stage = stage ≡ stages.Parts
IsReady false stage = (net_act stage sorts.New ≡ acts.Goes stages.Layer) × (net_act stage sorts.Semicolon ≡ acts.EndsNet)

-- The words of lines of wiring, and whether the line after them is the first one.
abbrev pub line_words : Bool → List (List (List ℕ)) → List Written
line_words first [] = []
line_words first (words ∷ more) = bares (start_words first) ++ (bares words ++ line_words false more)

abbrev pub still : Bool → List (List (List ℕ)) → Bool
still first [] = first
still first (words ∷ more) = still false more

pub line-append : (first : Bool) (xs ys : List (List (List ℕ))) → line_words first (xs ++ ys) ≡ line_words first xs ++ line_words (still first xs) ys
line-append first [] ys = refl
line-append first (x ∷ xs) ys =
    ap (λ z. bares (start_words first) ++ (bares x ++ z)) (line-append false xs ys)
    ∙ ap (λ z. bares (start_words first) ++ z) (sym (append_assoc (bares x) (line_words false xs) (line_words (still false xs) ys)))
    ∙ sym (append_assoc (bares (start_words first)) (bares x ++ line_words false xs) (line_words (still false xs) ys))

-- F says when no word shows a fault: what is asked of numbers and of names before is asked under it alone, and all else holds
-- without it.
module _ (F : Type 0) where
  coordinate_is : Laws → (v : ℤ) → unsigned_abs v ≤ 2 ^ 61 → (F → IsNear v) → IsCoordinate F v
  coordinate_is laws v few near = record { word = number_word laws v few; is = λ ok. number_is laws Any v tt (near ok) }

  -- ## a piece

  pub record WireFacts (w : WireText) : Type 0 where
    pub layer : IsNameWord w.layer
    pub width_word : IsNumberWord w.width
    pub width : IsWidth F (signed_decimal w.width) w.width
    pub shape : IsShapeWord w.shape
    pub shape_word : IsWritten (bare w.shape)
    pub x1 : IsCoordinate F w.x1
    pub y1 : IsCoordinate F w.y1
    pub x2 : IsCoordinate F w.x2
    pub y2 : IsCoordinate F w.y2
    pub straight : F → (w.x1 ≡ w.x2) ⊎ (w.y1 ≡ w.y2)

  pub wire_facts : Laws → (net : List ℕ) (w : WireText) → WireReads net w → (F → WireFits w) → WireFacts w
  wire_facts laws net w reads fits =
      let width : IsNumberWord w.width = number_word laws w.width reads.width.1 in
      let shape : IsShape w.shape = shape_is w.shape reads.shape in
      record {
        layer = name_word w.layer reads.layer;
        width_word = width;
        width = record { sort = width.sort; is = λ ok. number_is laws NotNegative w.width (fits ok).width.0 (fits ok).width.1 };
        shape = shape.0;
        shape_word = shape.1;
        x1 = coordinate_is laws w.x1 reads.x1 (λ ok. (fits ok).x1);
        y1 = coordinate_is laws w.y1 reads.y1 (λ ok. (fits ok).y1);
        x2 = coordinate_is laws w.x2 reads.x2 (λ ok. (fits ok).x2);
        y2 = coordinate_is laws w.y2 reads.y2 (λ ok. (fits ok).y2);
        straight = λ ok. (fits ok).straight;
      }

  pub wire_written : (w : WireText) → WireFacts w → AreWritten (bares (wire_words w))
  wire_written w h = (h.layer.word, (h.width_word.word, (known (codes "+") refl, (known (codes "SHAPE") refl, (h.shape_word, (known (codes "(") refl, (h.x1.word.word, (h.y1.word.word, (known (codes ")") refl, (known (codes "(") refl, (h.x2.word.word, (h.y2.word.word, (known (codes ")") refl, tt)))))))))))))

  not_other : F → Laws → (a b : ℤ) → IsCoordinate F a → IsCoordinate F b → a ≡ b → IsOther (signed_decimal a) (signed_decimal b) → ⊥
  not_other ok laws a b ha hb e (v, w, hv, hw, differ) =
      let va : v ≡ a = same_number v a (laws.one (place_of Any) (signed_decimal a) (Ok v) (Ok a) hv (ha.is ok)) in
      let wb : w ≡ b = same_number w b (laws.one (place_of Any) (signed_decimal b) (Ok w) (Ok b) hw (hb.is ok)) in
      differ (va ∙ e ∙ sym wb)

  wire_leads : Laws → (name : List ℕ) (power : Bool) (cue : Cue) (path : Path) (said : Said) (w : WireText) → WireFacts w → (f : ℕ → Place) →
      Leads F (in_net name power cue stages.Layer path said) (units_of f (singles (bares (wire_words w))))
      (in_net name power cues.Nothing stages.More (wire_path path w) (with_segments said (said_segment w ∷ [])))
  wire_leads laws name power cue path said w h f =
      let head : List Written = bares (path_words w.layer (signed_decimal w.width) w.shape) in
      let one : List Written = bares (point w.x1 w.y1) in
      let other : List Written = bares (point w.x2 w.y2) in
      let shape : Sort = sort_of_text w.shape in
      let p : Path = begun path w.layer (signed_decimal w.width) shape in
      let q : Path = ended p (signed_decimal w.x1) (signed_decimal w.y1) in
      let g : ℕ → Place = past_all (singles head) f in
      let a : Heard = in_net name power cue stages.Layer path said in
      let b : Heard = in_net name power (cue_after cues.Nothing shape) stages.First p said in
      let c : Heard = in_net name power cues.Nothing stages.One q said in
      let d : Heard = in_net name power cues.Nothing stages.More (wire_path path w) (with_segments said (said_segment w ∷ [])) in
      let straight : F → (kind : WiresKind) → SlantFault q.last (signed_decimal w.x2) (signed_decimal w.y2) kind → ⊥ = λ ok kind fault. elim (h.straight ok) [
        | inl x ↦ not_other ok laws w.x1 w.x2 h.x1 h.x2 x fault.0
        | inr y ↦ not_other ok laws w.y1 w.y2 h.y1 h.y2 y fault.1
      ] in
      joins_words F f a b d head (one ++ other) (head_leads F laws name power cue path said w.layer (signed_decimal w.width) w.shape w.width h.layer.sort h.width h.shape f)
      (joins_words F g b c d one other (first_leads F laws name power (cue_after cues.Nothing shape) p said w.x1 w.y1 refl h.x1 h.y1 g)
      (point_leads F laws name power cues.Nothing stages.One q said w.x2 w.y2 h.x2 h.y2 refl straight (past_all (singles one) g)))

  -- ## an array of a stack

  pub record PlaceFacts (vias : List (List ℕ)) (p : PlaceText) : Type 0 where
    pub layer : IsNameWord p.layer
    pub x : IsCoordinate F p.x
    pub y : IsCoordinate F p.y
    pub via_word : IsWritten (bare p.via)
    pub via_sort : sort_of_text p.via ≡ sorts.Other
    pub known : F → Contains vias p.via

  pub place_facts : Laws → (net : List ℕ) (vias : List (List ℕ)) (p : PlaceText) → PlaceReads net p → PlaceIsPlain p → (F → PlaceFits vias p) → PlaceFacts vias p
  place_facts laws net vias p reads plain fits = record {
    layer = name_word p.layer reads.layer;
    x = coordinate_is laws p.x reads.x (λ ok. (fits ok).x);
    y = coordinate_is laws p.y reads.y (λ ok. (fits ok).y);
    via_word = (name_word p.via reads.via).word;
    via_sort = plain;
    known = λ ok. (fits ok).known;
  }

  pub place_written : (vias : List (List ℕ)) (p : PlaceText) → PlaceFacts vias p → AreWritten (bares (place_words p))
  place_written vias p h = (h.layer.word, (known (codes "0") refl, (known (codes "+") refl, (known (codes "SHAPE") refl, (known (codes "STRIPE") refl, (known (codes "(") refl, (h.x.word.word, (h.y.word.word, (known (codes ")") refl, (h.via_word, tt))))))))))

  zero_width : Laws → IsWidth F zero_text (pos 0)
  zero_width laws = record {
    sort = refl;
    is = λ ok. subst (λ z. IsNumber NotNegative z (pos 0)) zero_is (number_is laws NotNegative (pos 0) (omega (arith, ints)) (omega arith));
  }

  place_leads : Laws → (name : List ℕ) (power : Bool) (cue : Cue) (path : Path) (said : Said) (p : PlaceText) → PlaceFacts (known_vias said) p → (f : ℕ → Place) →
      Leads F (in_net name power cue stages.Layer path said) (units_of f (singles (bares (place_words p))))
      (in_net name power cues.Nothing stages.Placed (ended (begun path p.layer zero_text sorts.Other) (signed_decimal p.x) (signed_decimal p.y)) (with_places said (said_place p ∷ [])))
  place_leads laws name power cue path said p h f =
      let head : List Written = bares (path_words p.layer zero_text (codes "STRIPE")) in
      let one : List Written = bares (point p.x p.y) in
      let last : List Written = bares (p.via ∷ []) in
      let b0 : Path = begun path p.layer zero_text sorts.Other in
      let q : Path = ended b0 (signed_decimal p.x) (signed_decimal p.y) in
      let g : ℕ → Place = past_all (singles head) f in
      let k : ℕ → Place = past_all (singles one) g in
      let a : Heard = in_net name power cue stages.Layer path said in
      let b : Heard = in_net name power cues.Nothing stages.First b0 said in
      let c : Heard = in_net name power cues.Nothing stages.One q said in
      let d : Heard = in_net name power cues.Nothing stages.Placed q (with_places said (said_place p ∷ [])) in
      joins_words F f a b d head (one ++ last) (head_leads F laws name power cue path said p.layer zero_text (codes "STRIPE") (pos 0) h.layer.sort (zero_width laws) stripe_word f)
      (joins_words F g b c d one last (first_leads F laws name power cues.Nothing b0 said p.x p.y refl h.x h.y g) (
        d,
        net_takes F name power cues.Nothing stages.One q said (tok (k 0) p.via) sorts.Other acts.Place h.via_sort refl refl (λ ok kind unknown. unknown.0 (h.known ok)),
        refl,
      ))

  start_leads : (name : List ℕ) (power : Bool) (cue : Cue) (first : Bool) (stage : Stage) (path : Path) (said : Said) → IsReady first stage → (f : ℕ → Place) →
      Leads F (in_net name power cue stage path said) (units_of f (singles (bares (start_words first)))) (in_net name power cues.Nothing stages.Layer path said)
  start_leads name power cue true stage path said ready f =
      let h : (in_net name power cue stages.Parts path said ≡ in_net name power cue stage path said) = ap (λ z. in_net name power cue z path said) (sym ready) in
      subst (λ z. Leads F z (units_of f (singles (bares (start_words true)))) (in_net name power cues.Nothing stages.Layer path said)) h (
        in_net name power cues.Part stages.Part path said,
        net_takes F name power cue stages.Parts path said (tok (f 0) (codes "+")) sorts.Plus (acts.Goes stages.Part) refl refl refl (λ ok kind k. k),
        (
          in_net name power cues.Nothing stages.Layer path said,
          net_takes F name power cues.Part stages.Part path said (tok (f 1) (codes "ROUTED")) sorts.Routed (acts.Goes stages.Layer) refl refl refl (λ ok kind k. k),
          refl,
        ),
      )
  start_leads name power cue false stage path said ready f = (
    in_net name power cues.Nothing stages.Layer path said,
    net_takes F name power cue stage path said (tok (f 0) (codes "NEW")) sorts.New (acts.Goes stages.Layer) refl refl ready.0 (λ ok kind k. k),
    refl,
  )

  -- Words that lead from here to where a line may begin.
  pub record LeadsOn (h : Heard) (us : (ℕ → Place) → List (List Token)) (name : List ℕ) (power first : Bool) (said : Said) : Type 0 where
    pub cue : Cue
    pub stage : Stage
    pub path : Path
    pub ready : IsReady first stage
    pub leads : (f : ℕ → Place) → Leads F h (us f) (in_net name power cue stage path said)

  abbrev pub AllWires : List WireText → Type 0
  AllWires [] = Unit {0}
  AllWires (w ∷ wires) = WireFacts w × AllWires wires

  abbrev pub AllPlaces : List (List ℕ) → List PlaceText → Type 0
  AllPlaces vias [] = Unit {0}
  AllPlaces vias (p ∷ places) = PlaceFacts vias p × AllPlaces vias places

  pub wires_lead : Laws → (name : List ℕ) (power : Bool) (cue : Cue) (first : Bool) (stage : Stage) (path : Path) (said : Said) (wires : List WireText) → AllWires wires → IsReady first stage →
      LeadsOn (in_net name power cue stage path said) (λ f. units_of f (singles (line_words first (map wire_words wires)))) name power (still first (map wire_words wires))
      (with_segments said (map said_segment wires))
  wires_lead laws name power cue first stage path said [] h ready = record {
    cue = cue;
    stage = stage;
    path = path;
    ready = ready;
    leads = λ f. ap (λ (z : List SaidSegment). in_net name power cue stage path (record said { segments = z })) (sym (append-nil said.segments));
  }
  wires_lead laws name power cue first stage path said (w ∷ wires) h ready =
      let start : List Written = bares (start_words first) in
      let line : List Written = bares (wire_words w) in
      let more : List Written = line_words false (map wire_words wires) in
      let a : Heard = in_net name power cue stage path said in
      let b : Heard = in_net name power cues.Nothing stages.Layer path said in
      let now : Said = with_segments said (said_segment w ∷ []) in
      let c : Heard = in_net name power cues.Nothing stages.More (wire_path path w) now in
      let rest = wires_lead laws name power cues.Nothing false stages.More (wire_path path w) now wires h.1 (refl, refl) in
      let last : Said = with_segments said (map said_segment (w ∷ wires)) in
      let d : Heard = in_net name power rest.cue rest.stage rest.path (with_segments now (map said_segment wires)) in
      let same : d ≡ in_net name power rest.cue rest.stage rest.path last =
      ap (λ (z : List SaidSegment). in_net name power rest.cue rest.stage rest.path (record said { segments = z })) (append_assoc said.segments (said_segment w ∷ []) (map said_segment wires)) in
      record {
        cue = rest.cue;
        stage = rest.stage;
        path = rest.path;
        ready = rest.ready;
        leads = λ f.
            let g : ℕ → Place = past_all (singles start) f in
            subst (λ z. Leads F a (units_of f (singles (start ++ (line ++ more)))) z) same
            (joins_words F f a b d start (line ++ more) (start_leads name power cue first stage path said ready f)
            (joins_words F g b c d line more (wire_leads laws name power cues.Nothing path said w h.0 g) (rest.leads (past_all (singles line) g))));
      }

  pub places_lead : Laws → (name : List ℕ) (power : Bool) (cue : Cue) (first : Bool) (stage : Stage) (path : Path) (said : Said) (places : List PlaceText) → AllPlaces (known_vias said) places →
      IsReady first stage → LeadsOn (in_net name power cue stage path said) (λ f. units_of f (singles (line_words first (map place_words places)))) name power (still first (map place_words places))
      (with_places said (map said_place places))
  places_lead laws name power cue first stage path said [] h ready = record {
    cue = cue;
    stage = stage;
    path = path;
    ready = ready;
    leads = λ f. ap (λ (z : List SaidPlace). in_net name power cue stage path (record said { places = z })) (sym (append-nil said.places));
  }
  places_lead laws name power cue first stage path said (p ∷ places) h ready =
      let start : List Written = bares (start_words first) in
      let line : List Written = bares (place_words p) in
      let more : List Written = line_words false (map place_words places) in
      let a : Heard = in_net name power cue stage path said in
      let b : Heard = in_net name power cues.Nothing stages.Layer path said in
      let now : Said = with_places said (said_place p ∷ []) in
      let q : Path = ended (begun path p.layer zero_text sorts.Other) (signed_decimal p.x) (signed_decimal p.y) in
      let c : Heard = in_net name power cues.Nothing stages.Placed q now in
      let rest = places_lead laws name power cues.Nothing false stages.Placed q now places h.1 (refl, refl) in
      let last : Said = with_places said (map said_place (p ∷ places)) in
      let d : Heard = in_net name power rest.cue rest.stage rest.path (with_places now (map said_place places)) in
      let same : d ≡ in_net name power rest.cue rest.stage rest.path last =
      ap (λ (z : List SaidPlace). in_net name power rest.cue rest.stage rest.path (record said { places = z })) (append_assoc said.places (said_place p ∷ []) (map said_place places)) in
      record {
        cue = rest.cue;
        stage = rest.stage;
        path = rest.path;
        ready = rest.ready;
        leads = λ f.
            let g : ℕ → Place = past_all (singles start) f in
            subst (λ z. Leads F a (units_of f (singles (start ++ (line ++ more)))) z) same
            (joins_words F f a b d start (line ++ more) (start_leads name power cue first stage path said ready f)
            (joins_words F g b c d line more (place_leads laws name power cues.Nothing path said p h.0 g) (rest.leads (past_all (singles line) g))));
      }
