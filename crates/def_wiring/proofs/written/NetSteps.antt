-- The words of an entry of SPECIALNETS.
use Rattle.std.proofs.Common.{◌≡◌, ℕ, Bool, true, false, ℤ, List, [], ◌∷◌, ◌++◌, map, codes, Option, Some, None, refl, ◌∙◌, ap, subst, arith, inl, inr}
use Rattle.std.specs.Fmt.{signed_decimal}
use Rattle.std.proofs.lemmas.List.{append-nil}
use Rattle.outside.specs.declared.place.Place.{Place}
use Rattle.reading.specs.declared.word.Form.TheVariants.{Bare}
use Rattle.reading.specs.Word.{Token}
use Rattle.def_wiring.specs.declared.act.Act.{Act}
use Rattle.def_wiring.specs.declared.act.Act.TheVariants as acts
use Rattle.def_wiring.specs.declared.act.Stage.{Stage}
use Rattle.def_wiring.specs.declared.act.Stage.TheVariants as stages
use Rattle.def_wiring.specs.declared.error.WiresKind.{WiresKind}
use Rattle.def_wiring.specs.declared.number.Quantity.TheVariants.{Any, NotNegative}
use Rattle.def_wiring.specs.declared.path.Path.{Path}
use Rattle.def_wiring.specs.declared.path.Point.{Point}
use Rattle.def_wiring.specs.declared.section.Section.{Section}
use Rattle.def_wiring.specs.declared.section.Section.TheVariants.{Net}
use Rattle.def_wiring.specs.declared.sort.Sort.{Sort}
use Rattle.def_wiring.specs.declared.sort.Sort.TheVariants as sorts
use Rattle.def_wiring.specs.declared.standing.Cue.{Cue}
use Rattle.def_wiring.specs.declared.standing.Cue.TheVariants as cues
use Rattle.def_wiring.specs.Act.{net_act}
use Rattle.def_wiring.specs.Fault.{WordFault, CoordinateFault, SlantFault}
use Rattle.def_wiring.specs.Number.{IsNumber}
use Rattle.def_wiring.specs.Path.{path_by, last_y, coordinate}
use Rattle.def_wiring.specs.Record.{Said, SaidSegment, Heard, segment_from, said_by, known_vias}
use Rattle.def_wiring.specs.Rule.{is_word, is_name}
use Rattle.def_wiring.specs.Sort.{sort_of, sort_of_text}
use Rattle.def_wiring.specs.Standing.{cue_after, after_point, stage_by, section_by}
use Rattle.wiring_file.specs.Written.{point}
use Rattle.written_words.specs.Spelled.{Written, bare}
use Rattle.def_wiring.proofs.written.Words.{Laws, IsNumberWord, no_fault, no_false}
use Rattle.def_wiring.proofs.written.Steps.{Takes, Leads, at_word, units_of, singles}

abbrev pub bares : List (List ℕ) → List Written
bares words = map bare words

abbrev pub tok : Place → List ℕ → Token
tok place text = record { text = text; place = place; form = Bare }

-- ## one word

-- In an entry of a net whose use is known, or just after it.
abbrev pub net_state : Section → List ℕ → Bool → Cue → Stage → Path → Said → Heard
net_state section name power cue stage path said = record {
  standing = record {
    section = section;
    passing = None;
    name = name;
    entry = [];
    power = Some power;
    cue = cue;
    stage = stage;
    path = path;
  };
  said = said;
}

abbrev pub in_net : List ℕ → Bool → Cue → Stage → Path → Said → Heard
in_net name power cue stage path said = net_state Net name power cue stage path said

-- After a word of this sort that does this.
abbrev net_next : List ℕ → Bool → Cue → Stage → Path → Said → Token → Sort → Act → Heard
net_next name power cue stage path said t s act =
    net_state (section_by act) name power (cue_after cue s) (stage_by act path.last stage) (path_by act s t.text path)
    (said_by act (in_net name power cue stage path said).standing t said)

no_such : {P : Type 0} → false ≡ true → P
no_such h = absurd (no_false h)

pub name_is_word : (s : Sort) → is_name s ≡ true → is_word s ≡ true
name_is_word sorts.TextEnd h = no_such h
name_is_word s h = refl

act_layer : (s : Sort) → is_name s ≡ true → net_act stages.Layer s ≡ acts.Layer
act_layer sorts.Semicolon h = no_such h
act_layer sorts.Quoted h = no_such h
act_layer sorts.TextEnd h = no_such h
act_layer s h = refl

-- ## a point

no_coordinate : Laws → (last : Option Point) (text : List ℕ) (v : ℤ) → IsNumber Any text v → (kind : WiresKind) → CoordinateFault last sorts.Other text kind → ⊥
no_coordinate laws None text v is kind h = no_fault laws Any text v is kind h
no_coordinate laws (Some last) text v is kind h = no_fault laws Any text v is kind h

abbrev pub point_at : List ℕ → List ℕ → Point
point_at x y = record { x = x; y = y; reach = None }

-- The path with this point open, and with it as its last one.
abbrev pub pointed : Path → List ℕ → List ℕ → Path
pointed path x y = record path { x = x; y = y; reach = None }

abbrev pub ended : Path → List ℕ → List ℕ → Path
ended path x y = record (pointed path x y) { last = Some (point_at x y) }

abbrev pub with_segments : Said → List SaidSegment → Said
with_segments said more = record said { segments = said.segments ++ more }

-- ## the head of a path

-- The path that begins with this layer, this width and this sort of shape.
abbrev pub begun : Path → List ℕ → List ℕ → Sort → Path
begun path layer width shape = record path { layer = layer; width = width; shape = shape; last = None }

-- A shape as a word.
pub record IsShapeWord (text : List ℕ) : Type 0 where
  pub word : is_word (sort_of_text text) ≡ true
  pub does : net_act stages.Shape (sort_of_text text) ≡ acts.Shape

abbrev pub path_words : List ℕ → List ℕ → List ℕ → List (List ℕ)
path_words layer width shape = layer ∷ width ∷ codes "+" ∷ codes "SHAPE" ∷ shape ∷ []

-- F says when no word shows a fault: what is asked of numbers and of names before is asked under it alone, and all else holds
-- without it.
module _ (F : Type 0) where
  pub net_takes : (name : List ℕ) (power : Bool) (cue : Cue) (stage : Stage) (path : Path) (said : Said) (t : Token) (s : Sort) (act : Act) → sort_of t ≡ s → is_word s ≡ true →
      net_act stage s ≡ act → (F → (kind : WiresKind) → WordFault (known_vias said) act path t kind → ⊥) →
      Takes F (in_net name power cue stage path said) (t ∷ []) (net_next name power cue stage path said t s act)
  net_takes name power cue stage path said t s act e word does none =
      let acts_as : net_act stage (sort_of t) ≡ act = ap (λ z. net_act stage z) e ∙ does in
      record {
        some = omega arith;
        matches = (t, ap is_word e ∙ word, refl);
        fine = λ ok. (
          λ a faulty. at_word (λ kind. WordFault (known_vias said) (net_act stage (sort_of t)) path t kind)
              (λ kind h. none ok kind (subst (λ z. WordFault (known_vias said) z path t kind) acts_as h)) a.kind faulty.1,
          tt,
        );
        goes_on = refl;
        leads = ap (λ z. net_next name power cue stage path said t z (net_act stage z)) e ∙ ap (λ z. net_next name power cue stage path said t s z) does;
      }

  -- A coordinate as a word.
  pub record IsCoordinate (v : ℤ) : Type 0 where
    pub word : IsNumberWord v
    pub is : F → IsNumber Any (signed_decimal v) v

  pub point_leads : Laws → (name : List ℕ) (power : Bool) (cue : Cue) (stage : Stage) (path : Path) (said : Said) (x y : ℤ) → IsCoordinate x → IsCoordinate y →
      net_act stage sorts.Open ≡ acts.Goes stages.X → (F → (kind : WiresKind) → SlantFault path.last (signed_decimal x) (signed_decimal y) kind → ⊥) → (f : ℕ → Place) →
      Leads F (in_net name power cue stage path said) (units_of f (singles (bares (point x y))))
      (in_net name power cues.Nothing (after_point path.last) (ended path (signed_decimal x) (signed_decimal y))
      (with_segments said (segment_from path.last (pointed path (signed_decimal x) (signed_decimal y)))))
  point_leads laws name power cue stage path said x y hx hy enters straight f =
      let c0 : Cue = cue_after cue sorts.Open in
      let c1 : Cue = cue_after c0 sorts.Other in
      let c2 : Cue = cue_after c1 sorts.Other in
      let px : Path = record path { x = signed_decimal x; reach = None } in
      let py : Path = pointed path (signed_decimal x) (signed_decimal y) in
      let tx : Token = tok (f 1) (signed_decimal x) in
      let ty : Token = tok (f 2) (signed_decimal y) in (
        in_net name power c0 stages.X path said,
        net_takes name power cue stage path said (tok (f 0) (codes "(")) sorts.Open (acts.Goes stages.X) refl refl enters (λ ok kind h. h),
        (
          in_net name power c1 stages.Y px said,
          net_takes name power c0 stages.X path said tx sorts.Other acts.X hx.word.sort refl refl
              (λ ok kind h. no_coordinate laws path.last (signed_decimal x) x (hx.is ok) kind (subst (λ s. CoordinateFault path.last s (signed_decimal x) kind) hx.word.sort h)),
          (
            in_net name power c2 stages.Reach py said,
            net_takes name power c1 stages.Y px said ty sorts.Other acts.Y hy.word.sort refl refl (λ ok kind h. elim h [
              | inl k ↦ no_coordinate laws path.last (signed_decimal y) y (hy.is ok) kind (subst (λ s. CoordinateFault path.last s (signed_decimal y) kind) hy.word.sort k)
              | inr k ↦ straight ok kind (subst (λ s. SlantFault path.last (signed_decimal x) (coordinate s (last_y path.last) (signed_decimal y)) kind) hy.word.sort k)
            ]),
            (
              in_net name power cues.Nothing (after_point path.last) (ended path (signed_decimal x) (signed_decimal y)) (with_segments said (segment_from path.last py)),
              net_takes name power c2 stages.Reach py said (tok (f 3) (codes ")")) sorts.Close acts.Point refl refl refl (λ ok kind h. h),
              refl,
            ),
          ),
        ),
      )

  -- The width of a path as a word.
  pub record IsWidth (text : List ℕ) (v : ℤ) : Type 0 where
    pub sort : sort_of_text text ≡ sorts.Other
    pub is : F → IsNumber NotNegative text v

  pub head_leads : Laws → (name : List ℕ) (power : Bool) (cue : Cue) (path : Path) (said : Said) (layer width shape : List ℕ) (v : ℤ) → is_name (sort_of_text layer) ≡ true → IsWidth width v →
      IsShapeWord shape → (f : ℕ → Place) →
      Leads F (in_net name power cue stages.Layer path said) (units_of f (singles (bares (path_words layer width shape))))
      (in_net name power (cue_after cues.Nothing (sort_of_text shape)) stages.First (begun path layer width (sort_of_text shape)) said)
  head_leads laws name power cue path said layer width shape v is_layer is_width is_shape f =
      let sl : Sort = sort_of_text layer in
      let ss : Sort = sort_of_text shape in
      let c0 : Cue = cue_after cue sl in
      let c1 : Cue = cue_after c0 sorts.Other in
      let p0 : Path = begun path layer [] sorts.Other in
      let p1 : Path = begun path layer width sorts.Other in (
        in_net name power c0 stages.Width p0 said,
        net_takes name power cue stages.Layer path said (tok (f 0) layer) sl acts.Layer refl (name_is_word sl is_layer) (act_layer sl is_layer) (λ ok kind h. h),
        (
          in_net name power c1 stages.Head p1 said,
          net_takes name power c0 stages.Width p0 said (tok (f 1) width) sorts.Other acts.Width is_width.sort refl refl
              (λ ok kind h. no_fault laws NotNegative width v (is_width.is ok) kind h),
          (
            in_net name power cues.Part stages.HeadPart p1 said,
            net_takes name power c1 stages.Head p1 said (tok (f 2) (codes "+")) sorts.Plus (acts.Goes stages.HeadPart) refl refl refl (λ ok kind h. h),
            (
              in_net name power cues.Nothing stages.Shape p1 said,
              net_takes name power cues.Part stages.HeadPart p1 said (tok (f 3) (codes "SHAPE")) sorts.ShapeWord (acts.Goes stages.Shape) refl refl refl (λ ok kind h. h),
              (
                in_net name power (cue_after cues.Nothing ss) stages.First (begun path layer width ss) said,
                net_takes name power cues.Nothing stages.Shape p1 said (tok (f 4) shape) ss acts.Shape refl is_shape.word is_shape.does (λ ok kind h. h),
                refl,
              ),
            ),
          ),
        ),
      )

  -- The first point of a path.
  pub first_leads : Laws → (name : List ℕ) (power : Bool) (cue : Cue) (path : Path) (said : Said) (x y : ℤ) → path.last ≡ None → IsCoordinate x → IsCoordinate y → (f : ℕ → Place) →
      Leads F (in_net name power cue stages.First path said) (units_of f (singles (bares (point x y))))
      (in_net name power cues.Nothing stages.One (ended path (signed_decimal x) (signed_decimal y)) said)
  first_leads laws name power cue path said x y none hx hy f =
      let h : Heard = in_net name power cue stages.First path said in
      let us : List (List Token) = units_of f (singles (bares (point x y))) in
      let p : Path = ended path (signed_decimal x) (signed_decimal y) in
      let straight : F → (kind : WiresKind) → SlantFault path.last (signed_decimal x) (signed_decimal y) kind → ⊥ =
      λ ok kind h. subst (λ (z : Option Point). SlantFault z (signed_decimal x) (signed_decimal y) kind) none h in
      subst (λ (z : List SaidSegment). Leads F h us (in_net name power cues.Nothing stages.One p (record said { segments = z }))) (append-nil said.segments)
      (subst (λ (z : Option Point). Leads F h us (in_net name power cues.Nothing (after_point z) p (with_segments said (segment_from z (pointed path (signed_decimal x) (signed_decimal y)))))) none
      (point_leads laws name power cue stages.First path said x y hx hy refl straight f))
