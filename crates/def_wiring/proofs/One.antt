-- The units of a text say one record.
use Rattle.std.proofs.Common.{◌≡◌, ◌≢◌, ◌⊎◌, inl, inr, ℕ, ℤ, List, Option, Some, None, Result, Ok, Err, sym, ◌∙◌, ap, subst}
use Rattle.entry_list.specs.Laws.{in-turn-one}
use Rattle.geom_rect.specs.declared.drawn.Shape.{Shape}
use Rattle.def_wiring.specs.declared.error.Shown.{Shown}
use Rattle.def_wiring.specs.declared.error.Shown.TheVariants.{Here}
use Rattle.def_wiring.specs.declared.error.WiresKind.{WiresKind}
use Rattle.def_wiring.specs.declared.error.WiresKind.TheVariants.{Want}
use Rattle.def_wiring.specs.declared.held.Held.{Held}
use Rattle.def_wiring.specs.declared.number.Quantity.TheVariants.{Any, NotNegative, Positive}
use Rattle.def_wiring.specs.declared.record.Segment.{Segment}
use Rattle.def_wiring.specs.declared.record.ViaDef.{ViaDef}
use Rattle.def_wiring.specs.declared.record.ViaPlace.{ViaPlace}
use Rattle.def_wiring.specs.declared.record.WiredNet.{WiredNet}
use Rattle.def_wiring.specs.declared.record.Wires.{Wires}
use Rattle.def_wiring.specs.declared.sort.Sort.{Sort}
use Rattle.def_wiring.specs.declared.sort.Sort.TheVariants as sorts
use Rattle.def_wiring.specs.Format.{format, kinds, public_kind, public_error, ReadsWires}
use Rattle.def_wiring.specs.inside.Held.{Holds}
use Rattle.def_wiring.specs.Limits.{WiresKeep}
use Rattle.def_wiring.specs.Record.{SaidVia, SaidSegment, SaidPlace, SaidNet, Said, HasShape, IsReach, SaysVia, SaysSegment, SaysPlace, SaysNet, SaysWires, IsWires, heard_of}
use Rattle.def_wiring.proofs.Numbers.{HasOne, value_one}
use Rattle.reading.specs.declared.error.ReadError.{ReadError}
use Rattle.reading.specs.Error.{ReadsRecord, Agree}
use Rattle.reading.specs.Word.{Token}
use Rattle.text_lex.specs.declared.word.Mode.TheVariants.{LefDef}

-- ## vias

abbrev the_via : ViaDef → ViaDef
the_via a = a

same_via : (a b : ViaDef) → a.name ≡ b.name → a.rule ≡ b.rule → a.cut_x ≡ b.cut_x → a.cut_y ≡ b.cut_y → a.lower ≡ b.lower → a.cut ≡ b.cut → a.upper ≡ b.upper →
    a.gap_x ≡ b.gap_x → a.gap_y ≡ b.gap_y → a.lower_x ≡ b.lower_x → a.lower_y ≡ b.lower_y → a.upper_x ≡ b.upper_x → a.upper_y ≡ b.upper_y →
    a.rows ≡ b.rows → a.columns ≡ b.columns → a ≡ b
same_via a b e1 e2 e3 e4 e5 e6 e7 e8 e9 e10 e11 e12 e13 e14 e15 =
    ap (λ z. the_via (record { name = z; rule = a.rule; cut_x = a.cut_x; cut_y = a.cut_y; lower = a.lower; cut = a.cut; upper = a.upper; gap_x = a.gap_x; gap_y = a.gap_y; lower_x = a.lower_x; lower_y = a.lower_y; upper_x = a.upper_x; upper_y = a.upper_y; rows = a.rows; columns = a.columns })) e1
    ∙ ap (λ z. the_via (record { name = b.name; rule = z; cut_x = a.cut_x; cut_y = a.cut_y; lower = a.lower; cut = a.cut; upper = a.upper; gap_x = a.gap_x; gap_y = a.gap_y; lower_x = a.lower_x; lower_y = a.lower_y; upper_x = a.upper_x; upper_y = a.upper_y; rows = a.rows; columns = a.columns })) e2
    ∙ ap (λ z. the_via (record { name = b.name; rule = b.rule; cut_x = z; cut_y = a.cut_y; lower = a.lower; cut = a.cut; upper = a.upper; gap_x = a.gap_x; gap_y = a.gap_y; lower_x = a.lower_x; lower_y = a.lower_y; upper_x = a.upper_x; upper_y = a.upper_y; rows = a.rows; columns = a.columns })) e3
    ∙ ap (λ z. the_via (record { name = b.name; rule = b.rule; cut_x = b.cut_x; cut_y = z; lower = a.lower; cut = a.cut; upper = a.upper; gap_x = a.gap_x; gap_y = a.gap_y; lower_x = a.lower_x; lower_y = a.lower_y; upper_x = a.upper_x; upper_y = a.upper_y; rows = a.rows; columns = a.columns })) e4
    ∙ ap (λ z. the_via (record { name = b.name; rule = b.rule; cut_x = b.cut_x; cut_y = b.cut_y; lower = z; cut = a.cut; upper = a.upper; gap_x = a.gap_x; gap_y = a.gap_y; lower_x = a.lower_x; lower_y = a.lower_y; upper_x = a.upper_x; upper_y = a.upper_y; rows = a.rows; columns = a.columns })) e5
    ∙ ap (λ z. the_via (record { name = b.name; rule = b.rule; cut_x = b.cut_x; cut_y = b.cut_y; lower = b.lower; cut = z; upper = a.upper; gap_x = a.gap_x; gap_y = a.gap_y; lower_x = a.lower_x; lower_y = a.lower_y; upper_x = a.upper_x; upper_y = a.upper_y; rows = a.rows; columns = a.columns })) e6
    ∙ ap (λ z. the_via (record { name = b.name; rule = b.rule; cut_x = b.cut_x; cut_y = b.cut_y; lower = b.lower; cut = b.cut; upper = z; gap_x = a.gap_x; gap_y = a.gap_y; lower_x = a.lower_x; lower_y = a.lower_y; upper_x = a.upper_x; upper_y = a.upper_y; rows = a.rows; columns = a.columns })) e7
    ∙ ap (λ z. the_via (record { name = b.name; rule = b.rule; cut_x = b.cut_x; cut_y = b.cut_y; lower = b.lower; cut = b.cut; upper = b.upper; gap_x = z; gap_y = a.gap_y; lower_x = a.lower_x; lower_y = a.lower_y; upper_x = a.upper_x; upper_y = a.upper_y; rows = a.rows; columns = a.columns })) e8
    ∙ ap (λ z. the_via (record { name = b.name; rule = b.rule; cut_x = b.cut_x; cut_y = b.cut_y; lower = b.lower; cut = b.cut; upper = b.upper; gap_x = b.gap_x; gap_y = z; lower_x = a.lower_x; lower_y = a.lower_y; upper_x = a.upper_x; upper_y = a.upper_y; rows = a.rows; columns = a.columns })) e9
    ∙ ap (λ z. the_via (record { name = b.name; rule = b.rule; cut_x = b.cut_x; cut_y = b.cut_y; lower = b.lower; cut = b.cut; upper = b.upper; gap_x = b.gap_x; gap_y = b.gap_y; lower_x = z; lower_y = a.lower_y; upper_x = a.upper_x; upper_y = a.upper_y; rows = a.rows; columns = a.columns })) e10
    ∙ ap (λ z. the_via (record { name = b.name; rule = b.rule; cut_x = b.cut_x; cut_y = b.cut_y; lower = b.lower; cut = b.cut; upper = b.upper; gap_x = b.gap_x; gap_y = b.gap_y; lower_x = b.lower_x; lower_y = z; upper_x = a.upper_x; upper_y = a.upper_y; rows = a.rows; columns = a.columns })) e11
    ∙ ap (λ z. the_via (record { name = b.name; rule = b.rule; cut_x = b.cut_x; cut_y = b.cut_y; lower = b.lower; cut = b.cut; upper = b.upper; gap_x = b.gap_x; gap_y = b.gap_y; lower_x = b.lower_x; lower_y = b.lower_y; upper_x = z; upper_y = a.upper_y; rows = a.rows; columns = a.columns })) e12
    ∙ ap (λ z. the_via (record { name = b.name; rule = b.rule; cut_x = b.cut_x; cut_y = b.cut_y; lower = b.lower; cut = b.cut; upper = b.upper; gap_x = b.gap_x; gap_y = b.gap_y; lower_x = b.lower_x; lower_y = b.lower_y; upper_x = b.upper_x; upper_y = z; rows = a.rows; columns = a.columns })) e13
    ∙ ap (λ z. the_via (record { name = b.name; rule = b.rule; cut_x = b.cut_x; cut_y = b.cut_y; lower = b.lower; cut = b.cut; upper = b.upper; gap_x = b.gap_x; gap_y = b.gap_y; lower_x = b.lower_x; lower_y = b.lower_y; upper_x = b.upper_x; upper_y = b.upper_y; rows = z; columns = a.columns })) e14
    ∙ ap (λ z. the_via (record { name = b.name; rule = b.rule; cut_x = b.cut_x; cut_y = b.cut_y; lower = b.lower; cut = b.cut; upper = b.upper; gap_x = b.gap_x; gap_y = b.gap_y; lower_x = b.lower_x; lower_y = b.lower_y; upper_x = b.upper_x; upper_y = b.upper_y; rows = b.rows; columns = z })) e15

one_via : HasOne → (said : SaidVia) (a b : ViaDef) → SaysVia said a → SaysVia said b → a ≡ b
one_via one said a b h k = same_via a b (h.name ∙ sym k.name) (h.rule ∙ sym k.rule)
    (value_one one Positive _ a.cut_x b.cut_x h.numbers.cut_x k.numbers.cut_x)
    (value_one one Positive _ a.cut_y b.cut_y h.numbers.cut_y k.numbers.cut_y)
    (h.lower ∙ sym k.lower) (h.cut ∙ sym k.cut) (h.upper ∙ sym k.upper)
    (value_one one NotNegative _ a.gap_x b.gap_x h.numbers.gap_x k.numbers.gap_x)
    (value_one one NotNegative _ a.gap_y b.gap_y h.numbers.gap_y k.numbers.gap_y)
    (value_one one NotNegative _ a.lower_x b.lower_x h.numbers.lower_x k.numbers.lower_x)
    (value_one one NotNegative _ a.lower_y b.lower_y h.numbers.lower_y k.numbers.lower_y)
    (value_one one NotNegative _ a.upper_x b.upper_x h.numbers.upper_x k.numbers.upper_x)
    (value_one one NotNegative _ a.upper_y b.upper_y h.numbers.upper_y k.numbers.upper_y)
    (value_one one Positive _ a.rows b.rows h.numbers.rows k.numbers.rows)
    (value_one one Positive _ a.columns b.columns h.numbers.columns k.numbers.columns)

-- ## wires

one_shape : (sort : Sort) (y1 y2 : ℤ) (a b : Shape) → HasShape sort y1 y2 a → HasShape sort y1 y2 b → a ≡ b
one_shape sorts.Ring y1 y2 a b h k = h ∙ sym k
one_shape sorts.FollowPin y1 y2 a b (inl h) (inl k) = h.1 ∙ sym k.1
one_shape sorts.FollowPin y1 y2 a b (inl h) (inr k) = absurd (k.0 h.0)
one_shape sorts.FollowPin y1 y2 a b (inr h) (inl k) = absurd (h.0 k.0)
one_shape sorts.FollowPin y1 y2 a b (inr h) (inr k) = h.1 ∙ sym k.1
one_shape sort y1 y2 a b h k = h ∙ sym k

one_reach : HasOne → (reach : Option (List ℕ)) (v w : ℤ) → IsReach reach v → IsReach reach w → v ≡ w
one_reach one None v w h k = h ∙ sym k
one_reach one (Some text) v w h k = value_one one NotNegative text v w h k

shape_as : (sort : Sort) (y1 y2 z1 z2 : ℤ) (shape : Shape) → y1 ≡ z1 → y2 ≡ z2 → HasShape sort z1 z2 shape → HasShape sort y1 y2 shape
shape_as sort y1 y2 z1 z2 shape e f h =
    subst (λ z. HasShape sort z y2 shape) (sym e) (subst (λ z. HasShape sort z1 z shape) (sym f) h)

abbrev the_segment : Segment → Segment
the_segment a = a

same_segment : (a b : Segment) → a.layer ≡ b.layer → a.width ≡ b.width → a.shape ≡ b.shape → a.x1 ≡ b.x1 → a.y1 ≡ b.y1 → a.e1 ≡ b.e1 → a.x2 ≡ b.x2 → a.y2 ≡ b.y2 →
    a.e2 ≡ b.e2 → a ≡ b
same_segment a b e1 e2 e3 e4 e5 e6 e7 e8 e9 =
    ap (λ z. the_segment (record { layer = z; width = a.width; shape = a.shape; x1 = a.x1; y1 = a.y1; e1 = a.e1; x2 = a.x2; y2 = a.y2; e2 = a.e2 })) e1
    ∙ ap (λ z. the_segment (record { layer = b.layer; width = z; shape = a.shape; x1 = a.x1; y1 = a.y1; e1 = a.e1; x2 = a.x2; y2 = a.y2; e2 = a.e2 })) e2
    ∙ ap (λ z. the_segment (record { layer = b.layer; width = b.width; shape = z; x1 = a.x1; y1 = a.y1; e1 = a.e1; x2 = a.x2; y2 = a.y2; e2 = a.e2 })) e3
    ∙ ap (λ z. the_segment (record { layer = b.layer; width = b.width; shape = b.shape; x1 = z; y1 = a.y1; e1 = a.e1; x2 = a.x2; y2 = a.y2; e2 = a.e2 })) e4
    ∙ ap (λ z. the_segment (record { layer = b.layer; width = b.width; shape = b.shape; x1 = b.x1; y1 = z; e1 = a.e1; x2 = a.x2; y2 = a.y2; e2 = a.e2 })) e5
    ∙ ap (λ z. the_segment (record { layer = b.layer; width = b.width; shape = b.shape; x1 = b.x1; y1 = b.y1; e1 = z; x2 = a.x2; y2 = a.y2; e2 = a.e2 })) e6
    ∙ ap (λ z. the_segment (record { layer = b.layer; width = b.width; shape = b.shape; x1 = b.x1; y1 = b.y1; e1 = b.e1; x2 = z; y2 = a.y2; e2 = a.e2 })) e7
    ∙ ap (λ z. the_segment (record { layer = b.layer; width = b.width; shape = b.shape; x1 = b.x1; y1 = b.y1; e1 = b.e1; x2 = b.x2; y2 = z; e2 = a.e2 })) e8
    ∙ ap (λ z. the_segment (record { layer = b.layer; width = b.width; shape = b.shape; x1 = b.x1; y1 = b.y1; e1 = b.e1; x2 = b.x2; y2 = b.y2; e2 = z })) e9

one_segment : HasOne → (said : SaidSegment) (a b : Segment) → SaysSegment said a → SaysSegment said b → a ≡ b
one_segment one said a b h k =
    let y1 = value_one one Any said.from.y a.y1 b.y1 h.y1 k.y1 in
    let y2 = value_one one Any said.to.y a.y2 b.y2 h.y2 k.y2 in
    same_segment a b (h.layer ∙ sym k.layer) (value_one one NotNegative said.width a.width b.width h.width k.width)
    (one_shape said.shape a.y1 a.y2 a.shape b.shape h.shape (shape_as said.shape a.y1 a.y2 b.y1 b.y2 b.shape y1 y2 k.shape))
    (value_one one Any said.from.x a.x1 b.x1 h.x1 k.x1) y1 (one_reach one said.from.reach a.e1 b.e1 h.e1 k.e1)
    (value_one one Any said.to.x a.x2 b.x2 h.x2 k.x2) y2 (one_reach one said.to.reach a.e2 b.e2 h.e2 k.e2)

abbrev the_place : ViaPlace → ViaPlace
the_place a = a

same_place : (a b : ViaPlace) → a.via ≡ b.via → a.layer ≡ b.layer → a.x ≡ b.x → a.y ≡ b.y → a ≡ b
same_place a b e1 e2 e3 e4 =
    ap (λ z. the_place (record { via = z; layer = a.layer; x = a.x; y = a.y })) e1
    ∙ ap (λ z. the_place (record { via = b.via; layer = z; x = a.x; y = a.y })) e2
    ∙ ap (λ z. the_place (record { via = b.via; layer = b.layer; x = z; y = a.y })) e3
    ∙ ap (λ z. the_place (record { via = b.via; layer = b.layer; x = b.x; y = z })) e4

one_place : HasOne → (said : SaidPlace) (a b : ViaPlace) → SaysPlace said a → SaysPlace said b → a ≡ b
one_place one said a b h k = same_place a b (h.via ∙ sym k.via) (h.layer ∙ sym k.layer)
    (value_one one Any said.x a.x b.x h.x k.x) (value_one one Any said.y a.y b.y h.y k.y)

abbrev the_net : WiredNet → WiredNet
the_net a = a

same_net : (a b : WiredNet) → a.name ≡ b.name → a.power ≡ b.power → a.segments ≡ b.segments → a.vias ≡ b.vias → a ≡ b
same_net a b e1 e2 e3 e4 =
    ap (λ z. the_net (record { name = z; power = a.power; segments = a.segments; vias = a.vias })) e1
    ∙ ap (λ z. the_net (record { name = b.name; power = z; segments = a.segments; vias = a.vias })) e2
    ∙ ap (λ z. the_net (record { name = b.name; power = b.power; segments = z; vias = a.vias })) e3
    ∙ ap (λ z. the_net (record { name = b.name; power = b.power; segments = b.segments; vias = z })) e4

one_net : HasOne → (said : SaidNet) (a b : WiredNet) → SaysNet said a → SaysNet said b → a ≡ b
one_net one said a b h k = same_net a b (h.name ∙ sym k.name) (h.power ∙ sym k.power)
    (in-turn-one SaysSegment (one_segment one) said.segments a.segments b.segments h.segments k.segments)
    (in-turn-one SaysPlace (one_place one) said.places a.vias b.vias h.vias k.vias)

abbrev the_wires : Wires → Wires
the_wires a = a

same_wires : (a b : Wires) → a.vias ≡ b.vias → a.nets ≡ b.nets → a ≡ b
same_wires a b e1 e2 =
    ap (λ z. the_wires (record { vias = z; nets = a.nets })) e1
    ∙ ap (λ z. the_wires (record { vias = b.vias; nets = z })) e2

pub one_wires : HasOne → (units : List (List Token)) (a b : Wires) → IsWires units a → IsWires units b → a ≡ b
one_wires one units a b h k = same_wires a b (in-turn-one SaysVia (one_via one) _ a.vias b.vias h.vias k.vias)
    (in-turn-one SaysNet (one_net one) _ a.nets b.nets h.nets k.nets)

-- ## the outcome

-- What the units that were held say is the text's record.
pub wires_read : (text : List ℕ) (held : Held) (x : Unit {0}) (wires : Wires) →
    ReadsRecord {R = Unit {0}} kinds LefDef text format (λ units told. Holds units held) (Ok x) →
    ((units : List (List Token)) → Holds units held → IsWires units wires) → ReadsWires text (Ok wires)
wires_read text held x wires h told = (h.0, h.1, h.2, h.3, told h.2 h.4)

pub wires_kept : (text : List ℕ) (held : Held) (x : Unit {0}) (wires : Wires) →
    ReadsRecord {R = Unit {0}} kinds LefDef text format (λ units told. Holds units held) (Ok x) →
    ((units : List (List Token)) → Holds units held → WiresKeep wires) → WiresKeep wires
wires_kept text held x wires h told = told h.2 h.4

pub wires_refused : (text : List ℕ) (held : Held) (error : ReadError Shown) (public : ReadError WiresKind) →
    ReadsRecord {R = Unit {0}} kinds LefDef text format (λ units told. Holds units held) (Err error) → public ≡ public_error error →
    ReadsWires text (Err public)
wires_refused text held error public h is = (error, h, is)

pub wires_wanted : (text : List ℕ) (error : ReadError Shown) (public : ReadError WiresKind) → error.kind ≡ Here Want → public ≡ public_error error →
    ReadsWires text (Err public)
wires_wanted text error public want is = (error, inl want, is)

-- ## one outcome

abbrev pub OneInside : Type 0
OneInside = (text : List ℕ) (a b : Result Wires (ReadError Shown)) → ReadsRecord kinds LefDef text format IsWires a →
    ReadsRecord kinds LefDef text format IsWires b → Agree (Here Want) a b

wants : (error : ReadError Shown) (public : ReadError WiresKind) → public ≡ public_error error → error.kind ≡ Here Want → public.kind ≡ Want
wants error public is want = ap (λ (z : ReadError WiresKind). z.kind) is ∙ ap public_kind want

pub one_outcome : OneInside → (text : List ℕ) (a b : Result Wires (ReadError WiresKind)) → ReadsWires text a → ReadsWires text b → Agree Want a b
one_outcome one text (Ok a) (Ok b) h k = one text (Ok a) (Ok b) h k
one_outcome one text (Ok a) (Err b) h (e, k, is) = wants e b is (one text (Ok a) (Err e) h k)
one_outcome one text (Err a) (Ok b) (e, h, is) k = wants e a is (one text (Err e) (Ok b) h k)
one_outcome one text (Err a) (Err b) (e, h, is) (f, k, also) = λ not_a not_b.
    is ∙ ap public_error (one text (Err e) (Err f) h k (λ want. not_a (wants e a is want)) (λ want. not_b (wants f b also want))) ∙ sym also
