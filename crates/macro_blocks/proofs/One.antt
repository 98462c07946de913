-- The units of a text say one record.
use Rattle.std.proofs.Common.{◌≡◌, ℕ, ℤ, List, [], ◌∷◌, Result, Ok, Err, sym, ◌∙◌, ap}
use Rattle.std.specs.Int.{int_min, int_max}
use Rattle.entry_list.specs.Laws.{in-turn-one}
use Rattle.macro_blocks.specs.declared.error.BlocksKind.{BlocksKind}
use Rattle.macro_blocks.specs.declared.error.BlocksKind.TheVariants as kind
use Rattle.macro_blocks.specs.declared.error.Shown.{Shown}
use Rattle.macro_blocks.specs.declared.error.Shown.TheVariants as shown
use Rattle.macro_blocks.specs.declared.held.Held.{Held}
use Rattle.macro_blocks.specs.declared.record.BlockMacro.{BlockMacro}
use Rattle.macro_blocks.specs.declared.record.BlockPin.{BlockPin}
use Rattle.macro_blocks.specs.declared.record.BlockRect.{BlockRect}
use Rattle.macro_blocks.specs.declared.record.Blocks.{Blocks}
use Rattle.macro_blocks.specs.Format.{format, kinds, public_kind, public_error, ReadsBlocks}
use Rattle.macro_blocks.specs.inside.Held.{Holds}
use Rattle.macro_blocks.specs.Limits.{BlocksKeep}
use Rattle.macro_blocks.specs.Record.{Shape, SaidPin, SaidMacro, SaysCorners, SaysRect, SaysPin, SaysMacro, IsBlocks}
use Rattle.macro_blocks.proofs.Numbers.{HasOne, one_value}
use Rattle.reading.specs.declared.error.ReadError.{ReadError}
use Rattle.reading.specs.Error.{ReadsRecord, Agree}
use Rattle.reading.specs.Word.{Token}
use Rattle.text_lex.specs.declared.word.Mode.TheVariants.{LefDef}

-- ## rectangles, pins, macros

abbrev the_rect : BlockRect → BlockRect
the_rect a = a

same_rect : (a b : BlockRect) → a.layer ≡ b.layer → a.x1 ≡ b.x1 → a.y1 ≡ b.y1 → a.x2 ≡ b.x2 → a.y2 ≡ b.y2 → a ≡ b
same_rect a b e p q r s =
    ap (λ z. the_rect (record { layer = z; x1 = a.x1; y1 = a.y1; x2 = a.x2; y2 = a.y2 })) e
    ∙ ap (λ z. the_rect (record { layer = b.layer; x1 = z; y1 = a.y1; x2 = a.x2; y2 = a.y2 })) p
    ∙ ap (λ z. the_rect (record { layer = b.layer; x1 = b.x1; y1 = z; x2 = a.x2; y2 = a.y2 })) q
    ∙ ap (λ z. the_rect (record { layer = b.layer; x1 = b.x1; y1 = b.y1; x2 = z; y2 = a.y2 })) r
    ∙ ap (λ z. the_rect (record { layer = b.layer; x1 = b.x1; y1 = b.y1; x2 = b.x2; y2 = z })) s

least : (x z v w m n : ℤ) → m ≡ int_min x z → n ≡ int_min v w → x ≡ v → z ≡ w → m ≡ n
least x z v w m n e f p q = e ∙ ap (λ t. int_min t z) p ∙ ap (λ t. int_min v t) q ∙ sym f

most : (x z v w m n : ℤ) → m ≡ int_max x z → n ≡ int_max v w → x ≡ v → z ≡ w → m ≡ n
most x z v w m n e f p q = e ∙ ap (λ t. int_max t z) p ∙ ap (λ t. int_max v t) q ∙ sym f

one_corners : HasOne → (words : List Token) (a b : BlockRect) → a.layer ≡ b.layer → SaysCorners words a → SaysCorners words b → a ≡ b
one_corners one (first ∷ i ∷ j ∷ k ∷ l ∷ stop ∷ []) a b layer (x, y, z, w, p, q, r, s, x1, y1, x2, y2) (x', y', z', w', p', q', r', s', x1', y1', x2', y2') =
    let ex = one_value one i x x' p p' in
    let ey = one_value one j y y' q q' in
    let ez = one_value one k z z' r r' in
    let ew = one_value one l w w' s s' in
    same_rect a b layer (least x z x' z' a.x1 b.x1 x1 x1' ex ez) (least y w y' w' a.y1 b.y1 y1 y1' ey ew)
    (most x z x' z' a.x2 b.x2 x2 x2' ex ez) (most y w y' w' a.y2 b.y2 y2 y2' ey ew)
one_corners one words a b layer h k = absurd h

one_rect : HasOne → (shape : Shape) (a b : BlockRect) → SaysRect shape a → SaysRect shape b → a ≡ b
one_rect one shape a b h k = one_corners one shape.words a b (h.layer ∙ sym k.layer) h.corners k.corners

abbrev the_pin : BlockPin → BlockPin
the_pin a = a

one_pin : HasOne → (said : SaidPin) (a b : BlockPin) → SaysPin said a → SaysPin said b → a ≡ b
one_pin one said a b h k =
    ap (λ z. the_pin (record { name = z; power = a.power; rects = a.rects })) (h.name ∙ sym k.name)
    ∙ ap (λ z. the_pin (record { name = b.name; power = z; rects = a.rects })) (h.power ∙ sym k.power)
    ∙ ap (λ z. the_pin (record { name = b.name; power = b.power; rects = z }))
    (in-turn-one SaysRect (one_rect one) said.shapes a.rects b.rects h.rects k.rects)

abbrev the_macro : BlockMacro → BlockMacro
the_macro a = a

one_macro : HasOne → (said : SaidMacro) (a b : BlockMacro) → SaysMacro said a → SaysMacro said b → a ≡ b
one_macro one said a b h k =
    ap (λ z. the_macro (record { name = z; pins = a.pins; obstructions = a.obstructions })) (h.name ∙ sym k.name)
    ∙ ap (λ z. the_macro (record { name = b.name; pins = z; obstructions = a.obstructions }))
    (in-turn-one SaysPin (one_pin one) said.pins a.pins b.pins h.pins k.pins)
    ∙ ap (λ z. the_macro (record { name = b.name; pins = b.pins; obstructions = z }))
    (in-turn-one SaysRect (one_rect one) said.obstructions a.obstructions b.obstructions h.obstructions k.obstructions)

abbrev the_blocks : Blocks → Blocks
the_blocks a = a

pub one_blocks : HasOne → (units : List (List Token)) (a b : Blocks) → IsBlocks units a → IsBlocks units b → a ≡ b
one_blocks one units a b h k =
    ap (λ z. the_blocks (record { macros = z })) (in-turn-one SaysMacro (one_macro one) _ a.macros b.macros h k)

-- ## the outcome

-- What the units that were held say is the text's record.
pub blocks_read : (text : List ℕ) (held : Held) (x : Unit {0}) (blocks : Blocks) →
    ReadsRecord {R = Unit {0}} kinds LefDef text format (λ units told. Holds units held) (Ok x) →
    ((units : List (List Token)) → Holds units held → IsBlocks units blocks) → ReadsBlocks text (Ok blocks)
blocks_read text held x blocks h told = (h.0, h.1, h.2, h.3, told h.2 h.4)

pub blocks_keep : (text : List ℕ) (held : Held) (x : Unit {0}) (blocks : Blocks) →
    ReadsRecord {R = Unit {0}} kinds LefDef text format (λ units told. Holds units held) (Ok x) →
    ((units : List (List Token)) → Holds units held → BlocksKeep blocks) → BlocksKeep blocks
blocks_keep text held x blocks h told = told h.2 h.4

pub blocks_refused : (text : List ℕ) (held : Held) (error : ReadError Shown) (public : ReadError BlocksKind) →
    ReadsRecord {R = Unit {0}} kinds LefDef text format (λ units told. Holds units held) (Err error) → public ≡ public_error error →
    ReadsBlocks text (Err public)
blocks_refused text held error public h is = (error, h, is)

-- ## one outcome

abbrev pub OneInside : Type 0
OneInside = (text : List ℕ) (a b : Result Blocks (ReadError Shown)) → ReadsRecord kinds LefDef text format IsBlocks a →
    ReadsRecord kinds LefDef text format IsBlocks b → Agree shown.Want a b

wants : (error : ReadError Shown) (public : ReadError BlocksKind) → public ≡ public_error error → error.kind ≡ shown.Want → public.kind ≡ kind.Want
wants error public is want = ap (λ (z : ReadError BlocksKind). z.kind) is ∙ ap public_kind want

pub one_outcome : OneInside → (text : List ℕ) (a b : Result Blocks (ReadError BlocksKind)) → ReadsBlocks text a → ReadsBlocks text b → Agree kind.Want a b
one_outcome one text (Ok a) (Ok b) h k = one text (Ok a) (Ok b) h k
one_outcome one text (Ok a) (Err b) h (e, k, is) = wants e b is (one text (Ok a) (Err e) h k)
one_outcome one text (Err a) (Ok b) (e, h, is) k = wants e a is (one text (Err e) (Ok b) h k)
one_outcome one text (Err a) (Err b) (e, h, is) (f, k, also) = λ not_a not_b.
    is ∙ ap public_error (one text (Err e) (Err f) h k (λ want. not_a (wants e a is want)) (λ want. not_b (wants f b also want))) ∙ sym also
