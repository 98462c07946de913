-- Units say one technology.
use Rattle.std.proofs.Common.{◌≡◌, ℕ, ℤ, pos, List, [], ◌∷◌, Option, Some, Result, Ok, refl, sym, ◌∙◌, ap}
use Rattle.std.specs.Prelude.{◌-ℤ◌, unsigned_abs}
use Rattle.lef_tech.specs.declared.number.Quantity.{Quantity}
use Rattle.lef_tech.specs.declared.number.Quantity.TheVariants as quantities
use Rattle.lef_tech.specs.declared.state.State.{State}
use Rattle.lef_tech.specs.declared.statement.Statement.{Statement}
use Rattle.lef_tech.specs.declared.statement.Statement.TheVariants.{Extent}
use Rattle.lef_tech.specs.declared.tech.Tech.{Tech}
use Rattle.lef_tech.specs.Number.{place_of}
use Rattle.lef_tech.specs.Record.{Told, stated, tech_of, IsTech}
use Rattle.lef_tech.specs.Shape.{shape_in, text_at}
use Rattle.lef_tech.specs.State.{first_state}
use Rattle.lef_tech.specs.Statement.{Saying, Plain, Named, Of, Alone, OfTwo, OfCorners, IsNatural, IsCorner, ApartBy, saying, Says}
use Rattle.lef_tech.specs.Turn.{named, state_after}
use Rattle.lef_tech.proofs.Numbers.{HasOne}
use Rattle.number_place.specs.declared.place.Refused.{Refused}
use Rattle.reading.specs.Word.{Token}

natural_is : (v w : ℕ) → ◌≡◌ {A = Result ℤ Refused} (Ok (pos v)) (Ok (pos w)) → v ≡ w
natural_is v w h = cc

corner_is : (v w : ℤ) → ◌≡◌ {A = Result ℤ Refused} (Ok v) (Ok w) → v ≡ w
corner_is v w h = cc

one_natural : HasOne → (quantity : Quantity) (text : List ℕ) (v w : ℕ) → IsNatural quantity text v → IsNatural quantity text w → v ≡ w
one_natural one quantity text v w h k = natural_is v w (one (place_of quantity) text (Ok (pos v)) (Ok (pos w)) h k)

one_corner : HasOne → (text : List ℕ) (v w : ℤ) → IsCorner text v → IsCorner text w → v ≡ w
one_corner one text v w h k = corner_is v w (one (place_of quantities.Corner) text (Ok v) (Ok w) h k)

one_extent : HasOne → (a b : List ℕ) (x y : ℕ) → ApartBy a b x → ApartBy a b y → x ≡ y
one_extent one a b x y h k =
    h.4 ∙ ap (λ z. unsigned_abs (z -ℤ h.0)) (one_corner one b h.1 k.1 h.3 k.3)
    ∙ ap (λ z. unsigned_abs (k.1 -ℤ z)) (one_corner one a h.0 k.0 h.2 k.2) ∙ sym k.4

one_says : HasOne → (unit : List Token) (says : Saying) (a b : Option Statement) → Says unit says a → Says unit says b → a ≡ b
one_says one unit (Plain statement) a b h k = h ∙ sym k
one_says one unit (Named make) a b h k = h ∙ sym k
one_says one unit (Of quantity at make) a b h k =
    h.2 ∙ ap (λ z. Some (make z)) (one_natural one quantity (text_at unit at) h.0 k.0 h.1 k.1) ∙ sym k.2
one_says one unit (Alone quantity at make) a b h k =
    h.2 ∙ ap (λ z. Some (make z)) (one_natural one quantity (text_at unit at) h.0 k.0 h.1 k.1) ∙ sym k.2
one_says one unit (OfTwo quantity x y make) a b h k =
    h.4 ∙ ap (λ z. Some (make z h.1)) (one_natural one quantity (text_at unit x) h.0 k.0 h.2 k.2)
    ∙ ap (λ z. Some (make k.0 z)) (one_natural one quantity (text_at unit y) h.1 k.1 h.3 k.3) ∙ sym k.4
one_says one unit OfCorners a b h k =
    h.4 ∙ ap (λ z. Some (Extent z h.1)) (one_extent one (text_at unit 1) (text_at unit 3) h.0 k.0 h.2 k.2)
    ∙ ap (λ z. Some (Extent k.0 z)) (one_extent one (text_at unit 2) (text_at unit 4) h.1 k.1 h.3 k.3) ∙ sym k.4

one_told : HasOne → (state : State) (units : List (List Token)) (a b : List (Option Statement)) → Told state units a → Told state units b → a ≡ b
one_told one state [] [] [] h k = refl
one_told one state (u ∷ units) (x ∷ a) (y ∷ b) h k =
    ap (λ z. z ∷ a) (one_says one u (saying state.place.section (named state u) (shape_in u)) x y h.0 k.0)
    ∙ ap (λ z. y ∷ z) (one_told one (state_after state u) units a b h.1 k.1)
one_told one state [] (x ∷ a) b h k = absurd h
one_told one state [] [] (y ∷ b) h k = absurd k
one_told one state (u ∷ units) [] b h k = absurd h
one_told one state (u ∷ units) (x ∷ a) [] h k = absurd k

pub one_tech : HasOne → (units : List (List Token)) (a b : Tech) → IsTech units a → IsTech units b → a ≡ b
one_tech one units a b h k = h.2 ∙ ap (λ z. tech_of (stated z)) (one_told one first_state units h.0 k.0 h.1 k.1) ∙ sym k.2
