-- The error of a refusal, and that a text has one.
use Rattle.std.proofs.Common.{◌≡◌, ◌⊎◌, ℕ, List, inl, inr, refl, sym, ◌∙◌, ap, subst}
use Rattle.netlist_words.specs.Text.{netlist_text}
use Rattle.outside.specs.declared.place.Place.{Place}
use Rattle.reading.specs.declared.error.ReadError.{ReadError}
use Rattle.reading.specs.declared.refusal.Refusal.{Refusal}
use Rattle.reading.specs.declared.refusal.Refusal.TheVariants.{Want, At}
use Rattle.reading.specs.Outcome.{Refuses}
use Rattle.reading.specs.Reading.{Text}
use Rattle.reading.specs.Word.{Token}
use Rattle.spice_cards.specs.declared.error.CardsKind.{CardsKind}
use Rattle.spice_cards.specs.declared.error.CardsKind.TheVariants as errors
use Rattle.spice_cards.specs.Format.{format, IsRefusedNetlist}
use Rattle.spice_cards.specs.inside.Told.{told_error}

abbrev pub Tells : List ℕ → ReadError CardsKind → Type 0
Tells bytes error = (error.kind ≡ errors.Want) ⊎ IsRefusedNetlist bytes error

refusal_told : (bytes : List ℕ) (refusal : Refusal CardsKind) → Refuses format (netlist_text bytes) refusal → Tells bytes (told_error refusal)
refusal_told bytes Want h = inl refl
refusal_told bytes (At place cause) h = inr (place, cause, h, refl, refl)

pub error_told : (bytes : List ℕ) (text : Text Token) (refusal : Refusal CardsKind) (error : ReadError CardsKind) → text ≡ netlist_text bytes →
    Refuses format text refusal → error ≡ told_error refusal → Tells bytes error
error_told bytes text refusal error same h e =
    subst (λ z. Tells bytes z) (sym e) (refusal_told bytes refusal (subst (λ z. Refuses format z refusal) same h))

pub same_error : (a b : ReadError CardsKind) → a.place ≡ b.place → a.kind ≡ b.kind → a ≡ b
same_error a b e f =
    let make : Place → CardsKind → ReadError CardsKind = λ p k. record { place = p; kind = k } in
    ap (λ z. make z a.kind) e ∙ ap (λ z. make b.place z) f
