-- Where a text that is read has ended no section is open.
use Rattle.std.proofs.Common.{◌≡◌, ◌<◌, false, List, [], ◌∷◌, ◌++◌, length, Option, Some, None, inl, inr, refl, sym, ◌∙◌, ap, subst, arith}
use Rattle.std.proofs.lemmas.List.{append-nil, append_assoc}
use Rattle.lef_cells.specs.declared.section.Standing.{Standing}
use Rattle.lef_cells.specs.Format.{format}
use Rattle.lef_cells.specs.Section.{standing_of}
use Rattle.lef_cells.specs.Sort.{sort_with}
use Rattle.lef_cells.specs.inside.Held.{is_open}
use Rattle.lef_cells.proofs.Shape.{shut}
use Rattle.lef_cells.proofs.Taking.{standing_more}
use Rattle.outside.specs.declared.place.Place.{Place}
use Rattle.reading.specs.declared.refusal.Cause.TheVariants.{Lex}
use Rattle.reading.specs.declared.word.Form.TheVariants.{End}
use Rattle.reading.specs.Outcome.{IsReadAs}
use Rattle.reading.specs.Pattern.{joined}
use Rattle.reading.specs.Reading.{Text, Follows, IsRead}
use Rattle.reading.specs.Word.{Token, last_of, end_at, end_after, seen_text, text_with}
use Rattle.text_lex.specs.declared.word.LexKind.{LexKind}
use Rattle.text_lex.specs.Split.{Split}

-- ## the last word of a text

-- The last of the words is the end of the text.
abbrev Ends : List Token → Type 0
Ends words = (end : Token) × (last_of words ≡ Some end) × (end.form ≡ End)

last_more : (words : List Token) (w : Token) → last_of (words ++ w ∷ []) ≡ Some w
last_more [] w = refl
last_more (a ∷ []) w = refl
last_more (a ∷ b ∷ words) w = last_more (b ∷ words) w

last_both : (a b : List Token) → 0 < length b → last_of (a ++ b) ≡ last_of b
last_both [] b h = refl
last_both (x ∷ []) [] h = absurd (omega arith)
last_both (x ∷ []) (w ∷ b) h = refl
last_both (x ∷ y ∷ a) b h = last_both (y ∷ a) b h

end_after_is : (words : List Token) → (end_after words).form ≡ End
end_after_is [] = refl
end_after_is (w ∷ []) = refl
end_after_is (v ∷ w ∷ words) = end_after_is (w ∷ words)

whole_ends : (words : List Token) (last : Place) (refusal : Option LexKind) (units : List (List Token)) →
    IsRead format (text_with words last refusal) units → Ends (text_with words last refusal).words
whole_ends words last None units read = (end_at last, last_more words (end_at last), refl)
whole_ends words last (Some kind) units read =
    absurd (read.clean (length words) (Lex kind) (refl, record { place = last; kind = kind }, refl, refl))

ends : (split : Split) (units : List (List Token)) → IsReadAs format (seen_text split) units → Ends (joined units)
ends split units (heard, inl all, read) =
    subst Ends (ap (λ (z : Text Token). z.words) (sym all.1) ∙ read.is)
    (whole_ends _ split.last split.refusal units (subst (λ z. IsRead format z units) all.1 read))
ends split units (heard, inr first, read) =
    let words = joined first.0 in
    subst Ends (ap (λ (z : Text Token). z.words) (sym first.4) ∙ read.is)
    (end_after words, last_more words (end_after words), end_after_is words)

-- ## the last unit

some_words : (a b : List Token) → 0 < length a → 0 < length (a ++ b)
some_words [] b h = absurd (omega arith)
some_words (x ∷ a) b h = omega arith

shut_after : (before units : List (List Token)) → Follows format before units → Ends (joined units) → is_open (standing_of (before ++ units)).section ≡ false
shut_after before [] follows end = absurd (let t : None ≡ Some end.0 = end.1 in cc)
shut_after before (u ∷ []) follows end =
    let there = standing_of before in
    let last : last_of u ≡ Some end.0 = subst (λ z. last_of z ≡ Some end.0) (append-nil u) end.1 in
    subst (λ (z : Standing). is_open z.section ≡ false) (sym (standing_more before u))
    (shut there.section there.passing u end.0 follows.1 last (ap (λ z. sort_with z end.0.text) end.2))
shut_after before (u ∷ v ∷ units) follows end =
    subst (λ z. is_open (standing_of z).section ≡ false) (append_assoc before (u ∷ []) (v ∷ units))
    (shut_after (before ++ u ∷ []) (v ∷ units) follows.2
    (end.0, sym (last_both u (joined (v ∷ units)) (some_words v (joined units) follows.2.0)) ∙ end.1, end.2))

pub ended : (split : Split) (units : List (List Token)) → IsReadAs format (seen_text split) units → is_open (standing_of units).section ≡ false
ended split units read = shut_after [] units read.2.whole (ends split units read)
