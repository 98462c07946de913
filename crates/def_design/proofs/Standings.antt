-- Where one more unit leads.
use Rattle.std.proofs.Common.{◌≡◌, List, [], ◌∷◌, ◌++◌, map, slice_get, Option, Some, None, refl, sym, ◌∙◌, ap}
use Rattle.def_design.specs.declared.value.Value.{Value}
use Rattle.def_statements.specs.declared.section.Section.{Section}
use Rattle.def_statements.specs.declared.standing.Standing.{Standing}
use Rattle.def_statements.specs.Standing.{standing_of, standing_from, standing_after, standing_with, section_by, passing_by}
use Rattle.def_statements.specs.Sort.{sort_of}
use Rattle.def_statements.specs.Unit.{sort_or}
use Rattle.lef_statements.specs.declared.passing.Passing.{Passing}
use Rattle.reading.specs.declared.word.Heard.{Heard}
use Rattle.reading.specs.Word.{Token, heard_token, last_of}

abbrev the_standing : Standing → Standing
the_standing standing = standing

more_from : (standing : Standing) (units : List (List Token)) (unit : List Token) →
    standing_from standing (units ++ unit ∷ []) ≡ standing_after (standing_from standing units) unit
more_from standing [] unit = refl
more_from standing (u ∷ units) unit = more_from (standing_after standing u) units unit

pub standing_more : (units : List (List Token)) (unit : List Token) → standing_of (units ++ unit ∷ []) ≡ standing_after (standing_of units) unit
standing_more units unit = more_from _ units unit

-- ## the words that tell where a unit leads

ends_with : (section : Section) (passing : Option Passing) (first last : Token) (words : List Token) → last_of (first ∷ words) ≡ Some last →
    standing_with section passing (first ∷ last ∷ []) ≡ standing_with section passing (first ∷ words)
ends_with section None first last words e =
    ap (λ z. the_standing (record { section = section_by section (sort_of first); passing = passing_by section (sort_of first) (sort_or z) first.text })) (sym e)
ends_with section (Some passing) first last words e = refl

-- The first word and the last tell where a unit leads.
pub ends_lead : (standing : Standing) (unit : List (Heard Value)) (first last : Heard Value) → slice_get unit 0 ≡ Some first → last_of (map heard_token unit) ≡ Some (heard_token last) →
    standing_after standing (heard_token first ∷ heard_token last ∷ []) ≡ standing_after standing (map heard_token unit)
ends_lead standing [] first last h e = absurd (let t : None ≡ Some first = h in cc)
ends_lead standing (heard ∷ unit) first last h e =
    let same : first ≡ heard = (let t : Some heard ≡ Some first = h in cc) in
    ap (λ z. standing_after standing (heard_token z ∷ heard_token last ∷ [])) same
    ∙ ends_with standing.section standing.passing (heard_token heard) (heard_token last) (map heard_token unit) e

pub no_first : (unit : List (Heard Value)) → slice_get unit 0 ≡ None → unit ≡ []
no_first [] h = refl
no_first (heard ∷ unit) h = absurd (let t : Some heard ≡ None = h in cc)
