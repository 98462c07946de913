-- The names of layers, rules and vias.
use Rattle.std.proofs.Common.{◌≡◌, ℕ, ◌+◌, ◌^◌, ◌<◌, ◌≤◌, ◌==◌, ◌&&◌, ◌||◌, not, Bool, true, false, List, [], ◌∷◌, ◌++◌, length, map, codes, refl, sym, ◌∙◌, ap, arith}
use Rattle.std.specs.Prelude.{All, decimal, slice_index, slice_index_or}
use Rattle.std.specs.List.{list_all}
use Rattle.std.specs.Str.Parse.{AllDigits}
use Rattle.std.proofs.lemmas.Fmt.{decimal_is_IsNumeral_wide}
use Rattle.std.proofs.lemmas.Str.Parse.{digit_from_value}
use Rattle.std.proofs.lemmas.List.{length-map}
use Rattle.std.proofs.lemmas.List.Elements.{All-map}
use Rattle.std.proofs.lemmas.List.Folds.{list_all-append}
use Rattle.text_lex.specs.declared.word.Mode.TheVariants.{LefDef}
use Rattle.text_lex.specs.Bytes.{is_plain}
use Rattle.text_lex.specs.Name.{IsName}
use Rattle.lef_tech.specs.declared.layer.RoutingLayer.{RoutingLayer}
use Rattle.lef_tech.specs.declared.layer.CutLayer.{CutLayer}
use Rattle.lef_tech.specs.declared.rule.ViaRule.{ViaRule}
use Rattle.lef_tech.specs.declared.tech.Tech.{Tech}
use Rattle.lef_tech.specs.Limits.{RuleKeeps}
use Rattle.def_writer.specs.declared.via.Via.{Via}
use Rattle.def_writer.specs.Via.{via_name, layer_name, rule_name, lower_name, cut_name, upper_name}

-- ## names of the technology

name_at : {X : Type 0} (f : X → List ℕ) (xs : List X) (i : ℕ) → All (λ x. IsName (f x)) xs → i < length xs → IsName (slice_index_or (map f xs) i [])
name_at f xs i h within = All-map IsName f xs h i [] (omega (arith, length-map xs f))

-- The names of a technology are names of DEF.
pub record TechNames (tech : Tech) : Type 0 where
  pub routing : All (λ (l : RoutingLayer). IsName l.name) tech.routing
  pub cuts : All (λ (l : CutLayer). IsName l.name) tech.cuts
  pub rules : All (λ (r : ViaRule). IsName r.name) tech.rules

pub layer_is : (tech : Tech) → TechNames tech → (layer : ℕ) → layer < length tech.routing → IsName (layer_name tech layer)
layer_is tech names layer within = name_at (λ (l : RoutingLayer). l.name) tech.routing layer names.routing within

pub rule_is : (tech : Tech) → TechNames tech → (rule : ℕ) → rule < length tech.rules → IsName (rule_name tech rule)
rule_is tech names rule within = name_at (λ (r : ViaRule). r.name) tech.rules rule names.rules within

pub lower_is : (tech : Tech) → TechNames tech → All (RuleKeeps tech) tech.rules → (rule : ℕ) → rule < length tech.rules → IsName (lower_name tech rule)
lower_is tech names keeps rule within =
    name_at (λ (r : ViaRule). layer_name tech r.lower) tech.rules rule (λ k d lt. layer_is tech names (slice_index_or tech.rules k d).lower (keeps k d lt).lower) within

pub upper_is : (tech : Tech) → TechNames tech → All (RuleKeeps tech) tech.rules → (rule : ℕ) → rule < length tech.rules → IsName (upper_name tech rule)
upper_is tech names keeps rule within =
    name_at (λ (r : ViaRule). layer_name tech r.upper) tech.rules rule (λ k d lt. layer_is tech names (slice_index_or tech.rules k d).upper (keeps k d lt).upper) within

pub cut_is : (tech : Tech) → TechNames tech → All (RuleKeeps tech) tech.rules → (rule : ℕ) → rule < length tech.rules → IsName (cut_name tech rule)
cut_is tech names keeps rule within =
    name_at (λ (r : ViaRule). slice_index_or (map (λ (l : CutLayer). l.name) tech.cuts) r.cut []) tech.rules rule
    (λ k d lt. name_at (λ (l : CutLayer). l.name) tech.cuts (slice_index_or tech.rules k d).cut names.cuts (keeps k d lt).cut) within

-- ## names of vias

and_true : (a b : Bool) → a ≡ true → b ≡ true → (a && b) ≡ true
and_true true b h k = k
and_true false b h k = absurd (let t : false ≡ true = h in cc)

differs_by : (c n : ℕ) (b : Bool) → (c == n) ≡ b → (c ≡ n → ⊥) → (c == n) ≡ false
differs_by c n true e h = absurd (h (grind (arith, e)))
differs_by c n false e h = e

differs : (c n : ℕ) → (c ≡ n → ⊥) → (c == n) ≡ false
differs c n h = differs_by c n (c == n) refl h

no_true : true ≡ false → ⊥
no_true h = cc

plain_by : (a b c d : Bool) → a ≡ false → b ≡ false → c ≡ false → d ≡ false → (not (a || b || c || (d && true)) && not d && true) ≡ true
plain_by false false false false e f g h = refl
plain_by true b c d e f g h = absurd (no_true e)
plain_by false true c d e f g h = absurd (no_true f)
plain_by false false true d e f g h = absurd (no_true g)
plain_by false false false true e f g h = absurd (no_true h)

plain_byte : (c : ℕ) → 48 ≤ c → is_plain LefDef c ≡ true
plain_byte c low =
    plain_by (c == 32) (c == 9) (c == 13) (c == 10)
    (differs c 32 (λ e. omega arith)) (differs c 9 (λ e. omega arith)) (differs c 13 (λ e. omega arith)) (differs c 10 (λ e. omega arith))

abbrev is_all_plain : List ℕ → Type 0
is_all_plain text = list_all (is_plain LefDef) text ≡ true

digits_plain : (digits : List ℕ) → AllDigits 10 digits → is_all_plain digits
digits_plain [] h = refl
digits_plain (c ∷ cs) h =
    let range = digit_from_value c h.0 in
    let low : 48 ≤ c = range.0 in
    and_true (is_plain LefDef c) (list_all (is_plain LefDef) cs) (plain_byte c low) (digits_plain cs h.1)

decimal_plain : (n : ℕ) → n < 10 ^ 64 → is_all_plain (decimal n)
decimal_plain n few = digits_plain (decimal n) (decimal_is_IsNumeral_wide n few).0.1

plain-append : (xs ys : List ℕ) → is_all_plain xs → is_all_plain ys → is_all_plain (xs ++ ys)
plain-append xs ys h k = list_all-append (is_plain LefDef) xs ys ∙ and_true (list_all (is_plain LefDef) xs) (list_all (is_plain LefDef) ys) h k

-- The numbers of a via have few digits.
pub record IsFew (via : Via) : Type 0 where
  pub rule : via.rule + 1 < 10 ^ 64
  pub columns : via.columns < 10 ^ 64
  pub rows : via.rows < 10 ^ 64

via_plain : (via : Via) → IsFew via → is_all_plain (via_name via)
via_plain via few =
    let a : List ℕ = codes "pdn_" in
    let b : List ℕ = decimal (via.rule + 1) in
    let c : List ℕ = codes "_" in
    let d : List ℕ = decimal via.columns in
    let e : List ℕ = decimal via.rows in
    plain-append ((((a ++ b) ++ c) ++ d) ++ c) e
    (plain-append (((a ++ b) ++ c) ++ d) c (plain-append ((a ++ b) ++ c) d (plain-append (a ++ b) c (plain-append a b refl (decimal_plain (via.rule + 1) few.rule)) refl)
    (decimal_plain via.columns few.columns)) refl) (decimal_plain via.rows few.rows)

begins_p : (via : Via) → slice_index (via_name via) 0 ≡ 112
begins_p via = refl

pub via_is : (via : Via) → IsFew via → IsName (via_name via)
via_is via few = (
  record { some = omega arith; begins = refl; plain = via_plain via few; ends = refl },
  λ e. let f : ◌≡◌ {A = ℕ} 112 59 = sym (begins_p via) ∙ ap (λ z. slice_index z 0) e in omega arith,
)

pub via_not_open : (via : Via) → via_name via ≡ codes "(" → ⊥
via_not_open via e = let f : ◌≡◌ {A = ℕ} 112 40 = sym (begins_p via) ∙ ap (λ z. slice_index z 0) e in omega arith
