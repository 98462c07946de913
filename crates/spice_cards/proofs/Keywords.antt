-- Words that are no keywords.
use Rattle.std.proofs.Common.{◌≡◌, ℕ, ◌==◌, ◌&&◌, ◌||◌, Bool, true, false, if◌then◌else◌, List, [], ◌∷◌, codes, refl, sym, ◌∙◌, ap}
use Rattle.std.specs.Str.{bytes_eq}
use Rattle.reading.specs.Keyword.{keyword_or}
use Rattle.spice_cards.specs.declared.sort.Sort.{Sort}
use Rattle.spice_cards.specs.Sort.{keywords}
use Rattle.spice_cards.specs.inside.Keyword.{begins_keyword}

either : (a b : Bool) → (a || b) ≡ false → (a ≡ false) × (b ≡ false)
either false b h = (refl, h)
either true b h = absurd (let t : true ≡ false = h in cc)

-- The text is none of the keywords that begin with this byte.
abbrev Misses : List (List ℕ × Sort) → ℕ → Type 0
Misses [] byte = Unit {0}
Misses ((([]), sort) ∷ more) byte = ⊥
Misses (((first ∷ word), sort) ∷ more) byte = ((byte == first) ≡ false) × Misses more byte

missed : (list : List (List ℕ × Sort)) (rest : Sort) (byte : ℕ) (bytes : List ℕ) → Misses list byte → keyword_or list rest (byte ∷ bytes) ≡ rest
missed [] rest byte bytes h = refl
missed (([], sort) ∷ more) rest byte bytes h = absurd h
missed ((first ∷ word, sort) ∷ more) rest byte bytes h =
    ap (λ z. if (z && bytes_eq bytes word) then sort else keyword_or more rest (byte ∷ bytes)) h.0 ∙ missed more rest byte bytes h.1

pub no_keyword : (text : List ℕ) (rest : Sort) → begins_keyword text ≡ false → keyword_or keywords rest text ≡ rest
no_keyword [] rest h = refl
no_keyword (byte ∷ bytes) rest h =
    let d = either (((byte == 68 || byte == 46) || byte == 59) || byte == 40) (byte == 41) h in
    let c = either ((byte == 68 || byte == 46) || byte == 59) (byte == 40) d.0 in
    let b = either (byte == 68 || byte == 46) (byte == 59) c.0 in
    let a = either (byte == 68) (byte == 46) b.0 in
    missed keywords rest byte bytes (a.0, (b.1, (c.1, (d.1, (a.1, (a.1, (a.1, (a.1, (a.1, (a.1, (a.1, (a.1, tt))))))))))))
