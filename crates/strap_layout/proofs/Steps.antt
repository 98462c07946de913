-- Centres of lines, as whole numbers of pitches from the first one.
use Rattle.std.proofs.Common.{◌≡◌, ℕ, ◌+◌, ◌*◌, ◌<◌, ◌≤◌, ◌^◌, ◌↔◌, ◌⊎◌, inl, inr, ℤ, pos, negsuc, ◌+ℤ◌, ◌-ℤ◌, ◌*ℤ◌, ◌<ℤ◌, ◌≤ℤ◌, length, SFits, w64, refl, sym, subst, arith}
use Rattle.std.specs.Int.{div_ceil}
use Rattle.std.specs.Int.RustNames.{unsigned_abs}
use Rattle.std.proofs.Math.Nat.{mul-le-mul_right, le-mul_of_pos_right}
use Rattle.std.proofs.lemmas.Bool.{cases_lt}
use Rattle.std.proofs.lemmas.Grind.{div_ceil_times}
use Rattle.std.proofs.lemmas.Int.{ints, by_lt_z, unsigned_abs-mul}
use Rattle.std.proofs.lemmas.Nat.{mul-le}
use Rattle.geom_rect.specs.Drawn.{half, IsWidth}
use Rattle.geom_rect.specs.declared.direction.Axis.{Axis}
use Rattle.geom_rect.specs.declared.direction.Axis.TheVariants.{X, Y}
use Rattle.geom_rect.specs.declared.rect.Rect.{Rect}
use Rattle.strap_layout.specs.declared.rule.StrapRule.{StrapRule}
use Rattle.strap_layout.specs.Lines.{across, line_at, IsBelowStated, IsDrawnLine}
use Rattle.strap_layout.specs.inside.Lines.{first_centre_of, IsNear}

above_zero : (z : ℤ) → pos 0 <ℤ z → z ≡ pos (unsigned_abs z)
above_zero (pos n) above = refl
above_zero (negsuc n) above = absurd (omega (arith, ints))

-- k steps of a pitch
steps_are : (k : ℕ) (pitch : ℤ) → pos 0 <ℤ pitch → pos k *ℤ pitch ≡ pos (k * unsigned_abs pitch)
steps_are k (pos p) above = refl
steps_are k (negsuc p) above = absurd (omega (arith, ints))

abs_above_zero : (z : ℤ) → pos 0 <ℤ z → 0 < unsigned_abs z
abs_above_zero z above = let is = above_zero z above in omega (arith, ints)

-- rounded up, the quotient is the least number of steps that reach
ceil_reaches : (gap p k n : ℕ) → 0 < p → n ≡ div_ceil gap p → (gap ≤ k * p) ↔ (n ≤ k)
ceil_reaches gap p k n some is = (there (cases_lt k n), back)
  where
    times : (gap ≤ n * p) × (n * p < gap + p)
    times = subst (λ (m : ℕ). (gap ≤ m * p) × (m * p < gap + p)) (sym is) (div_ceil_times gap p some)

    there : (k < n) ⊎ (n ≤ k) → gap ≤ k * p → n ≤ k
    there (inl more) reaches =
        let high = times.1 in
        let more_times : (k + 1) * p ≤ n * p = mul-le-mul_right p (omega arith) in
        absurd (omega arith)
    there (inr enough) reaches = enough

    back : n ≤ k → gap ≤ k * p
    back enough = let low = times.0 in let more_times : n * p ≤ k * p = mul-le-mul_right p enough in omega arith

pub least_steps_reach : (start pitch at : ℤ) (k n : ℕ) → pos 0 <ℤ pitch → start <ℤ at → n ≡ div_ceil (unsigned_abs (at -ℤ start)) (unsigned_abs pitch)
    → (at ≤ℤ (start +ℤ pos k *ℤ pitch)) ↔ (n ≤ k)
least_steps_reach start pitch at k n some before is =
    let gap = unsigned_abs (at -ℤ start) in
    let gap_is : (at -ℤ start) ≡ pos gap = above_zero (at -ℤ start) (omega (arith, ints)) in
    let steps : pos k *ℤ pitch ≡ pos (k * unsigned_abs pitch) = steps_are k pitch some in
    let reaches = ceil_reaches gap (unsigned_abs pitch) k n (abs_above_zero pitch some) is in (
      λ le. reaches.0 (omega (arith, ints)),
      λ enough. let le : gap ≤ k * unsigned_abs pitch = reaches.1 enough in omega (arith, ints),
    )

-- what lies at `at` or before is reached by no step
pub no_step_reaches : (start pitch at : ℤ) (k : ℕ) → pos 0 <ℤ pitch → at ≤ℤ start → (at ≤ℤ (start +ℤ pos k *ℤ pitch)) ↔ (0 ≤ k)
no_step_reaches start pitch at k some before =
    let steps : pos k *ℤ pitch ≡ pos (k * unsigned_abs pitch) = steps_are k pitch some in
    (λ le. omega arith, λ enough. omega (arith, ints))

abs_near : (z : ℤ) (n : ℕ) → unsigned_abs z ≤ n → IsNear n z
abs_near (pos m) n le = (omega (arith, ints), omega (arith, ints))
abs_near (negsuc m) n le = (omega (arith, ints), omega (arith, ints))

abs_fits : (z : ℤ) → SFits w64 z → unsigned_abs z ≤ 2 ^ 63
abs_fits (pos n) fits = omega (arith, ints)
abs_fits (negsuc n) fits = omega (arith, ints)

-- the nets before one take the first line not far
pub place_near : (place : ℕ) (apart : ℤ) → place < 2 ^ 60 → SFits w64 apart → IsNear (2 ^ 123) (pos place *ℤ apart)
place_near place apart few fits =
    let most : place * unsigned_abs apart ≤ 2 ^ 60 * 2 ^ 63 = mul-le place (unsigned_abs apart) (2 ^ 60) (2 ^ 63) (omega arith) (abs_fits apart fits) in
    abs_near (pos place *ℤ apart) (2 ^ 123) (subst (λ (n : ℕ). n ≤ 2 ^ 123) (sym (unsigned_abs-mul (pos place) apart)) most)

-- the numbers of a drawn line are those of the machine
pub record CentreFits (start way : ℤ) (count : ℕ) : Type 0 where
  pub few : count < 2 ^ 126
  pub far : IsNear (2 ^ 125) way
  pub centre : SFits w64 (start +ℤ way)

across_fits : (axis : Axis) (core : Rect) → SFits w64 core.x1 → SFits w64 core.y1 → SFits w64 core.x2 → SFits w64 core.y2
    → SFits w64 (across axis core).from × SFits w64 (across axis core).to
across_fits X core x1 y1 x2 y2 = (y1, y2)
across_fits Y core x1 y1 x2 y2 = (x1, x2)

pub centre_fits : (rule : StrapRule) (core : Rect) (place number : ℕ) → IsWidth rule.width → pos 0 <ℤ rule.pitch → IsDrawnLine rule core (line_at place number)
    → SFits w64 core.x1 → SFits w64 core.y1 → SFits w64 core.x2 → SFits w64 core.y2
    → IsNear (2 ^ 124) (first_centre_of rule core place) → CentreFits (first_centre_of rule core place) (pos number *ℤ rule.pitch) number
centre_fits rule core place number width some drawn x1 y1 x2 y2 near =
    let start = first_centre_of rule core place in
    let steps = pos number *ℤ rule.pitch in
    let fits = across_fits rule.axis core x1 y1 x2 y2 in
    let from_fits = fits.0 in
    let to_fits = fits.1 in
    let positive = width.0 in
    let even = width.1 in
    let low : (across rule.axis core).from ≤ℤ ((start +ℤ steps) -ℤ half rule.width) = drawn.low in
    let high : ((start +ℤ steps) +ℤ half rule.width) ≤ℤ (across rule.axis core).to = drawn.high in
    let start_low = near.0 in
    let start_high = near.1 in
    let are : steps ≡ pos (number * unsigned_abs rule.pitch) = steps_are number rule.pitch some in
    let most : number ≤ number * unsigned_abs rule.pitch = le-mul_of_pos_right number (abs_above_zero rule.pitch some) in
    record {
      few = omega (arith, ints);
      far = (omega (arith, ints), omega (arith, ints));
      centre = omega (arith, ints);
    }

-- the lines of a net that are drawn are those from the first that reaches the core up to the first that passes it
pub drawn_between : (rule : StrapRule) (core : Rect) (place : ℕ) (start : ℤ) (first past end : ℕ) → place < length rule.nets
    → start ≡ first_centre_of rule core place
    → ((k : ℕ) → (((across rule.axis core).from +ℤ half rule.width) ≤ℤ (start +ℤ pos k *ℤ rule.pitch)) ↔ (first ≤ k))
    → ((k : ℕ) → ((((across rule.axis core).to -ℤ half rule.width) +ℤ pos 1) ≤ℤ (start +ℤ pos k *ℤ rule.pitch)) ↔ (past ≤ k))
    → ((k : ℕ) → (IsBelowStated rule.number k × (k < past)) ↔ (k < end))
    → (number : ℕ) → IsDrawnLine rule core (line_at place number) ↔ ((first ≤ number) × (number < end))
drawn_between rule core place start first past end net is from_first to_past to_end number = (there, back)
  where
    there : IsDrawnLine rule core (line_at place number) → (first ≤ number) × (number < end)
    there drawn =
        let low = drawn.low in
        let high = drawn.high in
        ((from_first number).0 (omega (arith, ints)), (to_end number).0 (drawn.stated, before (cases_lt number past)))
      where
        before : (number < past) ⊎ (past ≤ number) → number < past
        before (inl so) = so
        before (inr passed) =
            let high = drawn.high in
            let beyond = (to_past number).1 passed in absurd (omega (arith, ints))

    back : (first ≤ number) × (number < end) → IsDrawnLine rule core (line_at place number)
    back (reached, below) =
        let both = (to_end number).1 below in
        let low = (from_first number).1 reached in
        record {
          net = net;
          stated = both.0;
          low = omega (arith, ints);
          high = not_passed both.1 (λ beyond. (to_past number).0 beyond);
        }
      where
        not_passed : number < past → ((((across rule.axis core).to -ℤ half rule.width) +ℤ pos 1) ≤ℤ (start +ℤ pos number *ℤ rule.pitch) → past ≤ number)
            → ((first_centre_of rule core place +ℤ pos number *ℤ rule.pitch) +ℤ half rule.width) ≤ℤ (across rule.axis core).to
        not_passed so beyond =
            by_lt_z (across rule.axis core).to ((first_centre_of rule core place +ℤ pos number *ℤ rule.pitch) +ℤ half rule.width)
            (λ passed. let reached = beyond (omega (arith, ints)) in absurd (omega arith)) (λ within. within)
