use Rattle.std.proofs.Common.{◌≡◌, ℕ, ◌+◌, ◌*◌, ◌^◌, ◌<◌, suc, get_or, sym, subst, ap, ◌∙◌, arith}
use Rattle.grid_network.specs.inside.Steps.{front_of}
use Rattle.grid_network.proofs.Fronts.{front_none, front_more, front_fits}
use Rattle.grid_network.proofs.named.front_of.Goals as goal

pub loop-place-init : goal.loop-place-init
loop-place-init c = (sym (front_none c.args.name.now), omega arith)

pub overflow_mul-front : goal.overflow_mul-front
overflow_mul-front c =
    let fits = front_fits c.loop-place.place c.loop-place.front 0 c.loop-place-test.true c.loop-place.invariant.1 (omega arith) in
    let low = fits.1 in
    omega (arith, low)

pub overflow_add-front : goal.overflow_add-front
overflow_add-front c =
    let byte : c.from.result < 256 = omega (arith, c.from.ensures, c.byte_at.type_inv) in
    let fits = front_fits c.loop-place.place c.loop-place.front c.from.result c.loop-place-test.true c.loop-place.invariant.1 byte in
    let low = fits.1 in
    omega (arith, low)

pub loop-place-preserved : goal.loop-place-preserved
loop-place-preserved c =
    let name = c.args.name.now in
    let i = c.loop-place.place in
    let byte : c.from.result < 256 = omega (arith, c.from.ensures, c.byte_at.type_inv) in
    let is : c.from.result ≡ get_or name i 0 = c.from.ensures ∙ c.byte_at.ensures in
    let one : suc i ≡ i + 1 = omega arith in
    let more : front_of name (i + 1) ≡ front_of name i * 256 + get_or name i 0 = subst (λ (n : ℕ). front_of name n ≡ front_of name i * 256 + get_or name i 0) one (front_more name i) in
    let before : c.loop-place.front ≡ front_of name i = c.loop-place.invariant.0 in
    (ap (λ f. f * 256 + c.from.result) before ∙ ap (λ b. front_of name i * 256 + b) is ∙ sym more, (front_fits i c.loop-place.front c.from.result c.loop-place-test.true c.loop-place.invariant.1 byte).0)
