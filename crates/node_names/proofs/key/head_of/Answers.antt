use Rattle.std.proofs.Common.{◌≡◌, ℕ, suc, ◌+◌, ◌-◌, ◌*◌, List, drop, sym, ap, ◌∙◌, arith}
use Rattle.node_names.specs.Folding.{folded}
use Rattle.node_names.specs.inside.Head.{head_from}
use Rattle.node_names.proofs.HeadLemmas.{head_more, fits_more}
use Rattle.node_names.proofs.key.head_of.Goals as goal

pub loop-i-preserved : goal.loop-i-preserved
loop-i-preserved c =
    let i : ℕ = c.loop-i.i in
    let head : ℕ = c.loop-i.head in
    let name : List ℕ = folded c.args.name.now in
    let more : 16 - i ≡ suc (16 - (i + 1)) = omega (arith, c.loop-i-test.true) in (
      ap (λ b. head_from (head * 256 + b) (16 - (i + 1)) (drop (i + 1) name)) c.byte_at.ensures ∙ sym (head_more head (16 - (i + 1)) name i)
          ∙ ap (λ n. head_from head n (drop i name)) (sym more) ∙ c.loop-i.invariant.0,
      (fits_more head c.byte_at.result i c.loop-i.invariant.1 c.byte_at.type_inv c.loop-i-test.true).0,
    )

pub overflow_mul-head : goal.overflow_mul-head
overflow_mul-head c = omega (arith, (fits_more c.loop-i.head 0 c.loop-i.i c.loop-i.invariant.1 (omega arith) c.loop-i-test.true).1)

pub overflow_add-head : goal.overflow_add-head
overflow_add-head c = omega (arith, (fits_more c.loop-i.head c.byte_at.result c.loop-i.i c.loop-i.invariant.1 c.byte_at.type_inv c.loop-i-test.true).1)

pub returns : goal.returns
unfolding head_from
returns c =
    let i : ℕ = c.loop-i.i in
    let none : 16 - i ≡ 0 = omega (arith, c.loop-i-test.false) in
    ap (λ n. head_from c.loop-i.head n (drop i (folded c.args.name.now))) (sym none) ∙ c.loop-i.invariant.0
