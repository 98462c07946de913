use Rattle.std.proofs.Common.{ℕ, ◌<◌, Fits, w8, sym, subst, arith}
use Rattle.node_names.specs.Folding.{folded}
use Rattle.node_names.specs.inside.Head.{head_from}
use Rattle.node_names.proofs.HeadLemmas.{lower_first, turned, folded_bytes}
use Rattle.node_names.proofs.key.order_of.Goals as goal

bytes_of : {n : ℕ} → Fits w8 n → n < 256
bytes_of h = omega (arith, h)

pub returns-then-first_head-second_head : goal.returns-then-first_head-second_head
returns-then-first_head-second_head c =
    sym (lower_first 16 0 (folded c.args.first.now) (folded c.args.second.now) (folded_bytes c.args.first.now (λ i. bytes_of (c.type_inv.first i))) (folded_bytes c.args.second.now (λ i. bytes_of (c.type_inv.second i)))
    (subst (λ n. n < head_from 0 16 (folded c.args.second.now)) c.requires.first (subst (λ n. c.args.first_head < n) c.requires.second c.if-first_head-second_head.true)))

pub returns-then-second_head-first_head : goal.returns-then-second_head-first_head
returns-then-second_head-first_head c =
    sym (turned (folded c.args.second.now) (folded c.args.first.now)
    (lower_first 16 0 (folded c.args.second.now) (folded c.args.first.now) (folded_bytes c.args.second.now (λ i. bytes_of (c.type_inv.second i))) (folded_bytes c.args.first.now (λ i. bytes_of (c.type_inv.first i)))
    (subst (λ n. n < head_from 0 16 (folded c.args.first.now)) c.requires.second (subst (λ n. c.args.second_head < n) c.requires.first c.if-second_head-first_head.true))))
