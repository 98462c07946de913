use Rattle.std.proofs.Common.{ℕ, ◌<◌, Fits, w8, sym, ◌∙◌, arith}
use Rattle.std.specs.Char.{to_ascii_lowercase}
use Rattle.std.proofs.lemmas.List.{length-map}
use Rattle.std.proofs.lemmas.Slice.Eq.{bytes_eq-Decides}
use Rattle.node_names.specs.Folding.{folded}
use Rattle.node_names.specs.inside.Head.{head_from}
use Rattle.node_names.proofs.HeadLemmas.{other_names, head_is_all, folded_bytes}
use Rattle.node_names.proofs.key.is_one.Goals as goal

bytes_of : {n : ℕ} → Fits w8 n → n < 256
bytes_of h = omega (arith, h)

pub returns-then-first_head-second_head : goal.returns-then-first_head-second_head
returns-then-first_head-second_head c =
    sym (other_names (head_from 0 16) (folded c.args.first.now) (folded c.args.second.now) (λ e. c.if-first_head-second_head.true (c.requires.first ∙ e ∙ sym c.requires.second)))

pub returns-then-first-le-HEAD : goal.returns-then-first-le-HEAD
returns-then-first-le-HEAD c =
    let a = folded c.args.first.now in
    let b = folded c.args.second.now in
    sym ((bytes_eq-Decides a b).1 (head_is_all 16 0 a b (folded_bytes c.args.first.now (λ i. bytes_of (c.type_inv.first i))) (folded_bytes c.args.second.now (λ i. bytes_of (c.type_inv.second i)))
    (omega (arith, length-map c.args.first.now to_ascii_lowercase, length-map c.args.second.now to_ascii_lowercase, c.if-first-second.false))
    (omega (arith, length-map c.args.first.now to_ascii_lowercase, c.if-first-le-HEAD.true))
    (sym c.requires.first ∙ c.if-first_head-second_head.false ∙ c.requires.second)))
