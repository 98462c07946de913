use Rattle.std.proofs.Common.{◌≡◌, ℕ, ◌∙◌, ap, ◌++◌, ◌∷◌, [], length, sym, append_assoc, decimal, take, subst}
use Rattle.std.specs.Prelude.{OnErr}
use Rattle.fixed_decimal.proofs.Printing.{still_there_in}
use Rattle.fixed_decimal.proofs.printer.append.Goals as goal
use Rattle.fixed_decimal.proofs.printer.append.Goals.{then-value-lt0+in_ok-push, else-value-lt0}

pub returns-clause-err : goal.returns-clause-err
returns-clause-err c =
    let new = c.append_places.new.out.items in
    let number = c.append_number.new.out in
    let P : ℕ → Type 0 = λ n. OnErr c.append_places.result (take n new ≡ number.items) in
    let whole : OnErr c.append_places.result (take (length number.items) new ≡ number.items) = subst P number.ok.0 c.append_places.ensures.err in
    let digits = decimal c.whole_of.result in
    let there = c.in_ok-append_number.ensures.ok in
    let old = c.args.out.now in
    let Q : ℕ → Type 0 = λ n. OnErr c.append_places.result (take n new ≡ old.items) in
    elim c.if-value-lt0.branch [
      | then-value-lt0+in_ok-push w ↦
          let grown = there ∙ (ap (λ v. v.items ++ digits) w.out-is ∙ (ap (λ x. x ++ digits) w.in_ok-push.ensures.items ∙ append_assoc old.items (45 ∷ []) digits)) in
          subst Q (sym old.ok.0) (still_there_in old.items ((45 ∷ []) ++ digits) new number.items c.append_places.result grown whole)
      | else-value-lt0 w ↦
          let grown = there ∙ ap (λ v. v.items ++ digits) w.out-is in
          subst Q (sym old.ok.0) (still_there_in old.items digits new number.items c.append_places.result grown whole)
    ]
