use Rattle.std.proofs.Common.{List, [], ◌∷◌, ◌++◌, get_or, ap, sym, ◌∙◌}
use Rattle.name_table.specs.declared.table.NumberedName.{NumberedName}
use Rattle.name_table.specs.declared.key.Key.{Key}
use Rattle.name_table.proofs.NumberedLemmas.{numbered_more}
use Rattle.name_table.proofs.table.sorted.Goals as goal

pub loop-number-preserved : goal.loop-number-preserved
loop-number-preserved c =
    let none : Key = record { name = record { ref_ptr = (0, 0); now = [] } } in
    let entry : NumberedName = record { name = get_or c.args.names.now c.loop-number.number none; number = c.loop-number.number } in
    c.in_ok-push.ensures.items ∙ ap (λ (l : List NumberedName). l ++ entry ∷ []) c.loop-number.invariant
    ∙ sym (numbered_more c.args.names.now c.loop-number.number none c.loop-number-test.true)
