use Rattle.std.proofs.Common.{ℕ, List, [], subst, sym, ap, ◌∙◌}
use Rattle.grid_taps.proofs.Tables.{HoldsNames, holds_none, holds_more, holds_all}
use Rattle.grid_taps.proofs.named.table_of.Goals as goal

pub loop-item-init : goal.loop-item-init
loop-item-init g c = subst (λ (table : List (List ℕ)). HoldsNames [] table) (sym c.in_ok-table.ensures) holds_none

pub loop-item-preserved : goal.loop-item-preserved
loop-item-preserved g c =
    holds_more g.T.Named.name_of c.args.items.now c.loop-item.item-index c.item-item.result c.loop-item.table c.add.new.table c.name.result.now c.loop-item-test.true
    (c.name.ensures ∙ ap g.T.Named.name_of c.item-item.is) c.in_ok-add.ensures c.loop-item.invariant

pub returns-clause-names : goal.returns-clause-names
returns-clause-names g c = (holds_all g.T.Named.name_of c.args.items.now c.loop-item.item-index c.loop-item.table c.loop-item-test.false c.loop-item.invariant).same

pub returns-clause-places : goal.returns-clause-places
returns-clause-places g c = (holds_all g.T.Named.name_of c.args.items.now c.loop-item.item-index c.loop-item.table c.loop-item-test.false c.loop-item.invariant).places
