use Rattle.std.proofs.Common.{◌≡◌, ◌↔◌, ◌∙◌, map, take, length, Contains, ap, subst, arith}
use Rattle.std.proofs.Math.Seq.{take-length}
use Rattle.lef_cells.specs.Laws.Joining.{one_more}
use Rattle.lef_cells.proofs.join.names_of.Goals as goal

pub loop-entry-preserved : goal.loop-entry-preserved
loop-entry-preserved g c = one_more g.T.HasName.name_of c.args.entries.now c.loop-entry.entry-index c.entry-item.result c.loop-entry.names c.number.new.self
    c.name.result.now c.loop-entry-test.true (c.name.ensures ∙ ap g.T.HasName.name_of c.entry-item.is) c.in-Ok.ensures.taken c.loop-entry.invariant

pub returns : goal.returns
returns g c =
    let entries = c.args.entries.now in
    let i = c.loop-entry.entry-index in
    let all : i ≡ length entries = omega (arith, c.loop-entry-test.false, c.loop-entry.auto.entry-index-end) in
    λ name. subst (λ z. Contains c.loop-entry.names name ↔ Contains (map g.T.HasName.name_of z) name) (ap (λ k. take k entries) all ∙ take-length entries)
    (c.loop-entry.invariant name)
