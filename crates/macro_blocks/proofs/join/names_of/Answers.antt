use Rattle.std.proofs.Common.{◌≡◌, ◌↔◌, ◌∙◌, map, take, length, Contains, ap, subst, arith}
use Rattle.std.proofs.Math.Seq.{take-length}
use Rattle.macro_blocks.specs.Record.{name_of}
use Rattle.lef_cells.specs.Laws.Joining.{one_more}
use Rattle.macro_blocks.proofs.join.names_of.Goals as goal

pub loop-cell-preserved : goal.loop-cell-preserved
loop-cell-preserved c = one_more name_of c.args.macros.now c.loop-cell.cell-index c.cell-item.result c.loop-cell.names c.number.new.self
    c.bytes.result.now c.loop-cell-test.true (c.bytes.ensures ∙ ap name_of c.cell-item.is) c.in-Ok.ensures.taken c.loop-cell.invariant

pub returns : goal.returns
returns c =
    let macros = c.args.macros.now in
    let i = c.loop-cell.cell-index in
    let all : i ≡ length macros = omega (arith, c.loop-cell-test.false, c.loop-cell.auto.cell-index-end) in
    λ name. subst (λ z. Contains c.loop-cell.names name ↔ Contains (map name_of z) name) (ap (λ k. take k macros) all ∙ take-length macros)
    (c.loop-cell.invariant name)
