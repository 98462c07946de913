use Rattle.std.proofs.Common.{List, sym, subst}
use Rattle.entry_list.specs.InTurn.{InTurn}
use Rattle.macro_blocks.specs.declared.record.BlockMacro.{BlockMacro}
use Rattle.macro_blocks.specs.declared.record.Blocks.{Blocks}
use Rattle.macro_blocks.specs.Record.{SaysMacro, heard_of}
use Rattle.macro_blocks.proofs.Limits.{blocks_kept}
use Rattle.macro_blocks.proofs.read.blocks_of.Goals as goal

pub returns-clause-is : goal.returns-clause-is
returns-clause-is c = λ units h.
    subst (λ (z : List BlockMacro). InTurn SaysMacro (heard_of units).said.macros z) (sym c.new.ensures) h.said.macros

pub returns-clause-keeps : goal.returns-clause-keeps
returns-clause-keeps c = λ units h.
    let blocks : Blocks = record { macros = c.new.result } in
    blocks_kept c.values_fit_their_places.ensures.limit units blocks
    (subst (λ (z : List BlockMacro). InTurn SaysMacro (heard_of units).said.macros z) (sym c.new.ensures) h.said.macros)
