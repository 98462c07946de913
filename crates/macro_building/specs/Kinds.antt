-- The kinds of the refusals of the text of blocks as those of the answers. Want of memory is no kind of a text.
use Rattle.std.specs.Prelude.{Option, Some, None}
use Rattle.answers.specs.declared.kind.TextKind.{TextKind}
use Rattle.answers.specs.declared.kind.TextKind.TheVariants as text
use Rattle.macro_blocks.specs.declared.error.BlocksKind.{BlocksKind}
use Rattle.macro_blocks.specs.declared.error.BlocksKind.TheVariants as blocks

abbrev pub blocks_kind : BlocksKind → Option TextKind
blocks_kind blocks.Syntax = Some text.Syntax
blocks_kind blocks.BadString = Some text.BadString
blocks_kind (blocks.Number error) = Some (text.Number error)
blocks_kind blocks.Origin = Some text.Origin
blocks_kind blocks.Want = None
