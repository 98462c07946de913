-- The kinds of the refusals of wiring as those of the answers. Want of memory is no kind of a text.
use Rattle.std.specs.Prelude.{Option, Some, None}
use Rattle.answers.specs.declared.kind.TextKind.{TextKind}
use Rattle.answers.specs.declared.kind.TextKind.TheVariants as text
use Rattle.def_wiring.specs.declared.error.WiresKind.{WiresKind}
use Rattle.def_wiring.specs.declared.error.WiresKind.TheVariants as wires

abbrev pub wires_kind : WiresKind → Option TextKind
wires_kind wires.Syntax = Some text.Syntax
wires_kind wires.BadString = Some text.BadString
wires_kind (wires.Number error) = Some (text.Number error)
wires_kind wires.Twice = Some text.Twice
wires_kind wires.UnknownVia = Some text.UnknownVia
wires_kind wires.WireForm = Some text.WireForm
wires_kind wires.ViaForm = Some text.ViaForm
wires_kind wires.Want = None
