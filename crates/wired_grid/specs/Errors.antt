-- What the refusals of names, of limits and of stacks are called here.
use Rattle.wire_limits.specs.declared.error.LimitError.{LimitError}
use Rattle.wire_limits.specs.declared.error.LimitError.TheVariants as limits
use Rattle.wire_names.specs.declared.error.NameError.{NameError}
use Rattle.wire_names.specs.declared.error.NameError.TheVariants as names
use Rattle.wire_stacks.specs.declared.error.OffError.{OffError}
use Rattle.wire_stacks.specs.declared.error.OffError.TheVariants as ends
use Rattle.wired_grid.specs.declared.error.WiredError.{WiredError}
use Rattle.wired_grid.specs.declared.error.WiredError.TheVariants.{UnknownName, NetCount, ViaLayers, ViaSize, OddWidth, NoSheet, NoResistance, TooMany, ViaOff, Want}

abbrev pub of_name : NameError → WiredError
of_name (names.UnknownName name) = UnknownName name
of_name (names.NetCount powers grounds) = NetCount powers grounds
of_name names.Want = Want

abbrev pub of_limit : LimitError → WiredError
of_limit (limits.ViaLayers via) = ViaLayers via
of_limit (limits.ViaSize via) = ViaSize via
of_limit (limits.OddWidth net width) = OddWidth net width
of_limit (limits.NoSheet layer) = NoSheet layer
of_limit (limits.NoResistance layer) = NoResistance layer
of_limit (limits.TooMany what) = TooMany what
of_limit limits.Want = Want

abbrev pub of_end : OffError → WiredError
of_end (ends.ViaOff via x y) = ViaOff via x y
of_end ends.Want = Want
