-- The answers of the program: the exit status and the line of each.
use Rattle.std.specs.Prelude.{ℕ, List, ◌==◌, ◌&&◌, ◌++◌, codes, decimal, if◌then◌else◌}
use Rattle.std.specs.Fmt.{signed_decimal}
use Rattle.bound_check.specs.declared.fails.Side.{Side}
use Rattle.bound_check.specs.declared.fails.Side.TheVariants.{HighValue, LowValue, HighFlow, LowFlow, High, Low}
use Rattle.fixed_decimal.specs.declared.error.DecimalError.TheVariants as number
use Rattle.fixed_decimal.specs.Printed.{printed}
use Rattle.grid_net.specs.declared.error.Quantity.{Quantity}
use Rattle.grid_net.specs.declared.error.Quantity.TheVariants.{Nodes, Resistors, Resistance, Voltage, Loads}
use Rattle.answers.specs.declared.built.Built.{Built as Numbers}
use Rattle.answers.specs.declared.kind.TextKind.{TextKind}
use Rattle.answers.specs.declared.kind.TextKind.TheVariants.{Syntax, OutOfProfileCard, FloatingSource, Number, OutOfRange, WrongNode, BadString, Substitution, Twice, UnknownLayer, BadTable, Polygon, RowForm, AlreadyRouted, MissingDesign, MissingUnits, MissingDieArea, AfterPdngen, UnknownCommand, OutOfProfile, UnknownOption, UnknownGrid, UnknownDomain, MissingOption, NetUse, Falling, UnknownNode, UnknownVia, WireForm, ViaForm, Origin}
use Rattle.answers.specs.declared.answer.Answer.{Answer}
use Rattle.answers.specs.declared.answer.Answer.TheVariants.{Usage, Want, ReadFault, WriteFault, TooLong, Refused, NoGrid, Range, TooManySteps, PadConflict, FloatingCapacitor, Unsupplied, Built, SignedOff, Generated, Solved, Stepped, Certified, NotCertified}

-- The word for the test of a certificate that fails.
abbrev pub side_word : Side → List ℕ
side_word HighValue = codes "HighValue"
side_word LowValue = codes "LowValue"
side_word HighFlow = codes "HighFlow"
side_word LowFlow = codes "LowFlow"
side_word High = codes "High"
side_word Low = codes "Low"

-- The word for a quantity of a network.
abbrev pub quantity_word : Quantity → List ℕ
quantity_word Nodes = codes "Nodes"
quantity_word Resistors = codes "Resistors"
quantity_word Resistance = codes "Resistance"
quantity_word Voltage = codes "Voltage"
quantity_word Loads = codes "Loads"

-- The words for what is wrong with a word of a text.
abbrev pub kind_words : TextKind → List ℕ
kind_words Syntax = codes "Syntax"
kind_words OutOfProfileCard = codes "OutOfProfileCard"
kind_words FloatingSource = codes "FloatingSource"
kind_words (Number number.NotNumber) = codes "Number NotNumber"
kind_words (Number number.Vanishes) = codes "Number Vanishes"
kind_words (Number number.Range) = codes "Number Range"
kind_words OutOfRange = codes "OutOfRange"
kind_words WrongNode = codes "WrongNode"
kind_words BadString = codes "BadString"
kind_words Substitution = codes "Substitution"
kind_words Twice = codes "Twice"
kind_words UnknownLayer = codes "UnknownLayer"
kind_words BadTable = codes "BadTable"
kind_words Polygon = codes "Polygon"
kind_words RowForm = codes "RowForm"
kind_words AlreadyRouted = codes "AlreadyRouted"
kind_words MissingDesign = codes "Missing Design"
kind_words MissingUnits = codes "Missing Units"
kind_words MissingDieArea = codes "Missing DieArea"
kind_words AfterPdngen = codes "AfterPdngen"
kind_words UnknownCommand = codes "UnknownCommand"
kind_words OutOfProfile = codes "OutOfProfile"
kind_words UnknownOption = codes "UnknownOption"
kind_words UnknownGrid = codes "UnknownGrid"
kind_words UnknownDomain = codes "UnknownDomain"
kind_words MissingOption = codes "MissingOption"
kind_words NetUse = codes "NetUse"
kind_words Falling = codes "Falling"
kind_words UnknownNode = codes "UnknownNode"
kind_words UnknownVia = codes "UnknownVia"
kind_words WireForm = codes "WireForm"
kind_words ViaForm = codes "ViaForm"
kind_words Origin = codes "Origin"

-- A count and the words after it.
abbrev pub counted : ℕ → List ℕ → List ℕ
counted count words = decimal count ++ words

-- The pieces and stacks of a grid, and the network extracted from it.
abbrev pub grid_words : Numbers → List ℕ
grid_words built =
    counted built.pieces (codes " pieces ") ++ counted built.stacks (codes " stacks ") ++ counted built.nodes (codes " nodes ")
    ++ counted built.resistors (codes " resistors ") ++ counted built.pads (codes " pads ")

-- The verdicts, and the sweeps of certification.
abbrev pub verdict_words : Numbers → List ℕ
verdict_words built =
    counted built.safe (codes " safe ") ++ counted built.unsafe_ (codes " unsafe ") ++ counted built.open (codes " open ")
    ++ counted built.unlimited (codes " unlimited ") ++ counted built.sweeps (codes " sweeps")

-- The exit status of a grid that is built or signed off: 1 where some verdict is UNSAFE or OPEN.
abbrev pub built_status : Numbers → ℕ
built_status built = if (built.unsafe_ == 0) && (built.open == 0) then 0 else 1

-- The exit status.
abbrev pub status_of : Answer → ℕ
status_of Usage = 2
status_of Want = 10
status_of (ReadFault file) = 3
status_of (WriteFault file) = 3
status_of (TooLong file) = 4
status_of (Refused file place kind) = 4
status_of (NoGrid words) = 5
status_of (Range quantity at number) = 6
status_of (TooManySteps number) = 6
status_of (PadConflict node first second) = 6
status_of (FloatingCapacitor node) = 6
status_of (Unsupplied node) = 7
status_of (Built built) = built_status built
status_of (SignedOff numbers) = built_status numbers
status_of Generated = 0
status_of (Solved nodes resistors sweeps) = 0
status_of (Stepped nodes steps) = 0
status_of (Certified nodes) = 0
status_of (NotCertified node side found) = 9

-- The line on standard output, without its line feed. The voltages of pads are volts with 24 places.
abbrev pub words_of : Answer → List ℕ
words_of Usage = codes "pdn: Usage"
words_of Want = codes "pdn: Want"
words_of (ReadFault file) = codes "pdn: ReadFault " ++ file
words_of (WriteFault file) = codes "pdn: WriteFault " ++ file
words_of (TooLong file) = codes "pdn: TooLong " ++ file
words_of (Refused file place kind) =
    codes "pdn: " ++ file ++ codes ":" ++ decimal place.line ++ codes ":" ++ decimal place.word ++ codes ": "
    ++ kind_words kind
words_of (NoGrid words) = codes "pdn: " ++ words
words_of (Range quantity at number) =
    codes "pdn: Range " ++ quantity_word quantity ++ codes " " ++ decimal at ++ codes " " ++ signed_decimal number
words_of (TooManySteps number) = codes "pdn: Range Steps 0 " ++ decimal number
words_of (PadConflict node first second) =
    codes "pdn: PadConflict " ++ node ++ codes " " ++ printed first 24 ++ codes " " ++ printed second 24
words_of (FloatingCapacitor node) = codes "pdn: FloatingCapacitor " ++ node
words_of (Unsupplied node) = codes "pdn: Unsupplied " ++ node
words_of (Built built) = codes "built " ++ grid_words built ++ verdict_words built
words_of (SignedOff numbers) = codes "signed " ++ grid_words numbers ++ verdict_words numbers
words_of Generated = codes "generated"
words_of (Solved nodes resistors sweeps) =
    codes "solved " ++ decimal nodes ++ codes " nodes " ++ decimal resistors ++ codes " resistors " ++ decimal sweeps
    ++ codes " sweeps"
words_of (Stepped nodes steps) = codes "stepped " ++ decimal nodes ++ codes " nodes " ++ decimal steps ++ codes " steps"
words_of (Certified nodes) = codes "certified " ++ decimal nodes ++ codes " nodes"
words_of (NotCertified node side found) =
    codes "pdn: NotCertified " ++ node ++ codes " " ++ side_word side ++ codes " " ++ signed_decimal found

-- The line with its line feed.
abbrev pub line_of : Answer → List ℕ
line_of answer = words_of answer ++ codes "\n"
