-- The bytes of a name.
use Rattle.std.specs.Prelude.{ℕ, List, take}
use Rattle.outside.specs.declared.name.KeptName.{KeptName}
use Rattle.outside.specs.declared.name.KeptName.TheVariants.{Short, Long}

abbrev pub bytes_of : KeptName → List ℕ
bytes_of (Short name) = take name.count name.bytes
bytes_of (Long bytes) = bytes.items
