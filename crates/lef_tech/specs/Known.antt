-- The layers of a text, by name.
use Rattle.std.specs.Prelude.{ℕ, List, [], ◌∷◌, Option, None, if◌then◌else◌}
use Rattle.std.specs.Str.{bytes_eq}
use Rattle.lef_tech.specs.declared.known.Known.{Known}
use Rattle.lef_tech.specs.declared.layer.LayerRef.{LayerRef}

-- The name of a layer.
abbrev pub name_of : Known → List ℕ
name_of known = known.name

-- Which routing or cut layer has the name, if one does.
abbrev pub reference_in : List Known → List ℕ → Option LayerRef
reference_in [] name = None
reference_in (known ∷ layers) name = if bytes_eq known.name name then known.reference else reference_in layers name
