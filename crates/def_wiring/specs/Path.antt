-- A path of wiring, in words of the text (LEF/DEF 5.8 Language Reference, SPECIALNETS).
use Rattle.std.specs.Prelude.{ℕ, Bool, true, false, List, [], ◌∷◌, Option, Some, None}
use Rattle.def_wiring.specs.declared.act.Act.{Act}
use Rattle.def_wiring.specs.declared.act.Act.TheVariants as acts
use Rattle.def_wiring.specs.declared.path.Path.{Path}
use Rattle.def_wiring.specs.declared.path.Point.{Point}
use Rattle.def_wiring.specs.declared.sort.Sort.{Sort}
use Rattle.def_wiring.specs.declared.sort.Sort.TheVariants as sorts

abbrev pub no_path : Path
no_path = record { layer = []; width = []; shape = sorts.Other; last = None; x = []; y = []; reach = None }

-- The coordinates of the last point.
abbrev pub last_x : Option Point → List ℕ
last_x None = []
last_x (Some point) = point.x

abbrev pub last_y : Option Point → List ℕ
last_y None = []
last_y (Some point) = point.y

-- A coordinate, where `*` repeats the one of the path's last point.
abbrev pub coordinate : Sort → List ℕ → List ℕ → List ℕ
coordinate sorts.Star last text = last
coordinate _ last text = text

-- The point that is open.
abbrev pub point_of : Path → Point
point_of path = record { x = path.x; y = path.y; reach = path.reach }

-- The path after a word of this sort and with this text that does this.
abbrev pub path_by : Act → Sort → List ℕ → Path → Path
path_by acts.Layer sort text path =
    record path { layer = text; width = []; shape = sorts.Other; last = None }
path_by acts.Width sort text path = record path { width = text }
path_by acts.Shape sort text path = record path { shape = sort }
path_by acts.X sort text path = record path { x = coordinate sort (last_x path.last) text; reach = None }
path_by acts.Y sort text path = record path { y = coordinate sort (last_y path.last) text }
path_by acts.Reach sort text path = record path { reach = Some text }
path_by acts.Point sort text path = record path { last = Some (point_of path) }
path_by _ sort text path = path
