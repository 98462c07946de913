-- How a line of wiring begins.
use Rattle.std.proofs.Common.{◌≡◌, ℕ, Bool, true, false, List, ◌∷◌, ◌++◌, refl}
use Rattle.def_writer.specs.Line.{line_of}
use Rattle.def_writer.specs.Wiring.{wiring_line}
use Rattle.def_writer.specs.inside.Wiring.{start_of}

pub started : (first : Bool) (w : List ℕ) (ws : List (List ℕ)) → start_of first ++ line_of (w ∷ ws) ≡ line_of (wiring_line first (w ∷ ws))
started true w ws = refl
started false w ws = refl
