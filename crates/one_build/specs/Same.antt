-- Two designs that are built of the same texts.
use Rattle.std.specs.Prelude.{◌≡◌}
use Rattle.macro_building.specs.Built.{BuiltDesign}
use Rattle.one_design.specs.Same.{AreSameButCertificates}

-- They have the same records, grid, network and limits, and write the same grid; tight certificates of one network may differ.
pub record AreBuiltAlike (one other : BuiltDesign) : Type 0 where
  pub design : AreSameButCertificates one.design other.design
  pub written : one.written ≡ other.written
