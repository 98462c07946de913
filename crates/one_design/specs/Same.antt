-- Two designs of the same texts.
use Rattle.std.specs.Prelude.{◌≡◌}
use Rattle.building.specs.Building.{Design}
use Rattle.signing_off.specs.Signing.{WiredDesign}

-- They have the same records, grid, network and limits; tight certificates of one network may differ.
pub record AreSameButCertificates (one other : Design) : Type 0 where
  pub records : one.records ≡ other.records
  pub grid : one.grid ≡ other.grid
  pub network : one.extracted ≡ other.extracted
  pub limits : one.limits ≡ other.limits

-- Two wired designs have the same records, grid, network and limits; tight certificates of one network may differ.
pub record AreWiredAlike (one other : WiredDesign) : Type 0 where
  pub records : one.records ≡ other.records
  pub grid : one.grid ≡ other.grid
  pub network : one.signing.extracted ≡ other.signing.extracted
  pub limits : one.signing.limits ≡ other.signing.limits
