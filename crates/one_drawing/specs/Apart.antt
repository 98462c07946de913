-- Commands that stand at different places of a text.
use Rattle.std.specs.Prelude.{◌≢◌, AllPairs, Contains}
use Rattle.pdn_script.specs.declared.record.Connect.{Connect}
use Rattle.pdn_script.specs.declared.record.Ring.{Ring}
use Rattle.pdn_script.specs.declared.record.Script.{Script}

-- No two connects of a script, no two of its rings, and no connect and ring stand at one place.
pub record StandApart (script : Script) : Type 0 where
  pub connects : AllPairs (λ (a b : Connect). a.place ≢ b.place) script.connects
  pub rings : AllPairs (λ (a b : Ring). a.place ≢ b.place) script.rings
  pub across : (connect : Connect) (ring : Ring) → Contains script.connects connect → Contains script.rings ring
      → connect.place ≢ ring.place
