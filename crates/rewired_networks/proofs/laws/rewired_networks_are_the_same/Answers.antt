use Rattle.alike_grids.specs.Alike.{without_regions}
use Rattle.rewired_networks.proofs.Again.{AreTold, are_alike}
use Rattle.rewired_networks.proofs.laws.rewired_networks_are_the_same.Goals as goal

pub returns : goal.returns
returns c = record {
  grids = are_alike told;
  networks = λ tech cells design script text bias grid again wires one other read reads keeps drawn over reads_wires is is_one is_other.
      c.one_network.ensures again tech cells design bias one other read.cells_keep keeps
      (c.alike_grids_have_one_network.ensures (without_regions grid) again tech cells design bias one
      (are_alike told tech cells design script text grid again wires read reads drawn over reads_wires is)
      (c.one_region_changes_no_network.ensures grid tech cells design bias one over is_one))
      is_other;
}
  where
    told : AreTold
    told = record {
      routing = c.read_techs_have_their_own_names.ensures.routing;
      cuts = c.read_techs_have_their_own_names.ensures.cuts;
      rules = c.read_techs_have_their_own_names.ensures.rules;
      fits = c.drawn_grids_read_back.ensures.fits;
      only = c.written_grids_have_wires.ensures.only;
      nets = c.drawn_grids_are_rewirable.ensures.nets;
      again = c.drawn_grids_are_rewirable.ensures.again;
      alike = c.rewired_grids_are_alike.ensures;
    }
