use Rattle.std.proofs.Common.{◌≡◌, List, sym, ap, subst}
use Rattle.lef_tech.specs.declared.tech.Tech.{Tech}
use Rattle.grid_pieces.specs.declared.grid.Grid.{Grid}
use Rattle.grid_extract.specs.Extraction.{IsExtracted}
use Rattle.alike_grids.proofs.Networks.{with, network_in}
use Rattle.alike_grids.proofs.Tapped.{stand_in}
use Rattle.alike_grids.proofs.laws.alike_grids_have_one_network.Goals as goal

pub returns : goal.returns
returns s one other tech cells design bias extracted alike is =
    subst (λ (g : Grid). IsExtracted g tech cells design bias extracted) whole there
  where
    whole : with one one.domains other.stacks ≡ other
    whole i = record {
      units = alike.units i;
      nets = alike.nets i;
      power = alike.power i;
      domains = alike.domains i;
      pieces = alike.pieces i;
      stacks = other.stacks;
    }

    there : IsExtracted (with one one.domains other.stacks) tech cells design bias extracted
    there = record {
      pads = is.pads;
      taps = is.taps;
      stand = stand_in one tech cells bias design one.stacks other.stacks is.pads is.taps is.stand;
      network = network_in one is.pads is.taps one.domains one.domains one.stacks other.stacks alike.stacks tech extracted is.network;
    }
