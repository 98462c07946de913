use Rattle.std.proofs.Common.{◌≡◌, List, [], ◌∷◌, map, refl, sym, ap, subst}
use Rattle.lef_tech.specs.declared.tech.Tech.{Tech}
use Rattle.grid_pieces.specs.declared.grid.DomainAt.{DomainAt}
use Rattle.grid_pieces.specs.declared.grid.Grid.{Grid}
use Rattle.grid_extract.specs.Extraction.{IsExtracted}
use Rattle.alike_grids.proofs.Networks.{with, network_in}
use Rattle.alike_grids.proofs.Regions.{one_in, all_over, stand_wide}
use Rattle.alike_grids.proofs.laws.one_region_changes_no_network.Goals as goal

pub returns : goal.returns
returns s grid tech cells design bias extracted one is =
    let (d, only) = one_in grid.domains one in
    let near : IsExtracted (with grid (d ∷ []) grid.stacks) tech cells design bias extracted =
    subst (λ (ds : List DomainAt). IsExtracted (with grid ds grid.stacks) tech cells design bias extracted) only is in
    let wide : IsExtracted (with grid (all_over d ∷ []) grid.stacks) tech cells design bias extracted = record {
      pads = near.pads;
      taps = near.taps;
      stand = stand_wide grid tech cells bias d design near.pads near.taps near.stand;
      network = network_in grid near.pads near.taps (d ∷ []) (all_over d ∷ []) grid.stacks grid.stacks refl tech extracted near.network;
    } in
    subst (λ (ds : List DomainAt). IsExtracted (with grid (map all_over ds) grid.stacks) tech cells design bias extracted) (sym only) wide
