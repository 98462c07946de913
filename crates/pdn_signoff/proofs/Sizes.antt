-- The sizes that a line tells of a grid and its network.
use Rattle.std.proofs.Common.{◌≡◌, length, sym, ap, ◌∙◌}
use Rattle.answers.specs.declared.built.Built.{Built as Numbers}
use Rattle.grid_net.specs.Network.{Network}
use Rattle.grid_network.specs.declared.extracted.Extracted.{Extracted}
use Rattle.grid_pieces.specs.declared.grid.Grid.{Grid}
use Rattle.pdn_signoff.specs.Build.{TellOneGrid}

pub record AreSizesOf (grid : Grid) (net : Network) (numbers : Numbers) : Type 0 where
  pub pieces : numbers.pieces ≡ length grid.pieces
  pub stacks : numbers.stacks ≡ length grid.stacks
  pub nodes : numbers.nodes ≡ net.nodes
  pub resistors : numbers.resistors ≡ length net.resistors
  pub pads : numbers.pads ≡ length net.pads

-- One grid and one network have one size.
pub one_grid : (g h : Grid) (d e : Extracted) (one other : Numbers) → g ≡ h → d ≡ e → AreSizesOf g d.net one → AreSizesOf h e.net other → TellOneGrid one other
one_grid g h d e one other grid network x y = record {
  pieces = x.pieces ∙ ap (λ (z : Grid). length z.pieces) grid ∙ sym y.pieces;
  stacks = x.stacks ∙ ap (λ (z : Grid). length z.stacks) grid ∙ sym y.stacks;
  nodes = x.nodes ∙ ap (λ (n : Extracted). n.net.nodes) network ∙ sym y.nodes;
  resistors = x.resistors ∙ ap (λ (n : Extracted). length n.net.resistors) network ∙ sym y.resistors;
  pads = x.pads ∙ ap (λ (n : Extracted). length n.net.pads) network ∙ sym y.pads;
}

-- The numbers of a line are sizes of the network that was certified, which is this one.
pub sizes_of : (grid : Grid) (certified net : Network) (told numbers : Numbers) → told ≡ numbers → certified ≡ net → AreSizesOf grid certified numbers → AreSizesOf grid net told
sizes_of grid certified net told numbers numbers_are net_is x = record {
  pieces = ap (λ (n : Numbers). n.pieces) numbers_are ∙ x.pieces;
  stacks = ap (λ (n : Numbers). n.stacks) numbers_are ∙ x.stacks;
  nodes = ap (λ (n : Numbers). n.nodes) numbers_are ∙ x.nodes ∙ ap (λ (z : Network). z.nodes) net_is;
  resistors = ap (λ (n : Numbers). n.resistors) numbers_are ∙ x.resistors ∙ ap (λ (z : Network). length z.resistors) net_is;
  pads = ap (λ (n : Numbers). n.pads) numbers_are ∙ x.pads ∙ ap (λ (z : Network). length z.pads) net_is;
}
