use Rattle.std.proofs.Common.{List, ℕ, sym, ◌∙◌, subst}
use Rattle.name_table.specs.Numbering.{AreDistinct}
use Rattle.bias_file.specs.declared.record.Supply.{Supply}
use Rattle.grid_pieces.specs.declared.piece.Piece.{Piece}
use Rattle.grid_taps.specs.inside.Steps.{supply_names, AreVolts, ArePieceEntries}
use Rattle.grid_taps.proofs.Unknown.{map_same}
use Rattle.grid_taps.proofs.standing.nets_of.Goals as goal

pub volts_of-requires : goal.volts_of-requires
volts_of-requires c = subst (λ (s : List Supply). AreDistinct (supply_names s)) (sym c.as_slice-3.ensures) c.requires.bias.supplied_nets

pub returns : goal.returns
returns c =
    let same = map_same c.as_slice.result.now ∙ c.as_slice.ensures in
    record {
      distinct = c.requires.nets;
      names = c.in_ok-names.ensures.places (subst AreDistinct (sym same) c.requires.nets) ∙ same;
      volts =
          subst (λ (s : List Supply). AreVolts s c.args.grid.now.nets c.in_ok-volts.volts.items) c.as_slice-3.ensures
          (subst (λ (n : List (List ℕ)). AreVolts c.as_slice-3.result.now n c.in_ok-volts.volts.items) c.as_slice-2.ensures c.in_ok-volts.ensures);
      index = subst (λ (ps : List Piece). ArePieceEntries ps c.in_ok-index.index) c.as_slice-4.ensures c.in_ok-index.ensures;
    }
