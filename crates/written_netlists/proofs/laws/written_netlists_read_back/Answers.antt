use Rattle.written_netlists.proofs.Values.{NumberLaws}
use Rattle.written_netlists.proofs.Whole.{reads_back}
use Rattle.written_netlists.specs.Fits.{read_back}
use Rattle.spice_grid.specs.Written.{written_netlist}
use Rattle.written_netlists.proofs.laws.written_netlists_read_back.Goals as goal

pub returns : goal.returns
returns c =
    let laws : NumberLaws = record {
      spice = c.decimals_are_spice_numbers.ensures;
      some = c.numbers_are_words.ensures.some;
      no_white = c.numbers_are_words.ensures.no_white;
      back = c.printed_values_read_back.ensures;
      one = c.texts_have_one_number.ensures;
    } in
    let reads = reads_back laws c.whole_cards_are_read.ensures c.nothing_shorted.ensures.network c.no_net_refusal.ensures.none in
    record {
      reads = reads;
      alone = λ net names notes named can h.
          c.texts_have_one_netlist.ensures.record (written_netlist net names notes) named (read_back net names) h (reads net names notes can);
      never_refused = λ net names notes error can h.
          c.texts_have_one_netlist.ensures.not_both (written_netlist net names notes) (read_back net names) error (reads net names notes can) h;
    }
