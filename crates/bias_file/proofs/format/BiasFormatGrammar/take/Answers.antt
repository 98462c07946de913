use Rattle.std.proofs.Common.{◌∙◌, sym, map}
use Rattle.bias_file.proofs.Taking.{section_more}
use Rattle.reading.specs.Word.{heard_token}
use Rattle.bias_file.proofs.format.BiasFormatGrammar.take.Goals as goal

pub returns : goal.returns
returns c = λ units few h taken heard. record {
  lists = record {
    supplies = c.in_ok-take_supply.ensures heard units taken h.lists.supplies;
    drops = c.in_ok-take_drop.ensures heard units taken h.lists.drops;
    pads = c.in_ok-take_pad.ensures heard units taken h.lists.pads;
    cells = c.in_ok-take_amps.ensures heard units taken h.lists.cells;
    instances = c.in_ok-take_amps-2.ensures heard units taken h.lists.instances;
  };
  section = c.section_after-said.ensures ∙ sym (section_more units (map heard_token c.args.unit.now));
}
