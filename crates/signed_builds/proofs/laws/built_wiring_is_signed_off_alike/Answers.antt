use Rattle.std.proofs.Common.{Ok, sym}
use Rattle.signed_builds.proofs.Records.{AreReaders}
use Rattle.signed_builds.proofs.Signed.{HaveOneNetwork, same_network, same_netlist}
use Rattle.signed_builds.proofs.laws.built_wiring_is_signed_off_alike.Goals as goal

pub returns : goal.returns
returns c = record {
  network = λ told told' t w built outputs wired is over are of signs. sym (same_network readers one told told' t w built outputs wired is over are of signs);
  netlist = λ told told' t w built outputs wired signed is over are of signs texts.
      same_netlist built wired outputs signed (same_network readers one told told' t w built outputs wired is over are of signs) are texts;
}
  where
    one : HaveOneNetwork
    one = c.rewired_networks_are_the_same.ensures.networks

    readers : AreReaders
    readers = record {
      tech = λ text a b. c.texts_have_one_tech.ensures text (Ok a) (Ok b);
      cells = λ text a b. c.texts_have_one_record.ensures text (Ok a) (Ok b);
      design = λ text a b. c.texts_have_one_placed_design.ensures text (Ok a) (Ok b);
      bias = λ text a b. c.texts_have_one_bias.ensures text (Ok a) (Ok b);
      placed = c.read_designs_are_placed.ensures;
    }
