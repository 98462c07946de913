use Rattle.written_netlists.proofs.Alone.{AloneLaws, is_merged, only_merged, no_two_differ}
use Rattle.written_netlists.proofs.laws.nothing_to_merge.Goals as goal

pub returns : goal.returns
returns c =
    let laws : AloneLaws = record {
      group = c.nothing_shorted.ensures.group;
      firsts = c.nothing_shorted.ensures.firsts;
      network = c.nothing_shorted.ensures.network;
    } in
    record {
      merged = λ net names built count. is_merged laws net names built count;
      alone = λ net names merged built count is. only_merged laws net names built count merged is;
      agree = no_two_differ;
    }
