use Rattle.std.proofs.Common.{refl, sym}
use Rattle.std.proofs.lemmas.List.{append-nil}
use Rattle.node_names.specs.Folding.{folded}
use Rattle.spice_cards.proofs.Lists.{taken-grows}
use Rattle.spice_cards.proofs.held.add_short.Goals as goal

pub returns : goal.returns
returns c =
    let one = c.number_of.new.names in
    let two = c.number_of-2.new.names in record {
      m = c.in_ok-a.a;
      n = c.in_ok-b.b;
      first = taken-grows one two (folded c.args.b.now) c.in_ok-b.ensures.taken c.in_ok-a.a (folded c.args.a.now) c.in_ok-a.ensures.number;
      second = c.in_ok-b.ensures.number;
      names = (one, c.in_ok-a.ensures.taken, (two, c.in_ok-b.ensures.taken, refl));
      distinct = c.in_ok-b.ensures.distinct;
      lists = record {
        resistors = sym (append-nil _);
        shorts = c.in_ok-push.ensures.items;
        pads = sym (append-nil _);
        loads = sym (append-nil _);
      };
      caps = refl;
    }
