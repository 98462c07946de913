use Rattle.std.proofs.Common.{refl, sym, arith}
use Rattle.std.proofs.lemmas.List.{append-nil}
use Rattle.node_names.specs.Folding.{folded}
use Rattle.spice_cards.specs.Record.{short_part, resistor_part}
use Rattle.spice_cards.proofs.Lists.{taken-grows}
use Rattle.spice_cards.proofs.Ranges.{kept_128}
use Rattle.spice_cards.proofs.Taking.{zero_part, other_part}
use Rattle.spice_cards.proofs.held.add_resistor.Goals as goal

pub returns-in_ok-push : goal.returns-in_ok-push
returns-in_ok-push c = λ text is.
    let one = c.number_of.new.names in
    let two = c.number_of-2.new.names in
    let v = c.args.ohms in record {
      part = short_part c.in_ok-a.a c.in_ok-b.b;
      says = (
        v,
        c.in_ok-a.a,
        c.in_ok-b.b,
        is,
        taken-grows one two (folded c.args.b.now) c.in_ok-b.ensures.taken c.in_ok-a.a (folded c.args.a.now) c.in_ok-a.ensures.number,
        c.in_ok-b.ensures.number,
        zero_part c.is_zero.result v _ c.in_ok-a.a c.in_ok-b.b c.is_zero.ensures (kept_128 v _ (omega arith) is.1.2.within) c.if-is_zero.true,
      );
      names = (one, c.in_ok-a.ensures.taken, (two, c.in_ok-b.ensures.taken, refl));
      distinct = λ d. c.in_ok-b.ensures.distinct;
      lists = record {
        resistors = sym (append-nil _);
        shorts = c.in_ok-push.ensures.items;
        pads = sym (append-nil _);
        loads = sym (append-nil _);
      };
      caps = refl;
    }

pub returns-in_ok-push-2 : goal.returns-in_ok-push-2
returns-in_ok-push-2 c = λ text is.
    let one = c.number_of.new.names in
    let two = c.number_of-2.new.names in
    let v = c.args.ohms in record {
      part = resistor_part c.in_ok-a.a c.in_ok-b.b _;
      says = (
        v,
        c.in_ok-a.a,
        c.in_ok-b.b,
        is,
        taken-grows one two (folded c.args.b.now) c.in_ok-b.ensures.taken c.in_ok-a.a (folded c.args.a.now) c.in_ok-a.ensures.number,
        c.in_ok-b.ensures.number,
        other_part c.is_zero.result v _ c.in_ok-a.a c.in_ok-b.b c.is_zero.ensures (kept_128 v _ (omega arith) is.1.2.within) c.if-is_zero.false,
      );
      names = (one, c.in_ok-a.ensures.taken, (two, c.in_ok-b.ensures.taken, refl));
      distinct = λ d. c.in_ok-b.ensures.distinct;
      lists = record {
        resistors = c.in_ok-push-2.ensures.items;
        shorts = sym (append-nil _);
        pads = sym (append-nil _);
        loads = sym (append-nil _);
      };
      caps = refl;
    }
