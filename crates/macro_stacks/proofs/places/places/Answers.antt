use Rattle.std.proofs.Common.{◌++◌, arith}
use Rattle.grid_stacks.specs.Crossing.{Stands}
use Rattle.grid_stacks.specs.Stacking.{AreSites}
use Rattle.macro_stacks.proofs.Answered.{all_in_order, counted}
use Rattle.macro_stacks.proofs.places.places.Goals as goal

pub put_in_order-requires : goal.put_in_order-requires
put_in_order-requires c a b a_in b_in alike =
    let all = c.in_ok-sites.ensures in
    c.one_site_at_a_place.ensures c.args.tech.now (c.args.one.now ++ c.args.other.now) c.args.connects.now c.args.blocks.now a b ((all a).0 a_in) ((all b).0 b_in) alike

pub returns-then-len-gt-MOST_STACKS : goal.returns-then-len-gt-MOST_STACKS
returns-then-len-gt-MOST_STACKS c =
    let P = Stands c.args.tech.now (c.args.one.now ++ c.args.other.now) c.args.connects.now c.args.blocks.now in
    let new = c.put_in_order.new.sites in
    let are : AreSites P new.items = all_in_order P c.in_ok-sites.sites.items new.items c.in_ok-sites.ensures c.put_in_order.ensures.same c.put_in_order.ensures.in_order in
    counted P new.items are (omega (arith, c.len.ensures, new.ok.0, new.ok.1))

pub returns : goal.returns
returns c =
    let P = Stands c.args.tech.now (c.args.one.now ++ c.args.other.now) c.args.connects.now c.args.blocks.now in
    let new = c.put_in_order.new.sites in
    record {
      are = all_in_order P c.in_ok-sites.sites.items new.items c.in_ok-sites.ensures c.put_in_order.ensures.same c.put_in_order.ensures.in_order;
      few = omega (arith, c.len.ensures, new.ok.0, new.ok.1);
    }
