use Rattle.std.proofs.Common.{refl, arith}
use Rattle.spice_cards.proofs.Taking.{empty_cards}
use Rattle.spice_cards.proofs.held.Held.new.Goals as goal

pub returns : goal.returns
returns c = record {
  cards = empty_cards _ (λ i j d lt within. absurd (omega arith)) c.in_ok-with_capacity.ensures c.new.ensures.items c.new-2.ensures.items c.new-3.ensures.items c.new-4.ensures.items c.new-5.ensures.items;
  section = refl;
}
