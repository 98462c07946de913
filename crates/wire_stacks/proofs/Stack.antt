-- The stack of a chain, from its parts.
use Rattle.std.proofs.Common.{◌≡◌, ◌+◌, ◌<◌, List, length, map, get_or, sym, ◌∙◌, ap}
use Rattle.std.proofs.lemmas.List.{get_or_default}
use Rattle.grid_pieces.specs.declared.piece.StackAt.{StackAt}
use Rattle.lef_tech.specs.declared.tech.Tech.{Tech}
use Rattle.wire_chains.specs.declared.via.ViaAt.{ViaAt}
use Rattle.wire_names.specs.declared.record.NamedVia.{NamedVia}
use Rattle.wire_stacks.specs.Crossing.{IsCrossing}
use Rattle.wire_stacks.specs.Stacks.{IsStackOf}
use Rattle.wire_stacks.specs.Vias.{via_at, array_of}
use Rattle.wire_stacks.specs.inside.Made.{HaveResistances}

pub stack_is : (tech : Tech) (vias : List NamedVia) (chain : List ViaAt) (first : ViaAt) (at : StackAt) → 0 < length chain
    → at.net ≡ (get_or chain 0 first).net → at.x ≡ (get_or chain 0 first).x → at.y ≡ (get_or chain 0 first).y
    → at.stack.from ≡ (get_or chain 0 first).layer → at.stack.to ≡ at.stack.from + length chain
    → at.stack.arrays ≡ map (λ (via : ViaAt). array_of (via_at vias via.via)) chain → HaveResistances tech vias chain at.stack.ohms
    → IsCrossing vias chain at.x at.y at.crossing → IsStackOf tech vias chain at
stack_is tech vias chain first at some net x y from to arrays ohms crossing = record {
  begins = record {
    net = λ d. ap (λ (v : ViaAt). v.net) (get_or_default chain 0 d first some) ∙ sym net;
    x = λ d. ap (λ (v : ViaAt). v.x) (get_or_default chain 0 d first some) ∙ sym x;
    y = λ d. ap (λ (v : ViaAt). v.y) (get_or_default chain 0 d first some) ∙ sym y;
    layer = λ d. ap (λ (v : ViaAt). v.layer) (get_or_default chain 0 d first some) ∙ sym from;
  };
  ends = to;
  arrays = arrays;
  as_many = ohms.as_many;
  ohms = ohms.each;
  crossing = crossing;
}
