use Rattle.def_design.proofs.held.Said.take.Goals as goal

pub returns : goal.returns
returns c = λ units w h. record {
  top = c.in_ok-take.ensures units w units h.top;
  rows = c.in_ok-take_row.ensures units w units h.rows;
  components = c.in_ok-take-2.ensures units w h.components;
  blockages = c.in_ok-take-3.ensures units w units h.blockages;
  regions = c.in_ok-take-4.ensures units w h.regions;
}
