use Rattle.std.proofs.Common.{SFits, w64, rules, sym, ◌∙◌, subst}
use Rattle.std.proofs.lemmas.Int.{to_z-of_z}
use Rattle.def_wiring.specs.declared.number.Quantity.TheVariants.{Any}
use Rattle.def_wiring.specs.Number.{IsNumber}
use Rattle.def_wiring.specs.Path.{last_x, last_y}
use Rattle.def_wiring.proofs.wire.via_place.Goals as goal

pub returns-clause-says : goal.returns-clause-says
returns-clause-says c =
    let last = c.args.path.now.last in
    let x : SFits w64 c.in_ok-x.x = search rules in
    let y : SFits w64 c.in_ok-y.y = search rules in
    record {
      via = c.in_ok-name.ensures;
      layer = c.in_ok-layer.ensures ∙ c.bytes.ensures;
      x = subst (λ z. IsNumber Any (last_x last) z) (sym (to_z-of_z w64 c.in_ok-x.x x))
          (subst (λ z. IsNumber Any z c.in_ok-x.x) c.last_x-first.ensures c.in_ok-x.ensures);
      y = subst (λ z. IsNumber Any (last_y last) z) (sym (to_z-of_z w64 c.in_ok-y.y y))
          (subst (λ z. IsNumber Any z c.in_ok-y.y) c.last_y-second.ensures c.in_ok-y.ensures);
    }
