use Rattle.std.proofs.Common.{◌≡◌, ◌∙◌, ap, subst, to_z, of_z, to_z-of_z, SFits, rules, pos, get_or}
use mir.Syntax.{w128}
use Rattle.rounding.specs.Rounding.{floor_div, ceil_div}
use Rattle.grid_net.specs.declared.part.Resistor.{Resistor}
use Rattle.grid_net.specs.Network.{IsNetwork}
use Rattle.bound_check.specs.Certified.{Certificate, IsKept, least_current, greatest_current, nanoampere}
use Rattle.bound_check.proofs.Kept.{told_of, current_bounds, current_gap}
use Rattle.bound_check.proofs.certified.Certified.current.Goals as goal

abbrev none : Resistor
none = record { a = 0; b = 0; ohms = pos 0 }

pub returns-clause-low : goal.returns-clause-low
returns-clause-low c = λ d.
    let hs = c.deref.ensures.value ∙ ap (λ (v : Certificate). v.high) c.self.view_is in
    let ls = c.deref-2.ensures.value ∙ ap (λ (v : Certificate). v.low) c.self.view_is in
    let rs = c.resistors.ensures ∙ ap (λ (v : Certificate). v.net.resistors) c.self.view_is in
    let now = c.args.self.now in
    let fz : SFits w128 c.current_between-least.result.0 = search rules in
    let fr : SFits w128 c.div_floor.result = search rules in
    let found = simp to_z-of_z at c.div_floor.ensures in
    let is = told_of least_current c.deref.result.now now.high c.deref-2.result.now now.low c.resistors.result.now now.net.resistors c.args.resistor none d hs ls rs c.requires in
    to_z-of_z fr ∙ found ∙ ap (λ z. floor_div z (pos nanoampere)) (c.current_between-least.ensures.least ∙ is)

pub returns-clause-high : goal.returns-clause-high
returns-clause-high c = λ d.
    let hs = c.deref.ensures.value ∙ ap (λ (v : Certificate). v.high) c.self.view_is in
    let ls = c.deref-2.ensures.value ∙ ap (λ (v : Certificate). v.low) c.self.view_is in
    let rs = c.resistors.ensures ∙ ap (λ (v : Certificate). v.net.resistors) c.self.view_is in
    let now = c.args.self.now in
    let fz : SFits w128 c.current_between-least.result.1 = search rules in
    let fr : SFits w128 c.div_ceil.result = search rules in
    let found = simp to_z-of_z at c.div_ceil.ensures in
    let is = told_of greatest_current c.deref.result.now now.high c.deref-2.result.now now.low c.resistors.result.now now.net.resistors c.args.resistor none d hs ls rs c.requires in
    to_z-of_z fr ∙ found ∙ ap (λ z. ceil_div z (pos nanoampere)) (c.current_between-least.ensures.greatest ∙ is)

pub returns-clause-bounds : goal.returns-clause-bounds
returns-clause-bounds c = λ q p cs drawn sol.
    let kept = subst IsKept c.self.view_is c.self.invariant in
    let wf = subst (λ (v : Certificate). IsNetwork v.net) c.self.view_is c.nodes-nodes.ensures.built.is_network in
    let hs = c.deref.ensures.value ∙ ap (λ (v : Certificate). v.high) c.self.view_is in
    let ls = c.deref-2.ensures.value ∙ ap (λ (v : Certificate). v.low) c.self.view_is in
    let rs = c.resistors.ensures ∙ ap (λ (v : Certificate). v.net.resistors) c.self.view_is in
    let now = c.args.self.now in
    let from = to_z w128 (of_z w128 c.div_floor.result) in
    let to = to_z w128 (of_z w128 c.div_ceil.result) in
    let fl : SFits w128 c.current_between-least.result.0 = search rules in
    let fg : SFits w128 c.current_between-least.result.1 = search rules in
    let fr : SFits w128 c.div_floor.result = search rules in
    let fs : SFits w128 c.div_ceil.result = search rules in
    let found_low = simp to_z-of_z at c.div_floor.ensures in
    let found_high = simp to_z-of_z at c.div_ceil.ensures in
    let is_low = told_of least_current c.deref.result.now now.high c.deref-2.result.now now.low c.resistors.result.now now.net.resistors c.args.resistor none none hs ls rs c.requires in
    let is_high = told_of greatest_current c.deref.result.now now.high c.deref-2.result.now now.low c.resistors.result.now now.net.resistors c.args.resistor none none hs ls rs c.requires in
    let is_from : from ≡ floor_div (least_current now.high now.low (get_or now.net.resistors c.args.resistor none)) (pos nanoampere) = to_z-of_z fr ∙ found_low ∙ ap (λ z. floor_div z (pos nanoampere)) (c.current_between-least.ensures.least ∙ is_low) in
    let is_to : to ≡ ceil_div (greatest_current now.high now.low (get_or now.net.resistors c.args.resistor none)) (pos nanoampere) = to_z-of_z fs ∙ found_high ∙ ap (λ z. ceil_div z (pos nanoampere)) (c.current_between-least.ensures.greatest ∙ is_high) in
    current_bounds now kept wf c.args.resistor none c.requires from to is_from is_to q p cs drawn sol

pub returns-clause-width : goal.returns-clause-width
returns-clause-width c = λ d w rising.
    let kept = subst IsKept c.self.view_is c.self.invariant in
    let wf = subst (λ (v : Certificate). IsNetwork v.net) c.self.view_is c.nodes-nodes.ensures.built.is_network in
    let hs = c.deref.ensures.value ∙ ap (λ (v : Certificate). v.high) c.self.view_is in
    let ls = c.deref-2.ensures.value ∙ ap (λ (v : Certificate). v.low) c.self.view_is in
    let rs = c.resistors.ensures ∙ ap (λ (v : Certificate). v.net.resistors) c.self.view_is in
    let now = c.args.self.now in
    let from = to_z w128 (of_z w128 c.div_floor.result) in
    let to = to_z w128 (of_z w128 c.div_ceil.result) in
    let fl : SFits w128 c.current_between-least.result.0 = search rules in
    let fg : SFits w128 c.current_between-least.result.1 = search rules in
    let fr : SFits w128 c.div_floor.result = search rules in
    let fs : SFits w128 c.div_ceil.result = search rules in
    let found_low = simp to_z-of_z at c.div_floor.ensures in
    let found_high = simp to_z-of_z at c.div_ceil.ensures in
    let is_low = told_of least_current c.deref.result.now now.high c.deref-2.result.now now.low c.resistors.result.now now.net.resistors c.args.resistor none d hs ls rs c.requires in
    let is_high = told_of greatest_current c.deref.result.now now.high c.deref-2.result.now now.low c.resistors.result.now now.net.resistors c.args.resistor none d hs ls rs c.requires in
    let is_from : from ≡ floor_div (least_current now.high now.low (get_or now.net.resistors c.args.resistor d)) (pos nanoampere) = to_z-of_z fr ∙ found_low ∙ ap (λ z. floor_div z (pos nanoampere)) (c.current_between-least.ensures.least ∙ is_low) in
    let is_to : to ≡ ceil_div (greatest_current now.high now.low (get_or now.net.resistors c.args.resistor d)) (pos nanoampere) = to_z-of_z fs ∙ found_high ∙ ap (λ z. ceil_div z (pos nanoampere)) (c.current_between-least.ensures.greatest ∙ is_high) in
    current_gap now kept wf c.args.resistor d c.requires from to is_from is_to w rising
