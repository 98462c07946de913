-- How many layers and rules statements have.
use Rattle.std.proofs.Common.{◌≡◌, ◌+◌, ◌<◌, ◌≤◌, ◌^◌, List, [], ◌∷◌, ◌++◌, length, Option, Some, None, ap, arith, length-append}
use Rattle.lef_tech.specs.declared.rule.ViaRule.{ViaRule}
use Rattle.lef_tech.specs.declared.stack.AnyLayer.{AnyLayer}
use Rattle.lef_tech.specs.declared.stack.AnyLayer.TheVariants.{Wire, Hole}
use Rattle.lef_tech.specs.declared.stack.Stack.{Stack}
use Rattle.lef_tech.specs.declared.statement.Statement.{Statement}
use Rattle.lef_tech.specs.declared.statement.Statement.TheVariants.{Layer, Rule}
use Rattle.lef_tech.specs.Record.{body_of, layer_of, with_layer, layers_of, wires_of, cuts_of, parts_of, rule_of, with_rule, rules_of}
use Rattle.lef_tech.specs.inside.Stack.{IsStackTo}

one_more : (layer : Option AnyLayer) (all : List AnyLayer) →
    length (wires_of (with_layer layer all)) + length (cuts_of (with_layer layer all)) ≤ length (wires_of all) + length (cuts_of all) + 1
one_more None all = omega arith
one_more (Some (Wire layer)) all = omega arith
one_more (Some (Hole layer)) all = omega arith

-- There are at most as many layers as statements.
pub layers_counted : (statements : List Statement) → length (wires_of (layers_of statements)) + length (cuts_of (layers_of statements)) ≤ length statements
layers_counted [] = omega arith
layers_counted (Layer name ∷ others) = omega (arith, one_more (layer_of name (body_of others)) (layers_of others), layers_counted others)
layers_counted (statement ∷ others) = omega (arith, layers_counted others)

more_rules : (rule : Option ViaRule) (rules : List ViaRule) → length (with_rule rule rules) ≤ length rules + 1
more_rules None rules = omega arith
more_rules (Some rule) rules = omega arith

-- There are at most as many rules as statements.
pub rules_counted : (statements : List Statement) → length (rules_of statements) ≤ length statements
rules_counted [] = omega arith
rules_counted (Rule name ∷ others) = omega (arith, more_rules (rule_of name (parts_of others)) (rules_of others), rules_counted others)
rules_counted (statement ∷ others) = omega (arith, rules_counted others)

-- There are as few layers on a stack.
pub stack_counted : (statements : List Statement) (rest : List AnyLayer) (stack : Stack) → IsStackTo (layers_of statements) rest stack → length statements < 2 ^ 32 →
    length stack.wires.items + length stack.cuts.items < 2 ^ 32
stack_counted statements rest stack h few =
    let wires : length (stack.wires.items ++ wires_of rest) ≡ length (wires_of (layers_of statements)) = ap length h.wires in
    let cuts : length (stack.cuts.items ++ cuts_of rest) ≡ length (cuts_of (layers_of statements)) = ap length h.cuts in
    omega (arith, wires, cuts, length-append stack.wires.items (wires_of rest), length-append stack.cuts.items (cuts_of rest), layers_counted statements)
