use Rattle.std.proofs.Common.{◌≡◌, true, false, ◌<◌, [], Contains, Some, None, List, length, get_or, slice_get, sym, ◌∙◌, ap, subst}
use Rattle.lef_tech.specs.declared.known.Known.{Known}
use Rattle.lef_tech.specs.Known.{reference_in}
use Rattle.lef_tech.proofs.Layers.{none_named, within, found_at_number, names_kept}
use Rattle.lef_tech.proofs.known.Layers.reference.Goals as goal
use Rattle.name_table.specs.Numbering.{AreDistinct}

pub returns-then-not-contains-clause-is : goal.returns-then-not-contains-clause-is
returns-then-not-contains-clause-is c =
    subst (λ z. None ≡ reference_in z c.args.name.now) c.self.view_is
    (sym (none_named c.self.inside.known.items c.args.name.now (λ h.
    let there = c.contains.ensures.1 (subst (λ z. Contains z c.args.name.now) (sym c.self.invariant) h) in
    let no : true ≡ false = sym there ∙ c.if-not-contains.true in
    cc)))

pub reference_at-requires : goal.reference_at-requires
reference_at-requires c =
    let same = names_kept c.self.inside.names c.number.new.self c.args.name.now (c.contains.ensures.0 c.if-not-contains.false) c.in-Ok.ensures.taken in
    subst (λ (z : List Known). c.in-Ok.number < length z) (sym c.as_slice.ensures.value)
    (within c.self.inside.known.items c.in-Ok.number c.args.name.now
    (subst (λ z. slice_get z c.in-Ok.number ≡ Some c.args.name.now) (same ∙ c.self.invariant) c.in-Ok.ensures.number))

pub returns-clause-is : goal.returns-clause-is
returns-clause-is c =
    let other : Known = record { name = []; reference = None } in
    let same = names_kept c.self.inside.names c.number.new.self c.args.name.now (c.contains.ensures.0 c.if-not-contains.false) c.in-Ok.ensures.taken in
    let found = found_at_number c.self.inside.known.items c.in-Ok.number c.args.name.now other
    (subst AreDistinct (same ∙ c.self.invariant) c.in-Ok.ensures.distinct)
    (subst (λ z. slice_get z c.in-Ok.number ≡ Some c.args.name.now) (same ∙ c.self.invariant) c.in-Ok.ensures.number) in
    subst (λ (z : List Known). c.reference_at.result ≡ (get_or z c.in-Ok.number other).reference) c.as_slice.ensures.value (c.reference_at.ensures other)
    ∙ sym found ∙ ap (λ z. reference_in z c.args.name.now) c.self.view_is
