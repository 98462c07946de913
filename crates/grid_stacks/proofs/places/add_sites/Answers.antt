use Rattle.std.proofs.Common.{◌≡◌, ◌↔◌, ◌⊎◌, List, Contains, length, subst, sym}
use Rattle.geom_rect.specs.declared.direction.Axis.TheVariants.{X, Y}
use Rattle.geom_rect.specs.declared.rect.Rect.{Rect}
use Rattle.grid_stacks.specs.declared.bar.Bar.{Bar}
use Rattle.grid_stacks.specs.declared.connect.Site.{Site}
use Rattle.grid_stacks.specs.inside.Bar.{AreBarsOf}
use Rattle.grid_stacks.specs.inside.Standing.{IsInner, AllAdded, SitesAdded, StandsBy, Crosses, bar_site}
use Rattle.grid_stacks.specs.Stacking.{AreMany}
use Rattle.grid_stacks.proofs.Bridge.{one_layer, sites_added, sites_every, ok_on}
use Rattle.grid_stacks.proofs.places.add_sites.Goals as goal

pub cross_all-requires-clause-one_layer : goal.cross_all-requires-clause-one_layer
cross_all-requires-clause-one_layer c =
    let flats = c.deref-2.result.now in
    let are : AreBarsOf c.args.connect.now X c.args.pieces.now flats = subst (AreBarsOf c.args.connect.now X c.args.pieces.now) (sym c.deref-2.ensures.value) c.in_ok-flats.ensures.are in
    one_layer c.args.tech.now c.args.pieces.now c.args.connect.now X flats c.requires.connect c.requires.along are

pub cross_all-requires-clause-one_layer_too : goal.cross_all-requires-clause-one_layer_too
cross_all-requires-clause-one_layer_too c =
    let uprights = c.deref-3.result.now in
    let are : AreBarsOf c.args.connect.now Y c.args.pieces.now uprights = subst (AreBarsOf c.args.connect.now Y c.args.pieces.now) (sym c.deref-3.ensures.value) c.in_ok-uprights.ensures.are in
    one_layer c.args.tech.now c.args.pieces.now c.args.connect.now Y uprights c.requires.connect c.requires.along are

pub returns-clause-added : goal.returns-clause-added
returns-clause-added c =
    let tech = c.args.tech.now in
    let pieces = c.args.pieces.now in
    let blocks = c.args.blocks.now in
    let connect = c.args.connect.now in
    let flats = c.deref-2.result.now in
    let uprights = c.deref-3.result.now in
    let inner = c.in_ok-inner.inner in
    let old = c.args.sites.now.items in
    let new = c.cross_all.new.sites.items in
    let are : AreBarsOf connect X pieces flats = subst (AreBarsOf connect X pieces) (sym c.deref-2.ensures.value) c.in_ok-flats.ensures.are in
    let are_too : AreBarsOf connect Y pieces uprights = subst (AreBarsOf connect Y pieces) (sym c.deref-3.ensures.value) c.in_ok-uprights.ensures.are in
    let is_inner : (r : Rect) → Contains inner r ↔ IsInner tech connect blocks r = c.in_ok-inner.ensures in
    ok_on (AllAdded connect inner flats uprights (length flats) old new) (SitesAdded (StandsBy tech pieces blocks connect) old new) c.cross_all.result
    (sites_added tech pieces blocks connect inner flats uprights old new is_inner c.requires.connect.rising are are_too) c.cross_all.ensures.added

pub returns-clause-every : goal.returns-clause-every
returns-clause-every c =
    let tech = c.args.tech.now in
    let pieces = c.args.pieces.now in
    let blocks = c.args.blocks.now in
    let connect = c.args.connect.now in
    let flats = c.deref-2.result.now in
    let uprights = c.deref-3.result.now in
    let inner = c.in_ok-inner.inner in
    let new = c.cross_all.new.sites.items in
    let are : AreBarsOf connect X pieces flats = subst (AreBarsOf connect X pieces) (sym c.deref-2.ensures.value) c.in_ok-flats.ensures.are in
    let are_too : AreBarsOf connect Y pieces uprights = subst (AreBarsOf connect Y pieces) (sym c.deref-3.ensures.value) c.in_ok-uprights.ensures.are in
    let is_inner : (r : Rect) → Contains inner r ↔ IsInner tech connect blocks r = c.in_ok-inner.ensures in
    ok_on (AreMany new ⊎ ((flat upright : Bar) → Contains flats flat → Contains uprights upright → Crosses inner flat upright → Contains new (bar_site connect flat upright)))
    (AreMany new ⊎ ((s : Site) → StandsBy tech pieces blocks connect s → Contains new s)) c.cross_all.result
    (sites_every tech pieces blocks connect inner flats uprights new is_inner c.requires.connect.rising are are_too) c.cross_all.ensures.every
