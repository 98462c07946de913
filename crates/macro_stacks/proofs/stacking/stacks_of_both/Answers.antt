use Rattle.std.proofs.Common.{◌++◌, ◌≤◌, All, length, get_or, subst, sym, arith}
use Rattle.std.proofs.lemmas.List.Sorted.{Contains-permutation}
use Rattle.grid_stacks.specs.Crossing.{Stands}
use Rattle.grid_stacks.specs.Stacking.{AreAllowed, AreStacks, AreStacksAt, HasSheet, SiteKeeps, most_pieces}
use Rattle.macro_stacks.specs.inside.Places.{PiecesKeep}
use Rattle.macro_stacks.proofs.Answered.{allowed, answered, refused_places, same_stands}
use Rattle.macro_stacks.proofs.Parted.{part_keeps, passed_on}
use Rattle.macro_stacks.proofs.stacking.stacks_of_both.Goals as goal

pub places-requires-clause-keep : goal.places-requires-clause-keep
places-requires-clause-keep c =
    let tech = c.args.tech.now in
    let connects = c.args.connects.now in
    let both = c.args.one.now ++ c.args.other.now in
    let pieces = c.args.pieces.now in
    let keep : PiecesKeep tech connects pieces = record { keep = c.requires.keep; even = c.requires.even; along = c.requires.along } in
    part_keeps tech connects both pieces (λ p p_in. Contains-permutation both pieces p c.requires.both p_in) keep

pub returns-in_err-sites : goal.returns-in_err-sites
returns-in_err-sites c =
    let tech = c.args.tech.now in
    let both = c.args.one.now ++ c.args.other.now in
    let pieces = c.args.pieces.now in
    let connects = c.args.connects.now in
    let blocks = c.args.blocks.now in
    let same = same_stands tech both pieces connects blocks c.requires.both in
    let few : length pieces ≤ most_pieces = omega arith in
    let error = c.in_err-sites.field-0.0 in
    passed_on _ _ c.from_residual.result error c.from_residual.ensures.1
    (refused_places (Stands tech both connects blocks) (Stands tech pieces connects blocks) tech c.args.units pieces same few error c.in_err-sites.ensures)

pub returns-in-Some : goal.returns-in-Some
returns-in-Some c =
    let tech = c.args.tech.now in
    let both = c.args.one.now ++ c.args.other.now in
    let pieces = c.args.pieces.now in
    let connects = c.args.connects.now in
    let blocks = c.args.blocks.now in
    let same = same_stands tech both pieces connects blocks c.requires.both in
    let sites = c.in_ok-sites.sites.items in
    (sites, allowed (Stands tech both connects blocks) (Stands tech pieces connects blocks) pieces sites same (omega arith) c.in_ok-sites.ensures, c.in-Some.ensures)

pub stacks_at-requires-clause-sites : goal.stacks_at-requires-clause-sites
stacks_at-requires-clause-sites c =
    let tech = c.args.tech.now in
    let both = c.args.one.now ++ c.args.other.now in
    let pieces = c.args.pieces.now in
    let connects = c.args.connects.now in
    let blocks = c.args.blocks.now in
    let same = same_stands tech both pieces connects blocks c.requires.both in
    let sites = c.in_ok-sites.sites.items in
    let keep : All (SiteKeeps tech) sites = λ k d within. c.stacks_can_be_asked_for.ensures tech pieces connects blocks (get_or sites k d) c.requires.connects c.requires.keep
    ((same (get_or sites k d)).0 (c.in_ok-sites.ensures.are.each k d within)) in
    subst (All (SiteKeeps tech)) (sym c.deref.ensures.value) keep

pub returns : goal.returns
returns c =
    let tech = c.args.tech.now in
    let both = c.args.one.now ++ c.args.other.now in
    let pieces = c.args.pieces.now in
    let connects = c.args.connects.now in
    let blocks = c.args.blocks.now in
    let same = same_stands tech both pieces connects blocks c.requires.both in
    let P = Stands tech pieces connects blocks in
    let sites = c.deref.result.now in
    let sheets : All (HasSheet tech) pieces = c.in_default.ensures in
    let are : AreAllowed P pieces sites = subst (AreAllowed P pieces) (sym c.deref.ensures.value)
    (allowed (Stands tech both connects blocks) P pieces c.in_ok-sites.sites.items same (omega arith) c.in_ok-sites.ensures) in
    answered (λ stacks. AreStacksAt tech c.args.units sites stacks.items) (λ stacks. AreStacks P tech c.args.units pieces stacks.items) P tech c.args.units pieces sites c.stacks_at.result are sheets
    (λ stacks h. (sites, are, sheets, h)) c.stacks_at.ensures
