use Rattle.std.proofs.Common.{true, ◌&&◌, map, refl, sym, ap, ◌∙◌}
use Rattle.std.specs.Prelude.{◌==◌}
use Rattle.std.specs.List.{flat_map}
use Rattle.std.proofs.lemmas.List.{length-map}
use Rattle.def_writer.specs.Wiring.{piece_words, stack_words, wiring_words}
use Rattle.def_writer.proofs.TextLemmas.{lines_written}
use Rattle.def_writer.proofs.wiring.append_wiring.Goals as goal

pub returns : goal.returns
returns c =
    let tech = c.args.tech.now in
    let pieces = map (piece_words tech) c.args.pieces.now in
    let stacks = flat_map (stack_words tech) c.args.stacks.now in
    lines_written true pieces stacks (wiring_words tech c.args.pieces.now c.args.stacks.now) c.is_first.result c.args.out.now.items c.append_pieces.new.out.items c.append_stacks.new.out.items refl
    (c.is_first.ensures ∙ ap (λ k. true && (k == 0)) (sym (length-map c.args.pieces.now (piece_words tech)))) c.in_ok-append_pieces.ensures c.in_ok-append_stacks.ensures
