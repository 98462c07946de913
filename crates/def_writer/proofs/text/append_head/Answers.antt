use Rattle.std.proofs.Common.{◌∷◌, [], codes}
use Rattle.def_writer.specs.Line.{line_of}
use Rattle.def_writer.proofs.TextLemmas.{grown_thrice}
use Rattle.def_writer.proofs.text.append_head.Goals as goal

pub returns : goal.returns
returns c =
    grown_thrice c.args.out.now.items c.append_line.new.out.items c.append_line-2.new.out.items c.append_line-3.new.out.items
    (line_of (codes "VERSION" ∷ codes "5.8" ∷ codes ";" ∷ []))
    (line_of (codes "DIVIDERCHAR" ∷ codes "\"/\"" ∷ codes ";" ∷ []))
    (line_of (codes "BUSBITCHARS" ∷ codes "\"[]\"" ∷ codes ";" ∷ []))
    c.in_ok-append_line.ensures c.in_ok-append_line-2.ensures c.in_ok-append_line-3.ensures
