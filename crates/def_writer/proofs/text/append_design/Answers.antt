use Rattle.std.proofs.Common.{◌≡◌, ℕ, List, [], ◌∷◌, ◌++◌, codes, decimal, sym, ap, ◌∙◌}
use Rattle.std.proofs.lemmas.List.{append-nil}
use Rattle.def_writer.specs.Line.{line_of}
use Rattle.def_writer.specs.Written.{die_line}
use Rattle.def_writer.proofs.TextLemmas.{grown_thrice}
use Rattle.def_writer.proofs.text.append_design.Goals as goal

abbrev name_line : List ℕ → List ℕ
name_line name = line_of (codes "DESIGN" ∷ name ∷ codes ";" ∷ [])

abbrev units_line : List ℕ → List ℕ
units_line units = line_of (codes "UNITS" ∷ codes "DISTANCE" ∷ codes "MICRONS" ∷ units ∷ codes ";" ∷ [])

pub returns : goal.returns
returns c =
    let design = c.args.design.now in
    let out = c.args.out.now.items in
    let one = c.append_line.new.out.items in
    let two = c.append_line-2.new.out.items in
    let a : one ≡ out ++ name_line design.name = c.in_ok-append_line.ensures ∙ ap (λ (l : List ℕ). out ++ name_line l) c.bytes.ensures in
    let b : two ≡ one ++ units_line (decimal design.units) = c.in_ok-append_line-2.ensures ∙ ap (λ (l : List ℕ). one ++ units_line l) (c.as_bytes.ensures.value ∙ c.format.ensures.text) in
    grown_thrice out one two c.append_die.new.out.items (name_line design.name) (units_line (decimal design.units)) (line_of (die_line design.die)) a b c.in_ok-append_die.ensures
    ∙ ap (λ l. out ++ (name_line design.name ++ (units_line (decimal design.units) ++ l))) (sym (append-nil (line_of (die_line design.die))))
