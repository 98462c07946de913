use Rattle.std.proofs.Common.{◌≡◌, ℕ, List, [], ◌∷◌, ◌++◌, length, codes, decimal, sym, ap, ◌∙◌}
use Rattle.std.specs.List.{flat_map, enumerate_from}
use Rattle.def_writer.specs.Line.{line_of, text_of}
use Rattle.def_writer.specs.Wiring.{net_of_grid}
use Rattle.def_writer.proofs.TextLemmas.{grown_thrice, text-append}
use Rattle.def_writer.proofs.net.append_nets.Goals as goal

abbrev head_line : List ℕ → List ℕ
head_line count = line_of (codes "SPECIALNETS" ∷ count ∷ codes ";" ∷ [])

pub returns : goal.returns
returns c =
    let grid = c.args.grid.now in
    let out = c.args.out.now.items in
    let nets : List (List (List ℕ)) = flat_map (net_of_grid c.args.tech.now grid) (enumerate_from 0 grid.nets) in
    let last : List (List ℕ) = codes "END" ∷ codes "SPECIALNETS" ∷ [] in
    let head : c.append_line.new.out.items ≡ out ++ head_line (decimal (length grid.nets)) =
    c.in_ok-append_line.ensures ∙ ap (λ (l : List ℕ). out ++ head_line l) (c.as_bytes-nets.ensures.value ∙ c.format.ensures.text ∙ ap (λ (l : List (List ℕ)). decimal (length l)) c.as_slice.ensures) in
    grown_thrice out c.append_line.new.out.items c.append_all.new.out.items c.append_line-2.new.out.items (head_line (decimal (length grid.nets))) (text_of nets) (line_of last)
    head c.in_ok-append_all.ensures c.in_ok-append_line-2.ensures
    ∙ ap (λ l. out ++ (head_line (decimal (length grid.nets)) ++ l)) (sym (text-append nets (last ∷ [])))
