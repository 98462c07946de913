-- The cards of loads, node by node.
use Rattle.std.proofs.Common.{◌≡◌, ℕ, ◌+◌, ◌<◌, true, false, List, [], ◌∷◌, ◌++◌, length, take, get_or, filter, pos, sym, ap, ◌∙◌, arith}
use Rattle.std.specs.List.{flat_map, enumerate_from}
use Rattle.std.proofs.lemmas.List.{length-append}
use Rattle.fixed_decimal.specs.Printed.{printed}
use Rattle.grid_net.specs.declared.part.LoadRange.{LoadRange}
use Rattle.spice_grid.specs.Named.{ground}
use Rattle.spice_grid.specs.Written.{draws, numbered_card, card_end, range_line, load_lines, name_of}
use Rattle.spice_grid.proofs.LineLemmas.{line_pushed, passes, fails, grown_by_line}

abbrev pub none : LoadRange
none = record { low = pos 0; high = pos 0 }

-- The loads that draw anything of the nodes before one.
abbrev pub drawing_before : List LoadRange → ℕ → List (ℕ × LoadRange)
drawing_before loads node = filter (λ k. draws k.1) (enumerate_from 0 (take node loads))

-- The lines of a load with another name for each of its parts.
abbrev lines_with : ℕ → List ℕ → LoadRange → List ℕ
lines_with number name load = numbered_card 73 number name ground (printed (card_end load) 15) ++ range_line load

lines_same : {number number' : ℕ} {name name' : List ℕ} {load load' : LoadRange} → number ≡ number' → name ≡ name' → load ≡ load' → lines_with number name load ≡ lines_with number' name' load'
lines_same e f g = λ i. lines_with (e i) (f i) (g i)

module _ (names : List (List ℕ)) (loads : List LoadRange) (node number : ℕ) (within : node < length loads) (counted : number ≡ length (drawing_before loads node)) where
  -- A load that draws is written and counted.
  pub drawn_written : (start out new name : List ℕ) (load : LoadRange) → draws load ≡ true → load ≡ get_or loads node none → name ≡ name_of names node
      → out ≡ start ++ flat_map (load_lines names) (enumerate_from 1 (drawing_before loads node))
      → new ≡ out ++ (numbered_card 73 (number + 1) name ground (printed (card_end load) 15) ++ range_line load)
      → new ≡ start ++ flat_map (load_lines names) (enumerate_from 1 (drawing_before loads (node + 1)))
  drawn_written start out new name load drawn at named before grown =
      let here : LoadRange = get_or loads node none in
      let count : number + 1 ≡ 1 + length (drawing_before loads node) = omega (arith, counted) in
      let line = lines_same count named at in
      let more = ap (λ l. flat_map (load_lines names) (enumerate_from 1 l)) (passes (λ k. draws k.1) loads node none within (ap draws (sym at) ∙ drawn)) ∙ line_pushed (load_lines names) (drawing_before loads node) (node, here) in
      grown_by_line start out new _ _ _ before (grown ∙ ap (λ l. out ++ l) line) more

  pub drawn_counted : (load : LoadRange) → draws load ≡ true → load ≡ get_or loads node none → number + 1 ≡ length (drawing_before loads (node + 1))
  drawn_counted load drawn at =
      let e = ap length (passes (λ k. draws k.1) loads node none within (ap draws (sym at) ∙ drawn)) in
      omega (arith, e, counted, length-append (drawing_before loads node) ((node, get_or loads node none) ∷ []))

  -- A load of 0 leaves all as it is.
  pub not_drawn : (load : LoadRange) → draws load ≡ false → load ≡ get_or loads node none → drawing_before loads (node + 1) ≡ drawing_before loads node
  not_drawn load drawn at = fails (λ k. draws k.1) loads node none within (ap draws (sym at) ∙ drawn)
