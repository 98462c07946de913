-- Wiring gives one grid over a design, or is refused for one reason.
use Rattle.std.proofs.Common.{◌≡◌, ◌≢◌, ◌⊎◌, inl, inr, ℕ, ◌∷◌, [], All, List, subst, refl, sym, ap, ◌∙◌}
use Rattle.text_lex.specs.Name.{IsName}
use Rattle.lef_tech.specs.declared.tech.Tech.{Tech}
use Rattle.def_design.specs.declared.record.Design.{Design}
use Rattle.def_wiring.specs.declared.record.WiredNet.{WiredNet}
use Rattle.def_wiring.specs.declared.record.Wires.{Wires}
use Rattle.grid_pieces.specs.declared.grid.Grid.{Grid}
use Rattle.grid_pieces.specs.declared.piece.Piece.{Piece}
use Rattle.grid_pieces.specs.declared.piece.StackAt.{StackAt}
use Rattle.grid_pieces.specs.declared.touch.Touching.{Touching}
use Rattle.grid_pieces.specs.Touch.{metal, IsFirstTouch}
use Rattle.wire_names.specs.declared.record.NamedWires.{NamedWires}
use Rattle.wire_names.specs.Wiring.{AreNamed}
use Rattle.wire_limits.specs.declared.error.WireCount.TheVariants.{Segments, Vias}
use Rattle.wire_pieces.specs.Pieces.{AreWirePieces}
use Rattle.wire_stacks.specs.Stacks.{AreStacks}
use Rattle.wired_grid.specs.declared.error.WiredError.{WiredError}
use Rattle.wired_grid.specs.declared.error.WiredError.TheVariants as errors
use Rattle.wired_grid.specs.Wired.{IsWiredGrid, IsWiredRefused, NothingTouches, two_in_order, two_powers, one_domain}
use Rattle.one_drawing.specs.Laws.Touched.{one_first_touch}
use Rattle.one_wired_grid.proofs.Limited.{Within, BadLimit, limits_one, within_is}
use Rattle.one_wired_grid.proofs.Named.{SomeNamed, BadNames, one_named, names_one, nets_named}
use Rattle.one_wired_grid.proofs.Pieced.{one_wire_pieces}
use Rattle.one_wired_grid.proofs.Stacked.{OneResistance, SomeStacks, BadEnd, one_stacks, ends_one}
use Rattle.one_wired_grid.proofs.Ways.{One, left, right, Then, Over, BadOver, and_then, over}

-- ## the grid

pub one_grid : OneResistance → (tech : Tech) (design : Design) (wires : Wires) (a b : Grid) → IsWiredGrid tech design wires a → IsWiredGrid tech design wires b → a ≡ b
one_grid one tech design wires a b p q =
    let named : p.named ≡ q.named = one_named tech wires p.named q.named p.are_named q.are_named in
    let units = p.units ∙ sym q.units in
    let nets = p.nets ∙ ap (λ (n : NamedWires). two_in_order n.power n.ground n.power_first) named ∙ sym q.nets in
    let power = p.power ∙ ap (λ (n : NamedWires). two_powers n.power_first) named ∙ sym q.power in
    let domains = p.domains ∙ ap (λ (n : NamedWires). one_domain n.power_first ∷ []) named ∙ sym q.domains in
    let pieces : a.pieces ≡ b.pieces =
    one_wire_pieces q.named.shapes a.pieces b.pieces (subst (λ (n : NamedWires). AreWirePieces n.shapes a.pieces) named p.pieces) q.pieces in
    let moved : AreStacks tech q.named.vias q.named.spots b.pieces a.stacks =
    subst (λ (l : List Piece). AreStacks tech q.named.vias q.named.spots l a.stacks) pieces
    (subst (λ (n : NamedWires). AreStacks tech n.vias n.spots a.pieces a.stacks) named p.stacks) in
    let stacks : a.stacks ≡ b.stacks = one_stacks one tech q.named.vias q.named.spots b.pieces a.stacks b.stacks moved q.stacks in
    λ i. record { units = units i; nets = nets i; power = power i; domains = domains i; pieces = pieces i; stacks = stacks i }

pub names_of_grid : (tech : Tech) (design : Design) (wires : Wires) (grid : Grid) → All (λ (net : WiredNet). IsName net.name) wires.nets → IsWiredGrid tech design wires grid
    → All IsName grid.nets
names_of_grid tech design wires grid all is = subst (All IsName) (sym is.nets) (nets_named tech wires is.named all is.are_named)

-- ## touches

abbrev BadTouch : List Piece → List StackAt → WiredError → Type 0
BadTouch pieces stacks e = (touching : Touching) × IsFirstTouch (metal pieces stacks) touching × (e ≡ errors.Touch touching)

touch_one : (pieces : List Piece) (stacks : List StackAt) → One (NothingTouches pieces stacks) (BadTouch pieces stacks)
touch_one pieces stacks = record {
  apart = λ e none bad. none bad.0 bad.1.is;
  one = λ e f a b. a.2 ∙ ap errors.Touch (one_first_touch (metal pieces stacks) a.0 b.0 a.1 b.1) ∙ sym b.2;
}

-- ## steps

-- the stacks of pieces, and that they touch nothing
abbrev Apart : Tech → NamedWires → List Piece → Type 0
Apart tech named pieces = Over (AreStacks tech named.vias named.spots pieces) (NothingTouches pieces)

abbrev BadApart : Tech → NamedWires → List Piece → WiredError → Type 0
BadApart tech named pieces = BadOver (AreStacks tech named.vias named.spots pieces) (BadTouch pieces)

abbrev Stand : Tech → NamedWires → List Piece → Type 0
Stand tech named pieces = SomeStacks tech named.vias named.spots pieces × Apart tech named pieces

abbrev BadStand : Tech → NamedWires → List Piece → WiredError → Type 0
BadStand tech named pieces = Then (BadEnd tech named.vias named.spots pieces) (SomeStacks tech named.vias named.spots pieces) (BadApart tech named pieces)

-- the pieces, and their stacks
abbrev Drawn : Tech → NamedWires → Type 0
Drawn tech named = Over (AreWirePieces named.shapes) (Stand tech named)

abbrev BadDrawn : Tech → NamedWires → WiredError → Type 0
BadDrawn tech named = BadOver (AreWirePieces named.shapes) (BadStand tech named)

-- all after the names
abbrev Placed : Tech → Wires → NamedWires → Type 0
Placed tech wires named = Within tech wires named × Drawn tech named

abbrev BadPlaced : Tech → Wires → NamedWires → WiredError → Type 0
BadPlaced tech wires named = Then (BadLimit tech wires named) (Within tech wires named) (BadDrawn tech named)

abbrev Well : Tech → Wires → Type 0
Well tech wires = SomeNamed tech wires × Over (AreNamed tech wires) (Placed tech wires)

abbrev Badly : Tech → Wires → WiredError → Type 0
Badly tech wires = Then (BadNames tech wires) (SomeNamed tech wires) (BadOver (AreNamed tech wires) (BadPlaced tech wires))

stand_one : OneResistance → (tech : Tech) (named : NamedWires) (pieces : List Piece) → One (Stand tech named pieces) (BadStand tech named pieces)
stand_one one tech named pieces =
    and_then (SomeStacks tech named.vias named.spots pieces) (Apart tech named pieces) (BadEnd tech named.vias named.spots pieces) (BadApart tech named pieces)
    (ends_one one tech named.vias named.spots pieces)
    (over (AreStacks tech named.vias named.spots pieces) (NothingTouches pieces) (BadTouch pieces) (one_stacks one tech named.vias named.spots pieces) (λ stacks is. touch_one pieces stacks))

placed_one : OneResistance → (tech : Tech) (wires : Wires) (named : NamedWires) → One (Placed tech wires named) (BadPlaced tech wires named)
placed_one one tech wires named =
    and_then (Within tech wires named) (Drawn tech named) (BadLimit tech wires named) (BadDrawn tech named) (limits_one tech wires named)
    (over (AreWirePieces named.shapes) (Stand tech named) (BadStand tech named) (one_wire_pieces named.shapes) (λ pieces is. stand_one one tech named pieces))

whole_one : OneResistance → (tech : Tech) (wires : Wires) → One (Well tech wires) (Badly tech wires)
whole_one one tech wires =
    and_then (SomeNamed tech wires) (Over (AreNamed tech wires) (Placed tech wires)) (BadNames tech wires) (BadOver (AreNamed tech wires) (BadPlaced tech wires)) (names_one tech wires)
    (over (AreNamed tech wires) (Placed tech wires) (BadPlaced tech wires) (one_named tech wires) (λ named is. placed_one one tech wires named))

-- ## grids and refusals as steps

well : (tech : Tech) (design : Design) (wires : Wires) (grid : Grid) → IsWiredGrid tech design wires grid → Well tech wires
well tech design wires grid is = (
  (is.named, is.are_named),
  (is.named, is.are_named, (within_is tech wires is.named is.within, (grid.pieces, is.pieces, ((grid.stacks, is.stacks), (grid.stacks, is.stacks, is.apart))))),
)

-- a limit that is passed
passed : (tech : Tech) (wires : Wires) (e : WiredError) (named : NamedWires) → AreNamed tech wires named → BadLimit tech wires named e → Badly tech wires e
passed tech wires e named are bad = inr ((named, are), (named, are, inl bad))

badly : (tech : Tech) (design : Design) (wires : Wires) (e : WiredError) → IsWiredRefused tech design wires e → e ≢ errors.Want → Badly tech wires e
badly tech design wires (errors.UnknownName name) is known = inl (inl (name, is, refl))
badly tech design wires (errors.NetCount power ground) is known = inl (inr (power, ground, is, refl))
badly tech design wires (errors.ViaLayers via) is known = passed tech wires _ is.named is.are_named (inl (via, is.refused.0, is.refused.1, refl))
badly tech design wires (errors.ViaSize via) is known =
    let first = right is.refused in passed tech wires _ is.named is.are_named (inr (left is.refused, inl (via, first.0, first.1, refl)))
badly tech design wires (errors.OddWidth net width) is known =
    let r = is.refused in passed tech wires _ is.named is.are_named (inr (r.0, inr (r.1, inl (net, width, r.2, refl))))
badly tech design wires (errors.NoSheet layer) is known =
    let r = is.refused in
    let bare = r.3 in
    passed tech wires _ is.named is.are_named (inr (r.0, inr (r.1, inr (r.2, inl (bare.place, bare.shape, bare.first, ap errors.NoSheet (sym bare.on_layer))))))
badly tech design wires (errors.NoResistance layer) is known =
    let r = is.refused in
    let bare = r.4 in
    passed tech wires _ is.named is.are_named
    (inr (r.0, inr (r.1, inr (r.2, inr (r.3, inl (bare.place, bare.via, bare.first, ap errors.NoResistance (sym bare.on_layer)))))))
badly tech design wires (errors.TooMany Segments) is known =
    let r = is.refused in passed tech wires _ is.named is.are_named (inr (r.0, inr (r.1, inr (r.2, inr (r.3, inr (r.4, inl (r.5, refl)))))))
badly tech design wires (errors.TooMany Vias) is known =
    let r = is.refused in passed tech wires _ is.named is.are_named (inr (r.0, inr (r.1, inr (r.2, inr (r.3, inr (r.4, inr (r.5, (r.6, refl))))))))
badly tech design wires (errors.ViaOff via x y) is known =
    let has = is.has in
    inr (
      (is.named, has.are_named),
      (is.named, has.are_named, inr (within_is tech wires is.named has.within, (is.pieces, has.are_pieces, inl (via, x, y, is.first, refl)))),
    )
badly tech design wires (errors.Touch touching) is known =
    let has = is.has in
    inr (
      (is.named, has.are_named),
      (is.named, has.are_named, inr (within_is tech wires is.named has.within, (is.pieces, has.are_pieces, inr ((is.stacks, is.are_stacks), (is.stacks, is.are_stacks, (touching, is.first, refl)))))),
    )
badly tech design wires errors.Want is known = absurd (known refl)

is_want : (e : WiredError) → (e ≡ errors.Want) ⊎ (e ≢ errors.Want)
is_want errors.Want = inl refl
is_want (errors.UnknownName name) = inr (λ same. absurd (cc))
is_want (errors.NetCount power ground) = inr (λ same. absurd (cc))
is_want (errors.ViaLayers via) = inr (λ same. absurd (cc))
is_want (errors.ViaSize via) = inr (λ same. absurd (cc))
is_want (errors.OddWidth net width) = inr (λ same. absurd (cc))
is_want (errors.NoSheet layer) = inr (λ same. absurd (cc))
is_want (errors.NoResistance layer) = inr (λ same. absurd (cc))
is_want (errors.TooMany what) = inr (λ same. absurd (cc))
is_want (errors.ViaOff via x y) = inr (λ same. absurd (cc))
is_want (errors.Touch touching) = inr (λ same. absurd (cc))

-- ## laws

pub one_cause : OneResistance → (tech : Tech) (design : Design) (wires : Wires) (e f : WiredError) → IsWiredRefused tech design wires e → IsWiredRefused tech design wires f
    → e ≢ errors.Want → f ≢ errors.Want → e ≡ f
one_cause one tech design wires e f is also known too = (whole_one one tech wires).one e f (badly tech design wires e is known) (badly tech design wires f also too)

pub want : OneResistance → (tech : Tech) (design : Design) (wires : Wires) (grid : Grid) (e : WiredError) → IsWiredGrid tech design wires grid → IsWiredRefused tech design wires e
    → e ≡ errors.Want
want one tech design wires grid e is refused = by_want (is_want e)
  where
    by_want : (e ≡ errors.Want) ⊎ (e ≢ errors.Want) → e ≡ errors.Want
    by_want (inl same) = same
    by_want (inr known) = absurd ((whole_one one tech wires).apart e (well tech design wires grid is) (badly tech design wires e refused known))
