-- Pads of one line after another.
use Rattle.std.proofs.Common.{◌≡◌, ℕ, ◌+◌, ◌<◌, ◌==◌, true, false, eq-eqb, ℤ, pos, List, [], ◌∷◌, ◌++◌, take, length, get_or, Contains, Option, Some, None, refl, sym, ◌∙◌, subst, arith}
use Rattle.std.proofs.lemmas.Bool.{false≢true}
use Rattle.std.proofs.lemmas.List.{get_or_default}
use Rattle.grid_pieces.specs.Laws.Found.{place_of_true}
use Rattle.lef_tech.specs.declared.tech.Tech.{Tech}
use Rattle.bias_file.specs.declared.record.Bias.{Bias}
use Rattle.bias_file.specs.declared.record.PadAt.{PadAt}
use Rattle.bias_file.specs.declared.record.Supply.{Supply}
use Rattle.grid_pieces.specs.declared.grid.Grid.{Grid}
use Rattle.grid_taps.specs.declared.on_piece.Nets.{Nets}
use Rattle.grid_network.specs.declared.pad.PadOn.{PadOn}
use Rattle.grid_taps.specs.Naming.{At, IsFirst, NoneIs}
use Rattle.grid_taps.specs.Pads.{StandsOn, AreOnPieces, InOrder}
use Rattle.grid_taps.specs.Refusals.{LacksSupply}
use Rattle.grid_taps.specs.inside.Steps.{lesser, NumberAmong}
use Rattle.grid_taps.specs.inside.Standing.{AreNetsOf}
use Rattle.grid_taps.proofs.Firsts.{first_none, more_at, kept_at}
use Rattle.grid_taps.specs.Laws.Ordered.{order_more}

nothing : PadOn
nothing = record { piece = 0; along = pos 0; volts = pos 0 }

-- it stands on no piece
abbrev pub IsNowhere : Grid → Tech → PadAt → Type 0
IsNowhere grid tech pad = (number : ℕ) (along : ℤ) → StandsOn grid tech pad number along → ⊥

pub record IsStoodTo (grid : Grid) (tech : Tech) (bias : Bias) (nets : Nets) (lines : List PadAt) (i : ℕ) (pads : List PadOn) (off : Option ℕ) : Type 0 where
  pub nets_are : AreNetsOf grid bias nets
  pub are : InOrder (AreOnPieces grid tech bias) (take i lines) pads
  pub first_off : IsFirst (NumberAmong (λ (p : PadAt). p.line) (IsNowhere grid tech) (take i lines)) off

pub stood_none : (grid : Grid) (tech : Tech) (bias : Bias) (nets : Nets) (lines : List PadAt) (pads : List PadOn) → pads ≡ [] → AreNetsOf grid bias nets
    → IsStoodTo grid tech bias nets lines 0 pads None
stood_none grid tech bias nets lines pads none are = record {
  nets_are = are;
  are = none;
  first_off = first_none (λ (p : PadAt). p.line) (IsNowhere grid tech) lines;
}

-- where each net with a piece has a supply, a pad that is on no piece with its supply is nowhere
nowhere : (grid : Grid) (tech : Tech) (bias : Bias) (pad : PadAt) → NoneIs (LacksSupply grid bias) → AreOnPieces grid tech bias pad [] → IsNowhere grid tech pad
nowhere grid tech bias pad supplied on number along stands =
    supplied stands.piece.net (stands.piece, (number, stands.is.0, stands.is.1), (refl, λ s in_s at. lacks s in_s at))
  where
    lacks : (s : Supply) → Contains bias.supplies s → At grid.nets stands.piece.net s.net → ⊥
    lacks s in_s at =
        let same : s.net ≡ pad.net = sym at.1 ∙ get_or_default grid.nets stands.piece.net s.net pad.net at.0 ∙ stands.net.1 in
        let one : PadOn = record { piece = number; along = along; volts = s.volts } in
        let there = on.every one (record { stands = stands; volts = (s, in_s, (same, refl)) }) in
        absurd (omega (arith, there.1))

-- one more line, whose pad stands somewhere
pub stood_on : (grid : Grid) (tech : Tech) (bias : Bias) (nets new : Nets) (lines : List PadAt) (i : ℕ) (pad : PadAt) (pads on all : List PadOn) (off : Option ℕ)
    → i < length lines → pad ≡ get_or lines i pad → AreNetsOf grid bias new → AreOnPieces grid tech bias pad on → 0 < length on → all ≡ pads ++ on
    → IsStoodTo grid tech bias nets lines i pads off → IsStoodTo grid tech bias new lines (i + 1) all off
stood_on grid tech bias nets new lines i pad pads on all off within is nets_are there some join h = record {
  nets_are = nets_are;
  are = subst (λ (z : List PadOn). InOrder (AreOnPieces grid tech bias) (take (i + 1) lines) z) (sym join)
      (order_more (AreOnPieces grid tech bias) lines i pad pads on within h.are (subst (λ (p : PadAt). AreOnPieces grid tech bias p on) is there));
  first_off = kept_at (λ (p : PadAt). p.line) (IsNowhere grid tech) lines i pad off within is h.first_off
      (λ none. let first = there.each 0 nothing some in none (get_or on 0 nothing).piece (get_or on 0 nothing).along first.stands);
}

-- one whose pad stands nowhere
pub stood_off : (grid : Grid) (tech : Tech) (bias : Bias) (nets new : Nets) (lines : List PadAt) (i : ℕ) (pad : PadAt) (pads on all : List PadOn) (off : Option ℕ)
    → NoneIs (LacksSupply grid bias) → i < length lines → pad ≡ get_or lines i pad → AreNetsOf grid bias new → AreOnPieces grid tech bias pad on → on ≡ [] → all ≡ pads ++ on
    → IsStoodTo grid tech bias nets lines i pads off → IsStoodTo grid tech bias new lines (i + 1) all (lesser off (Some pad.line))
stood_off grid tech bias nets new lines i pad pads on all off supplied within is nets_are there none join h = record {
  nets_are = nets_are;
  are = subst (λ (z : List PadOn). InOrder (AreOnPieces grid tech bias) (take (i + 1) lines) z) (sym join)
      (order_more (AreOnPieces grid tech bias) lines i pad pads on within h.are (subst (λ (p : PadAt). AreOnPieces grid tech bias p on) is there));
  first_off = more_at (λ (p : PadAt). p.line) (IsNowhere grid tech) lines i pad pad.line off within is refl h.first_off
      (nowhere grid tech bias pad supplied (subst (λ (z : List PadOn). AreOnPieces grid tech bias pad z) none there));
}

-- a list by its length
pub empty_by : {X : Type 0} (xs : List X) (n : ℕ) → n ≡ length xs → (n == 0) ≡ true → xs ≡ []
empty_by [] n same is = refl
empty_by (x ∷ xs) n same is = absurd (let zero = place_of_true n 0 is in omega arith)

pub some_by : {X : Type 0} (xs : List X) (n : ℕ) → n ≡ length xs → (n == 0) ≡ false → 0 < length xs
some_by [] n same is = absurd (false≢true (sym is ∙ eq-eqb n 0 same))
some_by (x ∷ xs) n same is = omega arith
