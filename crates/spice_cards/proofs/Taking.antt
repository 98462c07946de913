-- One more card.
use Rattle.std.proofs.Common.{◌≡◌, ◌↔◌, ◌||◌, ℕ, ◌≤◌, ◌^◌, ℤ, pos, Bool, true, false, if◌then◌else◌, List, [], ◌++◌, Contains, Option, None, Some, Ok, refl, sym, ◌∙◌, ap, subst, append_assoc}
use Rattle.std.specs.Prelude.{neg_ℤ, unsigned_abs}
use Rattle.std.proofs.lemmas.List.{append-nil}
use Rattle.entry_list.specs.InTurn.{InTurn}
use Rattle.name_table.specs.Numbering.{AreDistinct, TakesName}
use Rattle.node_names.specs.Folding.{folded}
use Rattle.number_place.specs.Place.{IsNumberAt}
use Rattle.spice_cards.specs.declared.record.Cards.{Cards}
use Rattle.spice_cards.specs.Card.{Source, Load, Ends, is_ground}
use Rattle.spice_cards.specs.Fault.{is_zero}
use Rattle.spice_cards.specs.Number.{volts, amperes}
use Rattle.spice_cards.specs.Record.{HasNumber, pad_part, SaysSource, source_nodes, short_part, resistor_part, load_part, SaysCapacitor, SaysCards, IsRange, but_ground, LoadsNode}
use Rattle.spice_cards.specs.inside.Held.{Adds, AddsPad, AddsShort, AddsLoad, TakesNames}
use Rattle.spice_cards.proofs.Lists.{all-grow, all-joined}
use Rattle.spice_cards.proofs.Says.{loads-more}

-- ## nothing read

pub empty_cards : (cards : Cards) → AreDistinct [] → cards.names ≡ [] → cards.resistors.items ≡ [] → cards.shorts.items ≡ [] → cards.pads.items ≡ [] → cards.loads.items ≡ [] → cards.caps.items ≡ [] → SaysCards [] cards
empty_cards cards none names resistors shorts pads loads caps = record {
  parts = [];
  says = tt;
  distinct = subst AreDistinct (sym names) none;
  nodes = λ x. subst (λ z. Contains z x ↔ Contains {X = List ℕ} [] x) (sym names) ((λ k. k), (λ k. k));
  resistors = resistors;
  shorts = shorts;
  pads = pads;
  loads = loads;
  caps = subst (λ z. InTurn SaysCapacitor [] z) (sym caps) tt;
}

-- ## resistors

pub zero_part : (zero : Bool) (v k : ℤ) (m n : ℕ) → zero ≡ is_zero k → k ≡ v → zero ≡ true →
    short_part m n ≡ (if is_zero v then short_part m n else resistor_part m n v)
zero_part zero v k m n e same is =
    ap (λ z. if z then short_part m n else resistor_part m n v) (sym is ∙ e ∙ ap is_zero same)

pub other_part : (zero : Bool) (v k : ℤ) (m n : ℕ) → zero ≡ is_zero k → k ≡ v → zero ≡ false →
    resistor_part m n k ≡ (if is_zero v then short_part m n else resistor_part m n v)
other_part zero v k m n e same is =
    ap (λ z. resistor_part m n z) same ∙ ap (λ z. if z then short_part m n else resistor_part m n v) (sym is ∙ e ∙ ap is_zero same)

-- ## loads

-- A range is within the limit of currents.
pub range_within : (text : List ℕ) (ends : Option Ends) (v low high : ℤ) → IsNumberAt amperes text (Ok v) → IsRange ends v low high → (unsigned_abs low ≤ 10 ^ 18) × (unsigned_abs high ≤ 10 ^ 18)
range_within text None v low high is h = (
  subst (λ z. unsigned_abs z ≤ 10 ^ 18) (sym h.0) is.1.2.within,
  subst (λ z. unsigned_abs z ≤ 10 ^ 18) (sym h.1) is.1.2.within,
)
range_within text (Some ends) v low high is h = (h.0.1.2.within, h.1.1.2.within)

pub load_adds : (a b value : List ℕ) (range : Option Ends) (v low high back_low back_high : ℤ) (old mid new : Cards) →
    IsNumberAt amperes value (Ok v) → IsRange range v low high → back_low ≡ neg_ℤ high → back_high ≡ neg_ℤ low →
    AddsLoad a low high old mid → AddsLoad b back_low back_high mid new → Adds (Load a b value range) old new
load_adds a b value range v low high back_low back_high old mid new is ranges turned_low turned_high h k = record {
  part = load_part (h.loads ++ k.loads);
  says = (
    v,
    low,
    high,
    is,
    ranges,
    (
      h.loads,
      k.loads,
      loads-more (is_ground a) mid.names new.names a low high h.loads (all-grow mid.names (but_ground b) new.names k.names) h.says,
      subst (λ z. LoadsNode (is_ground b) new.names b z (neg_ℤ low) k.loads) turned_low
          (subst (λ z. LoadsNode (is_ground b) new.names b back_low z k.loads) turned_high k.says),
      refl,
    ),
  );
  names = all-joined old.names (but_ground a) (but_ground b) mid.names new.names h.names k.names;
  distinct = λ d. k.distinct (h.distinct d);
  lists = record {
    resistors = k.lists.resistors ∙ ap (λ z. z ++ []) h.lists.resistors ∙ append-nil (old.resistors.items ++ []);
    shorts = k.lists.shorts ∙ ap (λ z. z ++ []) h.lists.shorts ∙ append-nil (old.shorts.items ++ []);
    pads = k.lists.pads ∙ ap (λ z. z ++ []) h.lists.pads ∙ append-nil (old.pads.items ++ []);
    loads = k.lists.loads ∙ ap (λ z. z ++ k.loads) h.lists.loads ∙ append_assoc old.loads.items h.loads k.loads;
  };
  caps = k.caps ∙ h.caps;
}

-- ## pads

says_first : (first : Bool) (names : List (List ℕ)) (a b : List ℕ) (v : ℤ) (n : ℕ) → HasNumber names a n → SaysSource first true names a b v (pad_part n v)
says_first true names a b v n h = (n, h, refl)
says_first false names a b v n h = (n, h, refl)

names_first : (first : Bool) (old new : List (List ℕ)) (a b : List ℕ) → TakesName old new (folded a) → TakesNames old (source_nodes first true a b) new
names_first true old new a b h = (new, h, refl)
names_first false old new a b h = (new, h, refl)

-- A source against `0` as its second node.
pub pad_adds : (a b value : List ℕ) (v kept : ℤ) (old new : Cards) → is_ground b ≡ true → IsNumberAt volts value (Ok v) → kept ≡ v → AddsPad a kept old new → Adds (Source a b value) old new
pad_adds a b value v kept old new second is same h = record {
  part = pad_part h.node kept;
  says = (
    v,
    is,
    subst (λ z. SaysSource (is_ground a) z new.names a b v (pad_part h.node kept)) (sym second)
        (subst (λ z. SaysSource (is_ground a) true new.names a b v (pad_part h.node z)) (sym same) (says_first (is_ground a) new.names a b v h.node h.says)),
  );
  names = subst (λ z. TakesNames old.names (source_nodes (is_ground a) z a b) new.names) (sym second) (names_first (is_ground a) old.names new.names a b h.names);
  distinct = λ d. h.distinct;
  lists = h.lists;
  caps = h.caps;
}

-- A source against `0` as its first node.
pub turned_adds : (a b value : List ℕ) (v kept : ℤ) (old new : Cards) → is_ground a ≡ true → is_ground b ≡ false → IsNumberAt volts value (Ok v) → kept ≡ neg_ℤ v →
    AddsPad b kept old new → Adds (Source a b value) old new
turned_adds a b value v kept old new first second is same h = record {
  part = pad_part h.node kept;
  says = (
    v,
    is,
    subst (λ z. SaysSource z (is_ground b) new.names a b v (pad_part h.node kept)) (sym first)
        (subst (λ z. SaysSource true z new.names a b v (pad_part h.node kept)) (sym second)
        (h.node, h.says, ap (λ z. pad_part h.node z) same)),
  );
  names = subst (λ z. TakesNames old.names (source_nodes z (is_ground b) a b) new.names) (sym first)
      (subst (λ z. TakesNames old.names (source_nodes true z a b) new.names) (sym second) (new.names, h.names, refl));
  distinct = λ d. h.distinct;
  lists = h.lists;
  caps = h.caps;
}

-- A source between two other nodes.
pub short_adds : (a b value : List ℕ) (v : ℤ) (old new : Cards) → is_ground a ≡ false → is_ground b ≡ false → IsNumberAt volts value (Ok v) → v ≡ pos 0 →
    AddsShort a b old new → Adds (Source a b value) old new
short_adds a b value v old new first second is zero h = record {
  part = short_part h.m h.n;
  says = (
    v,
    is,
    subst (λ z. SaysSource z (is_ground b) new.names a b v (short_part h.m h.n)) (sym first)
        (subst (λ z. SaysSource false z new.names a b v (short_part h.m h.n)) (sym second) (h.m, h.n, h.first, h.second, zero, refl)),
  );
  names = subst (λ z. TakesNames old.names (source_nodes z (is_ground b) a b) new.names) (sym first)
      (subst (λ z. TakesNames old.names (source_nodes false z a b) new.names) (sym second) h.names);
  distinct = λ d. h.distinct;
  lists = h.lists;
  caps = h.caps;
}

-- Neither node of a source is `0`.
pub neither : (a b : Bool) → a ≡ false → b ≡ false → (a || b) ≡ false
neither false b h k = k
neither true b h k = absurd (let t : true ≡ false = h in cc)
