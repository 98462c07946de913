-- What a card says stays true while names are added.
use Rattle.std.proofs.Common.{ℕ, ℤ, Bool, true, false, List}
use Rattle.spice_cards.specs.Card.{Card, Resistor, Source, Load, Capacitor, is_ground}
use Rattle.spice_cards.specs.Record.{Part, SaysCard, SaysSource, LoadsNode}
use Rattle.spice_cards.proofs.Lists.{Grows}
use Rattle.grid_net.specs.declared.part.Load.{Load as NetLoad}
use Rattle.node_names.specs.Folding.{folded}

source-more : (first second : Bool) (old new : List (List ℕ)) (a b : List ℕ) (v : ℤ) (part : Part) → Grows old new →
    SaysSource first second old a b v part → SaysSource first second new a b v part
source-more true true old new a b v part grows h = (h.0, grows h.0 (folded a) h.1, h.2)
source-more true false old new a b v part grows h = (h.0, grows h.0 (folded b) h.1, h.2)
source-more false true old new a b v part grows h = (h.0, grows h.0 (folded a) h.1, h.2)
source-more false false old new a b v part grows h = (h.0, h.1, grows h.0 (folded a) h.2, grows h.1 (folded b) h.3, h.4, h.5)

pub loads-more : (ground : Bool) (old new : List (List ℕ)) (name : List ℕ) (low high : ℤ) (loads : List NetLoad) → Grows old new →
    LoadsNode ground old name low high loads → LoadsNode ground new name low high loads
loads-more true old new name low high loads grows h = h
loads-more false old new name low high loads grows h = (h.0, grows h.0 (folded name) h.1, h.2)

pub says-more : (old new : List (List ℕ)) → Grows old new → (card : Card) (part : Part) → SaysCard old card part → SaysCard new card part
says-more old new grows (Resistor a b value) part h = (h.0, h.1, h.2, h.3, grows h.1 (folded a) h.4, grows h.2 (folded b) h.5, h.6)
says-more old new grows (Source a b value) part h = (h.0, h.1, source-more (is_ground a) (is_ground b) old new a b h.0 part grows h.2)
says-more old new grows (Load a b value range) part h =
    let s = h.5 in
    (h.0, h.1, h.2, h.3, h.4, (s.0, s.1, loads-more (is_ground a) old new a _ _ s.0 grows s.2, loads-more (is_ground b) old new b _ _ s.1 grows s.3, s.4))
says-more old new grows (Capacitor a b value) part h = h
