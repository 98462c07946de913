-- One more unit.
use Rattle.std.proofs.Common.{◌≡◌, ◌<◌, ◌≤◌, ℕ, Bool, length, arith, List, [], ◌∷◌, ◌++◌, map, All, Contains, Option, Some, None, Result, Ok, Err, OnOk, refl, sym, ◌∙◌, ap, subst}
use Rattle.std.proofs.lemmas.List.{append-nil, map_push}
use Rattle.std.proofs.lemmas.List.Elements.{All-nil, All-weaker, All-push, Contains-append_left}
use Rattle.std.specs.declared.alloc.AllocError.{AllocError}
use Rattle.entry_list.specs.InTurn.{InTurn}
use Rattle.entry_list.specs.Laws.{in-turn-more}
use Rattle.named_entries.specs.Named.{NamedList, HoldsNamed}
use Rattle.def_wiring.specs.declared.act.Act.{Act}
use Rattle.def_wiring.specs.declared.act.Act.TheVariants as acts
use Rattle.def_wiring.specs.declared.error.Late.{Late}
use Rattle.def_wiring.specs.declared.error.WiresKind.{WiresKind}
use Rattle.def_wiring.specs.declared.held.Held.{Held}
use Rattle.def_wiring.specs.declared.held.Sections.{Sections}
use Rattle.def_wiring.specs.declared.path.Path.{Path}
use Rattle.def_wiring.specs.declared.path.Point.{Point}
use Rattle.def_wiring.specs.declared.record.Segment.{Segment}
use Rattle.def_wiring.specs.declared.record.ViaDef.{ViaDef}
use Rattle.def_wiring.specs.declared.record.ViaPlace.{ViaPlace}
use Rattle.def_wiring.specs.declared.record.WiredNet.{WiredNet}
use Rattle.def_wiring.specs.declared.section.Section.{Section}
use Rattle.def_wiring.specs.declared.section.Section.TheVariants as places
use Rattle.def_wiring.specs.declared.sort.Sort.{Sort}
use Rattle.def_wiring.specs.declared.sort.Sort.TheVariants as sorts
use Rattle.def_wiring.specs.declared.standing.Standing.{Standing}
use Rattle.def_wiring.specs.Fault.{AskedFault, WordFault, IsFirstLate, NoneLate}
use Rattle.def_wiring.specs.inside.Held.{IsLate, WhileFine, net_said, Tells, Holds, Leads, Notes, Unites}
use Rattle.def_wiring.specs.Limits.{IsKnown, NetKnown}
use Rattle.def_wiring.specs.Path.{point_of}
use Rattle.def_wiring.specs.Record.{SaidVia, SaidSegment, SaidPlace, SaidNet, Asked, Said, Heard, SaysVia, SaysSegment, SaysPlace, SaysNet, segment_from, place_of, net_of, cleared, said_name, said_by, noted, opened_via, opened_net, said_unit, known_vias, heard_after, heard_from, heard_of}
use Rattle.def_wiring.specs.Standing.{standing_after, section_in}
use Rattle.def_wiring.proofs.Late.{late_stays, late_more, fine_more, late_of_none}
use Rattle.reading.specs.Word.{Token}

-- ## where units lead

more_from : (heard : Heard) (units : List (List Token)) (unit : List Token) →
    heard_from heard (units ++ unit ∷ []) ≡ heard_after (heard_from heard units) unit
more_from heard [] unit = refl
more_from heard (u ∷ units) unit = more_from (heard_after heard u) units unit

heard_more : (units : List (List Token)) (unit : List Token) → heard_of (units ++ unit ∷ []) ≡ heard_after (heard_of units) unit
heard_more units unit = more_from _ units unit

-- What a whole unit says, and where it leads.
pub taken : (units : List (List Token)) (unit : List Token) (old new : Held) → Holds units old → new.standing ≡ standing_after old.standing unit →
    Unites old.standing unit old.said new.said → Holds (units ++ unit ∷ []) new
taken units unit old new h goes unites =
    let said = (heard_of units).said in
    let next : Tells (said_unit (section_in old.standing) old.standing unit said) new.said = unites said h.said in
    let from : Tells (heard_after (heard_of units) unit).said new.said =
    subst (λ (z : Standing). Tells (said_unit (section_in z) z unit said) new.said) h.standing next in
    record {
      standing = goes ∙ ap (λ (z : Standing). standing_after z unit) h.standing ∙ sym (ap (λ (z : Heard). z.standing) (heard_more units unit));
      said = subst (λ (z : Heard). Tells z.said new.said) (sym (heard_more units unit)) from;
    }

pub took : (r : Result (Unit {0}) AllocError) (A B : Type 0) → (A → B) → OnOk r A → OnOk r B
took (Ok x) A B f h = f h
took (Err e) A B f h = tt

pub took_both : (r : Result (Unit {0}) AllocError) (A B C : Type 0) → (A → B → C) → OnOk r A → OnOk r B → OnOk r C
took_both (Ok x) A B C f h k = f h k
took_both (Err e) A B C f h k = tt

-- ## lists of entries

pub segments_as : (xs : List SaidSegment) (es fs : List Segment) → fs ≡ es → InTurn SaysSegment xs es → InTurn SaysSegment xs fs
segments_as xs es fs e h = subst (λ (z : List Segment). InTurn SaysSegment xs z) (sym e) h

pub places_as : (xs : List SaidPlace) (es fs : List ViaPlace) → fs ≡ es → InTurn SaysPlace xs es → InTurn SaysPlace xs fs
places_as xs es fs e h = subst (λ (z : List ViaPlace). InTurn SaysPlace xs z) (sym e) h

known_as : (names : List (List ℕ)) (es fs : List ViaPlace) → fs ≡ es → All (IsKnown names) es → All (IsKnown names) fs
known_as names es fs e h = subst (λ (z : List ViaPlace). All (IsKnown names) z) (sym e) h

no_places : (names : List (List ℕ)) (es : List ViaPlace) → es ≡ [] → All (IsKnown names) es
no_places names es e = known_as names [] es e (All-nil (IsKnown names))

fine_is : (late : Option Late) (holds : Type 0) → late ≡ None → WhileFine late holds → holds
fine_is None holds e h = h
fine_is (Some late) holds e h = absurd (let t : ◌≡◌ {A = Option Late} (Some late) None = e in cc)

is_fine : (late : Option Late) (holds : Type 0) → holds → WhileFine late holds
is_fine None holds h = h
is_fine (Some late) holds h = tt

is_lost : (late : Option Late) (one : Late) (holds : Type 0) → late ≡ Some one → WhileFine late holds
is_lost (Some late) one holds e = tt
is_lost None one holds e = absurd (let t : ◌≡◌ {A = Option Late} None (Some one) = e in cc)

-- ## an entry

-- Nothing of an open entry is left.
pub all_cleared : (old new : Sections) → new.via_names ≡ old.via_names → new.net_names ≡ old.net_names → new.vias ≡ old.vias → new.nets ≡ old.nets →
    new.late ≡ None → new.segments.items ≡ [] → new.places.items ≡ [] → (said : Said) → Tells said old → Tells (cleared said) new
all_cleared old new vias_named nets_named vias nets fine segments places said h = record {
  via_names = vias_named ∙ h.via_names;
  net_names = nets_named ∙ h.net_names;
  vias = subst (λ (z : NamedList ViaDef). HoldsNamed SaysVia said_name said.vias z) (sym vias) h.vias;
  nets = subst (λ (z : NamedList WiredNet). HoldsNamed SaysNet net_said said.nets z) (sym nets) h.nets;
  late = subst (λ (z : Option Late). IsLate (known_vias said) [] z) (sym fine) tt;
  segments = is_fine new.late _ (segments_as [] [] new.segments.items segments tt);
  places = is_fine new.late _ (places_as [] [] new.places.items places tt);
  known = no_places new.vias.names new.places.items places;
  nets_known = subst (λ (z : NamedList WiredNet). All (NetKnown new.vias.names) z.entries) (sym nets)
      (subst (λ (z : NamedList ViaDef). All (NetKnown z.names) old.nets.entries) (sym vias) h.nets_known);
}

-- One more name.
pub via_named : (name : List ℕ) (names : List (List ℕ)) (old : Sections) → names ≡ old.via_names ++ name ∷ [] → (said : Said) → Tells said old →
    Tells (record said { via_names = said.via_names ++ name ∷ [] }) (record old { via_names = names })
via_named name names old is said h = record {
  via_names = is ∙ ap (λ z. z ++ name ∷ []) h.via_names;
  net_names = h.net_names;
  vias = h.vias;
  nets = h.nets;
  late = h.late;
  segments = h.segments;
  places = h.places;
  known = h.known;
  nets_known = h.nets_known;
}

pub net_named : (name : List ℕ) (names : List (List ℕ)) (old : Sections) → names ≡ old.net_names ++ name ∷ [] → (said : Said) → Tells said old →
    Tells (record said { net_names = said.net_names ++ name ∷ [] }) (record old { net_names = names })
net_named name names old is said h = record {
  via_names = h.via_names;
  net_names = is ∙ ap (λ z. z ++ name ∷ []) h.net_names;
  vias = h.vias;
  nets = h.nets;
  late = h.late;
  segments = h.segments;
  places = h.places;
  known = h.known;
  nets_known = h.nets_known;
}

-- ## words that are kept

-- A word after one that shows a fault.
pub noted_after : (asked : Asked) (old : Sections) (late : Late) → old.late ≡ Some late → Notes None asked old old
noted_after asked old late is said h = record {
  via_names = h.via_names;
  net_names = h.net_names;
  vias = h.vias;
  nets = h.nets;
  late = subst (λ (z : Option Late). IsLate (known_vias said) (said.asked ++ asked ∷ []) z) (sym is)
      (late_stays (known_vias said) said.asked asked late (subst (λ (z : Option Late). IsLate (known_vias said) said.asked z) is h.late));
  segments = h.segments;
  places = h.places;
  known = h.known;
  nets_known = h.nets_known;
}

-- The first word that shows a fault.
pub noted_late : (asked : Asked) (old : Sections) (late : Late) → old.late ≡ None → AskedFault old.vias.names asked late.kind →
    late.place ≡ asked.word.place → Notes None asked old (record old { late = Some late })
noted_late asked old late fine shows at said h = record {
  via_names = h.via_names;
  net_names = h.net_names;
  vias = h.vias;
  nets = h.nets;
  late = late_more (known_vias said) said.asked asked late (subst (λ (z : Option Late). IsLate (known_vias said) said.asked z) fine h.late)
      (subst (λ (z : List (List ℕ)). AskedFault z asked late.kind) h.vias.names shows) at;
  segments = tt;
  places = tt;
  known = h.known;
  nets_known = h.nets_known;
}

-- A word that shows none, as none before it does.
pub noted_fine : (asked : Asked) (old : Sections) → old.late ≡ None → ((kind : WiresKind) → AskedFault old.vias.names asked kind → ⊥) →
    Notes None asked old old
noted_fine asked old fine none said h = record {
  via_names = h.via_names;
  net_names = h.net_names;
  vias = h.vias;
  nets = h.nets;
  late = subst (λ (z : Option Late). IsLate (known_vias said) (said.asked ++ asked ∷ []) z) (sym fine)
      (fine_more (known_vias said) said.asked asked (subst (λ (z : Option Late). IsLate (known_vias said) said.asked z) fine h.late)
      (subst (λ (z : List (List ℕ)). (kind : WiresKind) → AskedFault z asked kind → ⊥) h.vias.names none));
  segments = h.segments;
  places = h.places;
  known = h.known;
  nets_known = h.nets_known;
}

-- ## what words do

abbrev said_via : Standing → SaidVia
said_via there = record { name = there.name; words = there.entry }

known_more : (names : List (List ℕ)) (name : List ℕ) (places : List ViaPlace) → All (IsKnown names) places → All (IsKnown (names ++ name ∷ [])) places
known_more names name places h =
    All-weaker (IsKnown names) (IsKnown (names ++ name ∷ [])) (λ place known. Contains-append_left names (name ∷ []) place.via known) places h

nets_more : (names : List (List ℕ)) (name : List ℕ) (nets : List WiredNet) → All (NetKnown names) nets → All (NetKnown (names ++ name ∷ [])) nets
nets_more names name nets h =
    All-weaker (NetKnown names) (NetKnown (names ++ name ∷ [])) (λ net known. known_more names name net.vias known) nets h

named_as : {L E : Type 0} (says : L → E → Type 0) (name : L → List ℕ) (lines : List L) (line : L) (old new : NamedList E) (entry : E) →
    new.names ≡ old.names ++ name line ∷ [] → new.entries ≡ old.entries ++ entry ∷ [] → says line entry → HoldsNamed says name lines old →
    HoldsNamed says name (lines ++ line ∷ []) new
named_as {L} {E} says name lines line old new entry names entries s h = record {
  names = names ∙ ap (λ z. z ++ name line ∷ []) h.names ∙ sym (map_push name lines line);
  entries = subst (λ (z : List E). InTurn says (lines ++ line ∷ []) z) (sym entries) (in-turn-more says lines old.entries line entry h.entries s);
}

-- A generated via ends.
pub via_ended : (there : Standing) (word : Token) (old now : Sections) (via : ViaDef) (vias : NamedList ViaDef) →
    ((said : Said) → Tells said old → Tells (cleared said) now) → SaysVia (record { name = there.name; words = there.entry }) via →
    vias.names ≡ now.vias.names ++ there.name ∷ [] → vias.entries ≡ now.vias.entries ++ via ∷ [] →
    Leads acts.EndsVia there word old (record now { vias = vias })
via_ended there word old now via vias clears says names entries said before =
    let h : Tells (cleared said) now = clears said before in
    record {
      via_names = h.via_names;
      net_names = h.net_names;
      vias = named_as SaysVia said_name said.vias (said_via there) now.vias vias via names entries says h.vias;
      nets = h.nets;
      late = late_of_none (known_vias said) (map said_name (said.vias ++ said_via there ∷ [])) now.late h.late;
      segments = h.segments;
      places = h.places;
      known = subst (λ (z : List (List ℕ)). All (IsKnown z) now.places.items) (sym names) (known_more now.vias.names there.name now.places.items h.known);
      nets_known = subst (λ (z : List (List ℕ)). All (NetKnown z) now.nets.entries) (sym names)
          (nets_more now.vias.names there.name now.nets.entries h.nets_known);
    }

-- A point ends after a word that shows a fault.
pub point_lost : (there : Standing) (word : Token) (old : Sections) (late : Late) → old.late ≡ Some late → Leads acts.Point there word old old
point_lost there word old late is said h = record {
  via_names = h.via_names;
  net_names = h.net_names;
  vias = h.vias;
  nets = h.nets;
  late = h.late;
  segments = is_lost old.late late _ is;
  places = h.places;
  known = h.known;
  nets_known = h.nets_known;
}

-- The first point of a path ends.
pub point_first : (there : Standing) (word : Token) (old : Sections) → there.path.last ≡ None → Leads acts.Point there word old old
point_first there word old none said h = record {
  via_names = h.via_names;
  net_names = h.net_names;
  vias = h.vias;
  nets = h.nets;
  late = h.late;
  segments = subst (λ (z : List SaidSegment). WhileFine old.late (InTurn SaysSegment z old.segments.items))
      (sym (ap (λ (z : Option Point). said.segments ++ segment_from z there.path) none ∙ append-nil said.segments)) h.segments;
  places = h.places;
  known = h.known;
  nets_known = h.nets_known;
}

abbrev said_segment : Path → Point → SaidSegment
said_segment path from = record { layer = path.layer; width = path.width; shape = path.shape; from = from; to = point_of path }

-- Another point ends, and with it a segment.
pub point_drawn : (there : Standing) (word : Token) (old new : Sections) (from : Point) (segment : Segment) → old.late ≡ None →
    there.path.last ≡ Some from → SaysSegment (record { layer = there.path.layer; width = there.path.width; shape = there.path.shape; from = from; to = point_of there.path }) segment →
    new.via_names ≡ old.via_names → new.net_names ≡ old.net_names → new.vias ≡ old.vias → new.nets ≡ old.nets → new.late ≡ old.late →
    new.segments.items ≡ old.segments.items ++ segment ∷ [] → new.places.items ≡ old.places.items → Leads acts.Point there word old new
point_drawn there word old new from segment fine last says vias_named nets_named vias nets late segments places said h = record {
  via_names = vias_named ∙ h.via_names;
  net_names = nets_named ∙ h.net_names;
  vias = subst (λ (z : NamedList ViaDef). HoldsNamed SaysVia said_name said.vias z) (sym vias) h.vias;
  nets = subst (λ (z : NamedList WiredNet). HoldsNamed SaysNet net_said said.nets z) (sym nets) h.nets;
  late = subst (λ (z : Option Late). IsLate (known_vias said) said.asked z) (sym late) h.late;
  segments = is_fine new.late _ (segments_as _ (old.segments.items ++ segment ∷ []) new.segments.items segments
      (subst (λ (z : Option Point). InTurn SaysSegment (said.segments ++ segment_from z there.path) (old.segments.items ++ segment ∷ [])) (sym last)
      (in-turn-more SaysSegment said.segments old.segments.items (said_segment there.path from) segment (fine_is old.late _ fine h.segments) says)));
  places = is_fine new.late _ (places_as said.places old.places.items new.places.items places (fine_is old.late _ fine h.places));
  known = known_as new.vias.names old.places.items new.places.items places
      (subst (λ (z : NamedList ViaDef). All (IsKnown z.names) old.places.items) (sym vias) h.known);
  nets_known = subst (λ (z : NamedList WiredNet). All (NetKnown new.vias.names) z.entries) (sym nets)
      (subst (λ (z : NamedList ViaDef). All (NetKnown z.names) old.nets.entries) (sym vias) h.nets_known);
}

-- A via is placed after a word that shows a fault.
pub place_lost : (there : Standing) (word : Token) (old : Sections) (late : Late) → old.late ≡ Some late → Leads acts.Place there word old old
place_lost there word old late is said h = record {
  via_names = h.via_names;
  net_names = h.net_names;
  vias = h.vias;
  nets = h.nets;
  late = h.late;
  segments = h.segments;
  places = is_lost old.late late _ is;
  known = h.known;
  nets_known = h.nets_known;
}

known_one : (names : List (List ℕ)) (places : List ViaPlace) (place : ViaPlace) → All (IsKnown names) places → Contains names place.via →
    All (IsKnown names) (places ++ place ∷ [])
known_one names places place h there = All-push (IsKnown names) places place h there

abbrev said_place : Path → List ℕ → SaidPlace
said_place path via = place_of path via

-- A via is placed.
pub place_added : (there : Standing) (word : Token) (old new : Sections) (path : Path) (via : List ℕ) (place : ViaPlace) → old.late ≡ None →
    there.path ≡ path → word.text ≡ via → SaysPlace (place_of path via) place → Contains old.vias.names place.via →
    new.via_names ≡ old.via_names → new.net_names ≡ old.net_names → new.vias ≡ old.vias → new.nets ≡ old.nets → new.late ≡ old.late →
    new.segments.items ≡ old.segments.items → new.places.items ≡ old.places.items ++ place ∷ [] → Leads acts.Place there word old new
place_added there word old new path via place fine on called says is_known vias_named nets_named vias nets late segments places said h = record {
  via_names = vias_named ∙ h.via_names;
  net_names = nets_named ∙ h.net_names;
  vias = subst (λ (z : NamedList ViaDef). HoldsNamed SaysVia said_name said.vias z) (sym vias) h.vias;
  nets = subst (λ (z : NamedList WiredNet). HoldsNamed SaysNet net_said said.nets z) (sym nets) h.nets;
  late = subst (λ (z : Option Late). IsLate (known_vias said) said.asked z) (sym late) h.late;
  segments = is_fine new.late _ (segments_as said.segments old.segments.items new.segments.items segments (fine_is old.late _ fine h.segments));
  places = is_fine new.late _ (places_as _ (old.places.items ++ place ∷ []) new.places.items places
      (subst (λ (z : Path). InTurn SaysPlace (said.places ++ place_of z word.text ∷ []) (old.places.items ++ place ∷ [])) (sym on)
      (subst (λ (z : List ℕ). InTurn SaysPlace (said.places ++ place_of path z ∷ []) (old.places.items ++ place ∷ [])) (sym called)
      (in-turn-more SaysPlace said.places old.places.items (said_place path via) place (fine_is old.late _ fine h.places) says))));
  known = known_as new.vias.names (old.places.items ++ place ∷ []) new.places.items places
      (subst (λ (z : NamedList ViaDef). All (IsKnown z.names) (old.places.items ++ place ∷ [])) (sym vias)
      (known_one old.vias.names old.places.items place h.known is_known));
  nets_known = subst (λ (z : NamedList WiredNet). All (NetKnown new.vias.names) z.entries) (sym nets)
      (subst (λ (z : NamedList ViaDef). All (NetKnown z.names) old.nets.entries) (sym vias) h.nets_known);
}

abbrev said_net : List ℕ → Bool → Said → SaidNet
said_net name power said = record { name = name; power = power; segments = said.segments; places = said.places }

net_known_one : (names : List (List ℕ)) (nets : List WiredNet) (net : WiredNet) → All (NetKnown names) nets → NetKnown names net →
    All (NetKnown names) (nets ++ net ∷ [])
net_known_one names nets net h one = All-push (NetKnown names) nets net h one

-- A net of power or ground ends.
pub net_ended : (there : Standing) (word : Token) (name : List ℕ) (power : Bool) (old new : Sections) (net : WiredNet) → old.late ≡ None →
    there.power ≡ Some power → there.name ≡ name → net.name ≡ name → net.power ≡ power → net.segments ≡ old.segments.items → net.vias ≡ old.places.items →
    new.via_names ≡ old.via_names → new.net_names ≡ old.net_names → new.vias ≡ old.vias → new.late ≡ old.late →
    new.nets.names ≡ old.nets.names ++ name ∷ [] → new.nets.entries ≡ old.nets.entries ++ net ∷ [] →
    new.segments.items ≡ [] → new.places.items ≡ [] → Leads acts.EndsNet there word old new
net_ended there word name power old new net fine is_wired called is_named is_power is_segments is_vias vias_named nets_named vias late names entries segments places said h = record {
  via_names = vias_named ∙ h.via_names;
  net_names = nets_named ∙ h.net_names;
  vias = subst (λ (z : NamedList ViaDef). HoldsNamed SaysVia said_name said.vias z) (sym vias) h.vias;
  nets = subst (λ (z : Option Bool). HoldsNamed SaysNet net_said (said.nets ++ net_of z there.name said) new.nets) (sym is_wired)
      (subst (λ (z : List ℕ). HoldsNamed SaysNet net_said (said.nets ++ net_of (Some power) z said) new.nets) (sym called)
      (named_as SaysNet net_said said.nets (said_net name power said) old.nets new.nets net names entries (record {
        name = is_named;
        power = is_power;
        segments = segments_as said.segments old.segments.items net.segments is_segments (fine_is old.late _ fine h.segments);
        vias = places_as said.places old.places.items net.vias is_vias (fine_is old.late _ fine h.places);
      }) h.nets));
  late = subst (λ (z : Option Late). IsLate (known_vias said) [] z) (sym (late ∙ fine)) tt;
  segments = is_fine new.late _ (segments_as [] [] new.segments.items segments tt);
  places = is_fine new.late _ (places_as [] [] new.places.items places tt);
  known = no_places new.vias.names new.places.items places;
  nets_known = subst (λ (z : List WiredNet). All (NetKnown new.vias.names) z) (sym entries)
      (subst (λ (z : NamedList ViaDef). All (NetKnown z.names) (old.nets.entries ++ net ∷ [])) (sym vias)
      (net_known_one old.vias.names old.nets.entries net h.nets_known
      (known_as old.vias.names old.places.items net.vias is_vias h.known)));
}

-- Another net ends.
pub other_ended : (there : Standing) (word : Token) (old now : Sections) → there.power ≡ None → ((said : Said) → Tells said old → Tells (cleared said) now) →
    Leads acts.EndsNet there word old now
other_ended there word old now none clears said before =
    let h : Tells (cleared said) now = clears said before in
    record {
      via_names = h.via_names;
      net_names = h.net_names;
      vias = h.vias;
      nets = subst (λ (z : List SaidNet). HoldsNamed SaysNet net_said z now.nets)
          (sym (ap (λ z. said.nets ++ net_of z there.name said) none ∙ append-nil said.nets)) h.nets;
      late = h.late;
      segments = h.segments;
      places = h.places;
      known = h.known;
      nets_known = h.nets_known;
    }

-- ## units that say nothing

pub same_one : (section : Section) → (section ≡ places.Via → ⊥) → (section ≡ places.Net → ⊥) → (there : Standing) (word : Token) (said : Said) →
    said_unit section there (word ∷ []) said ≡ said
same_one places.Via a b there word said = absurd (a refl)
same_one places.Net a b there word said = absurd (b refl)
same_one section a b there word said = refl

pub same_two : (section : Section) → (section ≡ places.Vias → ⊥) → (section ≡ places.Nets → ⊥) → (there : Standing) (first second : Token) (said : Said) →
    said_unit section there (first ∷ second ∷ []) said ≡ said
same_two places.Vias a b there first second said = absurd (a refl)
same_two places.Nets a b there first second said = absurd (b refl)
same_two section a b there first second said = refl

pub same_none : (section : Section) (there : Standing) (unit : List Token) (said : Said) → length unit < 1 → said_unit section there unit said ≡ said
same_none places.Via there [] said h = refl
same_none places.Net there [] said h = refl
same_none places.Vias there [] said h = refl
same_none places.Nets there [] said h = refl
same_none section there [] said h = refl
same_none section there (a ∷ unit) said h = absurd (omega arith)

pub same_long : (section : Section) (there : Standing) (unit : List Token) (said : Said) → 3 ≤ length unit → said_unit section there unit said ≡ said
same_long section there [] said h = absurd (omega arith)
same_long section there (a ∷ []) said h = absurd (omega arith)
same_long section there (a ∷ b ∷ []) said h = absurd (omega arith)
same_long places.Via there (a ∷ b ∷ c ∷ unit) said h = refl
same_long places.Net there (a ∷ b ∷ c ∷ unit) said h = refl
same_long places.Vias there (a ∷ b ∷ c ∷ unit) said h = refl
same_long places.Nets there (a ∷ b ∷ c ∷ unit) said h = refl
same_long section there (a ∷ b ∷ c ∷ unit) said h = refl

pub not_minus_via : (first : Sort) → (first ≡ sorts.Minus → ⊥) → (name : Token) (said : Said) → opened_via first name said ≡ said
not_minus_via sorts.Minus a name said = absurd (a refl)
not_minus_via first a name said = refl

pub not_minus_net : (first : Sort) → (first ≡ sorts.Minus → ⊥) → (name : Token) (said : Said) → opened_net first name said ≡ said
not_minus_net sorts.Minus a name said = absurd (a refl)
not_minus_net first a name said = refl
