-- The entries of SPECIALNETS.
use Rattle.std.proofs.Common.{◌≡◌, ℕ, ◌<◌, Bool, true, false, List, [], ◌∷◌, ◌++◌, length, map, codes, None, refl, sym, ◌∙◌, ap, subst, append_assoc, arith, inl, inr, length-append}
use Rattle.std.specs.Prelude.{◌⊎◌, Contains, flat_map, slice_index_or}
use Rattle.std.specs.Str.{bytes_eq}
use Rattle.std.proofs.lemmas.List.{append-nil, get_or_append_left}
use Rattle.name_table.specs.Numbering.{AreDistinct}
use Rattle.outside.specs.declared.place.Place.{Place}
use Rattle.reading.specs.Word.{Token}
use Rattle.def_wiring.specs.declared.act.Act.{Act}
use Rattle.def_wiring.specs.declared.act.Act.TheVariants as acts
use Rattle.def_wiring.specs.declared.act.Stage.{Stage}
use Rattle.def_wiring.specs.declared.act.Stage.TheVariants as stages
use Rattle.def_wiring.specs.declared.error.WiresKind.TheVariants.{Twice}
use Rattle.def_wiring.specs.declared.section.Section.TheVariants.{Nets, Net}
use Rattle.def_wiring.specs.declared.sort.Sort.TheVariants as sorts
use Rattle.def_wiring.specs.declared.standing.Cue.{Cue}
use Rattle.def_wiring.specs.declared.standing.Cue.TheVariants as cues
use Rattle.def_wiring.specs.declared.standing.Standing.{Standing}
use Rattle.def_wiring.specs.Act.{net_act}
use Rattle.def_wiring.specs.Path.{no_path}
use Rattle.def_wiring.specs.Record.{Asked, Said, SaidNet, SaidVia, Heard, said_name, known_vias}
use Rattle.def_wiring.specs.Rule.{is_name}
use Rattle.def_wiring.specs.Sort.{sort_of_text}
use Rattle.def_wiring.specs.Standing.{cue_after}
use Rattle.wiring_file.specs.Written.{NetText, net_words, wire_words, place_words}
use Rattle.written_words.specs.Spelled.{Written, bare, IsWritten, tokens}
use Rattle.def_wiring.specs.WrittenFits.{net_name}
use Rattle.def_wiring.proofs.written.Words.{Laws, IsNameWord, known}
use Rattle.def_wiring.proofs.written.Steps.{Takes, Leads, at_word, past, past_all, units_of, joins, joins_words, singles, between}
use Rattle.def_wiring.proofs.written.NetSteps.{bares, tok, net_state, in_net, net_takes, with_segments}
use Rattle.def_wiring.proofs.written.LineSteps.{IsReady, LeadsOn, AllWires, AllPlaces, said_segment, said_place, with_places, line_words, line-append, still, wires_lead, places_lead}

-- What is said between entries.
abbrev pub said_at : List (List ℕ) → List (List ℕ) → List SaidVia → List SaidNet → Said
said_at via_names net_names vias nets =
    record { via_names = via_names; net_names = net_names; vias = vias; nets = nets; segments = []; places = []; asked = [] }

-- ## the head of an entry

-- In an entry of a net whose use is not known.
abbrev use_state : List ℕ → Cue → Stage → Said → Heard
use_state name cue stage said = record {
  standing = record { section = Net; passing = None; name = name; entry = []; power = None; cue = cue; stage = stage; path = no_path };
  said = said;
}

abbrev pub entry_words : List ℕ → List Written
entry_words name = bares (codes "-" ∷ name ∷ [])

abbrev asked_of : Act → Token → Asked
asked_of act word = record { act = act; path = no_path; word = word }

abbrev with_asked : Said → List Asked → Said
with_asked said asked = record said { asked = asked }

-- What the words of a use ask.
abbrev plus_asked : (ℕ → Place) → Asked
plus_asked f = asked_of (acts.Goes stages.Part) (tok (f 0) (codes "+"))

abbrev use_asked : (ℕ → Place) → Asked
use_asked f = asked_of (acts.Goes stages.Parts) (tok (f 1) (codes "USE"))

abbrev supply_asked : (ℕ → Place) → List ℕ → Asked
supply_asked f supply = asked_of (acts.Goes stages.Parts) (tok (f 2) supply)

pub supply_written : (supply : List ℕ) → (supply ≡ codes "POWER") ⊎ (supply ≡ codes "GROUND") → IsWritten (bare supply)
supply_written supply (inl e) = subst (λ z. IsWritten (bare z)) (sym e) (known (codes "POWER") refl)
supply_written supply (inr e) = subst (λ z. IsWritten (bare z)) (sym e) (known (codes "GROUND") refl)

abbrev pub said_net : NetText → SaidNet
said_net n = record {
  name = n.name;
  power = bytes_eq n.supply (codes "POWER");
  segments = map said_segment n.wires;
  places = map said_place n.places;
}

abbrev pub use_words : NetText → List Written
use_words n = bares (codes "+" ∷ codes "USE" ∷ n.supply ∷ [])

abbrev pub end_words : List Written
end_words = bares (codes ";" ∷ [])

abbrev pub net_units : NetText → List (List Written)
net_units n = entry_words n.name ∷ singles (use_words n ++ (line_words true (net_words n) ++ end_words))

ends_at : (first : Bool) (stage : Stage) → IsReady first stage → net_act stage sorts.Semicolon ≡ acts.EndsNet
ends_at true stage ready = ap (λ z. net_act z sorts.Semicolon) ready
ends_at false stage ready = ready.1

at_end : (xs : List (List ℕ)) (x : List ℕ) (ys : List (List ℕ)) → slice_index_or (xs ++ x ∷ ys) (length xs) x ≡ x
at_end [] x ys = refl
at_end (y ∷ xs) x ys = at_end xs x ys

-- Of distinct names the next one is none of those before it.
next_apart : (before : List (List ℕ)) (name : List ℕ) (names : List (List ℕ)) → AreDistinct (before ++ name ∷ names) → Contains before name → ⊥
next_apart before name names h at =
    let sizes = length-append before (name ∷ names) in
    let within : at.0 < length before = at.1 in
    h at.0 (length before) name within (omega arith) (get_or_append_left before (name ∷ names) name at.0 within ∙ at.2 ∙ sym (at_end before name names))

-- F says when no word shows a fault: what is asked of numbers and of names before is asked under it alone, and all else holds
-- without it.
module _ (F : Type 0) where
  net_opens : (junk : Standing) (vn nn : List (List ℕ)) (vs : List SaidVia) (ns : List SaidNet) (name : List ℕ) → is_name (sort_of_text name) ≡ true → (F → Contains nn name → ⊥) → (f : ℕ → Place) →
      Takes F (between Nets junk (said_at vn nn vs ns)) (tokens f (entry_words name)) (use_state name cues.Nothing stages.Parts (said_at vn (nn ++ name ∷ []) vs ns))
  net_opens junk vn nn vs ns name is_name fresh f =
      let first : Token = tok (f 0) (codes "-") in
      let second : Token = tok (f 1) name in
      record {
        some = omega arith;
        matches = inl (first ∷ [], second ∷ [], (first, refl, refl), (second, is_name, refl), refl);
        fine = λ ok. (λ a faulty. faulty.1, (λ a faulty. at_word (λ kind. Contains nn name × (kind ≡ Twice)) (λ kind h. fresh ok h.0) a.kind faulty.1, tt));
        goes_on = refl;
        leads = refl;
      }

  -- The supply is heard behind the other words of its use.
  abbrev SupplyTakes : List ℕ → Said → List ℕ → (ℕ → Place) → Type 0
  SupplyTakes name said supply f = Takes F (use_state name cues.Use stages.Parts (with_asked said (plus_asked f ∷ use_asked f ∷ [])))
      (tok (f 2) supply ∷ [])
      (in_net name (bytes_eq supply (codes "POWER")) cues.Nothing stages.Parts no_path (with_asked said (plus_asked f ∷ use_asked f ∷ supply_asked f supply ∷ [])))

  -- The words of the use lead on.
  record UseLeads (name : List ℕ) (said : Said) (supply : List ℕ) (f : ℕ → Place) : Type 0 where
    asked : List Asked
    word : IsWritten (bare supply)
    leads : Leads F (use_state name cues.Nothing stages.Parts (with_asked said [])) (units_of f (singles (bares (codes "+" ∷ codes "USE" ∷ supply ∷ []))))
        (in_net name (bytes_eq supply (codes "POWER")) cues.Nothing stages.Parts no_path (with_asked said asked))

  -- They do so where the last of them, the supply, does.
  supply_leads : (name : List ℕ) (said : Said) (supply : List ℕ) (f : ℕ → Place) → IsWritten (bare supply) → SupplyTakes name said supply f → UseLeads name said supply f
  supply_leads name said supply f word last =
      let a : Asked = plus_asked f in
      let b : Asked = use_asked f in
      record {
        asked = a ∷ b ∷ supply_asked f supply ∷ [];
        word = word;
        leads = (
          use_state name cues.Part stages.Part (with_asked said (a ∷ [])),
          record { some = omega arith; matches = (a.word, refl, refl); fine = λ ok. (λ x faulty. faulty.1, tt); goes_on = refl; leads = refl },
          (
            use_state name cues.Use stages.Parts (with_asked said (a ∷ b ∷ [])),
            record { some = omega arith; matches = (b.word, refl, refl); fine = λ ok. (λ x faulty. faulty.1, tt); goes_on = refl; leads = refl },
            (
              in_net name (bytes_eq supply (codes "POWER")) cues.Nothing stages.Parts no_path (with_asked said (a ∷ b ∷ supply_asked f supply ∷ [])),
              last,
              refl,
            ),
          ),
        );
      }

  power_takes : (name : List ℕ) (said : Said) (f : ℕ → Place) → SupplyTakes name said (codes "POWER") f
  power_takes name said f = record {
    some = omega arith;
    matches = (tok (f 2) (codes "POWER"), refl, refl);
    fine = λ ok. (λ x faulty. elim faulty.1.1 [ inl one ↦ one.0 | inr more ↦ (elim more.1 [ inl two ↦ two.0 | inr none ↦ none.1 ]) ], tt);
    goes_on = refl;
    leads = refl;
  }

  ground_takes : (name : List ℕ) (said : Said) (f : ℕ → Place) → SupplyTakes name said (codes "GROUND") f
  ground_takes name said f = record {
    some = omega arith;
    matches = (tok (f 2) (codes "GROUND"), refl, refl);
    fine = λ ok. (λ x faulty. elim faulty.1.1 [ inl one ↦ one.0 | inr more ↦ (elim more.1 [ inl two ↦ two.0 | inr none ↦ none.1 ]) ], tt);
    goes_on = refl;
    leads = refl;
  }

  use_leads : (name : List ℕ) (said : Said) (supply : List ℕ) → (supply ≡ codes "POWER") ⊎ (supply ≡ codes "GROUND") → (f : ℕ → Place) → UseLeads name said supply f
  use_leads name said supply (inl e) f = subst (λ z. UseLeads name said z f) (sym e) (supply_leads name said (codes "POWER") f (known (codes "POWER") refl) (power_takes name said f))
  use_leads name said supply (inr e) f = subst (λ z. UseLeads name said z f) (sym e) (supply_leads name said (codes "GROUND") f (known (codes "GROUND") refl) (ground_takes name said f))

  -- ## an entry

  pub record NetFacts (vias : List (List ℕ)) (n : NetText) : Type 0 where
    pub name : IsNameWord n.name
    pub supply : (n.supply ≡ codes "POWER") ⊎ (n.supply ≡ codes "GROUND")
    pub wires : AllWires F n.wires
    pub places : AllPlaces F vias n.places

  -- A net leads from between entries to between entries.
  pub record NetLeads (junk : Standing) (before after : Said) (us : List (List Token)) : Type 0 where
    pub left : Standing
    pub leads : Leads F (between Nets junk before) us (between Nets left after)

  lines_lead : Laws → (n : NetText) (said : Said) → NetFacts (known_vias said) n → (power : Bool) →
      LeadsOn F (in_net n.name power cues.Nothing stages.Parts no_path said) (λ f. units_of f (singles (line_words true (net_words n)))) n.name power
      (still (still true (map wire_words n.wires)) (map place_words n.places)) (with_places (with_segments said (map said_segment n.wires)) (map said_place n.places))
  lines_lead laws n said h power =
      let wires : List (List (List ℕ)) = map wire_words n.wires in
      let places : List (List (List ℕ)) = map place_words n.places in
      let first : Bool = still true wires in
      let mid : Said = with_segments said (map said_segment n.wires) in
      let a = wires_lead F laws n.name power cues.Nothing true stages.Parts no_path said n.wires h.wires refl in
      let b = places_lead F laws n.name power a.cue first a.stage a.path mid n.places h.places a.ready in
      let from : Heard = in_net n.name power cues.Nothing stages.Parts no_path said in
      let to : Heard = in_net n.name power b.cue b.stage b.path (with_places mid (map said_place n.places)) in
      record {
        cue = b.cue;
        stage = b.stage;
        path = b.path;
        ready = b.ready;
        leads = λ f. subst (λ z. Leads F from (units_of f (singles z)) to) (sym (line-append true wires places))
            (joins_words F f from (in_net n.name power a.cue a.stage a.path mid) to (line_words true wires) (line_words first places) (a.leads f)
            (b.leads (past_all (singles (line_words true wires)) f)));
      }

  net_leads : Laws → (n : NetText) (junk : Standing) (vn nn : List (List ℕ)) (vs : List SaidVia) (ns : List SaidNet) → NetFacts (map said_name vs) n → (F → Contains nn n.name → ⊥) → (f : ℕ → Place) →
      NetLeads junk (said_at vn nn vs ns) (said_at vn (nn ++ n.name ∷ []) vs (ns ++ said_net n ∷ [])) (units_of f (net_units n))
  net_leads laws n junk vn nn vs ns h fresh f =
      let power : Bool = bytes_eq n.supply (codes "POWER") in
      let said : Said = said_at vn (nn ++ n.name ∷ []) vs ns in
      let g : ℕ → Place = past (entry_words n.name) f in
      let used = use_leads n.name said n.supply h.supply g in
      let noted : Said = with_asked said used.asked in
      let k : ℕ → Place = past_all (singles (use_words n)) g in
      let lines = lines_lead laws n noted h power in
      let all : Said = with_places (with_segments noted (map said_segment n.wires)) (map said_place n.places) in
      let l : ℕ → Place = past_all (singles (line_words true (net_words n))) k in
      let a : Heard = use_state n.name cues.Nothing stages.Parts said in
      let b : Heard = in_net n.name power cues.Nothing stages.Parts no_path noted in
      let c : Heard = in_net n.name power lines.cue lines.stage lines.path all in
      let left : Standing = (net_state Nets n.name power (cue_after lines.cue sorts.Semicolon) lines.stage lines.path all).standing in
      let d : Heard = between Nets left (said_at vn (nn ++ n.name ∷ []) vs (ns ++ said_net n ∷ [])) in
      record {
        left = left;
        leads = (
          a,
          net_opens junk vn nn vs ns n.name h.name.sort fresh f,
          joins_words F g a b d (use_words n) (line_words true (net_words n) ++ end_words) used.leads
              (joins_words F k b c d (line_words true (net_words n)) end_words (lines.leads k) (
                d,
                net_takes F n.name power lines.cue lines.stage lines.path all (tok (l 0) (codes ";")) sorts.Semicolon acts.EndsNet refl refl (ends_at _ lines.stage lines.ready) (λ ok kind x. x),
                refl,
              )),
        );
      }

  -- ## all entries

  -- No name is among those before it.
  abbrev pub AreFresh : List (List ℕ) → List (List ℕ) → Type 0
  AreFresh before [] = Unit {0}
  AreFresh before (name ∷ names) = (F → Contains before name → ⊥) × AreFresh (before ++ name ∷ []) names

  pub are_fresh : (before names : List (List ℕ)) → (F → AreDistinct (before ++ names)) → AreFresh before names
  are_fresh before [] h = tt
  are_fresh before (name ∷ names) h =
      (λ ok. next_apart before name names (h ok), are_fresh (before ++ name ∷ []) names (λ ok. subst AreDistinct (sym (append_assoc before (name ∷ []) names)) (h ok)))

  abbrev pub AllNets : List (List ℕ) → List NetText → Type 0
  AllNets vias [] = Unit {0}
  AllNets vias (n ∷ nets) = NetFacts vias n × AllNets vias nets

  pub nets_lead : Laws → (nets : List NetText) (junk : Standing) (vn nn : List (List ℕ)) (vs : List SaidVia) (ns : List SaidNet) → AllNets (map said_name vs) nets → AreFresh nn (map net_name nets) →
      (f : ℕ → Place) → NetLeads junk (said_at vn nn vs ns) (said_at vn (nn ++ map net_name nets) vs (ns ++ map said_net nets)) (units_of f (flat_map net_units nets))
  nets_lead laws [] junk vn nn vs ns h fresh f = record {
    left = junk;
    leads = ap (λ (z : List (List ℕ)). between Nets junk (said_at vn z vs ns)) (sym (append-nil nn)) ∙ ap (λ (z : List SaidNet). between Nets junk (said_at vn (nn ++ []) vs z)) (sym (append-nil ns));
  }
  nets_lead laws (n ∷ nets) junk vn nn vs ns h fresh f =
      let one = net_leads laws n junk vn nn vs ns h.0 fresh.0 f in
      let names : List (List ℕ) = nn ++ n.name ∷ [] in
      let said : List SaidNet = ns ++ said_net n ∷ [] in
      let g : ℕ → Place = past_all (net_units n) f in
      let more = nets_lead laws nets one.left vn names vs said h.1 fresh.1 g in
      let a : Heard = between Nets junk (said_at vn nn vs ns) in
      let b : Heard = between Nets one.left (said_at vn names vs said) in
      let c : Heard = between Nets more.left (said_at vn (names ++ map net_name nets) vs (said ++ map said_net nets)) in
      let same : c ≡ between Nets more.left (said_at vn (nn ++ map net_name (n ∷ nets)) vs (ns ++ map said_net (n ∷ nets))) =
      ap (λ (z : List (List ℕ)). between Nets more.left (said_at vn z vs (said ++ map said_net nets))) (append_assoc nn (n.name ∷ []) (map net_name nets))
      ∙ ap (λ (z : List SaidNet). between Nets more.left (said_at vn (nn ++ map net_name (n ∷ nets)) vs z)) (append_assoc ns (said_net n ∷ []) (map said_net nets)) in
      record {
        left = more.left;
        leads = subst (λ z. Leads F a (units_of f (net_units n ++ flat_map net_units nets)) z) same (joins F f a b c (net_units n) (flat_map net_units nets) one.leads more.leads);
      }
