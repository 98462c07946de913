-- Where the units of a design lead, and so what may follow (LEF/DEF 5.8 Language Reference, "DEF Syntax", VIAS and
-- SPECIALNETS).
use Rattle.std.specs.Prelude.{◌≡◌, ℕ, Bool, true, false, List, [], ◌∷◌, ◌++◌, length, Option, Some, None}
use Rattle.def_wiring.specs.declared.act.Act.{Act}
use Rattle.def_wiring.specs.declared.act.Act.TheVariants as acts
use Rattle.def_wiring.specs.declared.act.Stage.{Stage}
use Rattle.def_wiring.specs.declared.act.Stage.TheVariants as stages
use Rattle.def_wiring.specs.declared.path.Path.{Path}
use Rattle.def_wiring.specs.declared.path.Point.{Point}
use Rattle.def_wiring.specs.declared.section.Section.{Section}
use Rattle.def_wiring.specs.declared.section.Section.TheVariants.{Top, Vias, Via, Nets, Net, Passed, Ended}
use Rattle.def_wiring.specs.declared.sort.Sort.{Sort}
use Rattle.def_wiring.specs.declared.sort.Sort.TheVariants as sorts
use Rattle.def_wiring.specs.declared.standing.Cue.{Cue}
use Rattle.def_wiring.specs.declared.standing.Cue.TheVariants as cues
use Rattle.def_wiring.specs.declared.standing.Standing.{Standing}
use Rattle.def_wiring.specs.Act.{via_act, net_act}
use Rattle.def_wiring.specs.Path.{no_path, path_by}
use Rattle.def_wiring.specs.Sort.{the, sort_of}
use Rattle.lef_statements.specs.declared.passing.Passing.{Passing}
use Rattle.lef_statements.specs.declared.passing.Passing.TheVariants as passed
use Rattle.lef_statements.specs.Passing.{passing_after}
use Rattle.reading.specs.Word.{Token}

-- ## the design

-- A word that begins what is passed over: a section that ends with `END` and the word, an extension, a statement.
abbrev pub passed_by : Sort → Token → Option Passing
passed_by sorts.PassedSection word = Some (passed.Section word.text)
passed_by sorts.BeginExt word = Some passed.Extension
passed_by _ word = Some passed.Statement

-- `VIAS n ;` or `SPECIALNETS n ;`.
abbrev pub headed : Sort → Section
headed sorts.Vias = Vias
headed _ = Nets

-- `- name` begins an entry, and the end of the section ends it.
abbrev pub after_entries : Section → Sort → Token → Standing → Standing
after_entries entry sorts.Minus name standing = record standing {
  section = entry;
  name = name.text;
  entry = [];
  power = None;
  cue = cues.Nothing;
  stage = stages.Parts;
  path = no_path;
}
after_entries entry _ name standing = record standing { section = Top }

-- ## an entry of VIAS

abbrev pub after_via : Act → Token → Standing → Standing
after_via acts.Keeps word standing = record standing { entry = standing.entry ++ word ∷ [] }
after_via acts.Number word standing = record standing { entry = standing.entry ++ word ∷ [] }
after_via acts.EndsVia word standing = record standing { section = Vias }
after_via acts.Drops word standing = record standing { section = Vias }
after_via _ word standing = record standing { section = Vias; passing = Some passed.Statement }

-- ## an entry of SPECIALNETS

-- After `+`, and after `+ USE`.
abbrev pub cue_after : Cue → Sort → Cue
cue_after cue sorts.Plus = cues.Part
cue_after cues.Part sorts.Use = cues.Use
cue_after cue sort = cues.Nothing

-- `+ USE POWER` and `+ USE GROUND` tell the use, wherever they stand in the entry.
abbrev pub told : Cue → Sort → Option Bool
told cues.Use sorts.Power = Some true
told cues.Use sorts.Ground = Some false
told cue sort = None

-- The first of them counts.
abbrev pub power_after : Option Bool → Option Bool → Option Bool
power_after None told = told
power_after (Some power) told = Some power

-- After the point that ends.
abbrev pub after_point : Option Point → Stage
after_point None = stages.One
after_point (Some point) = stages.More

-- The place after a word that does this.
abbrev pub stage_by : Act → Option Point → Stage → Stage
stage_by (acts.Goes next) last stage = next
stage_by acts.Misplaced last stage = stages.Lost
stage_by acts.NoWire last stage = stages.Lost
stage_by acts.NoVia last stage = stages.Lost
stage_by acts.Layer last stage = stages.Width
stage_by acts.Width last stage = stages.Head
stage_by acts.Shape last stage = stages.First
stage_by acts.X last stage = stages.Y
stage_by acts.Y last stage = stages.Reach
stage_by acts.Reach last stage = stages.Close
stage_by acts.Point last stage = after_point last
stage_by acts.Place last stage = stages.Placed
stage_by _ last stage = stage

-- The section after a word that does this.
abbrev pub section_by : Act → Section
section_by acts.EndsNet = Nets
section_by acts.Breaks = Nets
section_by _ = Net

abbrev pub after_net : Act → Sort → Token → Standing → Standing
after_net act sort word standing = record standing {
  section = section_by act;
  power = power_after standing.power (told standing.cue sort);
  cue = cue_after standing.cue sort;
  stage = stage_by act standing.path.last standing.stage;
  path = path_by act sort word.text standing.path;
}

-- ## where units lead

-- What a word does in an entry.
abbrev pub act_in : Section → Standing → Sort → Act
act_in Via standing sort = via_act (length standing.entry) sort
act_in Net standing sort = net_act standing.stage sort
act_in section standing sort = acts.Nothing

-- What is passed over after one word more.
abbrev pub after_passed : Option Passing → Token → Option Passing
after_passed None word = None
after_passed (Some passing) word = passing_after passing word

-- After a unit of one word, which is of this sort.
abbrev pub after_one : Section → Sort → Token → Standing → Standing
after_one Top sort word standing = record standing { passing = passed_by sort word }
after_one Via sort word standing = after_via (act_in Via standing sort) word standing
after_one Net sort word standing = after_net (act_in Net standing sort) sort word standing
after_one Passed sort word standing = record standing { passing = after_passed standing.passing word }
after_one section sort word standing = standing

abbrev pub after_two : Section → Sort → Token → Standing → Standing
after_two Top first second standing = record standing { section = Ended }
after_two Vias first second standing = after_entries Via first second standing
after_two Nets first second standing = after_entries Net first second standing
after_two section first second standing = standing

abbrev pub after_words : Section → List Token → Standing → Standing
after_words section (word ∷ []) standing = after_one section (sort_of word) word standing
after_words section (first ∷ second ∷ []) standing = after_two section (sort_of first) second standing
after_words section (first ∷ second ∷ third ∷ []) standing = record standing { section = headed (sort_of first) }
after_words section unit standing = standing

-- The section in which the next unit stands.
abbrev pub section_with : Section → Option Passing → Section
section_with section None = section
section_with section (Some passing) = Passed

abbrev pub section_in : Standing → Section
section_in standing = section_with standing.section standing.passing

-- Where one more unit leads.
abbrev pub standing_after : Standing → List Token → Standing
standing_after standing unit = after_words (section_in standing) unit standing

-- Where a text begins.
abbrev pub at_start : Standing
at_start = record {
  section = Top;
  passing = None;
  name = [];
  entry = [];
  power = None;
  cue = cues.Nothing;
  stage = stages.Parts;
  path = no_path;
}
