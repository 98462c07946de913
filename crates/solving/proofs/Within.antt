-- What is signed off, and the intervals in which the solutions of the netlist lie.
use Rattle.std.proofs.Common.{◌≡◌, ◌<◌, ℕ, ℤ, List, [], Option, None, length, get_or, replicate, sym, ap, subst, ◌∙◌}
use Rattle.std.proofs.lemmas.List.{length-map}
use Rattle.bound_check.specs.Certified.{Certificate, LiesWithin, nanovolt, nanoampere}
use Rattle.bound_make.specs.Certifier.{LieInRange, MadeOfTold}
use Rattle.bound_make.specs.Scale.{Scale, IsScaleOf}
use Rattle.grid_net.specs.Limits.{IsBuilt}
use Rattle.grid_net.specs.Network.{Network}
use Rattle.grid_net.specs.Shorted.{IsShortedSolution}
use Rattle.grid_net.specs.Solution.{IsSolution}
use Rattle.group_net.specs.Merging.{AreNodes, merged_network, grouped_resistor, group_potential, group_drawn}
use Rattle.judging.specs.Stage.{GivesNetwork}
use Rattle.node_groups.specs.Groups.{AreGroups}
use Rattle.short_merge.specs.declared.merged.Merged.{Merged}
use Rattle.short_merge.specs.Merged.{IsMerged}
use Rattle.signoff_report.specs.declared.records.Limits.{Limits}
use Rattle.signoff_report.specs.Limits.{resistor_at}
use Rattle.signoff_report.specs.Report.{written_report}
use Rattle.signoff_report.specs.Shown.{shown_voltage, shown_current}
use Rattle.spice_grid.specs.declared.named.Named.{Named}
use Rattle.solving.specs.declared.signed.Signed.{Signed}
use Rattle.solving.specs.Signed.{EachIsSupplied, Signs, LieWithinReport, PassesCheck, unlimited}
use Rattle.solving.specs.inside.Texts.{AreTextsOf, ReportHolds}
use Rattle.solving.proofs.Checked.{AreTextLaws, passes}

-- The laws of solutions group by group, as they are handed in.
pub record AreGroupLaws : Type 0 where
  pub by_groups : (net : Network) (shorts : List (ℕ × ℕ)) (group firsts : List ℕ) (q : ℕ) (p c l s : ℕ → ℤ) → IsBuilt net → AreNodes net.nodes shorts → AreGroups net.nodes shorts group firsts → IsShortedSolution net shorts q p c l s
      → IsSolution (merged_network net group (length firsts)) q (group_potential firsts p) c (group_drawn net.nodes group l)
  pub at_nodes : (net : Network) (shorts : List (ℕ × ℕ)) (group firsts : List ℕ) (q : ℕ) (p c l s : ℕ → ℤ) → AreGroups net.nodes shorts group firsts → IsShortedSolution net shorts q p c l s → (i : ℕ) → i < net.nodes → p i ≡ group_potential firsts p (get_or group i 0)

-- Every solution of the netlist lies within the intervals in which those of the network of its groups lie.
module _ (laws : AreGroupLaws) (text : List ℕ) (named : Named) (merged : Merged) (c : Certificate) (gives : GivesNetwork text named merged) (same : c.net ≡ merged.net) (holds : ReportHolds c) where
  merge : IsMerged named merged
  merge = gives.network.merge

  net_is : c.net ≡ merged_network named.net merged.group (length merge.firsts)
  net_is = same ∙ merge.network

  solves : (q : ℕ) (p currents drawn shorted : ℕ → ℤ) → IsShortedSolution named.net named.shorts q p currents drawn shorted → IsSolution c.net q (group_potential merge.firsts p) currents (group_drawn named.net.nodes merged.group drawn)
  solves q p currents drawn shorted solution =
      subst (λ (n : Network). IsSolution n q (group_potential merge.firsts p) currents (group_drawn named.net.nodes merged.group drawn)) (sym net_is)
      (laws.by_groups named.net named.shorts merged.group merge.firsts q p currents drawn shorted gives.built gives.keeps.shorts_are_nodes merge.groups solution)

  is_group : (node : ℕ) → node < named.net.nodes → get_or merged.group node 0 < c.net.nodes
  is_group node below =
      subst (λ (n : Network). get_or merged.group node 0 < n.nodes) (sym net_is)
      (merge.groups.each_group node 0 (subst (λ n. node < n) (sym merge.groups.one_a_node) below))

  is_branch : (k : ℕ) → k < length named.net.resistors → k < length c.net.resistors
  is_branch k below =
      subst (λ (n : Network). k < length n.resistors) (sym net_is)
      (subst (λ n. k < n) (sym (length-map named.net.resistors (grouped_resistor merged.group))) below)

  pub within : LieWithinReport named merged c
  within = record {
    voltages = λ q p currents drawn shorted solution node below.
        let g = get_or merged.group node 0 in
        subst (λ z. LiesWithin nanovolt q z (shown_voltage c g)) (sym (laws.at_nodes named.net named.shorts merged.group merge.firsts q p currents drawn shorted merge.groups solution node below))
        (holds.voltages q (group_potential merge.firsts p) currents (group_drawn named.net.nodes merged.group drawn) (solves q p currents drawn shorted solution) g (is_group node below));
    currents = λ q p currents drawn shorted solution k below.
        subst (λ (n : Network). LiesWithin nanoampere q (currents k) (shown_current c (resistor_at n k))) same
        (holds.currents q (group_potential merge.firsts p) currents (group_drawn named.net.nodes merged.group drawn) (solves q p currents drawn shorted solution) k (is_branch k below));
  }

-- What certification promises of its lists.
abbrev pub InScale : Option (List ℤ × List ℤ) → Network → Certificate → Type 0
InScale told net c = (s : Scale) × IsScaleOf net s × LieInRange net s c.high c.low × MadeOfTold net s told c.high c.low

-- A network that is supplied and certified, and of which the texts were made, is signed off.
pub signs : AreGroupLaws → (told : Option (List ℤ × List ℤ)) (merged : Merged) → AreTextLaws merged.names → (c : Certificate) (signed : Signed) → EachIsSupplied merged.net → c.net ≡ merged.net → InScale told merged.net c → AreTextsOf c merged.names signed → ReportHolds c
    → (text : List ℕ) (named : Named) → GivesNetwork text named merged
    → (certificate : Certificate) × Signs told text named merged certificate signed × LieWithinReport named merged certificate × PassesCheck merged signed
signs laws told merged words c signed supplied same (scale, scale_is, in_range, made) texts holds text named gives = (
  c,
  record {
    gives = gives;
    supplied = supplied;
    certified = record { net_is = same; kept = holds.kept; scale = scale; scale_is = scale_is; in_range = in_range; made = made };
    certificate = texts.certificate;
    report = texts.report ∙ ap (λ (n : Network). written_report c merged.names (unlimited n)) same;
    nodes = texts.nodes ∙ ap (λ (n : Network). n.nodes) same;
    resistors = texts.resistors ∙ ap (λ (n : Network). length n.resistors) same;
    sweeps = texts.sweeps;
  },
  within laws text named merged c gives same holds,
  passes text named merged words c gives same holds.kept signed texts.certificate,
)

-- The limits of a network of which none is stated.
abbrev the_limits : Limits → Limits
the_limits a = a

pub limits_are : (limits : Limits) (net : Network) → limits.branches ≡ replicate (length net.resistors) None → limits.nets ≡ [] → limits.net_of ≡ [] → limits ≡ unlimited net
limits_are limits net branches nets net_of =
    ap (λ z. the_limits (record { branches = z; nets = limits.nets; net_of = limits.net_of })) branches
    ∙ ap (λ z. the_limits (record { branches = replicate (length net.resistors) None; nets = z; net_of = limits.net_of })) nets
    ∙ ap (λ z. the_limits (record { branches = replicate (length net.resistors) None; nets = []; net_of = z })) net_of
