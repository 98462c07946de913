use Rattle.std.proofs.Common.{refl, All, ◌⊎◌, ◌≡◌, ◌<◌, ◌∙◌, sym, ap, arith, inr, ℕ, List, length, map, Some, subst}
use Rattle.std.specs.List.{range_with_len, filter_map}
use Rattle.std.proofs.lemmas.List.FromFn.{length-map-range_with_len}
use Rattle.grid_net.specs.declared.part.Resistor.{Resistor}
use Rattle.grid_net.specs.declared.part.Pad.{Pad}
use Rattle.grid_net.specs.declared.part.Load.{Load}
use Rattle.grid_net.specs.declared.error.NetError.{NetError}
use Rattle.grid_net.specs.declared.error.NetError.TheVariants.{Want}
use Rattle.grid_net.specs.Network.{Network, first_pad}
use Rattle.grid_net.specs.Limits.{IsBuilt}
use Rattle.grid_net.specs.inside.Around.{TellsAround}
use Rattle.grid_net.specs.Building.{KeepsLimits, load_of, pad_of, first_conflict}
use Rattle.grid_net.proofs.Accepted.{moved_limits, failing, fails_by_pads, agree_out, none_from_keeps}
use Rattle.grid_net.proofs.Built.{network_is_built, same_network, voltages_of_network}
use Rattle.grid_net.proofs.circuit.Circuit.build.Goals as goal

abbrev AllNodes : ℕ → List Pad → Type 0
AllNodes n ps = All (λ p. p.node < n) ps

abbrev LoadsAreNodes : ℕ → List Load → Type 0
LoadsAreNodes n ls = All (λ l. l.node < n) ls

abbrev EndsAreNodes : ℕ → List Resistor → Type 0
EndsAreNodes n rs = All (λ r. (r.a < n) × (r.b < n)) rs

abbrev Around : List ℕ → List ℕ → ℕ → List Resistor → Type 0
Around starts places n rs = TellsAround rs n starts places

abbrev Conflict : NetError → List Pad → Type 0
Conflict e ps = (first_conflict ps ≡ Some e) ⊎ (e ≡ Want)

pub pad_voltages-requires : goal.pad_voltages-requires
pad_voltages-requires c =
    let n = c.args.nodes in
    let rs = c.args.resistors.items in
    let ps = c.args.pads.items in
    let ls = c.args.loads.items in
    let keeps : KeepsLimits n rs ps ls = moved_limits n c.deref.result.now rs c.deref-2.result.now ps c.deref-3.result.now ls c.deref.ensures.value c.deref-2.ensures.value c.deref-3.ensures.value c.in_default.ensures.kept in
    subst (AllNodes n) (sym c.deref-4.ensures.value) keeps.pads_are_nodes

pub returns-in_err-voltages-clause-refused : goal.returns-in_err-voltages-clause-refused
returns-in_err-voltages-clause-refused c =
    let n = c.args.nodes in
    let rs = c.args.resistors.items in
    let ps = c.args.pads.items in
    let ls = c.args.loads.items in
    let keeps : KeepsLimits n rs ps ls = moved_limits n c.deref.result.now rs c.deref-2.result.now ps c.deref-3.result.now ls c.deref.ensures.value c.deref-2.ensures.value c.deref-3.ensures.value c.in_default.ensures.kept in
    let h = c.in_err-voltages.ensures.err in
    failing n rs ps ls c.in_err-voltages.field-0.0 c.from_residual.result c.from_residual.ensures.1 (fails_by_pads n rs ps ls c.in_err-voltages.field-0.0 keeps (subst (Conflict c.in_err-voltages.field-0.0) c.deref-4.ensures.value h))

pub returns-in_err-pads-clause-refused : goal.returns-in_err-pads-clause-refused
returns-in_err-pads-clause-refused c =
    let n = c.args.nodes in
    let rs = c.args.resistors.items in
    let ps = c.args.pads.items in
    let ls = c.args.loads.items in
    let keeps : KeepsLimits n rs ps ls = moved_limits n c.deref.result.now rs c.deref-2.result.now ps c.deref-3.result.now ls c.deref.ensures.value c.deref-2.ensures.value c.deref-3.ensures.value c.in_default.ensures.kept in
    failing n rs ps ls Want c.from_residual-in_err-pads.result c.from_residual-in_err-pads.ensures.1 (fails_by_pads n rs ps ls Want keeps (inr refl))

pub returns-in_err-ranges-clause-refused : goal.returns-in_err-ranges-clause-refused
returns-in_err-ranges-clause-refused c =
    let n = c.args.nodes in
    let rs = c.args.resistors.items in
    let ps = c.args.pads.items in
    let ls = c.args.loads.items in
    let keeps : KeepsLimits n rs ps ls = moved_limits n c.deref.result.now rs c.deref-2.result.now ps c.deref-3.result.now ls c.deref.ensures.value c.deref-2.ensures.value c.deref-3.ensures.value c.in_default.ensures.kept in
    failing n rs ps ls Want c.from_residual-in_err-ranges.result c.from_residual-in_err-ranges.ensures.1 (fails_by_pads n rs ps ls Want keeps (inr refl))

pub returns-in_err-around-clause-refused : goal.returns-in_err-around-clause-refused
returns-in_err-around-clause-refused c =
    let n = c.args.nodes in
    let rs = c.args.resistors.items in
    let ps = c.args.pads.items in
    let ls = c.args.loads.items in
    let keeps : KeepsLimits n rs ps ls = moved_limits n c.deref.result.now rs c.deref-2.result.now ps c.deref-3.result.now ls c.deref.ensures.value c.deref-2.ensures.value c.deref-3.ensures.value c.in_default.ensures.kept in
    failing n rs ps ls Want c.from_residual-in_err-around.result c.from_residual-in_err-around.ensures.1 (fails_by_pads n rs ps ls Want keeps (inr refl))

pub pads_in_order-requires : goal.pads_in_order-requires
pads_in_order-requires c =
    let n = c.args.nodes in
    let rs = c.args.resistors.items in
    let ps = c.args.pads.items in
    let ls = c.args.loads.items in
    let keeps : KeepsLimits n rs ps ls = moved_limits n c.deref.result.now rs c.deref-2.result.now ps c.deref-3.result.now ls c.deref.ensures.value c.deref-2.ensures.value c.deref-3.ensures.value c.in_default.ensures.kept in
    let size = ap length c.deref-5.ensures.value ∙ ap length c.in_ok-voltages.ensures.table ∙ length-map-range_with_len (first_pad c.deref-4.result.now) 0 n in
    let few = keeps.few_nodes in
    omega (arith, size, few)

pub load_ranges-requires-clause-nodes : goal.load_ranges-requires-clause-nodes
load_ranges-requires-clause-nodes c =
    let n = c.args.nodes in
    let rs = c.args.resistors.items in
    let ps = c.args.pads.items in
    let ls = c.args.loads.items in
    let keeps : KeepsLimits n rs ps ls = moved_limits n c.deref.result.now rs c.deref-2.result.now ps c.deref-3.result.now ls c.deref.ensures.value c.deref-2.ensures.value c.deref-3.ensures.value c.in_default.ensures.kept in
    subst (LoadsAreNodes n) (sym c.deref-6.ensures.value) keeps.loads_are_nodes

pub around_nodes-requires-clause-ends : goal.around_nodes-requires-clause-ends
around_nodes-requires-clause-ends c =
    let n = c.args.nodes in
    let rs = c.args.resistors.items in
    let ps = c.args.pads.items in
    let ls = c.args.loads.items in
    let keeps : KeepsLimits n rs ps ls = moved_limits n c.deref.result.now rs c.deref-2.result.now ps c.deref-3.result.now ls c.deref.ensures.value c.deref-2.ensures.value c.deref-3.ensures.value c.in_default.ensures.kept in
    subst (EndsAreNodes n) (sym c.deref-7.ensures.value) keeps.ends_are_nodes

pub invariant_of-result : goal.invariant_of-result
invariant_of-result c =
    let n = c.args.nodes in
    let rs = c.args.resistors.items in
    let ps = c.args.pads.items in
    let ls = c.args.loads.items in
    let keeps : KeepsLimits n rs ps ls = moved_limits n c.deref.result.now rs c.deref-2.result.now ps c.deref-3.result.now ls c.deref.ensures.value c.deref-2.ensures.value c.deref-3.ensures.value c.in_default.ensures.kept in
    let table : c.deref-5.result.now ≡ map (first_pad ps) (range_with_len 0 n) = c.deref-5.ensures.value ∙ c.in_ok-voltages.ensures.table ∙ ap (λ qs. map (first_pad qs) (range_with_len 0 n)) c.deref-4.ensures.value in
    let size : length c.deref-5.result.now ≡ n = ap length table ∙ length-map-range_with_len (first_pad ps) 0 n in
    let kept : c.in_ok-pads.pads.items ≡ filter_map (pad_of ps) (range_with_len 0 n) = c.in_ok-pads.ensures ps (table ∙ ap (λ m. map (first_pad ps) (range_with_len 0 m)) (sym size)) ∙ ap (λ m. filter_map (pad_of ps) (range_with_len 0 m)) size in
    let sums : c.in_ok-ranges.ranges.items ≡ map (load_of ls) (range_with_len 0 n) = c.in_ok-ranges.ensures ∙ ap (λ xs. map (load_of xs) (range_with_len 0 n)) c.deref-6.ensures.value in
    let same = same_network n rs ps c.in_ok-pads.pads.items ls c.in_ok-ranges.ranges.items kept sums in
    let net : Network = record { nodes = n; resistors = rs; pads = c.in_ok-pads.pads.items; loads = c.in_ok-ranges.ranges.items } in
    record {
      built = subst IsBuilt (sym same) (network_is_built n rs ps ls keeps c.requires.ranges);
      voltages = voltages_of_network n ps net c.in_ok-voltages.voltages.items kept (sym c.deref-5.ensures.value ∙ table);
      around = subst (Around c.in_ok-around.around.starts.items c.in_ok-around.around.places.items n) c.deref-7.ensures.value c.in_ok-around.ensures;
    }

pub returns-clause-built : goal.returns-clause-built
returns-clause-built c =
    let n = c.args.nodes in
    let rs = c.args.resistors.items in
    let ps = c.args.pads.items in
    let ls = c.args.loads.items in
    let keeps : KeepsLimits n rs ps ls = moved_limits n c.deref.result.now rs c.deref-2.result.now ps c.deref-3.result.now ls c.deref.ensures.value c.deref-2.ensures.value c.deref-3.ensures.value c.in_default.ensures.kept in
    let table : c.deref-5.result.now ≡ map (first_pad ps) (range_with_len 0 n) = c.deref-5.ensures.value ∙ c.in_ok-voltages.ensures.table ∙ ap (λ qs. map (first_pad qs) (range_with_len 0 n)) c.deref-4.ensures.value in
    let size : length c.deref-5.result.now ≡ n = ap length table ∙ length-map-range_with_len (first_pad ps) 0 n in
    let kept : c.in_ok-pads.pads.items ≡ filter_map (pad_of ps) (range_with_len 0 n) = c.in_ok-pads.ensures ps (table ∙ ap (λ m. map (first_pad ps) (range_with_len 0 m)) (sym size)) ∙ ap (λ m. filter_map (pad_of ps) (range_with_len 0 m)) size in
    let sums : c.in_ok-ranges.ranges.items ≡ map (load_of ls) (range_with_len 0 n) = c.in_ok-ranges.ensures ∙ ap (λ xs. map (load_of xs) (range_with_len 0 n)) c.deref-6.ensures.value in
    let same = same_network n rs ps c.in_ok-pads.pads.items ls c.in_ok-ranges.ranges.items kept sums in
    same

pub returns-clause-keeps_limits : goal.returns-clause-keeps_limits
returns-clause-keeps_limits c =
    let n = c.args.nodes in
    let rs = c.args.resistors.items in
    let ps = c.args.pads.items in
    let ls = c.args.loads.items in
    let keeps : KeepsLimits n rs ps ls = moved_limits n c.deref.result.now rs c.deref-2.result.now ps c.deref-3.result.now ls c.deref.ensures.value c.deref-2.ensures.value c.deref-3.ensures.value c.in_default.ensures.kept in
    λ _. keeps

pub returns-clause-pads_agree : goal.returns-clause-pads_agree
returns-clause-pads_agree c =
    let n = c.args.nodes in
    let rs = c.args.resistors.items in
    let ps = c.args.pads.items in
    let ls = c.args.loads.items in
    let keeps : KeepsLimits n rs ps ls = moved_limits n c.deref.result.now rs c.deref-2.result.now ps c.deref-3.result.now ls c.deref.ensures.value c.deref-2.ensures.value c.deref-3.ensures.value c.in_default.ensures.kept in
    λ _. agree_out ps (ap first_conflict (sym c.deref-4.ensures.value) ∙ c.in_ok-voltages.ensures.ok)

pub returns-clause-not_refused : goal.returns-clause-not_refused
returns-clause-not_refused c =
    let n = c.args.nodes in
    let rs = c.args.resistors.items in
    let ps = c.args.pads.items in
    let ls = c.args.loads.items in
    let keeps : KeepsLimits n rs ps ls = moved_limits n c.deref.result.now rs c.deref-2.result.now ps c.deref-3.result.now ls c.deref.ensures.value c.deref-2.ensures.value c.deref-3.ensures.value c.in_default.ensures.kept in
    λ _. none_from_keeps n rs ps ls keeps (agree_out ps (ap first_conflict (sym c.deref-4.ensures.value) ∙ c.in_ok-voltages.ensures.ok))
