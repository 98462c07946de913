-- What follows from the way in which two texts are judged.
use Rattle.std.specs.Prelude.{⊤}
use Rattle.std.proofs.Common.{◌≡◌, ◌≢◌, ◌<◌, ◌⊎◌, inl, inr, ℕ, ℤ, ◌*ℤ◌, ◌≤ℤ◌, pos, List, Option, Some, None, Ok, Err, length, get_or, refl, sym, ap, subst, ◌∙◌, slice_get}
use Rattle.outside.specs.declared.place.Place.{Place}
use Rattle.bound_check.specs.declared.fails.Fails.{Fails}
use Rattle.bound_check.specs.Failing.{first_failing}
use Rattle.certificate_file.specs.declared.lists.Lists.{Lists}
use Rattle.certificate_file.specs.declared.error.CertKind.{CertKind}
use Rattle.certificate_file.specs.declared.error.CertKind.TheVariants as cert
use Rattle.certificate_file.specs.Format.{ReadsCertificate}
use Rattle.grid_net.specs.Network.{Network, IsNetwork, entry_of}
use Rattle.grid_net.specs.Limits.{IsBuilt}
use Rattle.grid_net.specs.Certificate.{IsCertificate, HighHolds, LowHolds}
use Rattle.grid_net.specs.Solution.{IsSolution}
use Rattle.grid_net.specs.Shorted.{IsShortedSolution}
use Rattle.group_net.specs.Merging.{AreNodes, PadsOfGroupsAgree, merged_network}
use Rattle.node_groups.specs.Groups.{AreGroups}
use Rattle.reading.specs.declared.error.ReadError.{ReadError}
use Rattle.short_merge.specs.declared.merged.Merged.{Merged}
use Rattle.short_merge.specs.declared.merged.MergeError.{MergeError}
use Rattle.short_merge.specs.declared.merged.MergeError.TheVariants as merging
use Rattle.short_merge.specs.Merged.{IsMerged}
use Rattle.short_merge.specs.Refusal.{IsMergeRefusal}
use Rattle.spice_grid.specs.declared.error.NetRefusal.{NetRefusal}
use Rattle.spice_grid.specs.declared.error.NetRefusal.TheVariants as net
use Rattle.spice_grid.specs.declared.error.SpiceError.{SpiceError}
use Rattle.spice_grid.specs.declared.error.SpiceKind.{SpiceKind}
use Rattle.spice_grid.specs.declared.error.SpiceKind.TheVariants as spice
use Rattle.spice_grid.specs.declared.named.Named.{Named}
use Rattle.spice_grid.specs.Netlist.{ReadsNetlist, IsAtWord, NamedKeeps}
use Rattle.answers.specs.declared.answer.Answer.{Answer}
use Rattle.answers.specs.declared.answer.Answer.TheVariants.{Usage, Want, ReadFault, WriteFault, TooLong, Refused, NoGrid, Range, TooManySteps, PadConflict, FloatingCapacitor, Unsupplied, Built, SignedOff, Generated, Solved, Stepped, Certified, NotCertified}
use Rattle.judging.specs.Texts.{HasNetwork, StandFor, GivesOne, IsVerdict, SolutionsLieBetween}
use Rattle.judging.specs.Judging.{network_answer, netlist_answer, certificate_answer, RefusesNetlist, RefusesMerge, RefusesCertificate, Tests, Judges}
use Rattle.judging.specs.Stage.{GivesNetwork, HasNoNetwork, IsToNetlist, IsToTexts}
use Rattle.judging.specs.inside.Lists.{JudgesLists, merge_answer}
use Rattle.judging.proofs.Groups.{one_merged}
use Rattle.judging.proofs.Conflict.{apart, one_merge_refusal}

-- The laws of the crates below, as they are handed in: those of netlists, and that of the test.
pub record AreNetlistLaws : Type 0 where
  pub one_named : (text : List ℕ) (a b : Named) → ReadsNetlist text (Ok a) → ReadsNetlist text (Ok b) → a ≡ b
  pub one_kind : (text : List ℕ) (a b : SpiceError) → ReadsNetlist text (Err a) → ReadsNetlist text (Err b) → a.kind ≢ spice.Want → b.kind ≢ spice.Want → a.kind ≡ b.kind
  pub one_place : (text : List ℕ) (a b : SpiceError) → ReadsNetlist text (Err a) → ReadsNetlist text (Err b) → IsAtWord a.kind → b.kind ≢ spice.Want → a.place ≡ b.place
  pub not_both : (text : List ℕ) (named : Named) (error : SpiceError) → ReadsNetlist text (Ok named) → ReadsNetlist text (Err error) → error.kind ≡ spice.Want

pub record AreLaws : Type 0 where
  pub netlists : AreNetlistLaws
  pub no_failing : (net : Network) (high low : List ℤ) → IsCertificate net high low → first_failing net high low ≡ None

-- ---- answers that differ
none_some : {X : Type 0} (x : X) → None ≡ Some x → ⊥
none_some {X} x e = let f : ◌≡◌ {A = Option X} None (Some x) = e in cc

some_same : {X : Type 0} (x y : X) → Some x ≡ Some y → x ≡ y
some_same {X} x y e = let f : ◌≡◌ {A = Option X} (Some x) (Some y) = e in cc

not_want : (nodes : ℕ) → Certified nodes ≢ Want
not_want nodes e = cc

not_failing : (nodes : ℕ) (node : List ℕ) (fails : Fails) → Certified nodes ≡ NotCertified node fails.side fails.found → ⊥
not_failing nodes node fails e = cc

-- ---- a netlist that is refused
-- An answer other than want of memory is to an error other than want of memory.
some_netlist : (file text : List ℕ) (answer : Answer) → answer ≢ Want → (r : RefusesNetlist file text answer) → r.error.kind ≢ spice.Want
some_netlist file text answer some r is = some (r.told ∙ ap (netlist_answer file r.error.place) is)

-- Errors of one kind, which is at a word or at the whole network, have one answer.
same_answer : (file : List ℕ) (p q : Place) (k : SpiceKind) → (IsAtWord k → p ≡ q) → netlist_answer file p k ≡ netlist_answer file q k
same_answer file p q spice.Syntax same = ap (λ x. netlist_answer file x spice.Syntax) (same tt)
same_answer file p q spice.OutOfProfileCard same = ap (λ x. netlist_answer file x spice.OutOfProfileCard) (same tt)
same_answer file p q spice.FloatingSource same = ap (λ x. netlist_answer file x spice.FloatingSource) (same tt)
same_answer file p q (spice.Number e) same = ap (λ x. netlist_answer file x (spice.Number e)) (same tt)
same_answer file p q spice.OutOfRange same = ap (λ x. netlist_answer file x spice.OutOfRange) (same tt)
same_answer file p q (spice.Net refusal) same = refl
same_answer file p q spice.Want same = refl

-- An answer is that of want of memory, or it is another one.
answer_is_want : (a : Answer) → (a ≡ Want) ⊎ (a ≢ Want)
answer_is_want Want = inl refl
answer_is_want Usage = inr (λ e. cc)
answer_is_want (ReadFault file) = inr (λ e. cc)
answer_is_want (WriteFault file) = inr (λ e. cc)
answer_is_want (TooLong file) = inr (λ e. cc)
answer_is_want (Refused file place kind) = inr (λ e. cc)
answer_is_want (NoGrid refusal) = inr (λ e. cc)
answer_is_want (Range quantity at number) = inr (λ e. cc)
answer_is_want (PadConflict node first second) = inr (λ e. cc)
answer_is_want (Unsupplied node) = inr (λ e. cc)
answer_is_want (Built built) = inr (λ e. cc)
answer_is_want Generated = inr (λ e. cc)
answer_is_want (FloatingCapacitor node) = inr (λ e. cc)
answer_is_want (TooManySteps number) = inr (λ e. cc)
answer_is_want (Stepped nodes steps) = inr (λ e. cc)
answer_is_want (SignedOff numbers) = inr (λ e. cc)
answer_is_want (Solved nodes resistors sweeps) = inr (λ e. cc)
answer_is_want (Certified nodes) = inr (λ e. cc)
answer_is_want (NotCertified node side found) = inr (λ e. cc)

module _ (laws : AreNetlistLaws) (file_n nt : List ℕ) where
  pub one_netlist_refusal : (a b : Answer) → a ≢ Want → b ≢ Want → RefusesNetlist file_n nt a → RefusesNetlist file_n nt b → a ≡ b
  one_netlist_refusal a b some_a some_b x y =
      let not_a = some_netlist file_n nt a some_a x in
      let not_b = some_netlist file_n nt b some_b y in
      let kinds : x.error.kind ≡ y.error.kind = laws.one_kind nt x.error y.error x.refused y.refused not_a not_b in
      x.told
      ∙ same_answer file_n x.error.place y.error.place x.error.kind (λ word. laws.one_place nt x.error y.error x.refused y.refused word not_b)
      ∙ ap (netlist_answer file_n y.error.place) kinds ∙ sym y.told

  -- A netlist that is refused has no record.
  pub no_record : (a : Answer) (named : Named) → a ≢ Want → RefusesNetlist file_n nt a → ReadsNetlist nt (Ok named) → ⊥
  no_record a named some x reads = some_netlist file_n nt a some x (laws.not_both nt named x.error reads x.refused)

  -- ---- pads of a group that differ
  pub one_merge : (a b : Answer) → RefusesMerge nt a → RefusesMerge nt b → a ≡ b
  one_merge a b x y =
      let named : y.named ≡ x.named = laws.one_named nt y.named x.named y.netlist x.netlist in
      let conflict : IsMergeRefusal x.named (merging.PadConflict y.node y.first y.second) =
      subst (λ n. IsMergeRefusal n (merging.PadConflict y.node y.first y.second)) named y.conflict in
      x.told ∙ one_merge_refusal x.named x.node y.node x.first y.first x.second y.second x.conflict conflict ∙ sym y.told

  -- A netlist of which two pads of a group differ has no merged network.
  pub no_network : (a : Answer) (named : Named) (merged : Merged) → RefusesMerge nt a → HasNetwork nt named merged → ⊥
  no_network a named merged x network =
      let same : named ≡ x.named = laws.one_named nt named x.named network.netlist x.netlist in
      let agree : PadsOfGroupsAgree x.named.net x.named.shorts = subst (λ (n : Named). PadsOfGroupsAgree n.net n.shorts) same network.agree in
      apart x.named.net x.named.shorts x.conflict.0 x.first x.second x.built agree x.conflict.1

  -- A netlist has one merged network.
  pub one_network : (named named' : Named) (merged merged' : Merged) → HasNetwork nt named merged → HasNetwork nt named' merged' → (named ≡ named') × (merged ≡ merged')
  one_network named named' merged merged' x y =
      let same : named ≡ named' = laws.one_named nt named named' x.netlist y.netlist in
      (same, one_merged named' merged merged' (subst (λ n. IsMerged n merged) same x.merge) y.merge)

  -- ---- one refusal
  pub one_refusal : (a b : Answer) → HasNoNetwork file_n nt a → HasNoNetwork file_n nt b → a ≢ Want → b ≢ Want → a ≡ b
  one_refusal a b (inl want) y some_a some_b = absurd (some_a want)
  one_refusal a b x (inl want) some_a some_b = absurd (some_b want)
  one_refusal a b (inr (inl x)) (inr (inl y)) some_a some_b = one_netlist_refusal a b some_a some_b x y
  one_refusal a b (inr (inl x)) (inr (inr y)) some_a some_b = absurd (no_record a y.named some_a x y.netlist)
  one_refusal a b (inr (inr x)) (inr (inl y)) some_a some_b = absurd (no_record b x.named some_b y x.netlist)
  one_refusal a b (inr (inr x)) (inr (inr y)) some_a some_b = one_merge a b x y

  -- A text that has a network is refused for want of memory alone.
  pub want_alone : (named : Named) (merged : Merged) (a : Answer) → HasNetwork nt named merged → HasNoNetwork file_n nt a → a ≡ Want
  want_alone named merged a network (inl want) = want
  want_alone named merged a network (inr (inl x)) = refused_record (answer_is_want a)
    where
      refused_record : (a ≡ Want) ⊎ (a ≢ Want) → a ≡ Want
      refused_record (inl want) = want
      refused_record (inr some) = absurd (no_record a named some x network.netlist)
  want_alone named merged a network (inr (inr x)) = absurd (no_network a named merged x network)

module _ (laws : AreLaws) (file_n file_c nt ct : List ℕ) where
  -- ---- a certificate that is refused
  some_certificate : (answer : Answer) → answer ≢ Want → (r : RefusesCertificate file_c nt ct answer) → r.error.kind ≢ cert.Want
  some_certificate answer some r is = some (r.told ∙ ap (certificate_answer file_c r.error.place) is)

  one_certificate_refusal : (a b : Answer) → a ≢ Want → b ≢ Want → RefusesCertificate file_c nt ct a → RefusesCertificate file_c nt ct b → a ≡ b
  one_certificate_refusal a b some_a some_b x y =
      let merged : y.merged ≡ x.merged = (one_network laws.netlists file_n nt y.named x.named y.merged x.merged y.network x.network).1 in
      let refused : ReadsCertificate x.merged.names ct (Err y.error) = subst (λ (m : Merged). ReadsCertificate m.names ct (Err y.error)) merged y.refused in
      let same : x.error ≡ y.error = x.one (Err x.error) (Err y.error) x.refused refused (some_certificate a some_a x) (some_certificate b some_b y) in
      x.told ∙ ap (λ (e : ReadError CertKind). certificate_answer file_c e.place e.kind) same ∙ sym y.told

  -- A certificate that is refused has no lists.
  no_lists : (a : Answer) (named : Named) (merged : Merged) (lists : Lists) → a ≢ Want → RefusesCertificate file_c nt ct a → StandFor nt ct named merged lists → ⊥
  no_lists a named merged lists some x texts =
      let same : merged ≡ x.merged = (one_network laws.netlists file_n nt named x.named merged x.merged texts.network x.network).1 in
      let reads : ReadsCertificate x.merged.names ct (Ok lists) = subst (λ (m : Merged). ReadsCertificate m.names ct (Ok lists)) same texts.certificate in
      some_certificate a some x (x.one (Ok lists) (Err x.error) reads x.refused)

  -- ---- a certificate that is tested
  -- Texts stand for one netlist, one merged network and one pair of lists.
  same_texts : (a : Answer) (named : Named) (merged : Merged) (lists : Lists) → (t : Tests nt ct a) → StandFor nt ct named merged lists → (t.named ≡ named) × (t.merged ≡ merged) × (t.lists ≡ lists)
  same_texts a named merged lists t texts =
      let same = one_network laws.netlists file_n nt t.named named t.merged merged t.texts.network texts.network in
      let reads : ReadsCertificate t.merged.names ct (Ok lists) = subst (λ (m : Merged). ReadsCertificate m.names ct (Ok lists)) (sym same.1) texts.certificate in
      (same.0, same.1, t.one (Ok t.lists) (Ok lists) t.texts.certificate reads)

  pub tested : (named : Named) (merged : Merged) (lists : Lists) (a : Answer) → StandFor nt ct named merged lists → Judges file_n file_c nt ct a → a ≢ Want → IsVerdict merged lists a
  tested named merged lists a texts (inl want) some = absurd (some want)
  tested named merged lists a texts (inr (inl x)) some = absurd (no_record laws.netlists file_n nt a named some x texts.network.netlist)
  tested named merged lists a texts (inr (inr (inl x))) some = absurd (no_network laws.netlists file_n nt a named merged x texts.network)
  tested named merged lists a texts (inr (inr (inr (inl x)))) some = absurd (no_lists a named merged lists some x texts)
  tested named merged lists a texts (inr (inr (inr (inr t)))) some =
      let same = same_texts a named merged lists t texts in
      subst (λ (l : Lists). IsVerdict merged l a) same.2 (subst (λ (m : Merged). IsVerdict m t.lists a) same.1 t.verdict)

  -- The test tells one answer.
  one_verdict : (merged : Merged) (lists : Lists) (a b : Answer) → IsVerdict merged lists a → IsVerdict merged lists b → a ≡ b
  one_verdict merged lists a b (inl x) (inl y) = x.1 ∙ sym y.1
  one_verdict merged lists a b (inl x) (inr (fails, node, first, named, told)) = absurd (none_some fails (sym (laws.no_failing merged.net lists.high lists.low x.0) ∙ first))
  one_verdict merged lists a b (inr (fails, node, first, named, told)) (inl y) = absurd (none_some fails (sym (laws.no_failing merged.net lists.high lists.low y.0) ∙ first))
  one_verdict merged lists a b (inr (fails, node, first, named, told)) (inr (fails', node', first', named', told')) =
      let same : fails ≡ fails' = some_same fails fails' (sym first ∙ first') in
      let moved : slice_get merged.names fails'.node ≡ Some node = subst (λ (f : Fails). slice_get merged.names f.node ≡ Some node) same named in
      let nodes : node ≡ node' = some_same node node' (sym moved ∙ named') in
      told ∙ ap (λ (f : Fails). NotCertified node f.side f.found) same ∙ ap (λ (n : List ℕ). NotCertified n fails'.side fails'.found) nodes ∙ sym told'

  by_test : (a b : Answer) → b ≢ Want → Tests nt ct a → Judges file_n file_c nt ct b → a ≡ b
  by_test a b some t judged = one_verdict t.merged t.lists a b t.verdict (tested t.named t.merged t.lists b t.texts judged some)

  -- ---- one answer
  pub one : (a b : Answer) → Judges file_n file_c nt ct a → Judges file_n file_c nt ct b → a ≢ Want → b ≢ Want → a ≡ b
  one a b (inl want) y some_a some_b = absurd (some_a want)
  one a b x (inl want) some_a some_b = absurd (some_b want)
  one a b (inr (inr (inr (inr x)))) y some_a some_b = by_test a b some_b x y
  one a b x (inr (inr (inr (inr y)))) some_a some_b = sym (by_test b a some_a y x)
  one a b (inr (inl x)) (inr (inl y)) some_a some_b = one_netlist_refusal laws.netlists file_n nt a b some_a some_b x y
  one a b (inr (inl x)) (inr (inr (inl y))) some_a some_b = absurd (no_record laws.netlists file_n nt a y.named some_a x y.netlist)
  one a b (inr (inl x)) (inr (inr (inr (inl y)))) some_a some_b = absurd (no_record laws.netlists file_n nt a y.named some_a x y.network.netlist)
  one a b (inr (inr (inl x))) (inr (inl y)) some_a some_b = absurd (no_record laws.netlists file_n nt b x.named some_b y x.netlist)
  one a b (inr (inr (inl x))) (inr (inr (inl y))) some_a some_b = one_merge laws.netlists file_n nt a b x y
  one a b (inr (inr (inl x))) (inr (inr (inr (inl y)))) some_a some_b = absurd (no_network laws.netlists file_n nt a y.named y.merged x y.network)
  one a b (inr (inr (inr (inl x)))) (inr (inl y)) some_a some_b = absurd (no_record laws.netlists file_n nt b x.named some_b y x.network.netlist)
  one a b (inr (inr (inr (inl x)))) (inr (inr (inl y))) some_a some_b = absurd (no_network laws.netlists file_n nt b x.named x.merged y x.network)
  one a b (inr (inr (inr (inl x)))) (inr (inr (inr (inl y)))) some_a some_b = one_certificate_refusal a b some_a some_b x y

-- ---- bounds
-- The maximum principle, and the law that carries bounds from groups to nodes, as they are handed in.
pub record IsPrinciple : Type 0 where
  pub at_least_low : (net : Network) (low : ℕ → ℤ) (q : ℕ) (p c drawn : ℕ → ℤ) → IsNetwork net → LowHolds net low → IsSolution net q p c drawn → (i : ℕ) → i < net.nodes → (pos q *ℤ low i) ≤ℤ p i
  pub at_most_high : (net : Network) (high : ℕ → ℤ) (q : ℕ) (p c drawn : ℕ → ℤ) → IsNetwork net → HighHolds net high → IsSolution net q p c drawn → (i : ℕ) → i < net.nodes → p i ≤ℤ (pos q *ℤ high i)
  pub by_groups : (net : Network) (shorts : List (ℕ × ℕ)) (group firsts : List ℕ) (q : ℕ) (low high : ℕ → ℤ) → IsBuilt net → AreNodes net.nodes shorts → AreGroups net.nodes shorts group firsts
      → ((p c l : ℕ → ℤ) → IsSolution (merged_network net group (length firsts)) q p c l → (g : ℕ) → g < length firsts → ((pos q *ℤ low g) ≤ℤ p g) × (p g ≤ℤ (pos q *ℤ high g)))
      → (p c l s : ℕ → ℤ) → IsShortedSolution net shorts q p c l s → (i : ℕ) → i < net.nodes → ((pos q *ℤ low (get_or group i 0)) ≤ℤ p i) × (p i ≤ℤ (pos q *ℤ high (get_or group i 0)))

-- Where the test holds, every solution lies between the lists.
between : IsPrinciple → (nt ct : List ℕ) (a : Answer) → (t : Tests nt ct a) → IsCertificate t.merged.net t.lists.high t.lists.low → SolutionsLieBetween t.named t.merged t.lists
between principle nt ct a t holds q =
    principle.by_groups t.named.net t.named.shorts t.merged.group merge.firsts q (entry_of t.lists.low) (entry_of t.lists.high) t.built t.keeps.shorts_are_nodes merge.groups
    (λ p c l solution g below.
    let solves : IsSolution t.merged.net q p c l = subst (λ (n : Network). IsSolution n q p c l) (sym merge.network) solution in
    let node : g < t.merged.net.nodes = subst (λ (n : Network). g < n.nodes) (sym merge.network) below in (
      principle.at_least_low t.merged.net (entry_of t.lists.low) q p c l t.groups_built.is_network holds.low_half.holds solves g node,
      principle.at_most_high t.merged.net (entry_of t.lists.high) q p c l t.groups_built.is_network holds.high_half.holds solves g node,
    ))
  where
    merge : IsMerged t.named t.merged
    merge = t.texts.network.merge

pub bounded : AreLaws → IsPrinciple → (file_n file_c nt ct : List ℕ) (named : Named) (merged : Merged) (lists : Lists) (nodes : ℕ) → StandFor nt ct named merged lists → Judges file_n file_c nt ct (Certified nodes) → SolutionsLieBetween named merged lists
bounded laws principle file_n file_c nt ct named merged lists nodes texts (inl want) = absurd (not_want nodes want)
bounded laws principle file_n file_c nt ct named merged lists nodes texts (inr (inl x)) = absurd (no_record laws.netlists file_n nt (Certified nodes) named (not_want nodes) x texts.network.netlist)
bounded laws principle file_n file_c nt ct named merged lists nodes texts (inr (inr (inl x))) = absurd (no_network laws.netlists file_n nt (Certified nodes) named merged x texts.network)
bounded laws principle file_n file_c nt ct named merged lists nodes texts (inr (inr (inr (inl x)))) = absurd (no_lists laws file_n file_c nt ct (Certified nodes) named merged lists (not_want nodes) x texts)
bounded laws principle file_n file_c nt ct named merged lists nodes texts (inr (inr (inr (inr t)))) =
    let same = same_texts laws file_n file_c nt ct (Certified nodes) named merged lists t texts in
    subst (λ (l : Lists). SolutionsLieBetween named merged l) same.2
    (subst (λ (m : Merged). SolutionsLieBetween named m t.lists) same.1
    (subst (λ (n : Named). SolutionsLieBetween n t.merged t.lists) same.0 (between principle nt ct (Certified nodes) t holds)))
  where
    holds : IsCertificate t.merged.net t.lists.high t.lists.low
    holds = elim t.verdict [ inl x ↦ x.0 | inr (fails, node, first, named, told) ↦ absurd (not_failing nodes node fails told) ]

-- ---- which answers texts have
network_is : (r : NetRefusal) → IsToNetlist (network_answer r)
network_is (net.Range quantity at number) = tt
network_is (net.PadConflict node first second) = tt

netlist_is : (file : List ℕ) (place : Place) (k : SpiceKind) → IsToNetlist (netlist_answer file place k)
netlist_is file place spice.Syntax = tt
netlist_is file place spice.OutOfProfileCard = tt
netlist_is file place spice.FloatingSource = tt
netlist_is file place (spice.Number e) = tt
netlist_is file place spice.OutOfRange = tt
netlist_is file place (spice.Net refusal) = network_is refusal
netlist_is file place spice.Want = tt

certificate_is : (file : List ℕ) (place : Place) (k : CertKind) → IsToNetlist (certificate_answer file place k)
certificate_is file place cert.Syntax = tt
certificate_is file place cert.WrongNode = tt
certificate_is file place (cert.Number e) = tt
certificate_is file place cert.Want = tt

netlist_to_texts : (a : Answer) → IsToNetlist a → IsToTexts a
netlist_to_texts Want x = tt
netlist_to_texts Usage x = x
netlist_to_texts (ReadFault file) x = x
netlist_to_texts (WriteFault file) x = x
netlist_to_texts (TooLong file) x = x
netlist_to_texts (Refused file place kind) x = tt
netlist_to_texts (NoGrid refusal) x = x
netlist_to_texts (Range quantity at number) x = tt
netlist_to_texts (PadConflict node first second) x = tt
netlist_to_texts (Unsupplied node) x = x
netlist_to_texts (Built built) x = x
netlist_to_texts Generated x = x
netlist_to_texts (FloatingCapacitor node) x = x
netlist_to_texts (TooManySteps number) x = x
netlist_to_texts (Stepped nodes steps) x = x
netlist_to_texts (SignedOff numbers) x = x
netlist_to_texts (Solved nodes resistors sweeps) x = x
netlist_to_texts (Certified nodes) x = tt
netlist_to_texts (NotCertified node side found) x = tt

-- What is answered to the text of a netlist alone.
pub netlist_sort : (file text : List ℕ) (a : Answer) → HasNoNetwork file text a → IsToNetlist a
netlist_sort file text a (inl want) = subst IsToNetlist (sym want) tt
netlist_sort file text a (inr (inl x)) = subst IsToNetlist (sym x.told) (netlist_is file x.error.place x.error.kind)
netlist_sort file text a (inr (inr x)) = subst IsToNetlist (sym x.told) tt

module _ (file_n file_c nt ct : List ℕ) where
  -- What is answered to texts is a refusal, or tells a test.
  sorted : (a : Answer) → Judges file_n file_c nt ct a → IsToNetlist a ⊎ Tests nt ct a
  sorted a (inl want) = inl (subst IsToNetlist (sym want) tt)
  sorted a (inr (inl x)) = inl (subst IsToNetlist (sym x.told) (netlist_is file_n x.error.place x.error.kind))
  sorted a (inr (inr (inl x))) = inl (subst IsToNetlist (sym x.told) tt)
  sorted a (inr (inr (inr (inl x)))) = inl (subst IsToNetlist (sym x.told) (certificate_is file_c x.error.place x.error.kind))
  sorted a (inr (inr (inr (inr t)))) = inr t

  pub sort : (a : Answer) → Judges file_n file_c nt ct a → IsToTexts a
  sort a j = elim (sorted a j) [
    | inl x ↦ netlist_to_texts a x
    | inr t ↦ elim t.verdict [ inl x ↦ subst IsToTexts (sym x.1) tt | inr (fails, node, first, named, told) ↦ subst IsToTexts (sym told) tt ]
  ]

  pub certified : (nodes : ℕ) → Judges file_n file_c nt ct (Certified nodes)
      → (named : Named) × (merged : Merged) × (lists : Lists) × StandFor nt ct named merged lists × IsCertificate merged.net lists.high lists.low
  certified nodes j = elim (sorted (Certified nodes) j) [
    | inl x ↦ absurd x
    | inr t ↦ (t.named, t.merged, t.lists, t.texts, elim t.verdict [ inl x ↦ x.0 | inr (fails, node, first, named, told) ↦ absurd (not_failing nodes node fails told) ])
  ]

-- ---- the certificate's text, after the network stands
-- How the certificate is judged for a network is how both texts are judged.
pub from_lists : (file_n file_c nt ct : List ℕ) (named : Named) (merged : Merged) (a : Answer) → GivesNetwork nt named merged → GivesOne merged.names ct → JudgesLists file_c merged ct a → Judges file_n file_c nt ct a
from_lists file_n file_c nt ct named merged a gives alone (inl want) = inl want
from_lists file_n file_c nt ct named merged a gives alone (inr (inl (error, refused, told))) =
    inr (inr (inr (inl (record { named = named; merged = merged; network = gives.network; one = alone; error = error; refused = refused; told = told }))))
from_lists file_n file_c nt ct named merged a gives alone (inr (inr (lists, reads, verdict))) =
    inr (inr (inr (inr (record {
      named = named;
      merged = merged;
      lists = lists;
      texts = record { network = gives.network; certificate = reads };
      one = alone;
      keeps = gives.keeps;
      built = gives.built;
      groups_built = gives.groups_built;
      verdict = verdict;
    }))))

-- How the netlist alone is refused is how both texts are judged.
pub from_netlist : (file_n file_c nt ct : List ℕ) (a : Answer) → HasNoNetwork file_n nt a → Judges file_n file_c nt ct a
from_netlist file_n file_c nt ct a (inl want) = inl want
from_netlist file_n file_c nt ct a (inr (inl x)) = inr (inl x)
from_netlist file_n file_c nt ct a (inr (inr x)) = inr (inr (inl x))

-- How a merge is refused is how the netlist is refused.
pub from_merge : (file text : List ℕ) (named : Named) (e : MergeError) (a : Answer) → ReadsNetlist text (Ok named) → IsBuilt named.net → IsMergeRefusal named e → a ≡ merge_answer e → HasNoNetwork file text a
from_merge file text named (merging.PadConflict node first second) a reads built refused told =
    inr (inr (record { named = named; netlist = reads; built = built; node = node; first = first; second = second; conflict = refused; told = told }))
from_merge file text named merging.Want a reads built refused told = inl told
