-- `two_mut` is walked by hand: the borrow checker follows two slices only where the lender is a slice.
use Rattle.std.proofs.Common.{◌≡◌, Bool, true, false, not, nat_le, ◌≤◌, ℤ, List, [], ◌∷◌, ◌++◌, length, take, drop as drop_l, refl, sym, ap, ◌∙◌, subst, MutBor, arith}
use Rattle.std.proofs.raw_atomic.Walks.{proved}
use lib.Dec.{T}
use seplogic.Ra.Ura.{Ura}
use base.Logic.{id⊢, emp, ent, sep}
use base.Stored.{coded_list}
use base.Fml.{Fml, Lft, GName, ftrue, flft, fres}
use mir.Syntax.{named}
use mir.Val.{Val, vstruct, vcons, vnil, of_list}
use types.Logic.{Logic, sem}
use contract.Monad.{fact, fact_i}
use contract.Running.{tables}
use types.Kit.{‵, raw, ◌⊛◌, some, later, at_ret, ◌$◌, ◌∵◌, !, qed, done, move, keep, drop as let_go, use0, use1, use2, split, split3, join, fsplit, fjoin, fpick, fpack, feq_i, feq_l, pick, await, rewrite, suffices, frame, group, by}
use types.Run.{from, enter, of_opd, addr, stop, fld, hop, no_more, and_then, first, branches, exec, returns}
use types.Part.{whole, sub, agg}
use types.ByLocal.{look_in_at, alloc_all, pass_all, free_all, look_at, get, get_in, through, sets, sets_last, lands_as, env}
use denote.Exit.{yes, no}
use denote.Laws.{Is, Typed}
use denote.RattleType.{RattleType, Valss, owns}
use denote.Ref.{MutRef, mut_vals, mut_Tells}
use denote.Array.{Array}
use denote.Follow.{follows_both}
use denote.Shadow.{pure_l, pure_i}
use denote.Struct.Tuple.{Tuple, tuple_type}
use denote.Struct.Declared.{shape}
use denote.Struct.Struct.{within}
use denote.Slice.{room, mut_slice_at, MutSlice, slice_val, mut_slice_vals}
use denote.Builtin.{i128, bool}
use denote.Signature.{plain, mut_ref_to}
use denote.Steps.{nothing, heard, only}
use denote.Triple.Call.{calls_at}
use denote.Triple.Clauses.{lasts, Lasts}
use denote.Triple.Spec.{triple_of}
use denote.Triple.Walked.{Stays, walk_of, stay_dropped, Goes-dropped, Goes-spent_ref, ends_at}
use denote.Triple.Table.{framed}
use Rattle.std.proofs.lemmas.List.{length-drop}
use Rattle.level_region.proofs.Lent.{given_up, cut, cut_turned}
use Rattle.level_region.proofs.Hull.{are_parts, in_order, turned}
use Rattle.level_region.specs.declared.span.Span.{Span}
use Rattle.level_region.specs.Block.{Block, IsWithin, AreApart, part_of, front_of, gap_of, hull_of, written_over}
use Rattle.level_region.specs.Lends.{LendsPart, LendsTwoParts}
use Rattle.level_region.specs.contracts.region.Region.{the_row as R}
use Rattle.level_region.specs.contracts.span.Span.{the_row as S}
use Rattle.level_region.proofs.span.Span.TheLaws.{lowered, lowers, the_row_laws, the_row_copy}
use Rattle.level_region.specs.contracts.region.Region.two_mut as f
use Rattle.level_region.proofs.region.Region.two_mut.Statement.{statement}
use Rattle.level_region.proofs.region.Region.two_mut.Code as code
use Rattle.level_region.specs.contracts.region.Region.hull_mut as hull
use Rattle.level_region.proofs.region.Region.hull_mut.Met as hull-met
use Rattle.level_region.specs.contracts.pairs.split_first as one
use Rattle.level_region.proofs.pairs.split_first.Met as one-met
use Rattle.level_region.specs.contracts.pairs.split_gap as two
use Rattle.level_region.proofs.pairs.split_gap.Met as two-met
use Rattle.level_region.specs.contracts.pairs.begins_first as test
use Rattle.level_region.proofs.pairs.begins_first.Met as test-met

abbrev stayed : Stays f.ended.signature.params f.ended.kept
stayed = (stay_dropped (mut_ref_to (0 ∷ []) tt (plain (λ _. R))) no, (stay_dropped (plain (λ _. S)) yes, (stay_dropped (plain (λ _. S)) yes, tt)))

abbrev span_vals : Span → List Val
span_vals span = lowered span ∷ []

abbrev Halves : Lft → List RattleType
Halves κ = MutSlice (named 0) κ i128 ∷ MutSlice (named 0) κ i128 ∷ []

-- a slice is the two that it was split into, joined
abbrev Splits : GName → MutBor (List ℤ) × MutBor (List ℤ) → Fml
Splits γ p = follows_both (Array i128 0) (Array i128 0) (Array i128 0) γ p.0.ghost_name p.1.ghost_name ◌++◌

abbrev own : Span → Fml
own span = S.own_val span (span_vals span)

-- the machine value of two slices
abbrev pair : MutBor (List ℤ) → MutBor (List ℤ) → Val
pair u w = vstruct (vcons (slice_val u.ref_ptr (length u.now)) (vcons (slice_val w.ref_ptr (length w.now)) vnil))

-- what a test says
T-true : (b : Bool) → T b → b ≡ true
T-true true t = refl
T-true false t = absurd t

T-false : (b : Bool) → T (not b) → b ≡ false
T-false true t = absurd t
T-false false t = refl

-- the machine value of a pair of slices
pair_val : (v : Val) (us ws : List Val) (p : MutBor (List ℤ) × MutBor (List ℤ)) → v ∷ [] ≡ vstruct (of_list (us ++ (ws ++ []))) ∷ [] → us ≡ mut_slice_vals p.0 → ws ≡ mut_slice_vals p.1
    → v ∷ [] ≡ vstruct (of_list (mut_slice_vals p.0 ++ (mut_slice_vals p.1 ++ []))) ∷ []
pair_val v us ws p is us_is ws_is =
    subst (λ (zs : List Val). v ∷ [] ≡ vstruct (of_list (mut_slice_vals p.0 ++ (zs ++ []))) ∷ []) ws_is (subst (λ (zs : List Val). v ∷ [] ≡ vstruct (of_list (zs ++ (ws ++ []))) ∷ []) us_is is)

-- a span can be copied
four : {M : Type 1} {𝓤 : Ura M} (𝓛 : Logic 𝓤) (span : Span) → ent 𝓤 (sem 𝓛 (own span)) (sep 𝓤 (sem 𝓛 (own span)) (sep 𝓤 (sem 𝓛 (own span)) (sep 𝓤 (sem 𝓛 (own span)) (sem 𝓛 (own span)))))
four {M} {𝓤} 𝓛 span =
    let twice = (the_row_copy.copies M 𝓤 𝓛).twice span (span_vals span) in
    qed 𝓛 (‵ (own span) ∷ []) ∵ use1 𝓛 (‵ (own span) ⊛ ‵ (own span)) twice $ split ! $ use1 𝓛 (‵ (own span) ⊛ ‵ (own span)) twice $ split ! $ use1 𝓛 (‵ (own span) ⊛ ‵ (own span)) twice $ split ! $ done !

pub two_mut_spec : {M : Type 1} → statement M
two_mut_spec {M} 𝓤 𝓛 𝓜 𝓡 wired =
    let c = f.clauses 𝓛 𝓜.mem 𝓡.returns in
    let goes = Goes-dropped 𝓛 1 (plain (λ _. S)) yes (λ κs x w. refl) in
    proved 𝓛 f.ended stayed c 𝓜 𝓡 (Goes-spent_ref 𝓛 1 (0 ∷ []) tt (plain (λ _. R)), (goes, (goes, tt)))
    f.Key.name code.function (code.unfolded 𝓤 𝓛.H 𝓜 𝓡 wired)
    (λ κs. (mut_vals, (span_vals, (span_vals, tt)))) (λ κs. (mut_Tells (named 0) κs.0 R, (lowers.val_is, (lowers.val_is, tt)))) (λ κs qs bounds a n are.
    let κ = κs.0 in let q = qs.0 in let self = a.0 in let x = a.1.0 in let y = a.1.1.0 in
    let vs : List Val × (List Val × (List Val × Unit {0})) = (mut_vals self, (span_vals x, (span_vals y, tt))) in
    let typed : (z : Span) → Is S z (span_vals z) → Typed S.mir (span_vals z) = λ z is. (the_row_laws.lawful 𝓛).typed z (span_vals z) is in
    let W = walk_of 𝓛 f.ended stayed c in
    let 𝓣 = tables 𝓤 𝓛.H 𝓜 𝓡 𝓡.env in
    let bound : W.Ghost = ((κs, qs, bounds, a, vs), n) in
    let exits : (u w : MutBor (List ℤ)) → u.now ≡ part_of self.now x → w.now ≡ part_of self.now y
    → ent 𝓤 (sep 𝓤 (sem 𝓛 ((MutSlice (named 0) κ i128).own_val u (mut_slice_vals u))) (sep 𝓤 (sem 𝓛 ((MutSlice (named 0) κ i128).own_val w (mut_slice_vals w))) (sep 𝓤 (sem 𝓛 (flft κ q)) (sem 𝓛 (LendsTwoParts self x y (u, w))))))
    (W.post bound (pair u w)) = λ u w u_is w_is.
    qed 𝓛 (‵ ((MutSlice (named 0) κ i128).own_val u (mut_slice_vals u)) ∷ ‵ ((MutSlice (named 0) κ i128).own_val w (mut_slice_vals w)) ∷ ‵ (flft κ q) ∷ ‵ (LendsTwoParts self x y (u, w)) ∷ []) ∵
    nothing ! $ move ! (2 ∷ 0 ∷ []) $ fjoin ! $ move ! (1 ∷ 0 ∷ []) $ fjoin ! $ feq_i ! (List Val) (pair u w ∷ []) (pair u w ∷ []) refl $ fjoin ! $
    fpack ! (Valss (Halves κ)) (within (shape (tuple_type (Halves κ))) (u, (w, tt)) (pair u w ∷ [])) (mut_slice_vals u, (mut_slice_vals w, tt)) $
    suffices ! _ (ends_at 𝓛 f.ended stayed c bound (pair u w) (u, w) (tt, (tt, (tt, tt))) (tt, (tt, (tt, tt)))) $
    nothing ! $ nothing ! $ fjoin ! $ nothing ! $ fjoin ! $ nothing ! $ fjoin ! $ join ! $ nothing ! $ move ! (2 ∷ 0 ∷ []) $ join ! $ join ! $ frame ! $ frame ! $
    use0 𝓛 (raw (fact 𝓤 (w.now ≡ part_of self.now y))) (fact_i 𝓤 _ (emp 𝓤) w_is) $ use0 𝓛 (raw (fact 𝓤 (u.now ≡ part_of self.now x))) (fact_i 𝓤 _ (emp 𝓤) u_is) $ done ! in
    qed 𝓛 (((‵ (flft κ q) ⊛ ‵ ftrue) ⊛ ‵ (owns (MutRef (named 0) κ R ∷ S ∷ S ∷ []) a vs)) ∷ raw ((c κs a).requires n) ∷ []) ∵
    enter ! _ _ _ _ _ $ alloc_all ! (λ l. pass_all ! refl ((tt, tt), ((typed x are.1.0).0, ((typed y are.1.1.0).0, tt))) $
    split ! $ split ! $ move ! (2 ∷ []) $ fsplit ! $ move ! (1 ∷ []) $ fsplit ! $ move ! (1 ∷ []) $ fsplit ! $
    -- [y; nothing; x; self; the token; nothing; what is required]
    move ! (6 ∷ []) $ use1 𝓛 (raw (fact 𝓤 (IsWithin x self.now)) ⊛ raw (fact 𝓤 (IsWithin y self.now)) ⊛ raw (fact 𝓤 (AreApart x y))) (id⊢ 𝓤 _) $ split3 ! $
    heard ! _ (λ x_within. heard ! _ (λ y_within. heard ! _ (λ apart.
    -- [y; nothing; x; self; the token; nothing]
    use1 𝓛 (‵ (own y) ⊛ ‵ (own y) ⊛ ‵ (own y) ⊛ ‵ (own y)) (four 𝓛 y) $ split ! $ move ! (1 ∷ []) $ split3 ! $
    move ! (5 ∷ []) $ use1 𝓛 (‵ (own x) ⊛ ‵ (own x) ⊛ ‵ (own x) ⊛ ‵ (own x)) (four 𝓛 x) $ split ! $ move ! (1 ∷ []) $ split3 ! $
    -- [x, four times; y, four times; nothing; self; the token; nothing]
    sets ! (addr ! (through ! refl (stop !))) refl (tt, tt) $
    move ! (4 ∷ 8 ∷ []) $ fjoin ! $ move ! (1 ∷ 0 ∷ []) $ fjoin ! $ move ! (7 ∷ 0 ∷ []) $ fjoin ! $ move ! (7 ∷ 8 ∷ []) $ join ! $ join ! $
    use0 𝓛 (raw (fact 𝓤 (AreApart x y))) (fact_i 𝓤 _ (emp 𝓤) apart) $ use0 𝓛 (raw (fact 𝓤 (IsWithin y self.now))) (fact_i 𝓤 _ (emp 𝓤) y_within) $ join ! $
    use0 𝓛 (raw (fact 𝓤 (IsWithin x self.now))) (fact_i 𝓤 _ (emp 𝓤) x_within) $ join ! $ move ! (1 ∷ 0 ∷ []) $
    let G₁ = triple_of 𝓛 hull.signature (hull.spec 𝓛 𝓜.mem 𝓡.returns) in
    let z₁ : G₁.Ghost = ((κs, qs, bounds, a, vs), tt) in
    use2 𝓛 (raw (G₁.pre z₁)) (id⊢ 𝓤 _) $
    calls_at ! (framed 𝓤 𝓛.H 𝓜 (tables 𝓤 𝓛.H 𝓜 𝓡 𝓡.env)) G₁ (hull-met.met 𝓤 𝓛 𝓜 𝓡 (code.calls-level_region::region::Region::hull_mut 𝓡.env wired)) z₁
    (and_then ! (get ! refl) (and_then ! (get ! refl) (and_then ! (get ! refl) (no_more !)))) (λ v₁.
    use1 𝓛 (later (some (λ (r : MutBor (List ℤ)). ((‵ (flft κ q) ⊛ ‵ ftrue) ⊛ ‵ ((MutSlice (named 0) κ i128).own_val r (v₁ ∷ []))) ⊛
    some (λ (ws : Lasts hull.ended κs a). ‵ (lasts hull.ended κs a ws) ⊛ (‵ (LendsPart self (hull_of x y) r) ⊛ raw (fact 𝓤 (r.now ≡ part_of self.now (hull_of x y))) ⊛ raw (fact 𝓤 (length r.now ≡ (hull_of x y).len))))))) (id⊢ 𝓤 _) $
    await ! tt $ pick ! (λ r. split ! $ split ! $ split ! $
    move ! (3 ∷ []) $ pick ! (λ w₁. split ! $ let_go ! $ split3 ! $ move ! (1 ∷ []) $ heard ! _ (λ r_is. move ! (1 ∷ []) $ heard ! _ (λ r_len.
    -- [the lender follows; the token; nothing; the cells; x, three times; y, three times]
    move ! (3 ∷ []) $ fsplit ! $ fsplit ! $ feq_l ! (λ e₁. pure_l ! (room i128 (length r.now)) (λ roomy.
    pure_i ! (mut_slice_at i128 r (mut_slice_vals r)) (tt, (tt, tt)) (refl, roomy) $ fjoin ! $
    lands_as ! (ap only e₁) refl (tt, (tt, (record { fits = roomy.0 }, tt))) $
    sets ! (addr ! (from ! (fld ! refl (hop ! (look_in_at ! 4 (sub ! 0 refl (whole !))) (stop !))))) refl (tt, tt) $
    sets ! (agg ! (and_then ! (get ! refl) (and_then ! (get_in ! (fld ! refl (stop !)) (sub ! 1 refl (whole !))) (no_more !)))) refl (tt, (tt, (record { fits = roomy.0 }, tt))) $
    -- [the cells; the lender follows; the token; nothing; x, three times; y, three times]
    nothing ! $ move ! (8 ∷ 0 ∷ []) $ fjoin ! $ move ! (5 ∷ 0 ∷ []) $ fjoin ! $ move ! (1 ∷ 0 ∷ []) $ fjoin ! $ move ! (2 ∷ 3 ∷ []) $ join ! $ join ! $
    use0 𝓛 (raw (fact 𝓤 ((front_of x y).len ≤ length r.now))) (fact_i 𝓤 _ (emp 𝓤) (omega (arith, r_len))) $ move ! (1 ∷ 0 ∷ []) $
    let G₂ = triple_of 𝓛 one.signature (one.spec 𝓛 𝓜.mem 𝓡.returns) in
    let z₂ : G₂.Ghost = ((κs, qs, tt, (r, (x, (y, tt))), (mut_slice_vals r, (span_vals x, (span_vals y, tt)))), tt) in
    use2 𝓛 (raw (G₂.pre z₂)) (id⊢ 𝓤 _) $
    calls_at ! (framed 𝓤 𝓛.H 𝓜 (tables 𝓤 𝓛.H 𝓜 𝓡 𝓡.env)) G₂ (one-met.met 𝓤 𝓛 𝓜 𝓡 (code.calls-level_region::pairs::split_first 𝓡.env wired)) z₂
    (and_then ! (get ! refl) (and_then ! (get ! refl) (and_then ! (get ! refl) (no_more !)))) (λ v₂.
    use1 𝓛 (later (some (λ (p : MutBor (List ℤ) × MutBor (List ℤ)). ((‵ (flft κ q) ⊛ ‵ ftrue) ⊛ ‵ ((Tuple (Halves κ)).own_val p (v₂ ∷ []))) ⊛
    some (λ (ws : Lasts one.ended κs (r, (x, (y, tt)))). ‵ (lasts one.ended κs (r, (x, (y, tt))) ws) ⊛ (‵ (Splits r.ghost_name p) ⊛ raw (fact 𝓤 (p.0.now ≡ take (front_of x y).len r.now)) ⊛ raw (fact 𝓤 (p.1.now ≡ drop_l (front_of x y).len r.now))))))) (id⊢ 𝓤 _) $
    await ! tt $ pick ! (λ p. split ! $ split ! $ split ! $
    move ! (3 ∷ []) $ pick ! (λ w₂. split ! $ let_go ! $ split3 ! $ move ! (1 ∷ []) $ heard ! _ (λ low_is. move ! (1 ∷ []) $ heard ! _ (λ others_is.
    -- [the cells are the two joined; the token; nothing; the two; the lender follows; x, twice; y, twice]
    move ! (3 ∷ []) $ fpick ! (λ vss₂. fsplit ! $ feq_l ! (λ is₂. fsplit ! $
    fsplit ! $ fsplit ! $ feq_l ! (λ low_val. pure_l ! (room i128 (length p.0.now)) (λ low_room.
    pure_i ! (mut_slice_at i128 p.0 (mut_slice_vals p.0)) (tt, (tt, tt)) (refl, low_room) $ fjoin ! $ move ! (1 ∷ []) $ fsplit ! $
    fsplit ! $ fsplit ! $ feq_l ! (λ others_val. pure_l ! (room i128 (length p.1.now)) (λ others_room.
    pure_i ! (mut_slice_at i128 p.1 (mut_slice_vals p.1)) (tt, (tt, tt)) (refl, others_room) $ fjoin ! $
    -- [the others; nothing; the first; the cells are the two joined; the token; nothing; the lender follows; x, twice; y, twice]
    lands_as ! (ap only (pair_val v₂ vss₂.0 vss₂.1.0 p is₂ low_val others_val)) refl (tt, ((tt, (record { fits = low_room.0 }, tt)), ((tt, (record { fits = others_room.0 }, tt)), tt))) $
    sets ! (of_opd ! (get_in ! (fld ! refl (stop !)) (sub ! 0 refl (whole !)))) refl (tt, (tt, (record { fits = low_room.0 }, tt))) $
    sets ! (of_opd ! (get_in ! (fld ! refl (stop !)) (sub ! 1 refl (whole !)))) refl (tt, (tt, (record { fits = others_room.0 }, tt))) $
    sets ! (addr ! (from ! (fld ! refl (hop ! (look_in_at ! 6 (sub ! 0 refl (whole !))) (stop !))))) refl (tt, tt) $
    sets ! (agg ! (and_then ! (get ! refl) (and_then ! (get_in ! (fld ! refl (stop !)) (sub ! 1 refl (whole !))) (no_more !)))) refl (tt, (tt, (record { fits = others_room.0 }, tt))) $
    move ! (9 ∷ 1 ∷ []) $ fjoin ! $ move ! (7 ∷ 0 ∷ []) $ fjoin ! $ move ! (1 ∷ 0 ∷ []) $ fjoin ! $ move ! (3 ∷ 4 ∷ []) $ join ! $ join ! $
    use0 𝓛 (raw (fact 𝓤 (gap_of x y ≤ length p.1.now))) (fact_i 𝓤 _ (emp 𝓤) (omega (arith, r_len, ap length others_is, length-drop (front_of x y).len r.now))) $ move ! (1 ∷ 0 ∷ []) $
    let G₃ = triple_of 𝓛 two.signature (two.spec 𝓛 𝓜.mem 𝓡.returns) in
    let z₃ : G₃.Ghost = ((κs, qs, tt, (p.1, (x, (y, tt))), (mut_slice_vals p.1, (span_vals x, (span_vals y, tt)))), tt) in
    use2 𝓛 (raw (G₃.pre z₃)) (id⊢ 𝓤 _) $
    calls_at ! (framed 𝓤 𝓛.H 𝓜 (tables 𝓤 𝓛.H 𝓜 𝓡 𝓡.env)) G₃ (two-met.met 𝓤 𝓛 𝓜 𝓡 (code.calls-level_region::pairs::split_gap 𝓡.env wired)) z₃
    (and_then ! (get ! refl) (and_then ! (get ! refl) (and_then ! (get ! refl) (no_more !)))) (λ v₃.
    use1 𝓛 (later (some (λ (p' : MutBor (List ℤ) × MutBor (List ℤ)). ((‵ (flft κ q) ⊛ ‵ ftrue) ⊛ ‵ ((Tuple (Halves κ)).own_val p' (v₃ ∷ []))) ⊛
    some (λ (ws : Lasts two.ended κs (p.1, (x, (y, tt)))). ‵ (lasts two.ended κs (p.1, (x, (y, tt))) ws) ⊛ (‵ (Splits p.1.ghost_name p') ⊛ raw (fact 𝓤 (p'.0.now ≡ take (gap_of x y) p.1.now)) ⊛ raw (fact 𝓤 (p'.1.now ≡ drop_l (gap_of x y) p.1.now))))))) (id⊢ 𝓤 _) $
    await ! tt $ pick ! (λ p'. split ! $ split ! $ split ! $
    move ! (3 ∷ []) $ pick ! (λ w₃. split ! $ let_go ! $ split3 ! $ move ! (1 ∷ []) $ heard ! _ (λ between_is. move ! (1 ∷ []) $ heard ! _ (λ high_is.
    -- [the others are the two joined; the token; nothing; the two; the first; the cells are the two joined; the lender follows; x; y]
    move ! (3 ∷ []) $ fpick ! (λ vss₃. fsplit ! $ feq_l ! (λ is₃. fsplit ! $
    fsplit ! $ fsplit ! $ feq_l ! (λ between_val. pure_l ! (room i128 (length p'.0.now)) (λ between_room.
    pure_i ! (mut_slice_at i128 p'.0 (mut_slice_vals p'.0)) (tt, (tt, tt)) (refl, between_room) $ fjoin ! $
    use1 𝓛 (later (‵ (fres p'.0.ghost_name ((coded_list i128.coded).code p'.0.now)))) (given_up 𝓛 R i128 (named 0) κ p'.0 (mut_slice_vals p'.0)) $ await ! tt $
    move ! (1 ∷ []) $ fsplit ! $
    fsplit ! $ fsplit ! $ feq_l ! (λ high_val. pure_l ! (room i128 (length p'.1.now)) (λ high_room.
    pure_i ! (mut_slice_at i128 p'.1 (mut_slice_vals p'.1)) (tt, (tt, tt)) (refl, high_room) $ fjoin ! $
    -- [the second; nothing; what lay between; the others are the two joined; the token; nothing; the first; the cells are the two joined; the lender follows; x; y]
    lands_as ! (ap only (pair_val v₃ vss₃.0 vss₃.1.0 p' is₃ between_val high_val)) refl (tt, ((tt, (record { fits = between_room.0 }, tt)), ((tt, (record { fits = high_room.0 }, tt)), tt))) $
    sets ! (of_opd ! (get_in ! (fld ! refl (stop !)) (sub ! 1 refl (whole !)))) refl (tt, (tt, (record { fits = high_room.0 }, tt))) $
    move ! (10 ∷ 1 ∷ []) $ fjoin ! $ move ! (9 ∷ 0 ∷ []) $ fjoin ! $ nothing ! $ join ! $ nothing ! $ move ! (1 ∷ 0 ∷ []) $
    let G₄ = triple_of 𝓛 test.signature (test.spec 𝓛 𝓜.mem 𝓡.returns) in
    let z₄ : G₄.Ghost = ((tt, tt, tt, (x, (y, tt)), (span_vals x, (span_vals y, tt))), tt) in
    use2 𝓛 (raw (G₄.pre z₄)) (id⊢ 𝓤 _) $
    calls_at ! (framed 𝓤 𝓛.H 𝓜 (tables 𝓤 𝓛.H 𝓜 𝓡 𝓡.env)) G₄ (test-met.met 𝓤 𝓛 𝓜 𝓡 (code.calls-level_region::pairs::begins_first 𝓡.env wired)) z₄
    (and_then ! (get ! refl) (and_then ! (get ! refl) (no_more !))) (λ v₄.
    use1 𝓛 (later (some (λ (t : Bool). (‵ ftrue ⊛ ‵ (bool.own_val t (v₄ ∷ []))) ⊛
    some (λ (ws : Lasts test.ended tt (x, (y, tt))). ‵ (lasts test.ended tt (x, (y, tt)) ws) ⊛ raw (fact 𝓤 (t ≡ nat_le x.start y.start)))))) (id⊢ 𝓤 _) $
    await ! tt $ pick ! (λ t. split ! $ split ! $ let_go ! $ move ! (1 ∷ []) $ pick ! (λ w₄. split ! $ let_go ! $ heard ! _ (λ t_is. feq_l ! (λ is₄.
    -- [the second; what lay between; the others are the two joined; the token; nothing; the first; the cells are the two joined; the lender follows]
    lands_as ! (ap only is₄) refl (tt, tt) $
    let parts = are_parts self.now x y r.now p.0.now p.1.now p'.0.now p'.1.now apart r_is low_is others_is between_is high_is in
    first ! $ branches ! (get ! refl)
    (λ yes.
    let is = in_order self.now x y p.0.now p'.0.now p'.1.now parts (sym t_is ∙ T-true t yes) in
    sets ! (addr ! (from ! (fld ! refl (hop ! (look_in_at ! 5 (sub ! 0 refl (whole !))) (stop !))))) refl (tt, tt) $
    sets ! (agg ! (and_then ! (get ! refl) (and_then ! (get_in ! (fld ! refl (stop !)) (sub ! 1 refl (whole !))) (no_more !)))) refl (tt, (tt, (record { fits = low_room.0 }, tt))) $
    sets ! (addr ! (from ! (fld ! refl (hop ! (look_in_at ! 7 (sub ! 0 refl (whole !))) (stop !))))) refl (tt, tt) $
    sets ! (agg ! (and_then ! (get ! refl) (and_then ! (get_in ! (fld ! refl (stop !)) (sub ! 1 refl (whole !))) (no_more !)))) refl (tt, (tt, (record { fits = high_room.0 }, tt))) $
    sets_last ! (agg ! (and_then ! (get ! refl) (and_then ! (get ! refl) (no_more !)))) refl (tt, ((tt, (record { fits = low_room.0 }, tt)), ((tt, (record { fits = high_room.0 }, tt)), tt))) $
    exec ! 𝓣.C 𝓣.Λ (env code.Mir.locals l) code.Mir.t-14 (at_ret _ (W.post bound)) $
    sets ! (of_opd ! (get ! refl)) refl (tt, ((tt, (record { fits = low_room.0 }, tt)), ((tt, (record { fits = high_room.0 }, tt)), tt))) $
    returns ! (look_at ! 0 refl) $ free_all ! refl $ keep ! (7 ∷ 6 ∷ 2 ∷ 1 ∷ 5 ∷ 0 ∷ 3 ∷ []) $ group ! 4 $
    use1 𝓛 (‵ (follows_both R (Array i128 0) (Array i128 0) self.ghost_name p.0.ghost_name p'.1.ghost_name (λ u w. written_over self.now (hull_of x y).start (u ++ (p'.0.now ++ w)))))
    (cut 𝓛 R i128 self.ghost_name r.ghost_name p.0.ghost_name p.1.ghost_name p'.0.ghost_name p'.1.ghost_name (written_over self.now (hull_of x y).start) p'.0.now) $
    rewrite ! 0 (λ (F : List ℤ → List ℤ → Block). ‵ (follows_both R (Array i128 0) (Array i128 0) self.ghost_name p.0.ghost_name p'.1.ghost_name F)) is.writes refl $
    move ! (1 ∷ 2 ∷ 3 ∷ []) $ by ! (exits p.0 p'.1 is.of_a is.of_b))
    (λ no.
    let is = turned self.now x y p.0.now p'.0.now p'.1.now parts (sym t_is ∙ T-false t no) in
    sets ! (addr ! (from ! (fld ! refl (hop ! (look_in_at ! 7 (sub ! 0 refl (whole !))) (stop !))))) refl (tt, tt) $
    sets ! (agg ! (and_then ! (get ! refl) (and_then ! (get_in ! (fld ! refl (stop !)) (sub ! 1 refl (whole !))) (no_more !)))) refl (tt, (tt, (record { fits = high_room.0 }, tt))) $
    sets ! (addr ! (from ! (fld ! refl (hop ! (look_in_at ! 5 (sub ! 0 refl (whole !))) (stop !))))) refl (tt, tt) $
    sets ! (agg ! (and_then ! (get ! refl) (and_then ! (get_in ! (fld ! refl (stop !)) (sub ! 1 refl (whole !))) (no_more !)))) refl (tt, (tt, (record { fits = low_room.0 }, tt))) $
    sets_last ! (agg ! (and_then ! (get ! refl) (and_then ! (get ! refl) (no_more !)))) refl (tt, ((tt, (record { fits = high_room.0 }, tt)), ((tt, (record { fits = low_room.0 }, tt)), tt))) $
    exec ! 𝓣.C 𝓣.Λ (env code.Mir.locals l) code.Mir.t-14 (at_ret _ (W.post bound)) $
    sets ! (of_opd ! (get ! refl)) refl (tt, ((tt, (record { fits = high_room.0 }, tt)), ((tt, (record { fits = low_room.0 }, tt)), tt))) $
    returns ! (look_at ! 0 refl) $ free_all ! refl $ keep ! (7 ∷ 6 ∷ 2 ∷ 1 ∷ 0 ∷ 5 ∷ 3 ∷ []) $ group ! 4 $
    use1 𝓛 (‵ (follows_both R (Array i128 0) (Array i128 0) self.ghost_name p'.1.ghost_name p.0.ghost_name (λ w u. written_over self.now (hull_of x y).start (u ++ (p'.0.now ++ w)))))
    (cut_turned 𝓛 R i128 self.ghost_name r.ghost_name p.0.ghost_name p.1.ghost_name p'.0.ghost_name p'.1.ghost_name (written_over self.now (hull_of x y).start) p'.0.now) $
    rewrite ! 0 (λ (F : List ℤ → List ℤ → Block). ‵ (follows_both R (Array i128 0) (Array i128 0) self.ghost_name p'.1.ghost_name p.0.ghost_name F)) is.writes refl $
    move ! (1 ∷ 2 ∷ 3 ∷ []) $ by ! (exits p'.1 p.0 is.of_a is.of_b)))))))))))))))))))))))))))))))))))))))))
