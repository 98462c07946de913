-- What a lender ends as, once two parts of what it lent are given back, and what lay between them was given up.
use Rattle.std.proofs.Common.{List, [], ◌∷◌, ◌++◌, refl}
use seplogic.Ra.Ura.{Ura}
use mir.Syntax.{Lifetime}
use mir.Val.{Val}
use base.Logic.{ent, sep, wand}
use base.Fml.{Lft, GName, fres, fobs}
use base.Stored.{coded_list}
use types.Logic.{Logic, sem}
use types.Kit.{‵, ◌⊛◌, ◌$◌, ◌∵◌, !, qed, by, move, keep, drop as let_go, use2, split, join, fsplit3, rewrite, each, assume, updating, now, done}
use types.Tokens.{name_done}
use types.Follow.{followed₂}
use denote.RattleType.{RattleType}
use denote.Memory.{mem}
use denote.Array.{Array}
use denote.Ref.{MutBor}
use denote.Slice.{MutSlice}
use denote.FollowSlice.{heres_id}
use denote.Follow.{follows, followed, follows_both, both_by}

module _ {M : Type 1} {𝓤 : Ura M} (𝓛 : Logic 𝓤) (R T : RattleType) where
  open 𝓛 use {H, A}

  abbrev L : RattleType
  L = Array T 0

  abbrev code_of : List T.Denot → base.Stored.Gv
  code_of = (coded_list T.coded).code

  -- A slice that is given up holds what it held.
  pub given_up : (ℓ : Lifetime) (κ : Lft) (r : MutBor (List T.Denot)) (vs : List Val) → ent 𝓤 (sem 𝓛 ((MutSlice ℓ κ T).own_val r vs)) (H.⇛ (A.res r.ghost_name (code_of r.now)))
  given_up ℓ κ r vs = qed 𝓛 (‵ ((MutSlice ℓ κ T).own_val r vs) ∷ []) ∵ updating ! $ fsplit3 ! $ let_go ! $
      rewrite ! 0 (λ (l : List T.Denot). ‵ (fobs r.ghost_name (code_of l))) (heres_id T r.now) refl $ name_done ! tt $ now ! $ keep ! (0 ∷ []) $ done !

  -- Two parts of a list, joined.
  pub joined : (γ γ₁ γ₂ : GName) (u w : List T.Denot) → ent 𝓤 (sep 𝓤 (sep 𝓤 (A.res γ₁ (code_of u)) (A.res γ₂ (code_of w))) (sem 𝓛 (follows_both L L L γ γ₁ γ₂ ◌++◌))) (A.res γ (code_of (u ++ w)))
  unfolding both_by
  joined γ γ₁ γ₂ u w = qed 𝓛 ((‵ (fres γ₁ (code_of u)) ⊛ ‵ (fres γ₂ (code_of w))) ∷ ‵ (follows_both L L L γ γ₁ γ₂ ◌++◌) ∷ []) ∵ by ! (followed₂ 𝓛 (mem L) (mem L) (mem L) ◌++◌ γ γ₁ γ₂ u w)

  -- The lender follows what it lent, which was cut into a first part and others, and those into what was given up and a second part.
  pub cut : (γ γ_all γ₁ γ_others γ_gap γ₂ : GName) (F : List T.Denot → R.Denot) (gap : List T.Denot)
      → ent 𝓤 (sep 𝓤 (sem 𝓛 (follows R L γ γ_all F)) (sep 𝓤 (sem 𝓛 (follows_both L L L γ_all γ₁ γ_others ◌++◌)) (sep 𝓤 (sem 𝓛 (follows_both L L L γ_others γ_gap γ₂ ◌++◌)) (A.res γ_gap (code_of gap)))))
      (sem 𝓛 (follows_both R L L γ γ₁ γ₂ (λ u w. F (u ++ (gap ++ w)))))
  unfolding both_by
  cut γ γ_all γ₁ γ_others γ_gap γ₂ F gap =
      qed 𝓛 (‵ (follows R L γ γ_all F) ∷ ‵ (follows_both L L L γ_all γ₁ γ_others ◌++◌) ∷ ‵ (follows_both L L L γ_others γ_gap γ₂ ◌++◌) ∷ ‵ (fres γ_gap (code_of gap)) ∷ []) ∵
      each ! (λ (p : List T.Denot × List T.Denot). wand 𝓤 (sep 𝓤 (A.res γ₁ (code_of p.0)) (A.res γ₂ (code_of p.1))) (A.res γ (R.coded.code (F (p.0 ++ (gap ++ p.1)))))) (λ p.
      assume ! (‵ (fres γ₁ (code_of p.0)) ⊛ ‵ (fres γ₂ (code_of p.1))) $ split ! $
      -- [the first part; the second; the lender; the first cut; the second cut; the gap].
      move ! (5 ∷ 1 ∷ []) $ join ! $ move ! (0 ∷ 4 ∷ []) $ use2 𝓛 (‵ (fres γ_others (code_of (gap ++ p.1)))) (joined γ_others γ_gap γ₂ gap p.1) $
      -- [the others; the first part; the lender; the first cut].
      move ! (1 ∷ 0 ∷ []) $ join ! $ move ! (0 ∷ 2 ∷ []) $ use2 𝓛 (‵ (fres γ_all (code_of (p.0 ++ (gap ++ p.1))))) (joined γ_all γ₁ γ_others p.0 (gap ++ p.1)) $
      -- [all; the lender].
      move ! (1 ∷ 0 ∷ []) $ by ! (followed 𝓛 R L F γ γ_all (p.0 ++ (gap ++ p.1))))

  -- The same, where the second part is handed out first.
  pub cut_turned : (γ γ_all γ₁ γ_others γ_gap γ₂ : GName) (F : List T.Denot → R.Denot) (gap : List T.Denot)
      → ent 𝓤 (sep 𝓤 (sem 𝓛 (follows R L γ γ_all F)) (sep 𝓤 (sem 𝓛 (follows_both L L L γ_all γ₁ γ_others ◌++◌)) (sep 𝓤 (sem 𝓛 (follows_both L L L γ_others γ_gap γ₂ ◌++◌)) (A.res γ_gap (code_of gap)))))
      (sem 𝓛 (follows_both R L L γ γ₂ γ₁ (λ w u. F (u ++ (gap ++ w)))))
  unfolding both_by
  cut_turned γ γ_all γ₁ γ_others γ_gap γ₂ F gap =
      qed 𝓛 (‵ (follows R L γ γ_all F) ∷ ‵ (follows_both L L L γ_all γ₁ γ_others ◌++◌) ∷ ‵ (follows_both L L L γ_others γ_gap γ₂ ◌++◌) ∷ ‵ (fres γ_gap (code_of gap)) ∷ []) ∵
      each ! (λ (p : List T.Denot × List T.Denot). wand 𝓤 (sep 𝓤 (A.res γ₂ (code_of p.0)) (A.res γ₁ (code_of p.1))) (A.res γ (R.coded.code (F (p.1 ++ (gap ++ p.0)))))) (λ p.
      assume ! (‵ (fres γ₂ (code_of p.0)) ⊛ ‵ (fres γ₁ (code_of p.1))) $ split ! $
      -- [the second part; the first; the lender; the first cut; the second cut; the gap].
      move ! (5 ∷ 0 ∷ []) $ join ! $ move ! (0 ∷ 4 ∷ []) $ use2 𝓛 (‵ (fres γ_others (code_of (gap ++ p.0)))) (joined γ_others γ_gap γ₂ gap p.0) $
      move ! (1 ∷ 0 ∷ []) $ join ! $ move ! (0 ∷ 2 ∷ []) $ use2 𝓛 (‵ (fres γ_all (code_of (p.1 ++ (gap ++ p.0))))) (joined γ_all γ₁ γ_others p.1 (gap ++ p.0)) $
      move ! (1 ∷ 0 ∷ []) $ by ! (followed 𝓛 R L F γ γ_all (p.1 ++ (gap ++ p.0))))
