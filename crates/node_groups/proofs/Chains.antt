-- Chains of shorts: they go on from one another and back.
use Rattle.std.proofs.Common.{ℕ, zero, suc, ◌<◌, inl, inr, refl, sym, subst, List, length, get_or}
use Rattle.std.proofs.lemmas.List.Elements.{Contains-get_or}
use Rattle.node_groups.specs.Joined.{IsShorted, IsChain, AreJoined}

pub joined_self : (shorts : List (ℕ × ℕ)) (i : ℕ) → AreJoined shorts i i
joined_self shorts i = (0, refl)

trans_from : (shorts : List (ℕ × ℕ)) (k i j m : ℕ) → IsChain shorts k i j → AreJoined shorts j m → AreJoined shorts i m
trans_from shorts zero i j m e way = subst (λ (x : ℕ). AreJoined shorts x m) (sym e) way
trans_from shorts (suc k) i j m chain way =
    let t = trans_from shorts k chain.0 j m chain.2 way in (suc t.0, (chain.0, chain.1, t.1))

pub joined_trans : (shorts : List (ℕ × ℕ)) (i j m : ℕ) → AreJoined shorts i j → AreJoined shorts j m
    → AreJoined shorts i m
joined_trans shorts i j m first second = trans_from shorts first.0 i j m first.1 second

turned : (shorts : List (ℕ × ℕ)) (i j : ℕ) → IsShorted shorts i j → IsShorted shorts j i
turned shorts i j h = elim h [ inl s ↦ inr s | inr s ↦ inl s ]

-- The links of a chain, one after the other, in front of a chain that leads back.
back_from : (shorts : List (ℕ × ℕ)) (k m j i : ℕ) → IsChain shorts k m j → AreJoined shorts m i → AreJoined shorts j i
back_from shorts zero m j i e way = subst (λ (x : ℕ). AreJoined shorts x i) e way
back_from shorts (suc k) m j i chain way =
    back_from shorts k chain.0 j i chain.2 (suc way.0, (m, turned shorts m chain.0 chain.1, way.1))

pub joined_back : (shorts : List (ℕ × ℕ)) (i j : ℕ) → AreJoined shorts i j → AreJoined shorts j i
joined_back shorts i j h = back_from shorts h.0 i j i h.1 (joined_self shorts i)

-- The ends of a short of the list are joined.
pub one_short : (shorts : List (ℕ × ℕ)) (k : ℕ) (d : ℕ × ℕ) → k < length shorts
    → AreJoined shorts (get_or shorts k d).0 (get_or shorts k d).1
one_short shorts k d l = (1, ((get_or shorts k d).1, inl (Contains-get_or shorts k d l), refl))
