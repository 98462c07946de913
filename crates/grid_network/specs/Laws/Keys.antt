-- When two points of a drawing are one.
use Rattle.std.proofs.Common.{◌≡◌, ◌&&◌, ◌==◌, true, refl}
use Rattle.std.specs.Bool.{Decides}
use Rattle.std.specs.Ordering.{int_eq}
use Rattle.std.proofs.lemmas.Bool.{and_parts, and_from}
use Rattle.std.proofs.lemmas.Bool.Decides.{Decides-eqb, Decides-int_eq}
use Rattle.grid_network.specs.declared.key.Key.{Key}
use Rattle.grid_network.specs.Nodes.{same_key}

same_key_decides : (a b : Key) → Decides (same_key a b) ((a.net ≡ b.net) × (a.layer ≡ b.layer) × (a.x ≡ b.x) × (a.y ≡ b.y))
same_key_decides a b = (λ h. there h, λ h. back h)
  where
    there : same_key a b ≡ true → (a.net ≡ b.net) × (a.layer ≡ b.layer) × (a.x ≡ b.x) × (a.y ≡ b.y)
    there h =
        let three = and_parts ((a.net == b.net) && (a.layer == b.layer) && int_eq a.x b.x) (int_eq a.y b.y) h in
        let two = and_parts ((a.net == b.net) && (a.layer == b.layer)) (int_eq a.x b.x) three.0 in
        let one = and_parts (a.net == b.net) (a.layer == b.layer) two.0 in
        ((Decides-eqb a.net b.net).0 one.0, (Decides-eqb a.layer b.layer).0 one.1, (Decides-int_eq a.x b.x).0 two.1, (Decides-int_eq a.y b.y).0 three.1)

    back : ((a.net ≡ b.net) × (a.layer ≡ b.layer) × (a.x ≡ b.x) × (a.y ≡ b.y)) → same_key a b ≡ true
    back (n, l, x, y) =
        and_from ((a.net == b.net) && (a.layer == b.layer) && int_eq a.x b.x) (int_eq a.y b.y)
        (and_from ((a.net == b.net) && (a.layer == b.layer)) (int_eq a.x b.x)
        (and_from (a.net == b.net) (a.layer == b.layer) ((Decides-eqb a.net b.net).1 n) ((Decides-eqb a.layer b.layer).1 l)) ((Decides-int_eq a.x b.x).1 x))
        ((Decides-int_eq a.y b.y).1 y)

pub one_key : (a b : Key) → same_key a b ≡ true → a ≡ b
one_key a b h = let e = (same_key_decides a b).0 h in λ k. record { net = e.0 k; layer = e.1 k; x = e.2 k; y = e.3 k }

pub same_itself : (a : Key) → same_key a a ≡ true
same_itself a = (same_key_decides a a).1 (refl, refl, refl, refl)
