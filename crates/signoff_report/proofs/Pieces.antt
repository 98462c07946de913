-- Texts that are appended piece by piece.
use Rattle.std.proofs.Common.{◌≡◌, ℕ, ℤ, Option, List, [], ◌++◌, ◌∷◌, codes, decimal, pos, ◌*ℤ◌, ap, ◌∙◌, append_assoc}
use Rattle.fixed_decimal.specs.Printed.{printed}
use Rattle.signoff_report.specs.Report.{line_of, branch_words, stated_limit, word_of}
use Rattle.signoff_report.specs.inside.Lines.{flow_text}
use Rattle.em_rules.specs.Verdict.{verdict_by_ends}
use Rattle.bound_check.specs.Certified.{nanoampere}

pub node_pieces : (out name p q : List ℕ) → (((out ++ codes "node ") ++ name) ++ ((32 ∷ p) ++ (32 ∷ q))) ++ 10 ∷ [] ≡ out ++ line_of (codes "node" ∷ name ∷ p ∷ q ∷ [])
node_pieces out name p q = simp append_assoc

pub flow_pieces : (out p q limit word : List ℕ) → (((out ++ ((32 ∷ p) ++ (32 ∷ q))) ++ 32 ∷ []) ++ limit) ++ (32 ∷ (word ++ 10 ∷ [])) ≡ out ++ (32 ∷ (p ++ (32 ∷ (q ++ (32 ∷ (limit ++ (32 ∷ (word ++ 10 ∷ []))))))))
flow_pieces out p q limit word =
    let end : List ℕ = 32 ∷ (word ++ 10 ∷ []) in
    let both : List ℕ = (32 ∷ p) ++ (32 ∷ q) in
    append_assoc ((out ++ both) ++ 32 ∷ []) limit end ∙ append_assoc (out ++ both) (32 ∷ []) (limit ++ end)
    ∙ append_assoc out both (32 ∷ (limit ++ end)) ∙ ap (λ l. out ++ 32 ∷ l) (append_assoc p (32 ∷ q) (32 ∷ (limit ++ end)))

pub branch_pieces : (out number from to p q limit word : List ℕ)
    → (out ++ (codes "branch R" ++ (number ++ (32 ∷ (from ++ (32 ∷ to)))))) ++ (32 ∷ (p ++ (32 ∷ (q ++ (32 ∷ (limit ++ (32 ∷ (word ++ 10 ∷ []))))))))
    ≡ out ++ line_of (codes "branch" ∷ (codes "R" ++ number) ∷ from ∷ to ∷ p ∷ q ∷ limit ∷ word ∷ [])
branch_pieces out number from to p q limit word = simp append_assoc

pub interval_pieces : (out : List ℕ) (low low' high high' : ℤ) → low ≡ low' → high ≡ high' → (out ++ (32 ∷ printed low 9)) ++ (32 ∷ printed high 9) ≡ out ++ ((32 ∷ printed low' 9) ++ (32 ∷ printed high' 9))
interval_pieces out low low' high high' e f = append_assoc out (32 ∷ printed low 9) (32 ∷ printed high 9) ∙ (λ i. out ++ ((32 ∷ printed (e i) 9) ++ (32 ∷ printed (f i) 9)))

-- The parts of a branch's line are its line.
pub whole_branch : (out mid new : List ℕ) (number : ℕ) (from from' to to' : List ℕ) (shown shown' : ℤ × ℤ) (limit limit' : Option ℕ)
    → mid ≡ out ++ (codes "branch R" ++ (decimal number ++ (32 ∷ (from ++ (32 ∷ to))))) → new ≡ mid ++ flow_text shown limit
    → from ≡ from' → to ≡ to' → shown ≡ shown' → limit ≡ limit'
    → new ≡ out ++ line_of (branch_words number from' to' shown' limit' (verdict_by_ends (shown'.0 *ℤ pos nanoampere) (shown'.1 *ℤ pos nanoampere) limit'))
whole_branch out mid new number from from' to to' shown shown' limit limit' first second e f g h =
    second ∙ ap (λ l. l ++ flow_text shown limit) first
    ∙ branch_pieces out (decimal number) from to (printed shown.0 9) (printed shown.1 9) (stated_limit limit) (word_of (verdict_by_ends (shown.0 *ℤ pos nanoampere) (shown.1 *ℤ pos nanoampere) limit))
    ∙ (λ i. out ++ line_of (branch_words number (e i) (f i) (g i) (h i) (verdict_by_ends ((g i).0 *ℤ pos nanoampere) ((g i).1 *ℤ pos nanoampere) (h i))))
