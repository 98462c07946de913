use Rattle.std.proofs.Common.{◌≡◌, ℕ, List, [], ◌∷◌, ◌++◌, length, codes, ap, ◌∙◌, append_assoc, arith, ◌<◌, length-append}
use Rattle.std.specs.List.{join_with_byte}
use Rattle.def_writer.specs.Line.{line_of}
use Rattle.def_writer.specs.Via.{via_of, via_name}
use Rattle.def_writer.specs.inside.Line.{spaced}
use Rattle.def_writer.specs.inside.Via.{rule_words, space_words, count_words}
use Rattle.def_writer.proofs.LineLemmas.{line_joined}
use Rattle.def_writer.proofs.vias.append_via.Goals as goal

-- The parts of a line, one after the other.
parts : (out a b c d e f g h new rule space count : List ℕ) → a ≡ out ++ codes "- " → b ≡ a ++ c → d ≡ b ++ 32 ∷ [] → e ≡ d ++ rule → f ≡ e ++ 32 ∷ [] → g ≡ f ++ space → h ≡ g ++ 32 ∷ []
    → new ≡ h ++ count → new ≡ out ++ (codes "- " ++ (c ++ (32 ∷ (rule ++ (32 ∷ (space ++ (32 ∷ count)))))))
parts out a b c d e f g h new rule space count pa pb pd pe pf pg ph pn =
    pn ∙ ap (λ l. l ++ count) (ph ∙ ap (λ l. l ++ 32 ∷ []) (pg ∙ ap (λ l. l ++ space) (pf ∙ ap (λ l. l ++ 32 ∷ []) (pe ∙ ap (λ l. l ++ rule) (pd ∙ ap (λ l. l ++ 32 ∷ []) (pb ∙ ap (λ l. l ++ c) pa))))))
    ∙ simp append_assoc

-- The name of a via and the parts of its line are the line.
whole : (name : List ℕ) (rule space count : List (List ℕ)) → 0 < length rule → 0 < length space → 0 < length count
    → codes "- " ++ (name ++ (32 ∷ (join_with_byte 32 rule ++ (32 ∷ (join_with_byte 32 space ++ (32 ∷ line_of count))))))
    ≡ line_of ((codes "-" ∷ name ∷ []) ++ (rule ++ (space ++ count)))
whole name rule space count some_rule some_space some_count =
    ap (λ l. codes "- " ++ (name ++ (32 ∷ (join_with_byte 32 rule ++ (32 ∷ l))))) (line_joined space count some_space some_count)
    ∙ ap (λ l. codes "- " ++ (name ++ (32 ∷ l))) (line_joined rule (space ++ count) some_rule (omega (arith, length-append space count)))
    ∙ line_joined (codes "-" ∷ name ∷ []) (rule ++ (space ++ count)) (omega arith) (omega (arith, length-append rule (space ++ count)))

pub returns : goal.returns
returns c =
    let array = c.args.array.now in
    let rule : List (List ℕ) = rule_words c.args.tech.now array in
    let space : List (List ℕ) = space_words array in
    let count : List (List ℕ) = count_words array in
    let name : c.append_name.new.out.items ≡ c.extend_from_slice.new.self.items ++ via_name (via_of array) =
    c.in_ok-append_name.ensures ∙ ap (λ v. c.extend_from_slice.new.self.items ++ via_name v) c.via_of.ensures in
    parts c.args.out.now.items c.extend_from_slice.new.self.items c.append_name.new.out.items (via_name (via_of array)) c.push.new.self.items c.append_rule.new.out.items c.push-2.new.self.items
    c.append_spaces.new.out.items c.push-3.new.self.items c.append_counts.new.out.items (spaced rule) (spaced space) (line_of count)
    c.in_ok-extend_from_slice.ensures.items name c.in_ok-push.ensures.items c.in_ok-append_rule.ensures c.in_ok-push-2.ensures.items c.in_ok-append_spaces.ensures c.in_ok-push-3.ensures.items
    c.in_ok-append_counts.ensures
    ∙ ap (λ l. c.args.out.now.items ++ l) (whole (via_name (via_of array)) rule space count (omega arith) (omega arith) (omega arith))
