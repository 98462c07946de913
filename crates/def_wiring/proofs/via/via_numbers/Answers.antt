use Rattle.std.proofs.Common.{SFits, w64, rules, sym, subst}
use Rattle.std.proofs.lemmas.Int.{to_z-of_z}
use Rattle.def_wiring.specs.declared.number.Quantity.TheVariants.{NotNegative, Positive}
use Rattle.def_wiring.specs.Number.{IsNumber}
use Rattle.def_wiring.specs.Words.{text_at, text_or_one}
use Rattle.def_wiring.proofs.via.via_numbers.Goals as goal

pub returns : goal.returns
returns c =
    let words = c.args.words.now in
    let cut_x : SFits w64 c.in_ok-cut.cut.x = search rules in
    let cut_y : SFits w64 c.in_ok-cut.cut.y = search rules in
    let gap_x : SFits w64 c.in_ok-gap.gap.x = search rules in
    let gap_y : SFits w64 c.in_ok-gap.gap.y = search rules in
    let lower_x : SFits w64 c.in_ok-lower.lower.x = search rules in
    let lower_y : SFits w64 c.in_ok-lower.lower.y = search rules in
    let upper_x : SFits w64 c.in_ok-upper.upper.x = search rules in
    let upper_y : SFits w64 c.in_ok-upper.upper.y = search rules in
    let rows : SFits w64 c.in_ok-counts.counts.x = search rules in
    let columns : SFits w64 c.in_ok-counts.counts.y = search rules in
    record {
      cut_x = subst (λ z. IsNumber Positive (text_at 5 words) z) (sym (to_z-of_z w64 c.in_ok-cut.cut.x cut_x)) c.in_ok-cut.ensures.x;
      cut_y = subst (λ z. IsNumber Positive (text_at 6 words) z) (sym (to_z-of_z w64 c.in_ok-cut.cut.y cut_y)) c.in_ok-cut.ensures.y;
      gap_x = subst (λ z. IsNumber NotNegative (text_at 14 words) z) (sym (to_z-of_z w64 c.in_ok-gap.gap.x gap_x)) c.in_ok-gap.ensures.x;
      gap_y = subst (λ z. IsNumber NotNegative (text_at 15 words) z) (sym (to_z-of_z w64 c.in_ok-gap.gap.y gap_y)) c.in_ok-gap.ensures.y;
      lower_x = subst (λ z. IsNumber NotNegative (text_at 18 words) z) (sym (to_z-of_z w64 c.in_ok-lower.lower.x lower_x)) c.in_ok-lower.ensures.x;
      lower_y = subst (λ z. IsNumber NotNegative (text_at 19 words) z) (sym (to_z-of_z w64 c.in_ok-lower.lower.y lower_y)) c.in_ok-lower.ensures.y;
      upper_x = subst (λ z. IsNumber NotNegative (text_at 20 words) z) (sym (to_z-of_z w64 c.in_ok-upper.upper.x upper_x)) c.in_ok-upper.ensures.x;
      upper_y = subst (λ z. IsNumber NotNegative (text_at 21 words) z) (sym (to_z-of_z w64 c.in_ok-upper.upper.y upper_y)) c.in_ok-upper.ensures.y;
      rows = subst (λ z. IsNumber Positive (text_or_one 24 words) z) (sym (to_z-of_z w64 c.in_ok-counts.counts.x rows)) c.in_ok-counts.ensures.x;
      columns = subst (λ z. IsNumber Positive (text_or_one 25 words) z) (sym (to_z-of_z w64 c.in_ok-counts.counts.y columns)) c.in_ok-counts.ensures.y;
    }
