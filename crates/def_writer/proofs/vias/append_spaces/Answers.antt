use Rattle.std.proofs.Common.{◌≡◌, [], ◌∷◌, ◌++◌, codes, ap, ◌∙◌, to_z, of_z, rules}
use Rattle.std.specs.Int.{w64}
use Rattle.std.specs.Fmt.{signed_decimal}
use Rattle.def_writer.specs.Via.{gap}
use Rattle.def_writer.specs.inside.Line.{spaced}
use Rattle.def_writer.proofs.vias.append_spaces.Goals as goal

pub returns : goal.returns
returns c =
    let array = c.args.array.now in
    let in_x : to_z w64 (of_z w64 c.gap.result) ≡ c.gap.result = search rules in
    let in_y : to_z w64 (of_z w64 c.gap-2.result) ≡ c.gap-2.result = search rules in
    let cut_x : to_z w64 (of_z w64 array.cut_x) ≡ array.cut_x = search rules in
    let cut_y : to_z w64 (of_z w64 array.cut_y) ≡ array.cut_y = search rules in
    let pitch_x : to_z w64 (of_z w64 array.pitch_x) ≡ array.pitch_x = search rules in
    let pitch_y : to_z w64 (of_z w64 array.pitch_y) ≡ array.pitch_y = search rules in
    let a : c.digits-gap_x.result.now ≡ signed_decimal (gap array.cut_x array.pitch_x) = c.digits-gap_x.ensures ∙ ap signed_decimal (in_x ∙ c.gap.ensures ∙ (λ i. gap (cut_x i) (pitch_x i))) in
    let b : c.digits-gap_y.result.now ≡ signed_decimal (gap array.cut_y array.pitch_y) = c.digits-gap_y.ensures ∙ ap signed_decimal (in_y ∙ c.gap-2.ensures ∙ (λ i. gap (cut_y i) (pitch_y i))) in
    let kept_lx : to_z w64 (of_z w64 array.lower_x) ≡ array.lower_x = search rules in
    let kept_ly : to_z w64 (of_z w64 array.lower_y) ≡ array.lower_y = search rules in
    let kept_ux : to_z w64 (of_z w64 array.upper_x) ≡ array.upper_x = search rules in
    let kept_uy : to_z w64 (of_z w64 array.upper_y) ≡ array.upper_y = search rules in
    let lx : c.digits-lower_x.result.now ≡ signed_decimal array.lower_x = c.digits-lower_x.ensures ∙ ap signed_decimal kept_lx in
    let ly : c.digits-lower_y.result.now ≡ signed_decimal array.lower_y = c.digits-lower_y.ensures ∙ ap signed_decimal kept_ly in
    let ux : c.digits-upper_x.result.now ≡ signed_decimal array.upper_x = c.digits-upper_x.ensures ∙ ap signed_decimal kept_ux in
    let uy : c.digits-upper_y.result.now ≡ signed_decimal array.upper_y = c.digits-upper_y.ensures ∙ ap signed_decimal kept_uy in
    c.in_ok-append_words.ensures
    ∙ (λ i. c.args.out.now.items ++ spaced (codes "+" ∷ codes "CUTSPACING" ∷ a i ∷ b i ∷ codes "+" ∷ codes "ENCLOSURE" ∷ lx i ∷ ly i ∷ ux i ∷ uy i ∷ []))
