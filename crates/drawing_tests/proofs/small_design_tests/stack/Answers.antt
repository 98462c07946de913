use Rattle.std.proofs.Common.{◌≡◌, ◌<◌, ◌≤◌, ◌+◌, ℕ, pos, List, [], ◌∷◌, All, length, refl, sym, subst, ◌∙◌, to_z, of_z, rules, arith}
use Rattle.std.specs.Int.{w64}
use Rattle.std.proofs.lemmas.Int.{ints}
use Rattle.std.proofs.lemmas.List.Elements.{All-nil, All-cons}
use Rattle.lef_tech.specs.declared.tech.Tech.{Tech}
use Rattle.via_arrays.specs.declared.parts.CutArray.{CutArray}
use Rattle.def_writer.specs.Limits.{ArrayFits}
use Rattle.wiring_file.specs.Number.{limit}
use Rattle.wiring_file.specs.Written.{IsNear}
use Rattle.written_wiring.specs.Fits.{ArrayReads}
use Rattle.drawing_tests.proofs.small_design_tests.stack.Goals as goal

abbrev array : ℕ → ℕ → ℕ → CutArray
array rule x y = record {
  rule = rule;
  columns = 3;
  rows = 1;
  cut_x = pos 140;
  cut_y = pos 140;
  pitch_x = pos 300;
  pitch_y = pos 300;
  lower_x = pos x;
  lower_y = pos y;
  upper_x = pos y;
  upper_y = pos x;
}

array_fits : (tech : Tech) (rule x y : ℕ) → rule < length tech.rules → ArrayFits tech (array rule x y)
array_fits tech rule x y within = record {
  rule = within;
  in_x = (omega (arith, ints), omega (arith, ints), omega (arith, ints));
  in_y = (omega (arith, ints), omega (arith, ints), omega (arith, ints));
}

abbrev all_arrays : List CutArray
all_arrays = array 0 70 0 ∷ array 1 0 70 ∷ array 2 70 0 ∷ []

all_fit : (tech : Tech) → 3 ≤ length tech.rules → All (ArrayFits tech) all_arrays
all_fit tech many =
    All-cons (ArrayFits tech) (array 0 70 0) (array 1 0 70 ∷ array 2 70 0 ∷ []) (array_fits tech 0 70 0 (omega arith))
    (All-cons (ArrayFits tech) (array 1 0 70) (array 2 70 0 ∷ []) (array_fits tech 1 0 70 (omega arith))
    (All-cons (ArrayFits tech) (array 2 70 0) [] (array_fits tech 2 70 0 (omega arith)) (All-nil (ArrayFits tech))))

array_reads : (rule x y : ℕ) → x ≤ limit → y ≤ limit → ArrayReads (array rule x y)
array_reads rule x y few_x few_y = record {
  columns = (omega arith, omega arith);
  rows = (omega arith, omega arith);
  cut_x = (omega (arith, ints), omega arith);
  cut_y = (omega (arith, ints), omega arith);
  lower_x = (omega (arith, ints), few_x);
  lower_y = (omega (arith, ints), few_y);
  upper_x = (omega (arith, ints), few_y);
  upper_y = (omega (arith, ints), few_x);
}

all_read : All ArrayReads all_arrays
all_read =
    All-cons ArrayReads (array 0 70 0) (array 1 0 70 ∷ array 2 70 0 ∷ []) (array_reads 0 70 0 (omega arith) (omega arith))
    (All-cons ArrayReads (array 1 0 70) (array 2 70 0 ∷ []) (array_reads 1 0 70 (omega arith) (omega arith))
    (All-cons ArrayReads (array 2 70 0) [] (array_reads 2 70 0 (omega arith) (omega arith)) (All-nil ArrayReads)))

pub returns : goal.returns
returns c =
    let same : c.new.result ≡ all_arrays = c.new.ensures ∙ c.in_ok-from_slice.ensures.items in
    let kept_x : to_z w64 (of_z w64 c.args.x) ≡ c.args.x = search rules in
    let kept_y : to_z w64 (of_z w64 c.args.y) ≡ c.args.y = search rules in
    record {
      of_net = refl;
      at_x = kept_x;
      at_y = kept_y;
      lowest = refl;
      fits = λ tech layers many. record {
        arrays = subst (All (ArrayFits tech)) (sym same) (all_fit tech many);
        layers = subst (λ (l : List CutArray). 0 + length l ≤ length tech.routing) (sym same) (omega arith);
      };
      reads = λ near_x near_y. record {
        x = subst IsNear (sym kept_x) near_x;
        y = subst IsNear (sym kept_y) near_y;
        arrays = subst (All ArrayReads) (sym same) all_read;
      };
    }
