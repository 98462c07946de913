use Rattle.script_options.proofs.One.{length_kept, width_kept, count_kept}
use Rattle.script_options.proofs.laws.numbers_keep_limits.Goals as goal

pub returns : goal.returns
returns c = record {
  lengths = length_kept c.values_fit_their_places.ensures.limit;
  widths = width_kept c.values_fit_their_places.ensures.limit c.values_fit_their_places.ensures.sign;
  counts = count_kept c.values_fit_their_places.ensures.limit c.values_fit_their_places.ensures.sign;
}
