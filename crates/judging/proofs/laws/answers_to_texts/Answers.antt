use Rattle.judging.proofs.Judged.{sort, certified}
use Rattle.judging.proofs.laws.answers_to_texts.Goals as goal

pub returns : goal.returns
returns c = record {
  sort = sort;
  certified = certified;
}
