use Rattle.std.proofs.Common.{◌∙◌, ap}
use Rattle.lef_tech.specs.Question.{question_of}
use Rattle.lef_tech.proofs.Hearing.{hear_told}
use Rattle.reading.specs.Word.{token}
use Rattle.lef_tech.proofs.format.TechFormatGrammar.hear.Goals as goal

pub returns : goal.returns
returns c = λ units h heard same.
    hear_told units c.args.said.now.state c.args.before.now (token c.args.word.now) c.args.sort c.question_of-question.result c.heard_value.result h.state heard same
    (c.question_of-question.ensures ∙ ap (λ z. question_of c.args.said.now.state.place.section z) c.shape_with.ensures) c.heard_value.ensures
