use Rattle.macro_blocks.proofs.number.bad_of_two.Goals as goal

pub returns : goal.returns
returns c = λ one two numbers h. c.bad_after.ensures two _ (c.first_bad.ensures one numbers h)
