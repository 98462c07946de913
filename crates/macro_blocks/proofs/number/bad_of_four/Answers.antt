use Rattle.macro_blocks.proofs.number.bad_of_four.Goals as goal

pub returns : goal.returns
returns c = λ one two three four numbers h.
    c.bad_after-2.ensures four _ (c.bad_after.ensures three _ (c.bad_of_two.ensures one two numbers h))
