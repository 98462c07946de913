-- The answer to a file that was not read.
use Rattle.std.specs.Prelude.{ℕ, List}
use Rattle.outside.specs.declared.whole.ReadError.{ReadError}
use Rattle.outside.specs.declared.whole.ReadError.TheVariants as reading
use Rattle.answers.specs.declared.answer.Answer.{Answer}
use Rattle.answers.specs.declared.answer.Answer.TheVariants.{Want, ReadFault, TooLong}

-- The answer to this error at this file.
abbrev pub unread_answer : ReadError → List ℕ → Answer
unread_answer reading.ReadFault file = ReadFault file
unread_answer reading.TooLong file = TooLong file
unread_answer reading.Want file = Want
