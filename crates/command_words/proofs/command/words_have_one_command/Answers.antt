use Rattle.command_words.proofs.Commands.{one_command}
use Rattle.command_words.proofs.command.words_have_one_command.Goals as goal

pub returns : goal.returns
returns c = one_command c.texts_have_one_number.ensures
