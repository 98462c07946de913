use Rattle.text_lex.proofs.Modes.{forms_of_lef_def, forms_of_lines}
use Rattle.text_lex.proofs.laws.forms_of_modes.Goals as goal

pub returns-clause-lef_def : goal.returns-clause-lef_def
returns-clause-lef_def c text split h = forms_of_lef_def text split h

pub returns-clause-lines : goal.returns-clause-lines
returns-clause-lines c text split h = forms_of_lines text split h
