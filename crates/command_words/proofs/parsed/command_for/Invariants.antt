use Rattle.std.proofs.Common.{◌≡◌, take}
use Rattle.clap.specs.Words.{app_of}
use Rattle.command_words.specs.inside.Parsed.{app, names}
use Rattle.command_words.proofs.parsed.command_for.Given as goal

abbrev pub invariant-loop-option : goal.invariant-loop-option
invariant-loop-option l = app_of l.command ≡ app l.text.name.now (names (take l.option-index l.text.options.now))
