use Rattle.std.proofs.Common.{◌<◌, length, map}
use Rattle.reading.specs.Word.{heard_token}
use Rattle.reading.specs.inside.Machine.{IsReady}
use Rattle.reading.specs.inside.Engine.{HoldsHeard, StandsAt}
use Rattle.reading.proofs.Loop.{InText}
use Rattle.reading.proofs.engine.read_words.Given as goal

abbrev pub invariant-loop-word : goal.invariant-loop-word
invariant-loop-word g l = record {
  ready : IsReady g.G.Sort.Numbered.number g.G.Section.Numbered.number g.G.Grammar.pattern l.machine;
  within : l.machine.at < length l.machine.patterns.nodes.items;
  at : InText (g.G.Grammar.format l.grammar)
      (StandsAt g.G.Sort.Numbered.number g.G.Grammar.pattern (g.G.Grammar.format l.grammar) (HoldsHeard (g.G.Grammar.holds l.grammar l.said) (g.G.Grammar.says l.grammar) l.unit.items) l.machine.patterns.nodes.items l.machine.at)
      (g.I.Source.left l.initial.source) (g.I.Source.left l.source) (map heard_token l.unit.items);
}

abbrev pub decreases-loop-word : goal.decreases-loop-word
decreases-loop-word g l = length (g.I.Source.left l.source).words
