use Rattle.std.proofs.Common.{◌≡◌, true, false}
use Rattle.reading.proofs.Graph.{node-is, read-node, never-known, never-not}
use Rattle.reading.proofs.patterns.Patterns.is_never.Goals as goal

pub returns-in-Never : goal.returns-in-Never
returns-in-Never g c = record {
  never = λ p d e. never-known g.S.Numbered.number _ _ (node-is _ _ _ _ c.requires c.index.ensures c.in-Never.is) p d;
  some = λ p d e. absurd (let t : true ≡ false = e in cc);
}

pub returns-in_default : goal.returns-in_default
returns-in_default g c = record {
  never = λ p d e. absurd (let t : false ≡ true = e in cc);
  some = λ p d e. never-not g.S.Numbered.number _ _ _ (read-node _ _ _ c.requires c.index.ensures) c.in_default.not-Never p d;
}
