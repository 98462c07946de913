use Rattle.lef_tech.proofs.Learnt.{learnt_rule, learnt_name, learnt_type}
use Rattle.reading.specs.Word.{token}
use Rattle.lef_tech.proofs.moving.learn.Goals as goal

pub returns-in-Top-Two : goal.returns-in-Top-Two
returns-in-Top-Two c =
    learnt_rule c.learn_rule.result c.args.state.now c.learn_rule.new.state c.args.shape _ _ (token c.args.last.now) c.in-Top-Two.is-0 c.in-Top-Two.is-1 c.learn_rule.ensures

pub returns-in-LayerStart-Two : goal.returns-in-LayerStart-Two
returns-in-LayerStart-Two c =
    learnt_name c.add.result c.args.state.now c.add.new.self c.args.shape _ _ c.bytes.result.now (token c.args.last.now) c.in-LayerStart-Two.is-0 c.in-LayerStart-Two.is-1
    c.bytes.ensures c.add.ensures.added

pub returns-in-LayerStart-Three : goal.returns-in-LayerStart-Three
returns-in-LayerStart-Three c =
    learnt_type c.learn_type.result c.args.state.now c.learn_type.new.state c.args.shape _ _ _ (token c.args.last.now) c.in-LayerStart-Three.is-0 c.in-LayerStart-Three.is-1 c.learn_type.ensures
