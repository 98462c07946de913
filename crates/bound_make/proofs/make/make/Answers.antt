use Rattle.std.proofs.Common.{◌∙◌, arith, unsigned_abs}
use Rattle.bound_make.specs.inside.Half.{seen}
use Rattle.bound_make.proofs.Made.{started_rise, started_fall, started_within, started_size, started_answer}
use Rattle.bound_make.proofs.Halfway.{started, made, bottom_of, top_of}
use Rattle.bound_make.proofs.make.make.Goals as goal

pub raise_until_full-rises-requires-clause-raisable : goal.raise_until_full-rises-requires-clause-raisable
raise_until_full-rises-requires-clause-raisable c =
    let half = c.args.half in
    let net = c.args.net.now in
    let wf = c.requires.built.is_network in
    let q = c.requires.range in
    let ours = seen half net in
    let w = unsigned_abs c.args.scale.width in
    let b = bottom_of half c.args.scale.bottom c.args.scale.top in
    let t = top_of half c.args.scale.bottom c.args.scale.top in
    let x = c.make_start.new.x in
    let s = started net wf c.args.scale.bottom c.args.scale.top w q c.args.x.now c.requires.room.order x c.make_start.ensures.size half c.make_start.ensures.each in
    started_rise ours q.level q.ohms b t x s

pub lower_until_trim-falls-requires-clause-lowerable : goal.lower_until_trim-falls-requires-clause-lowerable
lower_until_trim-falls-requires-clause-lowerable c =
    let half = c.args.half in
    let net = c.args.net.now in
    let wf = c.requires.built.is_network in
    let q = c.requires.range in
    let ours = seen half net in
    let w = unsigned_abs c.args.scale.width in
    let b = bottom_of half c.args.scale.bottom c.args.scale.top in
    let t = top_of half c.args.scale.bottom c.args.scale.top in
    let x = c.make_start.new.x in
    let s = started net wf c.args.scale.bottom c.args.scale.top w q c.args.x.now c.requires.room.order x c.make_start.ensures.size half c.make_start.ensures.each in
    started_fall ours q.level q.ohms b t x s c.raise_until_full-rises.new.x c.raise_until_full-rises.ensures.kept c.raise_until_full-rises.ensures.full

pub turn_back-requires : goal.turn_back-requires
turn_back-requires c =
    let half = c.args.half in
    let net = c.args.net.now in
    let wf = c.requires.built.is_network in
    let q = c.requires.range in
    let ours = seen half net in
    let w = unsigned_abs c.args.scale.width in
    let b = bottom_of half c.args.scale.bottom c.args.scale.top in
    let t = top_of half c.args.scale.bottom c.args.scale.top in
    let x = c.make_start.new.x in
    let s = started net wf c.args.scale.bottom c.args.scale.top w q c.args.x.now c.requires.room.order x c.make_start.ensures.size half c.make_start.ensures.each in
    let size = started_size ours q.level q.ohms b t x s c.raise_until_full-rises.new.x c.raise_until_full-rises.ensures.kept c.raise_until_full-rises.ensures.full c.lower_until_trim-falls.new.x c.lower_until_trim-falls.ensures.kept c.lower_until_trim-falls.ensures.trim in
    record { values = λ i l. started_within ours q.level q.ohms b t x s c.raise_until_full-rises.new.x c.raise_until_full-rises.ensures.kept c.raise_until_full-rises.ensures.full c.lower_until_trim-falls.new.x c.lower_until_trim-falls.ensures.kept c.lower_until_trim-falls.ensures.trim i (omega (arith, size, l)) }

pub returns-clause-made : goal.returns-clause-made
returns-clause-made c =
    let half = c.args.half in
    let net = c.args.net.now in
    let wf = c.requires.built.is_network in
    let q = c.requires.range in
    let ours = seen half net in
    let w = unsigned_abs c.args.scale.width in
    let b = bottom_of half c.args.scale.bottom c.args.scale.top in
    let t = top_of half c.args.scale.bottom c.args.scale.top in
    let x = c.make_start.new.x in
    let s = started net wf c.args.scale.bottom c.args.scale.top w q c.args.x.now c.requires.room.order x c.make_start.ensures.size half c.make_start.ensures.each in
    let y = c.lower_until_trim-falls.new.x in
    let z = c.turn_back.new.x in
    let size = started_size ours q.level q.ohms b t x s c.raise_until_full-rises.new.x c.raise_until_full-rises.ensures.kept c.raise_until_full-rises.ensures.full y c.lower_until_trim-falls.ensures.kept c.lower_until_trim-falls.ensures.trim in
    let a = started_answer ours q.level q.ohms b t x s c.raise_until_full-rises.new.x c.raise_until_full-rises.ensures.kept c.raise_until_full-rises.ensures.full y c.lower_until_trim-falls.ensures.kept c.lower_until_trim-falls.ensures.trim in
    made net wf c.args.scale.bottom c.args.scale.top w q c.args.x.now x y z c.make_start.ensures.size size (c.turn_back.ensures.size ∙ size) half c.make_start.ensures.each (λ i l. c.turn_back.ensures.each i (omega (arith, size, l))) a
