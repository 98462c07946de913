use Rattle.std.proofs.Common.{[], Ok, refl, subst, length}
use Rattle.reading.specs.Source.{Steps}
use Rattle.reading.proofs.Ends.{never-past}
use Rattle.reading.proofs.Loop.{loop-start, loop-more, loop-refuses, loop-lex, past-reads, past-refuses}
use Rattle.reading.proofs.reader.read_by_hand.Goals as goal

pub loop-word-init : goal.loop-word-init
loop-word-init g c = ([], loop-start g.R.Reader.format (g.R.Reader.stands c.args.reader.now) (g.I.Source.left c.args.source.now) c.requires.start)

pub returns-in-Ok-None : goal.returns-in-Ok-None
returns-in-Ok-None g c =
    let f = g.R.Reader.format in
    let text = g.I.Source.left c.args.source.now in
    let a = c.loop-word.invariant.1 in
    past-reads f (g.R.Reader.stands c.loop-word.reader) text _ (g.I.Source.left c.next.new.self) _ c.requires.whole a (never-past f c.orderly.ensures.never_ends text (length a.front))
    (subst (λ z. Steps (g.I.Source.left c.loop-word.source) (Ok z) (g.I.Source.left c.next.new.self)) c.in-Ok-None.field-0-is c.in-Ok-None.ensures)

pub returns-in-Err : goal.returns-in-Err
returns-in-Err g c =
    let f = g.R.Reader.format in
    let text = g.I.Source.left c.args.source.now in
    let a = c.loop-word.invariant.1 in
    loop-lex f (g.R.Reader.stands c.loop-word.reader) text _ (g.I.Source.left c.next.new.self) _ c.in-Err.error a (never-past f c.orderly.ensures.never_ends text (length a.front)) c.in-Err.ensures

pub loop-word-preserved : goal.loop-word-preserved
loop-word-preserved g c = (
  _,
  loop-more g.R.Reader.format (g.R.Reader.stands c.loop-word.reader) (g.R.Reader.stands c.take.new.self) (g.I.Source.left c.args.source.now) _ (g.I.Source.left c.next.new.self) _ c.in-Ok-Some.word c.in-Ok.field-0 c.loop-word.invariant.1 (subst (λ z. Steps (g.I.Source.left c.loop-word.source) (Ok z) (g.I.Source.left c.next.new.self)) c.in-Ok-Some.field-0-is c.in-Ok-Some.ensures) (c.in-Ok.ensures c.loop-word.invariant.1.units c.loop-word.invariant.0 c.loop-word.invariant.1.there),
)

pub returns-in-Err-take : goal.returns-in-Err-take
returns-in-Err-take g c =
    let f = g.R.Reader.format in
    let text = g.I.Source.left c.args.source.now in
    let a = c.loop-word.invariant.1 in
    past-refuses f text _ _ c.refused.result (never-past f c.orderly.ensures.never_ends text _)
    (loop-refuses f (g.R.Reader.stands c.loop-word.reader) (g.R.Reader.stands c.take.new.self) text _ (g.I.Source.left c.next.new.self) _ c.in-Ok-Some.word c.in-Err-take.stop _ c.refused.result c.orderly.ensures.orderly a (subst (λ z. Steps (g.I.Source.left c.loop-word.source) (Ok z) (g.I.Source.left c.next.new.self)) c.in-Ok-Some.field-0-is c.in-Ok-Some.ensures)
    (c.in-Err-take.ensures a.units c.loop-word.invariant.0 a.there) refl c.refused.ensures)
