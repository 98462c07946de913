use Rattle.std.proofs.Common.{[], Ok, refl, sym, ◌∙◌, subst, map}
use Rattle.reading.specs.Word.{heard_token, end_at, next_on_line}
use Rattle.reading.specs.Source.{Steps}
use Rattle.reading.specs.inside.Engine.{HoldsHeard, StandsAt}
use Rattle.reading.proofs.Stepping.{stands-first}
use Rattle.reading.proofs.Loop.{InText, in-start, in-more, in-refuses, loop-lex, past-reads, end-more, AtEnd, end-gives, at-few, end-few}
use Rattle.reading.proofs.engine.read_words.Goals as goal

pub loop-word-init : goal.loop-word-init
loop-word-init g c =
    let f = g.G.Grammar.format c.args.grammar.now in
    let holds = HoldsHeard (g.G.Grammar.holds c.args.grammar.now c.args.said.now) (g.G.Grammar.says c.args.grammar.now) [] in
    let stands = StandsAt g.G.Sort.Numbered.number g.G.Grammar.pattern f holds c.start.new.machine.patterns.nodes.items c.in-Ok-start.at in
    let text = g.I.Source.left c.args.source.now in
    record {
      ready = record { graph = c.in-Ok-start.ensures.ready.graph; rows = c.in-Ok-start.ensures.ready.rows; lefts = c.in-Ok-start.ensures.ready.lefts; starts = c.in-Ok-start.ensures.ready.starts };
      within = c.in-Ok-start.ensures.grown.within;
      at = subst (λ z. InText f (StandsAt g.G.Sort.Numbered.number g.G.Grammar.pattern f (HoldsHeard (g.G.Grammar.holds c.args.grammar.now c.args.said.now) (g.G.Grammar.says c.args.grammar.now) z) c.start.new.machine.patterns.nodes.items c.in-Ok-start.at) text text (map heard_token z)) (sym c.new-unit.ensures.items)
          (in-start f stands text c.regular.ensures.begun
          (stands-first g.G.Sort.Numbered.number g.G.Grammar.pattern f holds _ c.in-Ok-start.at (c.requires.start, tt) (λ units h. c.in-Ok-start.ensures.is units h.0)));
    }

pub returns-in-Ok-None : goal.returns-in-Ok-None
returns-in-Ok-None g c =
    let f = g.G.Grammar.format c.args.grammar.now in
    let stands = StandsAt g.G.Sort.Numbered.number g.G.Grammar.pattern f (HoldsHeard (g.G.Grammar.holds c.args.grammar.now c.loop-word.said) (g.G.Grammar.says c.args.grammar.now) c.loop-word.unit.items) c.loop-word.machine.patterns.nodes.items c.loop-word.machine.at in
    let at = c.loop-word.invariant.at in
    let e = past-reads f stands (g.I.Source.left c.args.source.now) _ (g.I.Source.left c.next.new.self) _ c.requires.whole at.at at.past
    (subst (λ z. Steps (g.I.Source.left c.loop-word.source) (Ok z) (g.I.Source.left c.next.new.self)) c.in-Ok-None.field-0-is c.in-Ok-None.ensures) in
    (e.0, e.1, e.2.held.0)

pub returns-in-Err-next : goal.returns-in-Err-next
returns-in-Err-next g c =
    let f = g.G.Grammar.format c.args.grammar.now in
    let stands = StandsAt g.G.Sort.Numbered.number g.G.Grammar.pattern f (HoldsHeard (g.G.Grammar.holds c.args.grammar.now c.loop-word.said) (g.G.Grammar.says c.args.grammar.now) c.loop-word.unit.items) c.loop-word.machine.patterns.nodes.items c.loop-word.machine.at in
    let at = c.loop-word.invariant.at in
    loop-lex f stands (g.I.Source.left c.args.source.now) _ (g.I.Source.left c.next.new.self) _ c.in-Err-next.error at.at at.past c.in-Err-next.ensures

pub loop-word-preserved : goal.loop-word-preserved
loop-word-preserved g c =
    let f = g.G.Grammar.format c.args.grammar.now in
    let old = StandsAt g.G.Sort.Numbered.number g.G.Grammar.pattern f (HoldsHeard (g.G.Grammar.holds c.args.grammar.now c.loop-word.said) (g.G.Grammar.says c.args.grammar.now) c.loop-word.unit.items) c.loop-word.machine.patterns.nodes.items c.loop-word.machine.at in
    let new = StandsAt g.G.Sort.Numbered.number g.G.Grammar.pattern f (HoldsHeard (g.G.Grammar.holds c.args.grammar.now c.advance.new.said) (g.G.Grammar.says c.args.grammar.now) c.advance.new.unit.items) c.advance.new.machine.patterns.nodes.items c.advance.new.machine.at in
    let text = g.I.Source.left c.args.source.now in
    let after = g.I.Source.left c.next.new.self in
    let a = c.loop-word.invariant.at in
    let steps = subst (λ z. Steps (g.I.Source.left c.loop-word.source) (Ok z) after) c.in-Ok-Some.field-0-is c.in-Ok-Some.ensures in
    record {
      ready = c.in-Ok-advance.ensures.ready;
      within = c.in-Ok-advance.ensures.within;
      at = subst (λ z. InText f new text after z) (sym c.in-Ok-advance.ensures.unit)
          (in-more f old new text _ after _ c.in-Ok-Some.word c.in-Ok-advance.done a steps (c.in-Ok-advance.ensures.takes a.at.units (at-few f old text _ after _ c.in-Ok-Some.word a.at steps c.requires.few) a.at.there)
          (λ units p there. c.has_ended.ensures units there.held.0 ∙ c.if-has_ended.false));
    }

pub finish-requires : goal.finish-requires
finish-requires g c =
    let f = g.G.Grammar.format c.args.grammar.now in
    let old = StandsAt g.G.Sort.Numbered.number g.G.Grammar.pattern f (HoldsHeard (g.G.Grammar.holds c.args.grammar.now c.loop-word.said) (g.G.Grammar.says c.args.grammar.now) c.loop-word.unit.items) c.loop-word.machine.patterns.nodes.items c.loop-word.machine.at in
    let new = StandsAt g.G.Sort.Numbered.number g.G.Grammar.pattern f (HoldsHeard (g.G.Grammar.holds c.args.grammar.now c.advance.new.said) (g.G.Grammar.says c.args.grammar.now) c.advance.new.unit.items) c.advance.new.machine.patterns.nodes.items c.advance.new.machine.at in
    let text = g.I.Source.left c.args.source.now in
    let after = g.I.Source.left c.next.new.self in
    let a = c.loop-word.invariant.at in
    let steps = subst (λ z. Steps (g.I.Source.left c.loop-word.source) (Ok z) after) c.in-Ok-Some.field-0-is c.in-Ok-Some.ensures in
    let end = end_at (next_on_line c.in-Ok-Some.word.place) in
    let e = subst (λ z. AtEnd f new text end z) (sym c.in-Ok-advance.ensures.unit)
    (end-more f old new text _ after _ c.in-Ok-Some.word c.in-Ok-advance.done a.at steps (c.in-Ok-advance.ensures.takes a.at.units (at-few f old text _ after _ c.in-Ok-Some.word a.at steps c.requires.few) a.at.there)
    (λ units p there. c.has_ended.ensures units there.held.0 ∙ c.if-has_ended.true) a.past) in
    λ k. ((refl, tt), (c.in-Ok-advance.ensures.ready, (c.in-Ok-advance.ensures.within, (e.at.units, e.at.there))))

pub returns-then-has_ended : goal.returns-then-has_ended
returns-then-has_ended g c =
    let f = g.G.Grammar.format c.args.grammar.now in
    let old = StandsAt g.G.Sort.Numbered.number g.G.Grammar.pattern f (HoldsHeard (g.G.Grammar.holds c.args.grammar.now c.loop-word.said) (g.G.Grammar.says c.args.grammar.now) c.loop-word.unit.items) c.loop-word.machine.patterns.nodes.items c.loop-word.machine.at in
    let new = StandsAt g.G.Sort.Numbered.number g.G.Grammar.pattern f (HoldsHeard (g.G.Grammar.holds c.args.grammar.now c.advance.new.said) (g.G.Grammar.says c.args.grammar.now) c.advance.new.unit.items) c.advance.new.machine.patterns.nodes.items c.advance.new.machine.at in
    let text = g.I.Source.left c.args.source.now in
    let after = g.I.Source.left c.next.new.self in
    let a = c.loop-word.invariant.at in
    let steps = subst (λ z. Steps (g.I.Source.left c.loop-word.source) (Ok z) after) c.in-Ok-Some.field-0-is c.in-Ok-Some.ensures in
    let end = end_at (next_on_line c.in-Ok-Some.word.place) in
    let e = subst (λ z. AtEnd f new text end z) (sym c.in-Ok-advance.ensures.unit)
    (end-more f old new text _ after _ c.in-Ok-Some.word c.in-Ok-advance.done a.at steps (c.in-Ok-advance.ensures.takes a.at.units (at-few f old text _ after _ c.in-Ok-Some.word a.at steps c.requires.few) a.at.there)
    (λ units p there. c.has_ended.ensures units there.held.0 ∙ c.if-has_ended.true) a.past) in
    let last = StandsAt g.G.Sort.Numbered.number g.G.Grammar.pattern f (HoldsHeard (g.G.Grammar.holds c.args.grammar.now c.finish.new.said) (g.G.Grammar.says c.args.grammar.now) c.finish.new.unit.items) c.finish.new.machine.patterns.nodes.items c.finish.new.machine.at in
    end-gives f new last (g.G.Grammar.holds c.args.grammar.now c.finish.new.said) text end _ c.end_after.result c.regular.ensures.orderly (λ units p there. there.held.0) e
    (sym c.end_after.ensures) c.finish.result (c.finish.ensures e.at.units (end-few f new text end _ e c.requires.few) e.at.there)

pub returns-in-Err-advance : goal.returns-in-Err-advance
returns-in-Err-advance g c =
    let f = g.G.Grammar.format c.args.grammar.now in
    let old = StandsAt g.G.Sort.Numbered.number g.G.Grammar.pattern f (HoldsHeard (g.G.Grammar.holds c.args.grammar.now c.loop-word.said) (g.G.Grammar.says c.args.grammar.now) c.loop-word.unit.items) c.loop-word.machine.patterns.nodes.items c.loop-word.machine.at in
    let new = StandsAt g.G.Sort.Numbered.number g.G.Grammar.pattern f (HoldsHeard (g.G.Grammar.holds c.args.grammar.now c.advance.new.said) (g.G.Grammar.says c.args.grammar.now) c.advance.new.unit.items) c.advance.new.machine.patterns.nodes.items c.advance.new.machine.at in
    let text = g.I.Source.left c.args.source.now in
    let after = g.I.Source.left c.next.new.self in
    let a = c.loop-word.invariant.at in
    let steps = subst (λ z. Steps (g.I.Source.left c.loop-word.source) (Ok z) after) c.in-Ok-Some.field-0-is c.in-Ok-Some.ensures in
    in-refuses f old new text _ after _ c.in-Ok-Some.word c.in-Err-advance.stop _ c.refused.result c.regular.ensures.orderly a steps
    (c.in-Err-advance.ensures.takes a.at.units (at-few f old text _ after _ c.in-Ok-Some.word a.at steps c.requires.few) a.at.there) refl c.refused.ensures
