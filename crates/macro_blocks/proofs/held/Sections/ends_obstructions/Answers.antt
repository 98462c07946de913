use Rattle.std.proofs.Common.{refl}
use Rattle.macro_blocks.proofs.Taking.{obstructions_lead}
use Rattle.macro_blocks.proofs.held.Sections.ends_obstructions.Goals as goal

pub returns : goal.returns
returns c = λ there unit.
    let old = c.args.self.now in
    obstructions_lead c.texts_have_one_number.ensures there unit old (record old { obstructions = c.append.new.self; rects = c.append.new.other }) refl refl
    c.in_ok-append.ensures.items refl c.in_ok-append.ensures.other_items refl
