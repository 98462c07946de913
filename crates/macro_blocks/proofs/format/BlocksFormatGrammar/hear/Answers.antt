use Rattle.std.proofs.Common.{◌≡◌, [], ◌∷◌, ◌++◌, map, get_or, refl, ◌∙◌, subst, arith, length-append}
use Rattle.std.proofs.lemmas.List.{length-map}
use Rattle.macro_blocks.specs.declared.error.Shown.{Shown}
use Rattle.macro_blocks.specs.declared.section.Section.{Section}
use Rattle.macro_blocks.specs.declared.sort.Sort.{Sort}
use Rattle.macro_blocks.specs.declared.standing.Standing.{Standing}
use Rattle.macro_blocks.specs.declared.value.Value.{Value}
use Rattle.macro_blocks.specs.Fault.{FirstFault, SecondFault, ThirdFault, LaterFault, StopFault}
use Rattle.macro_blocks.specs.Format.{format}
use Rattle.macro_blocks.specs.Record.{heard_of}
use Rattle.macro_blocks.specs.Sort.{sort_of}
use Rattle.macro_blocks.specs.Standing.{section_in}
use Rattle.macro_blocks.specs.inside.Value.{says, first_of, SaysSecond, SaysLater}
use Rattle.macro_blocks.proofs.Showing.{there, long_fine, long_said}
use Rattle.macro_blocks.proofs.Words.{no_word}
use Rattle.reading.specs.Fault.{FindsValue}
use Rattle.reading.specs.Laws.{tell-heard, heard-as, no-items, one-item, two-items, three-items, four-items, five-items}
use Rattle.reading.specs.Word.{token, heard_token}
use Rattle.macro_blocks.proofs.format.BlocksFormatGrammar.hear.Goals as goal

pub returns-in-empty : goal.returns-in-empty
returns-in-empty c = λ units h heard same.
    let w = token c.args.word.now in
    let numbers = (heard_of units).said.numbers in
    let words = no-items c.args.before.now c.in-empty.len_below in
    let shows : Section → Standing → Shown → Type 0 = λ s t. FirstFault s t numbers (sort_of w) in
    let tells : Section → Value → Type 0 = λ s. λ value. first_of value ≡ sort_of w in
    let section = section_in (heard_of units).standing in
    tell-heard format (says units) units _ _ w 0 (shows section (heard_of units).standing) (tells section) c.first_value.result _ words c.told_at.ensures
    (λ a k. k) (λ kind k. (refl, k)) (λ value k. k)
    (there shows tells units c.args.said.now h c.section-section.result c.section-section.ensures c.first_value.result
    (subst (λ (z : Sort). FindsValue (FirstFault c.section-section.result c.args.said.now.standing numbers z) (λ value. first_of value ≡ z) c.first_value.result) same
    (c.first_value.ensures numbers h.said.numbers)))

pub returns-in-len1 : goal.returns-in-len1
returns-in-len1 c = λ units h heard same.
    let w = token c.args.word.now in
    let numbers = (heard_of units).said.numbers in
    let words = one-item no_word c.args.before.now c.in-len1.len_at_least c.in-len1.len_below in
    let said = heard-as (says units) _ _ words heard in
    let first = sort_of (heard_token (get_or c.args.before.now 0 no_word)) in
    let sort : c.first.result ≡ first = c.first.ensures ∙ said.0 in
    let shows : Section → Standing → Shown → Type 0 = λ s t. SecondFault s t numbers first w in
    let tells : Section → Value → Type 0 = λ s. SaysSecond s first w in
    let section = section_in (heard_of units).standing in
    tell-heard format (says units) units _ _ w 1 (shows section (heard_of units).standing) (tells section) c.second_value.result _ words c.told_at-in-len1.ensures
    (λ a k. k) (λ kind k. (refl, k)) (λ value k. k)
    (there shows tells units c.args.said.now h c.section-section.result c.section-section.ensures c.second_value.result
    (subst (λ (z : Sort). FindsValue (SecondFault c.section-section.result c.args.said.now.standing numbers z w) (SaysSecond c.section-section.result z w) c.second_value.result) sort
    (c.second_value.ensures numbers same h.said.numbers)))

pub returns-in-len2 : goal.returns-in-len2
returns-in-len2 c = λ units h heard same.
    let w = token c.args.word.now in
    let numbers = (heard_of units).said.numbers in
    let words = two-items no_word c.args.before.now c.in-len2.len_at_least c.in-len2.len_below in
    let shows : Section → Standing → Shown → Type 0 = λ s t. ThirdFault s t w in
    let tells : Section → Value → Type 0 = λ s. SaysLater s w in
    let section = section_in (heard_of units).standing in
    tell-heard format (says units) units _ _ w 2 (shows section (heard_of units).standing) (tells section) c.third_value.result _ words c.told_at-in-len2.ensures
    (λ a k. k) (λ kind k. (refl, k)) (λ value k. k)
    (there shows tells units c.args.said.now h c.section-section.result c.section-section.ensures c.third_value.result
    (c.third_value.ensures same))

pub returns-in-len3 : goal.returns-in-len3
returns-in-len3 c = λ units h heard same.
    let w = token c.args.word.now in
    let numbers = (heard_of units).said.numbers in
    let words = three-items no_word c.args.before.now c.in-len3.len_at_least c.in-len3.len_below in
    let shows : Section → Standing → Shown → Type 0 = λ s t. LaterFault s t w in
    let tells : Section → Value → Type 0 = λ s. SaysLater s w in
    let section = section_in (heard_of units).standing in
    tell-heard format (says units) units _ _ w 3 (shows section (heard_of units).standing) (tells section) c.later_value.result _ words c.told_at-in-len3.ensures
    (λ a k. k) (λ kind k. (refl, k)) (λ value k. k)
    (there shows tells units c.args.said.now h c.section-section.result c.section-section.ensures c.later_value.result
    (c.later_value.ensures same))

pub returns-in-len4 : goal.returns-in-len4
returns-in-len4 c = λ units h heard same.
    let w = token c.args.word.now in
    let numbers = (heard_of units).said.numbers in
    let words = four-items no_word c.args.before.now c.in-len4.len_at_least c.in-len4.len_below in
    let shows : Section → Standing → Shown → Type 0 = λ s t. LaterFault s t w in
    let tells : Section → Value → Type 0 = λ s. SaysLater s w in
    let section = section_in (heard_of units).standing in
    tell-heard format (says units) units _ _ w 4 (shows section (heard_of units).standing) (tells section) c.later_value-in-len4.result _ words c.told_at-in-len4.ensures
    (λ a k. k) (λ kind k. (refl, k)) (λ value k. k)
    (there shows tells units c.args.said.now h c.section-section.result c.section-section.ensures c.later_value-in-len4.result
    (c.later_value-in-len4.ensures same))

pub returns-in-len5 : goal.returns-in-len5
returns-in-len5 c = λ units h heard same.
    let w = token c.args.word.now in
    let numbers = (heard_of units).said.numbers in
    let words = five-items no_word c.args.before.now c.in-len5.len_at_least c.in-len5.len_below in
    let shows : Section → Standing → Shown → Type 0 = λ s t. StopFault s t w in
    let tells : Section → Value → Type 0 = λ s. λ value. Unit {0} in
    let section = section_in (heard_of units).standing in
    tell-heard format (says units) units _ _ w 5 (shows section (heard_of units).standing) (tells section) c.stop_value.result _ words c.told_at-in-len5.ensures
    (λ a k. k) (λ kind k. (refl, k)) (λ value k. k)
    (there shows tells units c.args.said.now h c.section-section.result c.section-section.ensures c.stop_value.result
    (c.stop_value.ensures w same))

pub returns-in_default : goal.returns-in_default
returns-in_default c = λ units h heard same.
    let w = token c.args.word.now in
    let many = c.in_default.len_at_least in
    let long = length-append (map heard_token c.args.before.now) (w ∷ []) in
    let count = length-map c.args.before.now heard_token in
    (long_fine units (map heard_token c.args.before.now ++ w ∷ []) (omega (arith, many)), long_said units (map heard_token c.args.before.now ++ w ∷ []) _ (omega (arith, many)))
