-- One more unit is taken.
use Rattle.std.proofs.Common.{◌≡◌, ◌≤◌, ◌^◌, List, [], ◌∷◌, ◌++◌, length, map, Option, None, Some, Result, Ok, Err, OnOk, refl, sym, ◌∙◌, ap, subst}
use Rattle.std.specs.declared.alloc.AllocError.{AllocError}
use Rattle.pdn_script.specs.declared.held.Held.{Held}
use Rattle.pdn_script.specs.declared.held.Lists.{Lists}
use Rattle.pdn_script.specs.declared.known.Known.{Known}
use Rattle.pdn_script.specs.declared.record.Domain.{Domain}
use Rattle.pdn_script.specs.declared.record.GridRule.{GridRule}
use Rattle.pdn_script.specs.declared.record.Stripe.{Stripe}
use Rattle.pdn_script.specs.declared.record.Ring.{Ring}
use Rattle.pdn_script.specs.declared.record.Connect.{Connect}
use Rattle.pdn_script.specs.declared.record.Script.{Script}
use Rattle.pdn_script.specs.declared.statement.Statement.{Statement}
use Rattle.pdn_script.specs.Format.{format}
use Rattle.pdn_script.specs.Known.{nothing_known, known_after, known_from, known_of}
use Rattle.pdn_script.specs.Record.{Says, Told, with_statement, script_from, no_commands, IsScript}
use Rattle.pdn_script.specs.Limits.{ScriptKeeps}
use Rattle.pdn_script.specs.inside.Held.{script_in, KeepsWith, Holds}
use Rattle.pdn_script.specs.inside.Value.{says}
use Rattle.pdn_script.proofs.Keeping.{Limits}
use Rattle.pdn_script.proofs.Kept.{unit_kept, nothing_kept, script_kept}
use Rattle.pdn_script.specs.declared.value.Value.{Value}
use Rattle.reading.specs.declared.word.Heard.{Heard}
use Rattle.reading.specs.Grammar.{AreHeard, IsTaken}
use Rattle.reading.specs.Word.{Token, heard_token}

known_more : (known : Known) (units : List (List Token)) (unit : List Token) → known_from known (units ++ unit ∷ []) ≡ known_after (known_from known units) unit
known_more known [] unit = refl
known_more known (u ∷ units) unit = known_more (known_after known u) units unit

told_more : (known : Known) (units : List (List Token)) (unit : List Token) (told : List (Option Statement)) (one : Option Statement) →
    Told known units told → Says (known_from known units) unit one → Told known (units ++ unit ∷ []) (told ++ one ∷ [])
told_more known [] unit [] one h s = (s, tt)
told_more known (u ∷ units) unit (t ∷ told) one h s = (h.0, told_more (known_after known u) units unit told one h.1 s)
told_more known [] unit (t ∷ told) one h s = absurd h
told_more known (u ∷ units) unit [] one h s = absurd h

script_more : (script : Script) (told : List (Option Statement)) (one : Option Statement) → script_from script (told ++ one ∷ []) ≡ with_statement (script_from script told) one
script_more script [] one = refl
script_more script (t ∷ told) one = script_more (with_statement script t) told one

pub taken : Limits → (r : Result (Unit {0}) AllocError) (old new : Held) (unit : List (Heard Value)) (told : Option Statement) →
    ((units : List (List Token)) → old.known ≡ known_of units → IsTaken format units (map heard_token unit) → AreHeard (says units) [] unit → Says old.known (map heard_token unit) told) →
    script_in new.lists ≡ with_statement (script_in old.lists) told → OnOk r (new.known ≡ known_after old.known (map heard_token unit)) →
    OnOk r ((units : List (List Token)) → length units ≤ 2 ^ 63 → Holds units old → IsTaken format units (map heard_token unit) → AreHeard (says units) [] unit →
    Holds (units ++ map heard_token unit ∷ []) new)
taken l (Err e) old new unit told saying adds moves = tt
taken l (Ok x) old new unit told saying adds moves = λ units few h t heard.
    let words = map heard_token unit in
    let now = subst (λ z. Says z words told) h.known (saying units h.known t heard) in record {
      known = moves ∙ ap (λ z. known_after z words) h.known ∙ sym (known_more nothing_known units words);
      told = h.told ++ told ∷ [];
      tells = told_more nothing_known units words h.told told h.tells now;
      script = adds ∙ ap (λ z. with_statement z told) h.script ∙ sym (script_more no_commands h.told told);
      kept = subst (λ z. KeepsWith z (script_in new.lists)) (sym (moves ∙ ap (λ z. known_after z words) h.known)) (subst (KeepsWith (known_after (known_of units) words)) (sym adds)
          (unit_kept l units unit (script_in old.lists) told t heard now (subst (λ z. KeepsWith z (script_in old.lists)) h.known h.kept)));
    }

-- Before the first unit.
pub begun : (held : Held) → held.known ≡ nothing_known → script_in held.lists ≡ no_commands → Holds [] held
begun held known script = record {
  known = known;
  told = [];
  tells = tt;
  script = script;
  kept = subst (λ z. KeepsWith z (script_in held.lists)) (sym known) (subst (KeepsWith nothing_known) (sym script) nothing_kept);
}

abbrev the_script : Script → Script
the_script script = script

script_is : (lists : Lists) (a : List Domain) (b : List GridRule) (c : List Stripe) (d : List Ring) (e : List Connect) →
    a ≡ lists.domains.items → b ≡ lists.grids.items → c ≡ lists.stripes.items → d ≡ lists.rings.items → e ≡ lists.connects.items →
    the_script (record { domains = a; grids = b; stripes = c; rings = d; connects = e }) ≡ script_in lists
script_is lists a b c d e p q r s t =
    ap (λ z. the_script (record { domains = z; grids = b; stripes = c; rings = d; connects = e })) p
    ∙ ap (λ z. the_script (record { domains = lists.domains.items; grids = z; stripes = c; rings = d; connects = e })) q
    ∙ ap (λ z. the_script (record { domains = lists.domains.items; grids = lists.grids.items; stripes = z; rings = d; connects = e })) r
    ∙ ap (λ z. the_script (record { domains = lists.domains.items; grids = lists.grids.items; stripes = lists.stripes.items; rings = z; connects = e })) s
    ∙ ap (λ z. the_script (record { domains = lists.domains.items; grids = lists.grids.items; stripes = lists.stripes.items; rings = lists.rings.items; connects = z })) t

-- The script of the lists is what the units say, and keeps its limits.
pub gathered : (units : List (List Token)) (held : Held) (a : List Domain) (b : List GridRule) (c : List Stripe) (d : List Ring) (e : List Connect) →
    a ≡ held.lists.domains.items → b ≡ held.lists.grids.items → c ≡ held.lists.stripes.items → d ≡ held.lists.rings.items → e ≡ held.lists.connects.items →
    Holds units held → IsScript units (the_script (record { domains = a; grids = b; stripes = c; rings = d; connects = e }))
gathered units held a b c d e p q r s t h = (h.told, h.tells, script_is held.lists a b c d e p q r s t ∙ h.script)

pub gathered_kept : (units : List (List Token)) (held : Held) (a : List Domain) (b : List GridRule) (c : List Stripe) (d : List Ring) (e : List Connect) →
    a ≡ held.lists.domains.items → b ≡ held.lists.grids.items → c ≡ held.lists.stripes.items → d ≡ held.lists.rings.items → e ≡ held.lists.connects.items →
    Holds units held → ScriptKeeps (the_script (record { domains = a; grids = b; stripes = c; rings = d; connects = e }))
gathered_kept units held a b c d e p q r s t h =
    subst ScriptKeeps (sym (script_is held.lists a b c d e p q r s t)) (script_kept held.known (script_in held.lists) h.kept)
