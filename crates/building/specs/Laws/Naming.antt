-- The nets of a script have names of DEF.
use Rattle.std.proofs.Common.{ℕ, List, [], ◌∷◌, All, get_or}
use Rattle.std.specs.Prelude.{Contains}
use Rattle.std.proofs.lemmas.List.{get_or_default}
use Rattle.std.proofs.lemmas.List.Elements.{All-nil, All-cons, All-contains}
use Rattle.text_lex.specs.Name.{IsName}
use Rattle.pdn_script.specs.declared.record.Domain.{Domain}
use Rattle.pdn_script.specs.declared.record.Script.{Script}
use Rattle.pdn_script.specs.Limits.{DomainKeeps, ScriptKeeps}
use Rattle.grid_plan.specs.Names.{domain_nets, AreNets}

in_domain : (domain : Domain) → DomainKeeps domain → (name : List ℕ) → Contains (domain_nets domain) name → IsName name
in_domain domain keeps name stands =
    All-contains IsName (domain_nets domain) name
    (All-cons IsName domain.power (domain.ground ∷ []) keeps.power (All-cons IsName domain.ground [] keeps.ground (All-nil IsName))) stands

pub nets_are_names : (script : Script) → ScriptKeeps script → (nets : List (List ℕ)) → AreNets script nets → All IsName nets
nets_are_names script keeps nets are k d within =
    let name : List ℕ = get_or nets k d in
    let stands : Contains nets name = (k, within, get_or_default nets k name d within) in
    let of_domain = (are.are name).0 stands in
    in_domain of_domain.0 (All-contains DomainKeeps script.domains of_domain.0 keeps.domains of_domain.1) name of_domain.2
