-- The technology that has been read.
use Rattle.std.proofs.Common.{◌≡◌, List, Result, Ok, Err, IfOk, ◌∙◌, ap}
use Rattle.std.specs.declared.alloc.AllocError.{AllocError}
use Rattle.lef_tech.specs.declared.held.Held.{Held}
use Rattle.lef_tech.specs.declared.statement.Statement.{Statement}
use Rattle.lef_tech.specs.declared.tech.Tech.{Tech}
use Rattle.lef_tech.specs.Record.{tech_of, IsTech}
use Rattle.lef_tech.specs.inside.Held.{Holds}
use Rattle.reading.specs.Word.{Token}

pub tech_is : (r : Result Tech AllocError) (held : Held) (statements : List Statement) → statements ≡ held.statements.items →
    IfOk r (λ tech. tech ≡ tech_of statements) → (units : List (List Token)) → Holds units held → IfOk r (IsTech units)
tech_is (Ok tech) held statements same is units h = (h.told, h.tells, is ∙ ap tech_of (same ∙ h.statements))
tech_is (Err e) held statements same is units h = tt
