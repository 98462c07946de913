use Rattle.std.proofs.Common.{◌≡◌, [], true, false, sym, ◌∙◌, ap, subst, ⊎_elim}
use Rattle.clap.specs.Words.{App, app_of, fault_of, is_simple_and_free, kind_of, matches_of}
use Rattle.clap.specs.Simple.{is_simple}
use Rattle.clap.specs.Kinds.{HasKind, IsAmong, Kinds}
use Rattle.clap.specs.declared.error.Error.{Error}
use Rattle.clap.specs.declared.error.kind.ErrorKind.TheVariants.{OutOfMemory}
use Rattle.command_words.specs.inside.Parsed.{app, names}
use Rattle.command_words.specs.inside.Split.{texts}
use Rattle.command_words.proofs.Taken.{is_read_freely, is_read_simply}
use Rattle.command_words.proofs.parsed.matches_for.Goals as goal

by_memory : (kinds : Kinds) (e : Error) → kinds ≡ [] → HasKind kinds e → kind_of e ≡ OutOfMemory
by_memory kinds e none h = ⊎_elim (λ m. m) (λ a. absurd (subst (IsAmong (kind_of e)) none a)) h

pub returns-in-Ok-try_get_matches_from-clause-taken :
    goal.returns-in-Ok-try_get_matches_from-clause-taken
returns-in-Ok-try_get_matches_from-clause-taken c =
    let is : app_of c.in-Ok.command ≡ app c.args.text.now.name.now (names c.args.text.now.options.now) = c.in-Ok.ensures in
    let words = texts c.args.words.now in
    ap (λ (z : App). fault_of z words) (sym is) ∙ c.in-Ok-try_get_matches_from.ensures.kinds (ap is_simple_and_free is ∙ is_read_freely c.args.text.now.name.now (names c.args.text.now.options.now))

pub returns-in-Ok-try_get_matches_from-clause-rows :
    goal.returns-in-Ok-try_get_matches_from-clause-rows
returns-in-Ok-try_get_matches_from-clause-rows c =
    let is : app_of c.in-Ok.command ≡ app c.args.text.now.name.now (names c.args.text.now.options.now) = c.in-Ok.ensures in
    let words = texts c.args.words.now in
    (c.in-Ok-try_get_matches_from.ensures.matches (ap is_simple is ∙ is_read_simply c.args.text.now.name.now (names c.args.text.now.options.now))).0 ∙ ap (λ (z : App). matches_of z words) is

pub returns-clause-usage : goal.returns-clause-usage
returns-clause-usage c = λ e none.
    let is : app_of c.in-Ok.command ≡ app c.args.text.now.name.now (names c.args.text.now.options.now) = c.in-Ok.ensures in
    let words = texts c.args.words.now in
    let kind : kind_of c.in-Err.error ≡ OutOfMemory =
    by_memory (fault_of (app_of c.in-Ok.command) words) c.in-Err.error (ap (λ (z : App). fault_of z words) is ∙ none)
    (c.in-Err.ensures.kinds (ap is_simple_and_free is ∙ is_read_freely c.args.text.now.name.now (names c.args.text.now.options.now))) in
    let a = c.kind.ensures in
    let b = c.eq.ensures in
    let f = c.if-eq.false in
    let bad : true ≡ false = rw (a ∙ kind) at (sym b ∙ f) in cc
