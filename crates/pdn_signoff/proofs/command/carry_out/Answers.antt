use Rattle.std.proofs.Common.{inl, inr, ◌≤◌, ◌^◌, pos, ◌<ℤ◌, subst, arith}
use Rattle.std.proofs.lemmas.Int.{ints}
use Rattle.command_words.specs.declared.command.Command.{Command}
use Rattle.command_words.specs.Words.{IsCommand, seconds}
use Rattle.pdn_signoff.specs.declared.design_files.DesignFiles.{DesignFiles}
use Rattle.pdn_signoff.specs.declared.build_files.BuildFiles.{BuildFiles}
use Rattle.pdn_signoff.specs.declared.signoff_files.SignoffFiles.{SignoffFiles}
use Rattle.pdn_signoff.specs.declared.step_files.StepFiles.{StepFiles}
use Rattle.pdn_signoff.specs.Words.{IsGenerate, IsBuild, IsStep, IsSignoff}
use Rattle.pdn_signoff.proofs.command.carry_out.Goals as goal

pub returns-in-Generate-clause-cause : goal.returns-in-Generate-clause-cause
returns-in-Generate-clause-cause g c words is =
    let w = c.in-Generate in
    let files : DesignFiles = record { lef = w.lef; cells = w.cells; def = w.def; pdn = w.pdn; bias = w.bias } in
    let named : IsGenerate words w.number w.side files = subst (λ (command : Command). IsCommand words command) w.is is in
    inr (inr (inr (inl (w.number, w.side, files, named, c.generate.ensures))))

pub returns-in-Build-clause-cause : goal.returns-in-Build-clause-cause
returns-in-Build-clause-cause g c words is =
    let w = c.in-Build in
    let f : BuildFiles = record { lef = w.lef; cells = w.cells; def = w.def; pdn = w.pdn; bias = w.bias; out_def = w.out_def; netlist = w.netlist; certificate = w.certificate; report = w.report } in
    let named : IsBuild words f = subst (λ (command : Command). IsCommand words command) w.is is in
    inr (inr (inr (inr (inl (f, named, c.build.ensures.builds)))))

pub returns-in-Step-clause-cause : goal.returns-in-Step-clause-cause
returns-in-Step-clause-cause g c words is =
    let w = c.in-Step in
    let f : StepFiles = record { netlist = w.netlist; waves = w.waves; time = w.time; steps = w.steps; certificate = w.certificate; report = w.report } in
    let named : IsStep words f = subst (λ (command : Command). IsCommand words command) w.is is in
    inr (inr (inr (inr (inr (inl (f, named, c.step.ensures.steps))))))

pub returns-in-Signoff-clause-cause : goal.returns-in-Signoff-clause-cause
returns-in-Signoff-clause-cause g c words is =
    let w = c.in-Signoff in
    let f : SignoffFiles = record { lef = w.lef; cells = w.cells; def = w.def; wires = w.wires; bias = w.bias; netlist = w.netlist; certificate = w.certificate; report = w.report } in
    let named : IsSignoff words f = subst (λ (command : Command). IsCommand words command) w.is is in
    inr (inr (inr (inr (inr (inr (f, named, c.signoff.ensures.signs))))))

pub step-requires-clause-time : goal.step-requires-clause-time
step-requires-clause-time g c =
    let w = c.in-Step in
    let named = subst (λ (command : Command). IsCommand c.requires.0 command) w.is c.requires.1 in
    let limit : w.time ≤ 10 ^ 18 = c.values_fit_their_places.ensures.limit seconds named.2.time_text (pos w.time) named.2.time_is in
    let sign : pos 0 <ℤ pos w.time = c.values_fit_their_places.ensures.sign seconds named.2.time_text (pos w.time) named.2.time_is in
    (omega (arith, ints, sign), limit)
