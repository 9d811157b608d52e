use Rattle.std.proofs.Common.{◌∙◌, ap}
use Rattle.std.proofs.lemmas.Result.{IfOk-weaker}
use Rattle.clap.specs.Simple.{on_top}
use Rattle.clap.specs.Words.{App, new_app, with_subcommand}
use Rattle.std.specs.Prelude.{codes}
use Rattle.lvm_words.specs.CommandLine.{lvm_settings, script_app, sim_app, gen_app, image_app, weave_app}
use Rattle.lvm_words.proofs.language.command_line.Goals as goal

pub returns : goal.returns
returns c =
    let script : App = with_subcommand (on_top lvm_settings (new_app (codes "lvm"))) script_app.top in
    let sim : App = with_subcommand script sim_app.top in
    let gen : App = with_subcommand sim gen_app.top in
    let weave : App = with_subcommand gen weave_app.top in
    let with_script = IfOk-weaker c.with_script-program.result _ _ (λ line is. is ∙ ap (λ (a : App). with_subcommand a script_app.top) c.without_jobs.ensures) c.with_script-program.ensures in
    let with_sim = c.with_job-program.ensures script sim_app with_script c.with_numbers-sim.ensures.app in
    let with_gen = c.with_job-program-2.ensures sim gen_app with_sim c.with_numbers-generate.ensures.app in
    let with_weave = c.with_job-program-3.ensures gen weave_app with_gen c.weave.ensures.app in
    c.with_job.ensures weave image_app with_weave c.with_numbers-image.ensures.app
