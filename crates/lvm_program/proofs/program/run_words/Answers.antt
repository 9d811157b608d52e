use Rattle.std.proofs.Common.{◌≡◌, ◌∙◌, ap, refl, subst, Ok}
use Rattle.lvm_core.specs.declared.parts.Room.{Room}
use Rattle.lvm_top.specs.Run.{ran}
use Rattle.lvm_top.specs.Script.{passage}
use Rattle.lvm_program.specs.Loaded.{PromisesLoaded}
use Rattle.lvm_program.specs.Program.{load_words}
use Rattle.lvm_program.specs.Sim.{full_room}
use Rattle.lvm_program.specs.Woven.{untold}
use Rattle.lvm_words.specs.declared.job.Job.{Job}
use Rattle.lvm_words.specs.declared.job.Job.TheVariants.{Load, Sim, Weave}
use Rattle.lvm_words.specs.Words.{IsJobWithinLimits, job_of}
use Rattle.lvm_program.proofs.ProgramLemmas.{no_sim, on_drawn, on_load_at, on_sim_at, on_weave_at, unread_generates, unread_loads, unread_promises, unread_tells}
use Rattle.lvm_program.proofs.SimLemmas.{sim_promises}
use Rattle.lvm_program.proofs.WovenLemmas.Woven.{sim_weaves}
use Rattle.lvm_program.proofs.program.run_words.Goals as goal

pub returns-in-Err-Memory-clause-script : goal.returns-in-Err-Memory-clause-script
returns-in-Err-Memory-clause-script g c =
    unread_promises (job_of c.args.words.now) (g.C.Clock.last c.args.clock.now) (g.C.Clock.asked c.args.clock.now) (g.S.Shelf.device c.args.files) (g.S.Shelf.device c.unrun-in-Err-Memory.result.shelf) (ap g.S.Shelf.device c.unrun-in-Err-Memory.ensures.files) c.requires.ready full_room
    (record { content = g.I.Source.left c.args.input.now; faults = g.I.Source.faults c.args.input.now }) (record { content = g.O.Sink.held c.args.out.now; faults = g.O.Sink.faults c.args.out.now })
    c.unrun-in-Err-Memory.result c.unrun-in-Err-Memory.ensures.unrun

pub returns-in-Err-Memory-clause-drawn : goal.returns-in-Err-Memory-clause-drawn
returns-in-Err-Memory-clause-drawn g c =
    on_drawn (job_of c.args.words.now) _ _
    (λ seed count. unread_generates seed count (record { content = g.O.Sink.held c.args.out.now; faults = g.O.Sink.faults c.args.out.now }) c.unrun-in-Err-Memory.result c.unrun-in-Err-Memory.ensures.unrun)
    (λ disks mib load. no_sim c.unrun-in-Err-Memory.result.sim _ _ c.unrun-in-Err-Memory.ensures.unrun.sim_is (c.unrun-in-Err-Memory.ensures.unrun, refl, refl))

pub returns-in-Err-Memory-clause-text : goal.returns-in-Err-Memory-clause-text
returns-in-Err-Memory-clause-text g c = unread_tells c.args.words.now _ c.in-Err-Memory.ensures.told c.in-Err-Memory.ensures.loads _

pub returns-in-Err-Memory-clause-load : goal.returns-in-Err-Memory-clause-load
returns-in-Err-Memory-clause-load g c = unread_loads c.args.words.now _ c.in-Err-Memory.ensures.told c.in-Err-Memory.ensures.loads _

pub returns-in-Load-clause-load : goal.returns-in-Load-clause-load
returns-in-Load-clause-load g c =
    let is : job_of c.args.words.now ≡ Ok (Load c.in-Load.own c.in-Load.sync c.in-Load.group c.in-Load.volume c.in-Load.threads c.in-Load.requests c.in-Load.seed) = c.in-Ok.ensures.job ∙ ap (λ (j : Job). Ok j) c.in-Load.is in
    on_load_at _ c.in-Load.own c.in-Load.sync c.in-Load.group c.in-Load.volume c.in-Load.threads c.in-Load.requests c.in-Load.seed is _ (
      c.run_load.ensures.sim,
      subst (λ (room : Room). PromisesLoaded (load_words c.in-Load.own c.in-Load.sync c.in-Load.group c.in-Load.volume c.in-Load.threads c.in-Load.requests c.in-Load.seed) (g.C.Clock.last c.args.clock.now)
          (ran room (g.S.Shelf.device c.args.files) (g.S.Shelf.device c.run_load.result.shelf) untold (passage g.O.Sink.held g.O.Sink.faults c.args.out.now c.run_load.new.out) (g.C.Clock.last c.run_load.new.clock) c.run_load.result.history c.run_load.result.status c.run_load.result.refused)) c.full_room-in-Load.ensures c.run_load.ensures.run,
      c.run_load.ensures.asked,
    )

pub returns-in-Ok-blank_shelf-clause-sim : goal.returns-in-Ok-blank_shelf-clause-sim
returns-in-Ok-blank_shelf-clause-sim g c =
    let is : job_of c.args.words.now ≡ Ok (Sim c.in-Sim.disks c.in-Sim.mib) = c.in-Ok.ensures.job ∙ ap (λ (j : Job). Ok j) c.in-Sim.is in
    let within = subst IsJobWithinLimits c.in-Sim.is c.in-Ok.ensures.within in
    on_sim_at _ c.in-Sim.disks c.in-Sim.mib is _ (sim_promises _ _ c.in-Sim.disks c.in-Sim.mib within.1 c.in-Ok-blank_shelf.ensures.device c.run_script-ended.ensures.run c.full_room-in-Ok-blank_shelf.ensures, tt)

pub returns-in-Ok-blank_shelf-2-clause-drawn : goal.returns-in-Ok-blank_shelf-2-clause-drawn
returns-in-Ok-blank_shelf-2-clause-drawn g c =
    let disks = c.in-Weave.disks in
    let mib = c.in-Weave.mib in
    let is : job_of c.args.words.now ≡ Ok (Weave disks mib c.in-Weave.clients c.in-Weave.requests c.in-Weave.seed) = c.in-Ok.ensures.job ∙ ap (λ (j : Job). Ok j) c.in-Weave.is in
    let within = subst IsJobWithinLimits c.in-Weave.is c.in-Ok.ensures.within in
    on_weave_at _ disks mib c.in-Weave.clients c.in-Weave.requests c.in-Weave.seed is _ _
    ((sim_weaves disks mib (within.0, within.1, within.2, within.3) _ _ _ c.in-Ok-blank_shelf-2.ensures.device c.run_weave-ended.ensures.run c.full_room-in-Ok-blank_shelf-2.ensures, c.run_weave-ended.ensures.asked), tt)
