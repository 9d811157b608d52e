use Rattle.std.proofs.Common.{◌≤◌, ⊎_elim, inl, inr, ap, refl, arith}
use Rattle.lvm_line.specs.passed.GroupLines.{without_facts}
use Rattle.lvm_line.specs.passed.HolderVariants as holder
use Rattle.lvm_top.specs.Clock.{clocked}
use Rattle.lvm_top.proofs.RunLemmas.Stopping.{first_between, first_state, how_stopped, later, nothing_promised, the_promises}
use Rattle.lvm_top.proofs.run.run_script.Goals as goal

pub returns-in_default-clause-run : goal.returns-in_default-clause-run
returns-in_default-clause-run g c =
    rw c.unbegun.ensures (nothing_promised (clocked g.C.Clock.last g.C.Clock.asked c.args.clock.now c.now-run.new.self) (g.C.Clock.last c.now-run.new.self) c.args.room (g.S.Shelf.device c.args.shelf) (record { content = g.I.Source.left c.args.input.now; faults = g.I.Source.faults c.args.input.now }) (record { content = g.O.Sink.held c.args.out.now; faults = g.O.Sink.faults c.args.out.now }) c.requires.ready (inr c.now-run.ensures.asked))

pub returns-in_default-new-clause-run : goal.returns-in_default-new-clause-run
returns-in_default-new-clause-run g c =
    rw c.unbegun-in_default-new.ensures (nothing_promised (clocked g.C.Clock.last g.C.Clock.asked c.args.clock.now c.now-run.new.self) (g.C.Clock.last c.now-run.new.self) c.args.room (g.S.Shelf.device c.args.shelf) (record { content = g.I.Source.left c.args.input.now; faults = g.I.Source.faults c.args.input.now }) (record { content = g.O.Sink.held c.args.out.now; faults = g.O.Sink.faults c.args.out.now }) c.requires.ready (inr c.now-run.ensures.asked))

pub returns-in_default-take_rooms-clause-run : goal.returns-in_default-take_rooms-clause-run
returns-in_default-take_rooms-clause-run g c =
    rw c.unbegun-in_default-take_rooms.ensures (nothing_promised (clocked g.C.Clock.last g.C.Clock.asked c.args.clock.now c.now-run.new.self) (g.C.Clock.last c.now-run.new.self) c.args.room (g.S.Shelf.device c.args.shelf) (record { content = g.I.Source.left c.args.input.now; faults = g.I.Source.faults c.args.input.now }) (record { content = g.O.Sink.held c.args.out.now; faults = g.O.Sink.faults c.args.out.now }) c.requires.ready (inr c.now-run.ensures.asked))

pub returns-clause-run : goal.returns-clause-run
returns-clause-run g c =
    the_promises g.S.Shelf.device (g.S.Shelf.device c.args.shelf) c.now-run.result (g.C.Clock.last c.now-run.new.self) (g.C.Clock.last c.do_lines-done.new.clock) c.args.room (record { holder = holder.Off c.args.shelf c.in-Ok-new.history; posts = c.in-Ok-take_rooms.posts; bytes = c.in-Ok-take_rooms.bytes })
    (first_state g.S.Shelf.device c.args.shelf c.in-Ok-new.history c.in-Ok-take_rooms.posts c.in-Ok-take_rooms.bytes (g.C.Clock.last c.now-run.new.self) c.now-run.result c.args.room c.in-Ok-new.ensures c.in-Ok-take_rooms.ensures.0 c.now-run.ensures.last)
    (ap without_facts c.in-Ok-new.ensures) c.do_lines-done.result.stage c.conclude-shelf.result.shelf c.conclude-shelf.result.history c.conclude-shelf.ensures.concludes c.conclude-shelf.ensures.rooms c.do_lines-done.ensures.rooms c.do_lines-done.result.stop c.do_lines-done.ensures.between c.do_lines-done.ensures.off
    (record { before = record { content = g.I.Source.left c.args.input.now; faults = g.I.Source.faults c.args.input.now }; after = record { content = g.I.Source.left c.do_lines-done.new.input; faults = g.I.Source.faults c.do_lines-done.new.input } }) (record { before = record { content = g.O.Sink.held c.args.out.now; faults = g.O.Sink.faults c.args.out.now }; after = record { content = g.O.Sink.held c.do_lines-done.new.out; faults = g.O.Sink.faults c.do_lines-done.new.out } }) c.do_lines-done.result.refused (g.C.Clock.asked c.now-run.new.self) (g.C.Clock.asked c.do_lines-done.new.clock) c.do_lines-done.ensures.goes c.requires.ready
    (clocked g.C.Clock.last g.C.Clock.asked c.args.clock.now c.do_lines-done.new.clock) c.status_of.result c.status_of.ensures c.now-run.ensures.later c.run.ensures.ordered c.now-run.ensures.asked refl

pub returns-clause-clock : goal.returns-clause-clock
returns-clause-clock g c =
    let first = c.now-run.ensures.later in
    let later : c.now-run.result ≤ g.C.Clock.last c.do_lines-done.new.clock = later g.S.Shelf.device (g.S.Shelf.device c.args.shelf) c.now-run.result (g.C.Clock.last c.now-run.new.self) (g.C.Clock.last c.do_lines-done.new.clock) c.args.room (record { holder = holder.Off c.args.shelf c.in-Ok-new.history; posts = c.in-Ok-take_rooms.posts; bytes = c.in-Ok-take_rooms.bytes })
    (first_state g.S.Shelf.device c.args.shelf c.in-Ok-new.history c.in-Ok-take_rooms.posts c.in-Ok-take_rooms.bytes (g.C.Clock.last c.now-run.new.self) c.now-run.result c.args.room c.in-Ok-new.ensures c.in-Ok-take_rooms.ensures.0 c.now-run.ensures.last)
    (ap without_facts c.in-Ok-new.ensures) c.do_lines-done.result.stage c.conclude-shelf.result.shelf c.conclude-shelf.result.history c.conclude-shelf.ensures.concludes c.conclude-shelf.ensures.rooms c.do_lines-done.ensures.rooms c.do_lines-done.result.stop c.do_lines-done.ensures.between c.do_lines-done.ensures.off
    (record { before = record { content = g.I.Source.left c.args.input.now; faults = g.I.Source.faults c.args.input.now }; after = record { content = g.I.Source.left c.do_lines-done.new.input; faults = g.I.Source.faults c.do_lines-done.new.input } }) (record { before = record { content = g.O.Sink.held c.args.out.now; faults = g.O.Sink.faults c.args.out.now }; after = record { content = g.O.Sink.held c.do_lines-done.new.out; faults = g.O.Sink.faults c.do_lines-done.new.out } }) c.do_lines-done.result.refused (g.C.Clock.asked c.now-run.new.self) (g.C.Clock.asked c.do_lines-done.new.clock) c.do_lines-done.ensures.goes c.requires.ready in
    record { later = let a = first.later in omega (arith, a, later); risen = let a = first.risen in omega (arith, a, later) }

pub do_lines-done-requires-clause-between : goal.do_lines-done-requires-clause-between
do_lines-done-requires-clause-between g c = first_between g.S.Shelf.device c.args.shelf c.in-Ok-new.history c.in-Ok-take_rooms.posts c.in-Ok-take_rooms.bytes c.now-run.result c.args.room c.in-Ok-new.ensures c.in-Ok-take_rooms.ensures.0 c.requires.ready

pub conclude-shelf-requires-clause-between : goal.conclude-shelf-requires-clause-between
conclude-shelf-requires-clause-between g c = ⊎_elim (λ stuck. inl (c.do_lines-done.ensures.off stuck)) (λ heard. inr (c.do_lines-done.ensures.between heard)) (how_stopped c.do_lines-done.result.stop)

pub returns-in_default-clause-plain : goal.returns-in_default-clause-plain
returns-in_default-clause-plain g c = (returns-in_default-clause-run g c).plain

pub returns-in_default-new-clause-plain : goal.returns-in_default-new-clause-plain
returns-in_default-new-clause-plain g c = (returns-in_default-new-clause-run g c).plain

pub returns-in_default-take_rooms-clause-plain : goal.returns-in_default-take_rooms-clause-plain
returns-in_default-take_rooms-clause-plain g c = (returns-in_default-take_rooms-clause-run g c).plain

pub returns-clause-plain : goal.returns-clause-plain
returns-clause-plain g c = (returns-clause-run g c).plain
