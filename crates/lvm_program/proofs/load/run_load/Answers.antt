use Rattle.std.proofs.Common.{◌∙◌, List, ap, subst, ℕ}
use Rattle.lvm_top.specs.passed.HolderVariants as holder
use Rattle.lvm_top.specs.passed.GroupLines.{state_in, without_facts}
use Rattle.lvm_top.specs.passed.Lines.{IsLine}
use Rattle.lvm_top.proofs.RunLemmas.Stopping.{first_between, first_state}
use Rattle.lvm_program.proofs.LoadedLemmas.Loaded.{line_few, line_so, the_promises_loaded, unloaded}
use Rattle.lvm_program.proofs.LoadedLemmas.Varying.{varied_fresh, varyon_asks}
use Rattle.lvm_program.proofs.load.run_load.Goals as goal

pub returns-in_default-clause-run : goal.returns-in_default-clause-run
returns-in_default-clause-run g c =
    rw c.unbegun.ensures (unloaded c.args.words.now (g.C.Clock.last c.args.clock.now) (g.C.Clock.last c.now-run.new.self) c.args.room (g.S.Shelf.device c.args.shelf) (record { content = g.O.Sink.held c.args.out.now; faults = g.O.Sink.faults c.args.out.now }) c.requires.ready)

pub returns-in_default-new-clause-run : goal.returns-in_default-new-clause-run
returns-in_default-new-clause-run g c =
    rw c.unbegun-in_default-new.ensures (unloaded c.args.words.now (g.C.Clock.last c.args.clock.now) (g.C.Clock.last c.now-run.new.self) c.args.room (g.S.Shelf.device c.args.shelf) (record { content = g.O.Sink.held c.args.out.now; faults = g.O.Sink.faults c.args.out.now }) c.requires.ready)

pub returns-in_default-take_rooms-clause-run : goal.returns-in_default-take_rooms-clause-run
returns-in_default-take_rooms-clause-run g c =
    rw c.unbegun-in_default-take_rooms.ensures (unloaded c.args.words.now (g.C.Clock.last c.args.clock.now) (g.C.Clock.last c.now-run.new.self) c.args.room (g.S.Shelf.device c.args.shelf) (record { content = g.O.Sink.held c.args.out.now; faults = g.O.Sink.faults c.args.out.now }) c.requires.ready)

pub do_line-answered-requires-clause-between : goal.do_line-answered-requires-clause-between
do_line-answered-requires-clause-between g c = first_between g.S.Shelf.device c.args.shelf c.in-Ok-new.history c.in-Ok-take_rooms.posts c.in-Ok-take_rooms.bytes c.now-run.result c.args.room c.in-Ok-new.ensures c.in-Ok-take_rooms.ensures.0 c.requires.ready

pub end_load-requires-clause-few : goal.end_load-requires-clause-few
end_load-requires-clause-few g c = λ κs outlives.
    line_few (without_facts c.in-Ok-new.history) c.args.room c.as_slice.result.now (state_in g.S.Shelf.device (record { holder = holder.Off c.args.shelf c.in-Ok-new.history; posts = c.in-Ok-take_rooms.posts; bytes = c.in-Ok-take_rooms.bytes }) (g.C.Clock.last c.now-run.new.self)) c.do_line-answered.result.reply
    (state_in g.S.Shelf.device c.do_line-answered.result.stage (g.C.Clock.last c.do_line-answered.new.clock)) c.do_line-answered.ensures.line c.in-Ok-take_rooms.ensures.0

pub end_load-requires-clause-off : goal.end_load-requires-clause-off
end_load-requires-clause-off g c = λ κs outlives.
    (line_so (without_facts c.in-Ok-new.history) c.args.room c.as_slice.result.now (state_in g.S.Shelf.device (record { holder = holder.Off c.args.shelf c.in-Ok-new.history; posts = c.in-Ok-take_rooms.posts; bytes = c.in-Ok-take_rooms.bytes }) (g.C.Clock.last c.now-run.new.self)) c.do_line-answered.result.reply
    (state_in g.S.Shelf.device c.do_line-answered.result.stage (g.C.Clock.last c.do_line-answered.new.clock)) c.do_line-answered.ensures.line).stuck

pub end_load-requires-clause-between : goal.end_load-requires-clause-between
end_load-requires-clause-between g c = λ κs outlives.
    (line_so (without_facts c.in-Ok-new.history) c.args.room c.as_slice.result.now (state_in g.S.Shelf.device (record { holder = holder.Off c.args.shelf c.in-Ok-new.history; posts = c.in-Ok-take_rooms.posts; bytes = c.in-Ok-take_rooms.bytes }) (g.C.Clock.last c.now-run.new.self)) c.do_line-answered.result.reply
    (state_in g.S.Shelf.device c.do_line-answered.result.stage (g.C.Clock.last c.do_line-answered.new.clock)) c.do_line-answered.ensures.line).between

pub end_load-requires-clause-fresh : goal.end_load-requires-clause-fresh
end_load-requires-clause-fresh g c = λ κs outlives ok.
    varied_fresh (without_facts c.in-Ok-new.history) c.args.room c.args.words.now.group (state_in g.S.Shelf.device (record { holder = holder.Off c.args.shelf c.in-Ok-new.history; posts = c.in-Ok-take_rooms.posts; bytes = c.in-Ok-take_rooms.bytes }) (g.C.Clock.last c.now-run.new.self))
    (state_in g.S.Shelf.device c.do_line-answered.result.stage (g.C.Clock.last c.do_line-answered.new.clock)) c.varyon_line.ensures.name (ap (λ l. l.facts) c.in-Ok-new.ensures) c.do_line-answered.result.reply ok
    (subst (λ (l : List ℕ). IsLine (without_facts c.in-Ok-new.history) c.args.room l c.do_line-answered.result.reply
    (state_in g.S.Shelf.device (record { holder = holder.Off c.args.shelf c.in-Ok-new.history; posts = c.in-Ok-take_rooms.posts; bytes = c.in-Ok-take_rooms.bytes }) (g.C.Clock.last c.now-run.new.self))
    (state_in g.S.Shelf.device c.do_line-answered.result.stage (g.C.Clock.last c.do_line-answered.new.clock))) (c.as_slice.ensures.value ∙ c.in-Ok.ensures.line) c.do_line-answered.ensures.line)

pub returns-clause-run : goal.returns-clause-run
returns-clause-run g c =
    let device = g.S.Shelf.device in
    let begun = g.C.Clock.last c.now-run.new.self in
    let it = c.do_line-answered.result in
    the_promises_loaded device c.args.words.now (device c.args.shelf) c.now-run.result begun (g.C.Clock.last c.do_line-answered.new.clock) (g.C.Clock.last c.args.clock.now) c.args.room (record { holder = holder.Off c.args.shelf c.in-Ok-new.history; posts = c.in-Ok-take_rooms.posts; bytes = c.in-Ok-take_rooms.bytes })
    (first_state device c.args.shelf c.in-Ok-new.history c.in-Ok-take_rooms.posts c.in-Ok-take_rooms.bytes begun c.now-run.result c.args.room c.in-Ok-new.ensures c.in-Ok-take_rooms.ensures.0 c.now-run.ensures.last)
    (ap without_facts c.in-Ok-new.ensures) it.stage it.reply
    (subst (λ (l : List ℕ). IsLine (without_facts c.in-Ok-new.history) c.args.room l c.do_line-answered.result.reply
    (state_in g.S.Shelf.device (record { holder = holder.Off c.args.shelf c.in-Ok-new.history; posts = c.in-Ok-take_rooms.posts; bytes = c.in-Ok-take_rooms.bytes }) (g.C.Clock.last c.now-run.new.self))
    (state_in g.S.Shelf.device c.do_line-answered.result.stage (g.C.Clock.last c.do_line-answered.new.clock))) (c.as_slice.ensures.value ∙ c.in-Ok.ensures.line) c.do_line-answered.ensures.line)
    c.do_line-answered.ensures.rooms c.requires.ready c.now-run.ensures.later c.end_load.result (record { before = record { content = g.O.Sink.held c.args.out.now; faults = g.O.Sink.faults c.args.out.now }; after = record { content = g.O.Sink.held c.end_load.new.out; faults = g.O.Sink.faults c.end_load.new.out } })
    c.end_load.ensures.rooms c.end_load.ensures.ends

pub returns-in_default-clause-asked : goal.returns-in_default-clause-asked
returns-in_default-clause-asked g c = rw c.unbegun.ensures c.now-run.ensures.asked

pub returns-in_default-new-clause-asked : goal.returns-in_default-new-clause-asked
returns-in_default-new-clause-asked g c = rw c.unbegun-in_default-new.ensures c.now-run.ensures.asked

pub returns-in_default-take_rooms-clause-asked : goal.returns-in_default-take_rooms-clause-asked
returns-in_default-take_rooms-clause-asked g c = rw c.unbegun-in_default-take_rooms.ensures c.now-run.ensures.asked

pub returns-clause-asked : goal.returns-clause-asked
returns-clause-asked g c =
    varyon_asks c.args.words.now.group c.varyon_line.ensures.name c.as_slice.result.now (c.as_slice.ensures.value ∙ c.in-Ok.ensures.line) (g.C.Clock.asked c.args.clock.now) (g.C.Clock.asked c.now-run.new.self) (g.C.Clock.asked c.do_line-answered.new.clock)
    c.now-run.ensures.asked _ c.end_load.result.history c.end_load.ensures.rooms c.do_line-answered.ensures.asked
