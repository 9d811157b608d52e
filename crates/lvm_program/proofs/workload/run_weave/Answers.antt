use Rattle.std.proofs.Common.{◌∙◌, ap, subst}
use Rattle.lvm_top.specs.passed.HolderVariants as holder
use Rattle.lvm_top.specs.passed.GroupLines.{history_in, moment_in, session_in, state_in, without_facts}
use Rattle.lvm_program.specs.Woven.{EndsWoven, exit_of, mklv_line, mkvg_line}
use Rattle.lvm_top.proofs.RunLemmas.Stopping.{first_between, first_state}
use Rattle.lvm_program.proofs.WovenLemmas.Woven.{asks_so, made_by, made_few, made_serves, makes_so, the_promises_woven, unwoven}
use Rattle.lvm_program.proofs.workload.run_weave.Goals as goal

pub returns-in_default-clause-run : goal.returns-in_default-clause-run
returns-in_default-clause-run g c =
    rw c.unbegun.ensures (unwoven c.args.disks c.args.mib c.requires.sized c.args.load.now (g.C.Clock.last c.args.clock.now) (g.C.Clock.last c.now-run.new.self) c.args.room (g.S.Shelf.device c.args.shelf) (record { content = g.O.Sink.held c.args.out.now; faults = g.O.Sink.faults c.args.out.now }) c.requires.ready)

pub returns-in_default-new-clause-run : goal.returns-in_default-new-clause-run
returns-in_default-new-clause-run g c =
    rw c.unbegun-in_default-new.ensures (unwoven c.args.disks c.args.mib c.requires.sized c.args.load.now (g.C.Clock.last c.args.clock.now) (g.C.Clock.last c.now-run.new.self) c.args.room (g.S.Shelf.device c.args.shelf) (record { content = g.O.Sink.held c.args.out.now; faults = g.O.Sink.faults c.args.out.now }) c.requires.ready)

pub returns-in_default-take_rooms-clause-run : goal.returns-in_default-take_rooms-clause-run
returns-in_default-take_rooms-clause-run g c =
    rw c.unbegun-in_default-take_rooms.ensures (unwoven c.args.disks c.args.mib c.requires.sized c.args.load.now (g.C.Clock.last c.args.clock.now) (g.C.Clock.last c.now-run.new.self) c.args.room (g.S.Shelf.device c.args.shelf) (record { content = g.O.Sink.held c.args.out.now; faults = g.O.Sink.faults c.args.out.now }) c.requires.ready)

pub make_volume-made-requires-clause-between : goal.make_volume-made-requires-clause-between
make_volume-made-requires-clause-between g c = first_between g.S.Shelf.device c.args.shelf c.in-Ok-new.history c.in-Ok-take_rooms.posts c.in-Ok-take_rooms.bytes c.now-run.result c.args.room c.in-Ok-new.ensures c.in-Ok-take_rooms.ensures.0 c.requires.ready

pub end_woven-requires-clause-few : goal.end_woven-requires-clause-few
end_woven-requires-clause-few g c =
    made_few (without_facts c.in-Ok-new.history) c.args.room c.mkvg_line.result.now c.as_bytes.result.now (state_in g.S.Shelf.device (record { holder = holder.Off c.args.shelf c.in-Ok-new.history; posts = c.in-Ok-take_rooms.posts; bytes = c.in-Ok-take_rooms.bytes }) (g.C.Clock.last c.now-run.new.self)) c.make_volume-made.result.reply
    (state_in g.S.Shelf.device c.make_volume-made.result.stage (g.C.Clock.last c.make_volume-made.new.clock)) c.make_volume-made.ensures.made c.in-Ok-take_rooms.ensures.0

pub end_woven-requires-clause-off : goal.end_woven-requires-clause-off
end_woven-requires-clause-off g c =
    (makes_so (without_facts c.in-Ok-new.history) c.args.room c.mkvg_line.result.now c.as_bytes.result.now (state_in g.S.Shelf.device (record { holder = holder.Off c.args.shelf c.in-Ok-new.history; posts = c.in-Ok-take_rooms.posts; bytes = c.in-Ok-take_rooms.bytes }) (g.C.Clock.last c.now-run.new.self)) c.make_volume-made.result.reply
    (state_in g.S.Shelf.device c.make_volume-made.result.stage (g.C.Clock.last c.make_volume-made.new.clock)) c.make_volume-made.ensures.made).stuck

pub end_woven-requires-clause-between : goal.end_woven-requires-clause-between
end_woven-requires-clause-between g c =
    (makes_so (without_facts c.in-Ok-new.history) c.args.room c.mkvg_line.result.now c.as_bytes.result.now (state_in g.S.Shelf.device (record { holder = holder.Off c.args.shelf c.in-Ok-new.history; posts = c.in-Ok-take_rooms.posts; bytes = c.in-Ok-take_rooms.bytes }) (g.C.Clock.last c.now-run.new.self)) c.make_volume-made.result.reply
    (state_in g.S.Shelf.device c.make_volume-made.result.stage (g.C.Clock.last c.make_volume-made.new.clock)) c.make_volume-made.ensures.made).between

pub end_woven-requires-clause-served : goal.end_woven-requires-clause-served
end_woven-requires-clause-served g c =
    let device = g.S.Shelf.device in
    let first = state_in device (record { holder = holder.Off c.args.shelf c.in-Ok-new.history; posts = c.in-Ok-take_rooms.posts; bytes = c.in-Ok-take_rooms.bytes }) (g.C.Clock.last c.now-run.new.self) in
    let last = state_in device c.make_volume-made.result.stage (g.C.Clock.last c.make_volume-made.new.clock) in
    made_serves (without_facts c.in-Ok-new.history) c.args.room c.args.disks c.args.mib c.requires.sized first c.make_volume-made.result.reply last
    (made_by (without_facts c.in-Ok-new.history) c.args.room c.mkvg_line.result.now (mkvg_line c.args.disks) c.as_bytes.result.now (mklv_line c.args.disks c.args.mib) first c.make_volume-made.result.reply last c.mkvg_line.ensures (c.as_bytes.ensures.value ∙ c.in-Ok.ensures) c.make_volume-made.ensures.made)

pub returns-clause-run : goal.returns-clause-run
returns-clause-run g c =
    let device = g.S.Shelf.device in
    let begun = g.C.Clock.last c.now-run.new.self in
    let last = g.C.Clock.last c.make_volume-made.new.clock in
    let it = c.make_volume-made.result in
    the_promises_woven device c.args.disks c.args.mib c.requires.sized c.args.load.now (device c.args.shelf) c.now-run.result begun last (g.C.Clock.last c.args.clock.now) c.args.room (record { holder = holder.Off c.args.shelf c.in-Ok-new.history; posts = c.in-Ok-take_rooms.posts; bytes = c.in-Ok-take_rooms.bytes })
    (first_state device c.args.shelf c.in-Ok-new.history c.in-Ok-take_rooms.posts c.in-Ok-take_rooms.bytes begun c.now-run.result c.args.room c.in-Ok-new.ensures c.in-Ok-take_rooms.ensures.0 c.now-run.ensures.last)
    (ap without_facts c.in-Ok-new.ensures) it.stage it.reply
    (made_by (without_facts c.in-Ok-new.history) c.args.room c.mkvg_line.result.now (mkvg_line c.args.disks) c.as_bytes.result.now (mklv_line c.args.disks c.args.mib) (state_in device (record { holder = holder.Off c.args.shelf c.in-Ok-new.history; posts = c.in-Ok-take_rooms.posts; bytes = c.in-Ok-take_rooms.bytes }) begun) it.reply (state_in device it.stage last) c.mkvg_line.ensures (c.as_bytes.ensures.value ∙ c.in-Ok.ensures) c.make_volume-made.ensures.made)
    c.make_volume-made.ensures.rooms c.requires.ready c.now-run.ensures.later c.end_woven.result (record { before = record { content = g.O.Sink.held c.args.out.now; faults = g.O.Sink.faults c.args.out.now }; after = record { content = g.O.Sink.held c.end_woven.new.out; faults = g.O.Sink.faults c.end_woven.new.out } })
    c.end_woven.ensures.rooms
    (subst (λ n. EndsWoven n c.args.load.now it.reply (history_in it.stage).run (moment_in device it.stage) (session_in it.stage) (exit_of device c.end_woven.result (record { before = record { content = g.O.Sink.held c.args.out.now; faults = g.O.Sink.faults c.args.out.now }; after = record { content = g.O.Sink.held c.end_woven.new.out; faults = g.O.Sink.faults c.end_woven.new.out } }))) c.woven_blocks.ensures.is c.end_woven.ensures.ends)

pub returns-in_default-clause-asked : goal.returns-in_default-clause-asked
returns-in_default-clause-asked g c = rw c.unbegun.ensures c.now-run.ensures.asked

pub returns-in_default-new-clause-asked : goal.returns-in_default-new-clause-asked
returns-in_default-new-clause-asked g c = rw c.unbegun-in_default-new.ensures c.now-run.ensures.asked

pub returns-in_default-take_rooms-clause-asked : goal.returns-in_default-take_rooms-clause-asked
returns-in_default-take_rooms-clause-asked g c = rw c.unbegun-in_default-take_rooms.ensures c.now-run.ensures.asked

pub returns-clause-asked : goal.returns-clause-asked
returns-clause-asked g c =
    asks_so c.args.disks c.args.mib c.requires.sized c.mkvg_line.result.now c.as_bytes.result.now c.mkvg_line.ensures (c.as_bytes.ensures.value ∙ c.in-Ok.ensures) (g.C.Clock.asked c.args.clock.now) (g.C.Clock.asked c.now-run.new.self) (g.C.Clock.asked c.make_volume-made.new.clock)
    c.now-run.ensures.asked _ c.end_woven.result.history c.end_woven.ensures.rooms c.make_volume-made.ensures.asked
