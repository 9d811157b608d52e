use Rattle.std.proofs.Common.{refl, sym, ◌∙◌, ap, subst}
use Rattle.lvm_disk.specs.Device.{Device}
use Rattle.lvm_commit.specs.Settling.{IsForgotten, MayCommit}
use Rattle.lvm_session.specs.declared.session.Session.{Session}
use Rattle.lvm_session.specs.State.{state}
use Rattle.lvm_session.specs.Fields.{core_of}
use Rattle.lvm_core.proofs.StepsLemmas.Ends.{descriptor_numbered, is_out}
use Rattle.lvm_move.specs.Moving.{CanBreakOff}
use Rattle.lvm_move.proofs.EndsLemmas.{can_with, may_review, move_ends, writes_move}
use Rattle.lvm_move.proofs.commit.write_move.Goals as goal

pub commit_descriptor-how-requires-clause-may : goal.commit_descriptor-how-requires-clause-may
commit_descriptor-how-requires-clause-may g c =
    subst (λ (s : Session). MayCommit 2 c.args.next s.updater (g.S.Shelf.device c.args.shelf.now)) (sym c.take_first-buf.ensures.taken) c.requires.may

pub go_on_with-requires-clause-can : goal.go_on_with-requires-clause-can
go_on_with-requires-clause-can g c =
    subst (λ (s : Session). CanBreakOff (core_of (record s { updater = c.commit_descriptor-how.new.updater; homes = c.commit_descriptor-how.new.homes }))) (sym c.take_first-buf.ensures.taken)
    (can_with (core_of c.args.session.now) _ c.commit_descriptor-how.new.updater c.commit_descriptor-how.new.homes c.requires.writes.ends)

pub go_on_with-requires-clause-out : goal.go_on_with-requires-clause-out
go_on_with-requires-clause-out g c =
    let how = c.commit_descriptor-how.result in
    is_out how c.args.session.now.pool c.take_first-buf.new.session.pool (ap (λ (s : Session). s.pool) c.take_first-buf.ensures.taken) c.requires.writes.a_buffer
    (descriptor_numbered c.args.content.now c.take_first-buf.result.number c.args.patience.now.left c.take_first-buf.new.session.updater c.commit_descriptor-how.new.updater c.take_first-buf.new.session.homes c.commit_descriptor-how.new.homes (g.S.Shelf.device c.args.shelf.now) (g.S.Shelf.device c.commit_descriptor-how.new.shelf) how
    c.take_first-buf.ensures.number c.commit_descriptor-how.ensures.ends)

pub go_on_with-requires-clause-may : goal.go_on_with-requires-clause-may
go_on_with-requires-clause-may g c =
    let taken = c.take_first-buf.new.session in
    let wrote = c.commit_descriptor-how in
    may_review c.args.content.now c.take_first-buf.result.number c.args.patience.now.left wrote.new.patience.left taken.updater wrote.new.updater taken.homes wrote.new.homes (g.S.Shelf.device c.args.shelf.now) (g.S.Shelf.device wrote.new.shelf)
    wrote.result c.args.next (core_of (record taken { updater = wrote.new.updater; homes = wrote.new.homes })) refl
    (subst (λ (s : Session). IsForgotten s.updater) (sym c.take_first-buf.ensures.taken) c.requires.writes.forgotten)
    (subst (λ (s : Session). MayCommit 2 c.args.next s.updater (g.S.Shelf.device c.args.shelf.now)) (sym c.take_first-buf.ensures.taken) c.requires.may)
    wrote.ensures.ends wrote.ensures.leaves

pub returns-clause-does : goal.returns-clause-does
returns-clause-does g c =
    let self = c.args.session.now in
    let taken = c.take_first-buf.new.session in
    let wrote = c.commit_descriptor-how in
    let how = wrote.result in
    let mid = core_of (record taken { updater = wrote.new.updater; homes = wrote.new.homes }) in
    let left = core_of c.go_on_with.new.session in
    let mid_is = ap (λ (s : Session). core_of (record s { updater = wrote.new.updater; homes = wrote.new.homes })) c.take_first-buf.ensures.taken in
    let before = g.S.Shelf.device c.args.shelf.now in
    let after = g.S.Shelf.device wrote.new.shelf in
    let content = c.args.content.now in
    let number = descriptor_numbered content c.take_first-buf.result.number c.args.patience.now.left taken.updater wrote.new.updater taken.homes wrote.new.homes before after how c.take_first-buf.ensures.number wrote.ensures.ends in
    writes_move c.args.next content taken.updater wrote.new.updater taken.homes wrote.new.homes c.take_first-buf.result.number c.args.patience.now.left wrote.new.patience.left
    (state before (core_of self)) (state after left) how c.go_on_with.result
    (ap (λ (s : Session). s.updater) c.take_first-buf.ensures.taken) (ap (λ (s : Session). s.homes) c.take_first-buf.ensures.taken) c.take_first-buf.ensures.number
    (record { ends = wrote.ensures.ends; leaves = wrote.ensures.leaves; finds = wrote.ensures.finds; kept = wrote.ensures.kept; held = wrote.ensures.held })
    (move_ends (core_of self) mid left mid_is c.requires.writes.buffers c.args.next how c.go_on_with.result number c.go_on_with.ensures.ends)
