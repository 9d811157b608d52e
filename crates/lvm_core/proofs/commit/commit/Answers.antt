use Rattle.std.proofs.Common.{sym, ◌∙◌, ap, subst}
use Rattle.lvm_num.specs.declared.descriptor.Descriptor.{Descriptor}
use Rattle.lvm_disk.specs.Device.{Device}
use Rattle.lvm_commit.proofs.passed.Vgda.{spelled_is_read}
use Rattle.lvm_commit.specs.Settling.{HoldsWithin, IsContentOf, IsOfCommit, CommitLeaves, MayCommit}
use Rattle.lvm_core.proofs.CommittingLemmas.Committing.{may_next}
use Rattle.lvm_session.specs.declared.session.Session.{Session}
use Rattle.lvm_status.specs.Update.{Stored}
use Rattle.lvm_session.specs.State.{state}
use Rattle.lvm_session.specs.Fields.{core_of}
use Rattle.lvm_core.specs.Steps.{CoreEnds}
use Rattle.lvm_core.proofs.StepsLemmas.Ends.{descriptor_numbered, is_out, core_ends_with, status_ends, commits_descriptor}
use Rattle.lvm_core.proofs.RecordLemmas.{descriptor_fits}
use Rattle.lvm_core.proofs.commit.commit.Goals as goal

pub commit_descriptor-settled-requires-clause-may : goal.commit_descriptor-settled-requires-clause-may
commit_descriptor-settled-requires-clause-may g c =
    let device : Device = g.S.Shelf.device c.args.shelf.now in
    subst (λ (d : Descriptor). MayCommit 2 d c.take_buffer-buf.new.session.updater device) (sym c.into_parts-descriptor.ensures.descriptor)
    (subst (λ (s : Session). MayCommit 2 c.args.next s.updater device) (sym c.take_buffer-buf.ensures.taken)
    (may_next 2 c.args.session.now.descriptor c.args.next c.args.session.now.updater device c.requires.may c.into_parts-descriptor.ensures.valid c.requires.alike))

pub commit_descriptor-settled-requires-clause-content : goal.commit_descriptor-settled-requires-clause-content
commit_descriptor-settled-requires-clause-content g c =
    subst (λ (d : Descriptor). IsContentOf d c.as_slice.result.now) (sym c.into_parts-descriptor.ensures.descriptor)
    (subst (IsContentOf c.args.next) (sym (c.as_slice.ensures ∙ c.into_parts-descriptor.ensures.bytes))
    (record { fits = descriptor_fits c.args.next c.into_parts-descriptor.ensures.valid; describes = spelled_is_read c.args.next c.into_parts-descriptor.ensures.valid }))

pub go_on_with-requires-clause-out : goal.go_on_with-requires-clause-out
go_on_with-requires-clause-out g c =
    let how = c.commit_descriptor-settled.result in
    is_out how c.args.session.now.pool c.take_buffer-buf.new.session.pool (ap (λ (s : Session). s.pool) c.take_buffer-buf.ensures.taken) c.requires.fitting.a_buffer
    (descriptor_numbered c.as_slice.result.now c.take_buffer-buf.result.number c.args.patience.now.left c.take_buffer-buf.new.session.updater c.commit_descriptor-settled.new.updater c.take_buffer-buf.new.session.homes c.commit_descriptor-settled.new.homes (g.S.Shelf.device c.args.shelf.now) (g.S.Shelf.device c.commit_descriptor-settled.new.shelf) how
    c.take_buffer-buf.ensures.number c.commit_descriptor-settled.ensures.ends)

pub returns-clause-does : goal.returns-clause-does
returns-clause-does g c =
    let self = c.args.session.now in
    let taken = c.take_buffer-buf.new.session in
    let wrote = c.commit_descriptor-settled in
    let how = wrote.result in
    let mid = core_of (record taken { updater = wrote.new.updater; homes = wrote.new.homes }) in
    let left = core_of c.go_on_with.new.session in
    let mid_is = ap (λ (s : Session). core_of (record s { updater = wrote.new.updater; homes = wrote.new.homes })) c.take_buffer-buf.ensures.taken in
    let before = g.S.Shelf.device c.args.shelf.now in
    let after = g.S.Shelf.device wrote.new.shelf in
    let content = c.as_slice.result.now in
    let number = descriptor_numbered content c.take_buffer-buf.result.number c.args.patience.now.left taken.updater wrote.new.updater taken.homes wrote.new.homes before after how c.take_buffer-buf.ensures.number wrote.ensures.ends in
    let ends = c.go_on_with.ensures.ends in
    let same = status_ends c.into_parts-descriptor.result.0 mid left how c.go_on_with.result ends in
    commits_descriptor c.args.next content taken.updater wrote.new.updater taken.homes wrote.new.homes c.take_buffer-buf.result.number c.args.patience.now.left wrote.new.patience.left
    (state before (core_of self)) (state after left) how c.go_on_with.result
    c.into_parts-descriptor.ensures.valid (c.as_slice.ensures ∙ c.into_parts-descriptor.ensures.bytes) (ap (λ (s : Session). s.updater) c.take_buffer-buf.ensures.taken) (ap (λ (s : Session). s.homes) c.take_buffer-buf.ensures.taken) c.take_buffer-buf.ensures.number same.0 same.1
    (record {
      ends = wrote.ensures.ends;
      leaves = subst (λ (d : Descriptor). CommitLeaves d (IsOfCommit content taken.updater wrote.new.updater) c.args.patience.now.left wrote.new.patience.left taken.updater wrote.new.updater before after) c.into_parts-descriptor.ensures.descriptor wrote.ensures.leaves;
      finds = wrote.ensures.finds;
      kept = wrote.ensures.kept;
    })
    (subst (λ (d : Descriptor). CoreEnds d (core_of self) left how c.go_on_with.result) c.into_parts-descriptor.ensures.descriptor
    (core_ends_with (core_of self) mid left mid_is c.requires.buffers c.into_parts-descriptor.result.0 how c.go_on_with.result number ends))

pub returns-clause-held : goal.returns-clause-held
returns-clause-held g c =
    let self = c.args.session.now in
    let taken = c.take_buffer-buf.new.session in
    let wrote = c.commit_descriptor-settled in
    let mid = core_of (record taken { updater = wrote.new.updater; homes = wrote.new.homes }) in
    let same = status_ends c.into_parts-descriptor.result.0 mid (core_of c.go_on_with.new.session) wrote.result c.go_on_with.result c.go_on_with.ensures.ends in
    subst (HoldsWithin self.updater) (sym same.0) (subst (λ (u : Stored). HoldsWithin u wrote.new.updater) (ap (λ (s : Session). s.updater) c.take_buffer-buf.ensures.taken) wrote.ensures.held)
