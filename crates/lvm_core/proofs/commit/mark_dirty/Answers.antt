use Rattle.std.proofs.Common.{sym, ◌∙◌, ap, subst}
use Rattle.lvm_status.specs.Update.{Stored}
use Rattle.lvm_commit.specs.Settling.{HoldsWithin, MayCommit, IsOfStatus, StatusStaysKept, CommitLeaves}
use Rattle.lvm_session.specs.declared.session.Session.{Session}
use Rattle.lvm_session.specs.State.{state}
use Rattle.lvm_session.specs.Fields.{core_of}
use Rattle.lvm_core.specs.Steps.{IsDirtied, WantsMarksAtMost}
use Rattle.lvm_core.proofs.StepsLemmas.Ends.{status_numbered, is_out, core_ends, status_ends, commits_status, at_once}
use Rattle.lvm_core.proofs.StepsLemmas.Marking.{marks_within, may_commit}
use Rattle.lvm_core.proofs.commit.mark_dirty.Goals as goal

pub commit_status-settled-requires-clause-may : goal.commit_status-settled-requires-clause-may
commit_status-settled-requires-clause-may g c =
    subst (λ (s : Session). MayCommit 1 s.descriptor s.updater (g.S.Shelf.device c.args.shelf.now)) (sym c.take_buffer-buf.ensures.taken)
    (may_commit 1 c.args.session.now.descriptor (g.S.Shelf.device c.args.shelf.now) c.args.session.now.updater c.mark_volumes.new.updater c.mark_volumes.ensures.rest c.requires.may)

pub go_on-requires-clause-out : goal.go_on-requires-clause-out
go_on-requires-clause-out g c =
    let how = c.commit_status-settled.result in
    is_out how c.args.session.now.pool c.take_buffer-buf.new.session.pool (ap (λ (s : Session). s.pool) c.take_buffer-buf.ensures.taken) c.requires.fitting.a_buffer
    (status_numbered c.take_buffer-buf.result.number c.args.patience.now.left c.take_buffer-buf.new.session.updater c.commit_status-settled.new.updater c.take_buffer-buf.new.session.homes c.commit_status-settled.new.homes (g.S.Shelf.device c.args.shelf.now) (g.S.Shelf.device c.commit_status-settled.new.shelf) how
    c.take_buffer-buf.ensures.number c.commit_status-settled.ensures.ends)

pub returns-clause-does : goal.returns-clause-does
returns-clause-does g c =
    let self = c.args.session.now in
    let taken = c.take_buffer-buf.new.session in
    let wrote = c.commit_status-settled in
    let how = wrote.result in
    let mid = core_of (record taken { updater = wrote.new.updater; homes = wrote.new.homes }) in
    let left = core_of c.go_on.new.session in
    let mid_is = ap (λ (s : Session). core_of (record s { updater = wrote.new.updater; homes = wrote.new.homes })) c.take_buffer-buf.ensures.taken in
    let before = g.S.Shelf.device c.args.shelf.now in
    let after = g.S.Shelf.device wrote.new.shelf in
    let number = status_numbered c.take_buffer-buf.result.number c.args.patience.now.left taken.updater wrote.new.updater taken.homes wrote.new.homes before after how c.take_buffer-buf.ensures.number wrote.ensures.ends in
    let ends = c.go_on.ensures.ends in
    let same = status_ends mid.descriptor mid left how c.go_on.result ends in
    commits_status (IsDirtied c.args.dirty.now c.args.clean.now) taken.updater wrote.new.updater taken.homes wrote.new.homes c.take_buffer-buf.result.number c.args.patience.now.left wrote.new.patience.left
    (state (g.S.Shelf.device c.args.shelf.now) (core_of self)) (state (g.S.Shelf.device wrote.new.shelf) left) how c.go_on.result
    (subst (λ (u : Stored). IsDirtied c.args.dirty.now c.args.clean.now self.updater u) (sym (ap (λ (s : Session). s.updater) c.take_buffer-buf.ensures.taken)) c.mark_volumes.ensures)
    (subst (λ (u : Stored). WantsMarksAtMost self.updater u) (sym (ap (λ (s : Session). s.updater) c.take_buffer-buf.ensures.taken)) c.mark_volumes.ensures.rest)
    (ap (λ (s : Session). s.homes) c.take_buffer-buf.ensures.taken) c.take_buffer-buf.ensures.number same.0 same.1
    (record {
      ends = wrote.ensures.ends;
      leaves = subst (λ (s : Session). CommitLeaves s.descriptor (IsOfStatus taken.updater wrote.new.updater) c.args.patience.now.left wrote.new.patience.left taken.updater wrote.new.updater before after) c.take_buffer-buf.ensures.taken wrote.ensures.leaves;
      finds = wrote.ensures.finds;
      kept = subst (λ (s : Session). StatusStaysKept s.descriptor taken.updater taken.homes (g.S.Shelf.device c.args.shelf.now) (g.S.Shelf.device wrote.new.shelf)) c.take_buffer-buf.ensures.taken wrote.ensures.kept;
    })
    (core_ends (core_of self) mid left mid_is c.requires.buffers how c.go_on.result number ends)
    (λ none.
    let once = at_once _ (core_of self) mid left mid_is c.requires.buffers how c.go_on.result number ends (wrote.ensures.unwritten none) (λ all. all.2 ∙ ap (λ (s : Session). s.homes) c.take_buffer-buf.ensures.taken) in
    (once.1, ap g.S.Shelf.device once.0.0, once.2 ∙ ap (λ (u : Stored). record (core_of self) { status = u }) once.0.1))

pub returns-clause-held : goal.returns-clause-held
returns-clause-held g c =
    let self = c.args.session.now in
    let taken = c.take_buffer-buf.new.session in
    let wrote = c.commit_status-settled in
    let mid = core_of (record taken { updater = wrote.new.updater; homes = wrote.new.homes }) in
    let same = status_ends mid.descriptor mid (core_of c.go_on.new.session) wrote.result c.go_on.result c.go_on.ensures.ends in
    subst (HoldsWithin self.updater) (sym same.0)
    (marks_within self.updater c.mark_volumes.new.updater wrote.new.updater c.mark_volumes.ensures.rest
    (subst (λ (u : Stored). HoldsWithin u wrote.new.updater) (ap (λ (s : Session). s.updater) c.take_buffer-buf.ensures.taken) wrote.ensures.held))
