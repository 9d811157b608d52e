use Rattle.std.proofs.Common.{◌≡◌, ◌≢◌, true, sym, subst, ◌∙◌}
use Rattle.lvm_session.specs.declared.answers.CopyState.TheVariants as stage
use Rattle.lvm_session.specs.Calls.{copy_state}
use Rattle.lvm_session.specs.State.{Core, state_of}
use Rattle.lvm_going.specs.Frames.{is_moving}
use Rattle.lvm_driver.specs.Drains.{IsDrained}
use Rattle.lvm_driver.proofs.CommitsLemmas.{commit_on, no_disk_fails, ready}
use Rattle.lvm_driver.proofs.driver.Driver.commit_move.Goals as goal

pub commit_ready-answer-requires-clause-ready : goal.commit_ready-answer-requires-clause-ready
commit_ready-answer-requires-clause-ready g c =
    let device = g.S.Shelf.device in
    ready (device c.self.inside.shelf) c.self.inside.session (c.self.invariant.0, c.self.invariant.1, c.in-Some.ensures.value ∙ c.self.invariant.3)
    (subst (λ (v : g.row.S.Denot × Core). IsDrained (state_of device v)) (sym c.self.view_is) c.requires.drained)
    (subst (λ (v : g.row.S.Denot × Core). is_moving v.1 ≡ true) (sym c.self.view_is) c.requires.moves)
    (subst (λ (v : g.row.S.Denot × Core). copy_state v.1 ≡ stage.Done) (sym c.self.view_is) c.requires.done)
    (subst (λ (v : g.row.S.Denot × Core). v.1.status.stamp.epoch ≢ 0) (sym c.self.view_is) c.requires.epoch)

pub invariant_of-self : goal.invariant_of-self
invariant_of-self g c =
    let device = g.S.Shelf.device in
    let wrote = c.commit_ready-answer in
    let sound = (commit_on (device c.self.inside.shelf) (device wrote.new.shelf) c.self.inside.session wrote.new.session (c.self.invariant.0, c.self.invariant.1, c.in-Some.ensures.value ∙ c.self.invariant.3) wrote.ensures.rooms
    (subst (λ (v : g.row.S.Denot × Core). IsDrained (state_of device v)) (sym c.self.view_is) c.requires.drained)
    (subst (λ (v : g.row.S.Denot × Core). is_moving v.1 ≡ true) (sym c.self.view_is) c.requires.moves)
    (subst (λ (v : g.row.S.Denot × Core). copy_state v.1 ≡ stage.Done) (sym c.self.view_is) c.requires.done)
    (subst (λ (v : g.row.S.Denot × Core). v.1.status.stamp.epoch ≢ 0) (sym c.self.view_is) c.requires.epoch)
    c.args.patience.now.left wrote.new.patience.left wrote.result wrote.ensures.commits).sound in
    (sound.0, sound.1, c.all_due-self-inside.ensures, c.take.ensures.after ∙ sound.2)

pub returns-clause-disks : goal.returns-clause-disks
returns-clause-disks g c =
    let device = g.S.Shelf.device in
    let wrote = c.commit_ready-answer in
    no_disk_fails (device c.self.inside.shelf) (device wrote.new.shelf) c.self.inside.session wrote.new.session (c.self.invariant.0, c.self.invariant.1, c.in-Some.ensures.value ∙ c.self.invariant.3) wrote.ensures.rooms
    (subst (λ (v : g.row.S.Denot × Core). IsDrained (state_of device v)) (sym c.self.view_is) c.requires.drained)
    (subst (λ (v : g.row.S.Denot × Core). is_moving v.1 ≡ true) (sym c.self.view_is) c.requires.moves)
    (subst (λ (v : g.row.S.Denot × Core). copy_state v.1 ≡ stage.Done) (sym c.self.view_is) c.requires.done)
    (subst (λ (v : g.row.S.Denot × Core). v.1.status.stamp.epoch ≢ 0) (sym c.self.view_is) c.requires.epoch)
    c.args.patience.now.left wrote.new.patience.left wrote.result wrote.ensures.commits

pub returns-clause-leaves : goal.returns-clause-leaves
returns-clause-leaves g c =
    let device = g.S.Shelf.device in
    let wrote = c.commit_ready-answer in
    rw (← c.self.view_is)
    (commit_on (device c.self.inside.shelf) (device wrote.new.shelf) c.self.inside.session wrote.new.session (c.self.invariant.0, c.self.invariant.1, c.in-Some.ensures.value ∙ c.self.invariant.3) wrote.ensures.rooms
    (subst (λ (v : g.row.S.Denot × Core). IsDrained (state_of device v)) (sym c.self.view_is) c.requires.drained)
    (subst (λ (v : g.row.S.Denot × Core). is_moving v.1 ≡ true) (sym c.self.view_is) c.requires.moves)
    (subst (λ (v : g.row.S.Denot × Core). copy_state v.1 ≡ stage.Done) (sym c.self.view_is) c.requires.done)
    (subst (λ (v : g.row.S.Denot × Core). v.1.status.stamp.epoch ≢ 0) (sym c.self.view_is) c.requires.epoch)
    c.args.patience.now.left wrote.new.patience.left wrote.result wrote.ensures.commits).left
