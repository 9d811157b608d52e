use Rattle.std.proofs.Common.{◌++◌, sym, subst, arith}
use Rattle.lvm_session.specs.State.{Core, state}
use Rattle.lvm_session.specs.Fields.{core_of}
use Rattle.lvm_core.specs.Settled.{IsSettled, HasSpareNumbers}
use Rattle.lvm_core.specs.Committing.{AreUnused}
use Rattle.lvm_core.specs.Steps.{IsMarked}
use Rattle.lvm_core.proofs.SettlingLemmas.{may_commit_now, unused_markable}
use Rattle.lvm_core.proofs.CommittingLemmas.Stating.{status_sound, status_sizes, status_ends_so, status_fails, none_marked, restates, marks_leave}
use Rattle.lvm_core.proofs.SoundLemmas.Own.{rooms_stay}
use Rattle.lvm_core.proofs.driver.CommandDriver.set_status.Goals as goal

pub set_status-requires-clause-may : goal.set_status-requires-clause-may
set_status-requires-clause-may g c = may_commit_now (state (g.S.Shelf.device c.self.inside.shelf) (core_of c.self.inside.session)) c.self.invariant.1 (subst (λ (v : g.row.S.Denot × Core). IsSettled v.1) (sym c.self.view_is) c.requires.settled)
    (subst (λ (v : g.row.S.Denot × Core). HasSpareNumbers v.1) (sym c.self.view_is) c.requires.numbers) 1 (omega arith)

pub set_status-requires-clause-markable : goal.set_status-requires-clause-markable
set_status-requires-clause-markable g c = unused_markable (core_of c.self.inside.session) (c.args.stale.now ++ c.args.fresh.now) c.self.invariant.1.fitting.valid c.self.invariant.1.fitting.rows
    (subst (λ (v : g.row.S.Denot × Core). AreUnused v.1.descriptor (c.args.stale.now ++ c.args.fresh.now)) (sym c.self.view_is) c.requires.unused)

pub invariant_of-self : goal.invariant_of-self
invariant_of-self g c =
    let old = state (g.S.Shelf.device c.self.inside.shelf) (core_of c.self.inside.session) in
    let new = state (g.S.Shelf.device c.set_status.new.shelf) (core_of c.set_status.new.session) in
    let does = c.set_status.ensures.does in
    let settled = subst (λ (v : g.row.S.Denot × Core). IsSettled v.1) (sym c.self.view_is) c.requires.settled in (
      rooms_stay c.self.inside.session c.set_status.new.session c.self.invariant.0 c.set_status.ensures.rooms
          (status_sizes (IsMarked c.args.stale.now c.args.fresh.now) c.args.patience.now.left c.set_status.new.patience.left old new c.set_status.result does settled c.self.invariant.1),
      status_sound (IsMarked c.args.stale.now c.args.fresh.now) c.args.patience.now.left c.set_status.new.patience.left old new c.set_status.result does settled c.self.invariant.1,
    )

pub returns : goal.returns
returns g c =
    let stale = c.args.stale.now in
    let fresh = c.args.fresh.now in
    let p = c.args.patience.now.left in
    let q = c.set_status.new.patience.left in
    let old = state (g.S.Shelf.device c.self.inside.shelf) (core_of c.self.inside.session) in
    let new = state (g.S.Shelf.device c.set_status.new.shelf) (core_of c.set_status.new.session) in
    let does = c.set_status.ensures.does in
    let settled = subst (λ (v : g.row.S.Denot × Core). IsSettled v.1) (sym c.self.view_is) c.requires.settled in
    let unused = subst (λ (v : g.row.S.Denot × Core). AreUnused v.1.descriptor (stale ++ fresh)) (sym c.self.view_is) c.requires.unused in
    rw (← c.self.view_is) (record {
      ends = status_ends_so (IsMarked stale fresh) p q old new c.set_status.result does settled c.self.invariant.1;
      fails = status_fails (IsMarked stale fresh) p q old new c.set_status.result does settled c.self.invariant.1;
      nothing = none_marked stale fresh p q old new c.set_status.result does settled c.self.invariant.1;
      marks = restates stale fresh p q old new c.set_status.result does settled c.self.invariant.1 unused;
      held = c.set_status.ensures.held;
      leaves = marks_leave stale fresh p q old new c.set_status.result does settled c.self.invariant.1 unused;
    })
