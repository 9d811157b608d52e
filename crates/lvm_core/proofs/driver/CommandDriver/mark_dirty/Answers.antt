use Rattle.std.proofs.Common.{◌++◌, sym, subst, arith}
use Rattle.lvm_session.specs.State.{Core, state}
use Rattle.lvm_session.specs.Fields.{core_of}
use Rattle.lvm_core.specs.Settled.{IsSettled, HasSpareNumbers}
use Rattle.lvm_core.specs.Steps.{IsDirtied}
use Rattle.lvm_core.proofs.SettlingLemmas.{may_commit_now}
use Rattle.lvm_core.proofs.CommittingLemmas.Stating.{status_sound, status_sizes, status_ends_so, status_fails, none_dirtied, redirties, dirt_leaves}
use Rattle.lvm_core.proofs.SoundLemmas.Own.{rooms_stay}
use Rattle.lvm_core.proofs.driver.CommandDriver.mark_dirty.Goals as goal

pub mark_dirty-requires-clause-may : goal.mark_dirty-requires-clause-may
mark_dirty-requires-clause-may g c = may_commit_now (state (g.S.Shelf.device c.self.inside.shelf) (core_of c.self.inside.session)) c.self.invariant.1 (subst (λ (v : g.row.S.Denot × Core). IsSettled v.1) (sym c.self.view_is) c.requires.settled)
    (subst (λ (v : g.row.S.Denot × Core). HasSpareNumbers v.1) (sym c.self.view_is) c.requires.numbers) 1 (omega arith)

pub invariant_of-self : goal.invariant_of-self
invariant_of-self g c =
    let old = state (g.S.Shelf.device c.self.inside.shelf) (core_of c.self.inside.session) in
    let new = state (g.S.Shelf.device c.mark_dirty.new.shelf) (core_of c.mark_dirty.new.session) in
    let does = c.mark_dirty.ensures.does in
    let settled = subst (λ (v : g.row.S.Denot × Core). IsSettled v.1) (sym c.self.view_is) c.requires.settled in (
      rooms_stay c.self.inside.session c.mark_dirty.new.session c.self.invariant.0 c.mark_dirty.ensures.rooms
          (status_sizes (IsDirtied c.args.dirty.now c.args.clean.now) c.args.patience.now.left c.mark_dirty.new.patience.left old new c.mark_dirty.result does settled c.self.invariant.1),
      status_sound (IsDirtied c.args.dirty.now c.args.clean.now) c.args.patience.now.left c.mark_dirty.new.patience.left old new c.mark_dirty.result does settled c.self.invariant.1,
    )

pub returns : goal.returns
returns g c =
    let dirty = c.args.dirty.now in
    let clean = c.args.clean.now in
    let p = c.args.patience.now.left in
    let q = c.mark_dirty.new.patience.left in
    let old = state (g.S.Shelf.device c.self.inside.shelf) (core_of c.self.inside.session) in
    let new = state (g.S.Shelf.device c.mark_dirty.new.shelf) (core_of c.mark_dirty.new.session) in
    let does = c.mark_dirty.ensures.does in
    let settled = subst (λ (v : g.row.S.Denot × Core). IsSettled v.1) (sym c.self.view_is) c.requires.settled in
    rw (← c.self.view_is) (record {
      ends = status_ends_so (IsDirtied dirty clean) p q old new c.mark_dirty.result does settled c.self.invariant.1;
      fails = status_fails (IsDirtied dirty clean) p q old new c.mark_dirty.result does settled c.self.invariant.1;
      nothing = none_dirtied dirty clean p q old new c.mark_dirty.result does settled c.self.invariant.1;
      marks = redirties dirty clean p q old new c.mark_dirty.result does settled c.self.invariant.1;
      held = c.mark_dirty.ensures.held;
      leaves = dirt_leaves dirty clean p q old new c.mark_dirty.result does settled c.self.invariant.1;
    })
