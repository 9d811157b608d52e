use Rattle.std.proofs.Common.{sym, subst, arith}
use Rattle.lvm_commit.specs.Committed.{IsAlike}
use Rattle.lvm_session.specs.State.{Core, state}
use Rattle.lvm_session.specs.Fields.{core_of}
use Rattle.lvm_core.specs.Settled.{IsSettled, HasSpareNumbers}
use Rattle.lvm_core.proofs.SettlingLemmas.{may_commit_now}
use Rattle.lvm_core.proofs.CommittingLemmas.Committing.{descriptor_sound, descriptor_sizes, descriptor_ends, descriptor_fails, descriptor_leaves}
use Rattle.lvm_core.proofs.SoundLemmas.Own.{rooms_stay}
use Rattle.lvm_core.proofs.driver.CommandDriver.commit.Goals as goal

pub commit-requires-clause-may : goal.commit-requires-clause-may
commit-requires-clause-may g c = may_commit_now (state (g.S.Shelf.device c.self.inside.shelf) (core_of c.self.inside.session)) c.self.invariant.1 (subst (λ (v : g.row.S.Denot × Core). IsSettled v.1) (sym c.self.view_is) c.requires.settled)
    (subst (λ (v : g.row.S.Denot × Core). HasSpareNumbers v.1) (sym c.self.view_is) c.requires.numbers) 2 (omega arith)

pub commit-requires-clause-alike : goal.commit-requires-clause-alike
commit-requires-clause-alike g c = subst (λ (v : g.row.S.Denot × Core). IsAlike c.args.next v.1.descriptor) (sym c.self.view_is) c.requires.alike

pub invariant_of-self : goal.invariant_of-self
invariant_of-self g c =
    let old = state (g.S.Shelf.device c.self.inside.shelf) (core_of c.self.inside.session) in
    let new = state (g.S.Shelf.device c.commit.new.shelf) (core_of c.commit.new.session) in
    let does = c.commit.ensures.does in
    let settled = subst (λ (v : g.row.S.Denot × Core). IsSettled v.1) (sym c.self.view_is) c.requires.settled in
    let alike = subst (λ (v : g.row.S.Denot × Core). IsAlike c.args.next v.1.descriptor) (sym c.self.view_is) c.requires.alike in (
      rooms_stay c.self.inside.session c.commit.new.session c.self.invariant.0 c.commit.ensures.rooms
          (descriptor_sizes c.args.next c.args.patience.now.left c.commit.new.patience.left old new c.commit.result does settled c.self.invariant.1 alike),
      descriptor_sound c.args.next c.args.patience.now.left c.commit.new.patience.left old new c.commit.result does settled c.self.invariant.1 alike,
    )

pub returns : goal.returns
returns g c =
    let old = state (g.S.Shelf.device c.self.inside.shelf) (core_of c.self.inside.session) in
    let new = state (g.S.Shelf.device c.commit.new.shelf) (core_of c.commit.new.session) in
    let does = c.commit.ensures.does in
    let settled = subst (λ (v : g.row.S.Denot × Core). IsSettled v.1) (sym c.self.view_is) c.requires.settled in
    let alike = subst (λ (v : g.row.S.Denot × Core). IsAlike c.args.next v.1.descriptor) (sym c.self.view_is) c.requires.alike in
    rw (← c.self.view_is) (record {
      ends = descriptor_ends c.args.next c.args.patience.now.left c.commit.new.patience.left old new c.commit.result does settled c.self.invariant.1 alike;
      fails = descriptor_fails c.args.next c.args.patience.now.left c.commit.new.patience.left old new c.commit.result does settled c.self.invariant.1 alike;
      left = does.settles.leaves.left;
      held = c.commit.ensures.held;
      leaves = descriptor_leaves c.args.next c.args.patience.now.left c.commit.new.patience.left old new c.commit.result does settled c.self.invariant.1 alike;
    })
