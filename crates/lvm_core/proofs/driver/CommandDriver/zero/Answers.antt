use Rattle.std.proofs.Common.{sym, subst}
use Rattle.std.specs.Prelude.{IsTrue}
use Rattle.lvm_num.specs.Descriptor.{IsPartitionOf}
use Rattle.lvm_commit.specs.LawsOfData.{IsFree}
use Rattle.lvm_session.specs.State.{Core, state, is_there}
use Rattle.lvm_session.specs.Fields.{core_of}
use Rattle.lvm_core.specs.Settled.{IsSettled}
use Rattle.lvm_core.proofs.SoundLemmas.Own.{rooms_stay}
use Rattle.lvm_core.proofs.ZerosLemmas.ZeroEnding.{zero_keeps_records}
use Rattle.lvm_core.proofs.ZerosLemmas.ZeroKeeping.{has_sectors, is_not_missing, is_low, zero_sizes, zero_sound, zero_leaves}
use Rattle.lvm_core.proofs.driver.CommandDriver.zero.Goals as goal

pub zero-requires-clause-partition : goal.zero-requires-clause-partition
zero-requires-clause-partition g c =
    let core = core_of c.self.inside.session in
    is_low core.descriptor c.args.pp c.self.invariant.1.fitting.valid (subst (λ (v : g.row.S.Denot × Core). IsPartitionOf v.1.descriptor c.args.pp) (sym c.self.view_is) c.requires.partition)

pub zero-requires-clause-room : goal.zero-requires-clause-room
zero-requires-clause-room g c =
    let core = core_of c.self.inside.session in
    has_sectors (g.S.Shelf.device c.self.inside.shelf).sizes core.descriptor core.status.wanted c.args.pp c.self.invariant.1.placed
    (is_not_missing core c.args.pp.disk (subst (λ (v : g.row.S.Denot × Core). IsTrue (is_there v.1 c.args.pp.disk)) (sym c.self.view_is) c.requires.there))
    (subst (λ (v : g.row.S.Denot × Core). IsPartitionOf v.1.descriptor c.args.pp) (sym c.self.view_is) c.requires.partition)

pub invariant_of-self : goal.invariant_of-self
invariant_of-self g c =
    let old = state (g.S.Shelf.device c.self.inside.shelf) (core_of c.self.inside.session) in
    let new = state (g.S.Shelf.device c.zero.new.shelf) (core_of c.zero.new.session) in
    let does = c.zero.ensures.does in
    let settled = subst (λ (v : g.row.S.Denot × Core). IsSettled v.1) (sym c.self.view_is) c.requires.settled in (
      rooms_stay c.self.inside.session c.zero.new.session c.self.invariant.0 c.zero.ensures.rooms (zero_sizes c.args.pp c.args.patience.now.left c.zero.new.patience.left old new c.zero.result does settled),
      zero_sound c.args.pp c.args.patience.now.left c.zero.new.patience.left old new c.zero.result does settled c.self.invariant.1,
    )

pub returns-clause-records : goal.returns-clause-records
returns-clause-records g c =
    rw (← c.self.view_is) (zero_keeps_records c.args.pp c.args.patience.now.left c.zero.new.patience.left (state (g.S.Shelf.device c.self.inside.shelf) (core_of c.self.inside.session)) (state (g.S.Shelf.device c.zero.new.shelf) (core_of c.zero.new.session)) c.zero.result c.zero.ensures.does)

pub returns-clause-leaves : goal.returns-clause-leaves
returns-clause-leaves g c =
    let old = state (g.S.Shelf.device c.self.inside.shelf) (core_of c.self.inside.session) in
    let new = state (g.S.Shelf.device c.zero.new.shelf) (core_of c.zero.new.session) in
    let settled = subst (λ (v : g.row.S.Denot × Core). IsSettled v.1) (sym c.self.view_is) c.requires.settled in
    let there = subst (λ (v : g.row.S.Denot × Core). IsTrue (is_there v.1 c.args.pp.disk)) (sym c.self.view_is) c.requires.there in
    let free = subst (λ (v : g.row.S.Denot × Core). IsFree v.1.descriptor c.args.pp) (sym c.self.view_is) c.requires.free in
    rw (← c.self.view_is) (zero_leaves c.args.pp c.args.patience.now.left c.zero.new.patience.left old new c.zero.result c.zero.ensures.does settled there free)
