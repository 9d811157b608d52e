use Rattle.std.proofs.Common.{Err, get_or, sym, subst}
use Rattle.std.specs.Prelude.{Contains}
use Rattle.std.proofs.lemmas.List.Elements.{Contains-get_or}
use Rattle.std.proofs.lemmas.Result.{err_from_is_err_and}
use Rattle.lvm_num.specs.declared.place.Pp.{Pp}
use Rattle.lvm_num.specs.Descriptor.{IsPartitionOf}
use Rattle.lvm_volume_plan.specs.passed.Commit.{IsFree}
use Rattle.lvm_volume_plan.specs.passed.Core.{CommitFault, state_of, NoDescriptor, Leaves}
use Rattle.lvm_session.specs.State.{Core, State}
use Rattle.lvm_volumes.specs.Endings.{commanding}
use Rattle.lvm_volumes.proofs.EndingsLemmas.Zeroing.{zero_among, zero_still}
use Rattle.lvm_volumes.proofs.StagesLemmas.Zeros.{IsZeroing, zeroing_more, zeros_break, zeros_end, then, zeros_fail_still}
use Rattle.lvm_volumes.proofs.volumes.zero_all.Goals as goal

abbrev none : Pp
none = record { disk = 0; pp = 0 }

pub zero-requires-clause-partition : goal.zero-requires-clause-partition
zero-requires-clause-partition g c =
    subst (λ (x : Core). IsPartitionOf x.descriptor (get_or c.args.map.now c.loop-pp.pp-index none)) (sym c.loop-pp.invariant.same.core) (c.requires.unused.places c.loop-pp.pp-index none c.loop-pp-test.true)

pub zero-requires-clause-free : goal.zero-requires-clause-free
zero-requires-clause-free g c =
    subst (λ (x : Core). IsFree x.descriptor (get_or c.args.map.now c.loop-pp.pp-index none)) (sym c.loop-pp.invariant.same.core) (c.requires.unused.free c.loop-pp.pp-index none c.loop-pp-test.true)

pub loop-pp-preserved : goal.loop-pp-preserved
loop-pp-preserved g c =
    let map = c.args.map.now in
    let k = c.loop-pp.pp-index in
    let p = c.args.patience.now.left in
    let q = c.loop-pp.patience.left in
    let old : State = state_of g.S.Shelf.device c.args.driver.now in
    let mid : State = state_of g.S.Shelf.device c.loop-pp.driver in
    let r = c.zero.new.patience.left in
    let new : State = state_of g.S.Shelf.device c.zero.new.self in
    let z = c.zero.ensures in
    let inside = Contains-get_or map k none c.loop-pp-test.true in
    let leaves : Leaves (commanding NoDescriptor (Contains map) 0) q r mid new = zero_among map (get_or map k none) inside q r mid new z.leaves in
    let done = c.in_ok-zero.ensures.ends in
    zeroing_more map p k q r none old mid new c.loop-pp-test.true c.loop-pp.invariant leaves z.writes done (zero_still map (get_or map k none) inside q r mid new z.leaves z.records done.same.core)

pub returns-in_err-zero : goal.returns-in_err-zero
returns-in_err-zero g c =
    let map = c.args.map.now in
    let k = c.loop-pp.pp-index in
    let p = c.args.patience.now.left in
    let q = c.loop-pp.patience.left in
    let old : State = state_of g.S.Shelf.device c.args.driver.now in
    let mid : State = state_of g.S.Shelf.device c.loop-pp.driver in
    let so_far : IsZeroing map p k q old mid = c.loop-pp.invariant in
    let r = c.zero.new.patience.left in
    let new : State = state_of g.S.Shelf.device c.zero.new.self in
    let z = c.zero.ensures in
    let inside = Contains-get_or map k none c.loop-pp-test.true in
    let leaves : Leaves (commanding NoDescriptor (Contains map) 0) q r mid new = zero_among map (get_or map k none) inside q r mid new z.leaves in
    let why : CommitFault = c.in_err-zero.field-0.0 in
    let f = err_from_is_err_and c.from_residual.result c.from_residual.ensures.1 in
    rw (f.1, f.2) (record {
      ends = zeros_break map p k q r none old mid new c.loop-pp-test.true so_far leaves z.writes why c.in_err-zero.ensures.ends;
      held = zeros_fail_still map (get_or map k none) p q k old mid new (Err why) so_far c.in_err-zero.ensures.ends (zero_still map (get_or map k none) inside q r mid new z.leaves z.records);
      leaves = then map p k q r none old mid new c.loop-pp-test.true so_far leaves z.writes;
    })

pub returns-clause-ends : goal.returns-clause-ends
returns-clause-ends g c =
    zeros_end c.args.map.now c.args.patience.now.left c.loop-pp.pp-index c.loop-pp.patience.left (state_of g.S.Shelf.device c.args.driver.now) (state_of g.S.Shelf.device c.loop-pp.driver) c.loop-pp-test.false c.loop-pp.invariant
