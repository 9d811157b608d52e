use Rattle.std.proofs.Common.{◌≤◌, List, [], Err, sym, ap, subst, ◌∙◌, arith}
use Rattle.std.specs.Prelude.{Contains}
use Rattle.std.proofs.lemmas.Result.{err_from_is_err_and}
use Rattle.lvm_num.specs.declared.place.Pp.{Pp}
use Rattle.lvm_num.specs.declared.descriptor.Descriptor.{Descriptor}
use Rattle.lvm_vol.specs.Log.{Log, spare_entries}
use Rattle.lvm_volume_plan.specs.passed.Commit.{many_there}
use Rattle.lvm_volume_plan.specs.passed.Core.{CommitFault, state_of, NoDescriptor, Leaves}
use Rattle.lvm_session.specs.State.{Core, State}
use Rattle.lvm_volumes.specs.Endings.{commanding}
use Rattle.lvm_volumes.specs.Stages.{AreUnusedOn, AreCleared, ClearEnds}
use Rattle.lvm_volumes.proofs.StagesLemmas.Entering.{many_bound, has_numbers}
use Rattle.lvm_volumes.proofs.StagesLemmas.Naming.{plan_unused, clear_break_leaves, clear_break, make_ends, make_leaves, make_still, make_keeps}
use Rattle.lvm_volumes.proofs.volumes.make.Goals as goal
use Rattle.lvm_volume_plan.specs.declared.new_volume.NewVolume.{NewVolume}
use Rattle.lvm_volume_plan.specs.declared.new_volume.VolumePlan.{VolumePlan}
use Rattle.lvm_volume_plan.specs.PlannedVolume.{IsPlannedVolume}

pub clear-requires-clause-numbers : goal.clear-requires-clause-numbers
clear-requires-clause-numbers g c = has_numbers c.args.driver.now.1 c.requires.may.1.group c.requires.may.1.may.room

pub clear-requires-clause-unused : goal.clear-requires-clause-unused
clear-requires-clause-unused g c =
    let a : State = state_of g.S.Shelf.device c.args.driver.now in
    subst (AreUnusedOn a.core) (sym c.as_slice.ensures) (plan_unused c.requires.may.0 c.args.plan a c.requires.settled c.requires.may.1)

pub returns-in_err-clear : goal.returns-in_err-clear
returns-in_err-clear g c =
    let plan : VolumePlan = c.args.plan in
    let a : State = state_of g.S.Shelf.device c.args.driver.now in
    let b : State = state_of g.S.Shelf.device c.clear.new.driver in
    let p = c.args.patience.now.left in
    let q = c.clear.new.patience.left in
    let cleared : Leaves (commanding NoDescriptor (Contains plan.map) 1) p q a b = subst (λ (m : List Pp). Leaves (commanding NoDescriptor (Contains m) 1) p q a b) c.as_slice.ensures c.clear.ensures.leaves in
    let why : CommitFault = c.in_err-clear.field-0.0 in
    let e = err_from_is_err_and c.from_residual.result c.from_residual.ensures.1 in
    rw (e.1, e.2) (record {
      ends = clear_break c.requires.may.0 plan a c.requires.settled c.requires.may.1 p q b cleared why (subst (λ (m : List Pp). ClearEnds m p a b (Err why)) c.as_slice.ensures c.in_err-clear.ensures.ends);
      held = c.in_err-clear.ensures.held;
      fresh = c.in_err-clear.ensures.fresh;
      leaves = clear_break_leaves c.requires.may.0 plan a c.requires.settled c.requires.may.1 p q b cleared;
    })

pub commit_between-requires-clause-settled : goal.commit_between-requires-clause-settled
commit_between-requires-clause-settled g c = c.in_ok-clear.ensures.ends.settled

pub commit_between-requires-clause-numbers : goal.commit_between-requires-clause-numbers
commit_between-requires-clause-numbers g c =
    let a : Core = c.args.driver.now.1 in
    let b : Core = c.clear.new.driver.1 in
    let planned : IsPlannedVolume c.requires.may.0 a c.args.plan = c.requires.may.1 in
    let status = c.clear.ensures.leaves.status.group ∙ planned.group.status in
    let first = many_bound a planned.group.valid planned.group.status in
    let last : many_there b.status ≤ 128 = many_bound (record b { descriptor = a.descriptor }) planned.group.valid status in
    omega (arith, c.clear.ensures.leaves.numbers.most, first, last, planned.may.room.numbers)

pub commit_between-requires-clause-spare : goal.commit_between-requires-clause-spare
commit_between-requires-clause-spare g c =
    subst (λ (l : Log). 2 ≤ spare_entries l) (sym (ap (λ (x : Core). x.history) c.in_ok-clear.ensures.ends.is)) c.requires.may.1.may.room.entries

pub commit_between-requires-clause-alike : goal.commit_between-requires-clause-alike
commit_between-requires-clause-alike g c =
    ap (λ (x : Descriptor). record x { lvs = [] }) c.requires.may.1.next ∙ ap (λ (x : Core). record x.descriptor { lvs = [] }) (sym c.in_ok-clear.ensures.ends.is)

pub returns : goal.returns
returns g c =
    let v : NewVolume = c.requires.may.0 in
    let plan : VolumePlan = c.args.plan in
    let planned : IsPlannedVolume v c.args.driver.now.1 plan = c.requires.may.1 in
    let a : State = state_of g.S.Shelf.device c.args.driver.now in
    let b : State = state_of g.S.Shelf.device c.clear.new.driver in
    let e : State = state_of g.S.Shelf.device c.commit_between.new.driver in
    let p = c.args.patience.now.left in
    let q = c.clear.new.patience.left in
    let r = c.commit_between.new.patience.left in
    let leaves : Leaves (commanding NoDescriptor (Contains plan.map) 1) p q a b = subst (λ (m : List Pp). Leaves (commanding NoDescriptor (Contains m) 1) p q a b) c.as_slice.ensures c.clear.ensures.leaves in
    let cleared : AreCleared plan.map a b = subst (λ (m : List Pp). AreCleared m a b) c.as_slice.ensures c.in_ok-clear.ensures.ends in
    let still = c.in_ok-clear.ensures.held in
    record {
      ends = make_ends v plan a c.requires.settled planned p q b leaves cleared still r e c.commit_between.result c.commit_between.ensures;
      held = make_still v plan a c.requires.settled planned p q b leaves cleared still r e c.commit_between.result c.commit_between.ensures;
      fresh = make_keeps v plan a c.requires.settled planned p q b leaves cleared still r e c.commit_between.result c.commit_between.ensures c.in_ok-clear.ensures.fresh;
      leaves = make_leaves v plan a c.requires.settled planned p q b leaves cleared still r e c.commit_between.result c.commit_between.ensures;
    }
