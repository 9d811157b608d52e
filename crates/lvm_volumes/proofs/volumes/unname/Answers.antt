use Rattle.std.proofs.Common.{[], ap}
use Rattle.lvm_num.specs.declared.descriptor.Descriptor.{Descriptor}
use Rattle.lvm_session.specs.State.{State}
use Rattle.lvm_volume_plan.specs.passed.Core.{state_of}
use Rattle.lvm_volumes.proofs.StagesLemmas.Entering.{has_numbers}
use Rattle.lvm_volumes.proofs.StagesLemmas.Removing.{unname_ends, unname_leaves, unname_still, unname_keeps}
use Rattle.lvm_volumes.proofs.volumes.unname.Goals as goal
use Rattle.lvm_volume_plan.specs.PlannedVolume.{IsWithout}

pub commit_between-requires-clause-numbers : goal.commit_between-requires-clause-numbers
commit_between-requires-clause-numbers g c = has_numbers c.args.driver.now.1 c.requires.without.group c.requires.without.may.room

pub commit_between-requires-clause-alike : goal.commit_between-requires-clause-alike
commit_between-requires-clause-alike g c = ap (λ (d : Descriptor). record d { lvs = [] }) c.requires.without.is

pub returns : goal.returns
returns g c =
    let a : State = state_of g.S.Shelf.device c.args.driver.now in
    let e : State = state_of g.S.Shelf.device c.commit_between.new.driver in
    let without : IsWithout c.args.lv a.core c.args.next = c.requires.without in
    let p = c.args.patience.now.left in
    let q = c.commit_between.new.patience.left in
    record {
      ends = unname_ends c.args.lv c.args.next a c.requires.settled without p q e c.commit_between.result c.commit_between.ensures;
      held = unname_still c.args.lv c.args.next a c.requires.settled without p q e c.commit_between.result c.commit_between.ensures;
      fresh = unname_keeps c.args.lv c.args.next a c.requires.settled without p q e c.commit_between.result c.commit_between.ensures;
      leaves = unname_leaves c.args.lv c.args.next a c.requires.settled without p q e c.commit_between.result c.commit_between.ensures;
    }
