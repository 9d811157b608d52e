use Rattle.std.proofs.Common.{[]}
use Rattle.std.proofs.lemmas.List.Elements.{All-cons, All-nil}
use Rattle.lvm_num.specs.Status.{IsVolumeNumber}
use Rattle.lvm_session.specs.State.{State}
use Rattle.lvm_volume_plan.specs.passed.Core.{state_of}
use Rattle.lvm_volumes.proofs.StagesLemmas.Unmarking.{unmark_clean, unmark_keeps, unmark_leaves, unmark_still}
use Rattle.lvm_volumes.proofs.volumes.drop_mark.Goals as goal

pub mark_dirty-requires-clause-volumes : goal.mark_dirty-requires-clause-volumes
mark_dirty-requires-clause-volumes g c = All-cons IsVolumeNumber c.args.lv [] c.requires.gone.number (All-nil IsVolumeNumber)

pub returns : goal.returns
returns g c =
    let a : State = state_of g.S.Shelf.device c.args.driver.now in
    let b : State = state_of g.S.Shelf.device c.mark_dirty.new.self in
    let p = c.args.patience.now.left in
    let q = c.mark_dirty.new.patience.left in
    let leaves = c.mark_dirty.ensures.leaves in
    let marks = c.mark_dirty.ensures.marks in
    let ends = c.mark_dirty.ensures.ends in
    record {
      ends = ends;
      clean = unmark_clean c.args.lv a b c.requires.settled c.requires.gone p q leaves marks;
      held = unmark_still c.args.lv a b c.requires.settled c.requires.gone p q leaves marks c.mark_dirty.result ends;
      fresh = unmark_keeps c.args.lv a b c.requires.settled c.requires.gone p q leaves marks c.mark_dirty.result ends;
      leaves = unmark_leaves c.args.lv a b c.requires.settled c.requires.gone p q leaves marks;
    }
