use Rattle.std.proofs.Common.{ℕ, List, ◌∷◌, [], take, Ok, Err}
use Rattle.std.proofs.lemmas.Result.{err_from_is_err_and}
use Rattle.lvm_session.specs.State.{State}
use Rattle.lvm_volume_plan.specs.passed.Core.{state_of, CommitFault, HasStated}
use Rattle.lvm_volume_plan.specs.declared.fault.GroupFault.{GroupFault}
use Rattle.lvm_volume_plan.specs.declared.split.SplitPlan.{SplitPlan}
use Rattle.lvm_volume_plan.specs.PlannedSplit.{IsPlannedSplit}
use Rattle.lvm_volumes.specs.Endings.{StillHeld, KeepsFresh}
use Rattle.lvm_volumes.proofs.VolumesLemmas.{always_on}
use Rattle.lvm_volumes.proofs.StagesLemmas.Breaking.{stopped}
use Rattle.lvm_volumes.proofs.StagesLemmas.Entering.{has_numbers}
use Rattle.lvm_split.proofs.SplittingLemmas.Marking.{judged_back, mark_fails, mark_keeps, mark_leaves, mark_still, marked_numbers, marked_one, marked_so, mid_alike, mid_numbers, mid_row, mid_spare, own_serve}
use Rattle.lvm_split.proofs.SplittingLemmas.Parting.{part_ends, part_keeps, part_leaves, part_still}
use Rattle.lvm_split.proofs.splitting.part.Goals as goal

pub mark_dirty-requires-clause-numbers : goal.mark_dirty-requires-clause-numbers
mark_dirty-requires-clause-numbers g c = has_numbers c.args.driver.now.1 c.requires.may.1.group c.requires.may.1.may.room

pub mark_dirty-requires-clause-volumes : goal.mark_dirty-requires-clause-volumes
mark_dirty-requires-clause-volumes g c = marked_numbers c.requires.may.0 c.args.copies c.args.plan (state_of g.S.Shelf.device c.args.driver.now) c.requires.may.1 c.from.result

pub returns-in_err-mark_dirty : goal.returns-in_err-mark_dirty
returns-in_err-mark_dirty g c =
    let plan : SplitPlan = c.args.plan in
    let a : State = state_of g.S.Shelf.device c.args.driver.now in
    let b : State = state_of g.S.Shelf.device c.mark_dirty.new.self in
    let planned : IsPlannedSplit plan.from c.requires.may.0 c.args.copies a.core plan = c.requires.may.1 in
    let p = c.args.patience.now.left in
    let q = c.mark_dirty.new.patience.left in
    let marked : List ℕ = take c.from.result (plan.number ∷ []) in
    let why : CommitFault = c.in_err-mark_dirty.field-0.0 in
    let ends = c.in_err-mark_dirty.ensures.ends in
    let e = err_from_is_err_and c.from_residual.result c.from_residual.ensures.1 in
    rw (e.1, e.2) (record {
      ends = mark_fails c.requires.may.0 c.args.copies plan a c.requires.settled planned marked (marked_one c.from.result plan.number) p q b c.mark_dirty.ensures.leaves why ends;
      held = stopped (HasStated a.core.descriptor a b) (StillHeld a b) p a b why ends;
      fresh = stopped (HasStated a.core.descriptor a b) (KeepsFresh a b) p a b why ends;
      leaves = mark_leaves c.requires.may.0 c.args.copies plan a c.requires.settled planned marked (marked_one c.from.result plan.number) p q b c.mark_dirty.ensures.leaves;
    })

pub judge_again-requires : goal.judge_again-requires
judge_again-requires g c =
    let plan : SplitPlan = c.args.plan in
    record {
      may = mid_row c.requires.may.0 c.args.copies plan (state_of g.S.Shelf.device c.args.driver.now) c.requires.settled c.requires.may.1 (take c.from.result (plan.number ∷ [])) (marked_one c.from.result plan.number)
          c.args.patience.now.left c.mark_dirty.new.patience.left (state_of g.S.Shelf.device c.mark_dirty.new.self) c.mark_dirty.ensures.leaves c.in_ok-mark_dirty.ensures.ends c.mark_dirty.ensures.marks;
    }

pub returns-in_err-judge_again : goal.returns-in_err-judge_again
returns-in_err-judge_again g c =
    let plan : SplitPlan = c.args.plan in
    let a : State = state_of g.S.Shelf.device c.args.driver.now in
    let b : State = state_of g.S.Shelf.device c.mark_dirty.new.self in
    let planned : IsPlannedSplit plan.from c.requires.may.0 c.args.copies a.core plan = c.requires.may.1 in
    let p = c.args.patience.now.left in
    let q = c.mark_dirty.new.patience.left in
    let marked : List ℕ = take c.from.result (plan.number ∷ []) in
    let one = marked_one c.from.result plan.number in
    let leaves = c.mark_dirty.ensures.leaves in
    let done = c.in_ok-mark_dirty.ensures.ends in
    let marks = c.mark_dirty.ensures.marks in
    let why : GroupFault = c.in_err-judge_again.field-0.0 in
    let e = err_from_is_err_and c.from_residual-in_err-judge_again.result c.from_residual-in_err-judge_again.ensures.1 in
    rw (e.1, e.2) (record {
      ends = judged_back c.requires.may.0 c.args.copies plan a c.requires.settled planned marked one p q b leaves done marks why c.in_err-judge_again.ensures.refused;
      held = always_on {A = Unit {0}} (Err why) (StillHeld a b) (mark_still c.requires.may.0 c.args.copies plan a c.requires.settled planned marked one p q b leaves done marks);
      fresh = always_on {A = Unit {0}} (Err why) (KeepsFresh a b) (mark_keeps c.requires.may.0 c.args.copies plan a c.requires.settled planned marked one p q b leaves done marks);
      leaves = mark_leaves c.requires.may.0 c.args.copies plan a c.requires.settled planned marked one p q b leaves;
    })

pub commit_between-requires-clause-settled : goal.commit_between-requires-clause-settled
commit_between-requires-clause-settled g c = c.in_ok-mark_dirty.ensures.ends.settled

pub commit_between-requires-clause-numbers : goal.commit_between-requires-clause-numbers
commit_between-requires-clause-numbers g c =
    let plan : SplitPlan = c.args.plan in
    mid_numbers c.requires.may.0 c.args.copies plan (state_of g.S.Shelf.device c.args.driver.now) c.requires.settled c.requires.may.1 (take c.from.result (plan.number ∷ [])) (marked_one c.from.result plan.number)
    c.args.patience.now.left c.mark_dirty.new.patience.left (state_of g.S.Shelf.device c.mark_dirty.new.self) c.mark_dirty.ensures.leaves c.in_ok-mark_dirty.ensures.ends c.mark_dirty.ensures.marks

pub commit_between-requires-clause-spare : goal.commit_between-requires-clause-spare
commit_between-requires-clause-spare g c =
    let plan : SplitPlan = c.args.plan in
    mid_spare c.requires.may.0 c.args.copies plan (state_of g.S.Shelf.device c.args.driver.now) c.requires.settled c.requires.may.1 (take c.from.result (plan.number ∷ [])) (marked_one c.from.result plan.number)
    c.args.patience.now.left c.mark_dirty.new.patience.left (state_of g.S.Shelf.device c.mark_dirty.new.self) c.mark_dirty.ensures.leaves c.in_ok-mark_dirty.ensures.ends c.mark_dirty.ensures.marks

pub commit_between-requires-clause-alike : goal.commit_between-requires-clause-alike
commit_between-requires-clause-alike g c =
    let plan : SplitPlan = c.args.plan in
    mid_alike c.requires.may.0 c.args.copies plan (state_of g.S.Shelf.device c.args.driver.now) c.requires.settled c.requires.may.1 (take c.from.result (plan.number ∷ [])) (marked_one c.from.result plan.number)
    c.args.patience.now.left c.mark_dirty.new.patience.left (state_of g.S.Shelf.device c.mark_dirty.new.self) c.mark_dirty.ensures.leaves c.in_ok-mark_dirty.ensures.ends c.mark_dirty.ensures.marks

pub returns-in_err-commit_between : goal.returns-in_err-commit_between
returns-in_err-commit_between g c =
    let name = c.requires.may.0 in
    let copies = c.args.copies in
    let plan : SplitPlan = c.args.plan in
    let a : State = state_of g.S.Shelf.device c.args.driver.now in
    let b : State = state_of g.S.Shelf.device c.mark_dirty.new.self in
    let n : State = state_of g.S.Shelf.device c.commit_between.new.driver in
    let planned : IsPlannedSplit plan.from name copies a.core plan = c.requires.may.1 in
    let p = c.args.patience.now.left in
    let q = c.mark_dirty.new.patience.left in
    let r = c.commit_between.new.patience.left in
    let marked : List ℕ = take c.from.result (plan.number ∷ []) in
    let one = marked_one c.from.result plan.number in
    let leaves = c.mark_dirty.ensures.leaves in
    let done = c.in_ok-mark_dirty.ensures.ends in
    let marks = c.mark_dirty.ensures.marks in
    let serve = own_serve name copies plan a c.requires.settled planned marked one p q b leaves done marks c.in_ok-judge_again.ensures.serve in
    let marked_by = marked_so c.from.result plan a b c.from.ensures marks in
    let e = err_from_is_err_and c.from_residual-in_err-commit_between.result c.from_residual-in_err-commit_between.ensures.1 in
    rw (e.1, e.2) (record {
      ends = part_ends name copies plan a c.requires.settled planned marked one p q b leaves done marks serve marked_by r n (Err c.in_err-commit_between.field-0.0) c.in_err-commit_between.ensures;
      held = part_still name copies plan a c.requires.settled planned marked one p q b leaves done marks serve marked_by r n (Err c.in_err-commit_between.field-0.0) c.in_err-commit_between.ensures;
      fresh = part_keeps name copies plan a c.requires.settled planned marked one p q b leaves done marks serve marked_by r n (Err c.in_err-commit_between.field-0.0) c.in_err-commit_between.ensures;
      leaves = part_leaves name copies plan a c.requires.settled planned marked one p q b leaves done marks serve marked_by r n (Err c.in_err-commit_between.field-0.0) c.in_err-commit_between.ensures;
    })

pub returns : goal.returns
returns g c =
    let name = c.requires.may.0 in
    let copies = c.args.copies in
    let plan : SplitPlan = c.args.plan in
    let a : State = state_of g.S.Shelf.device c.args.driver.now in
    let b : State = state_of g.S.Shelf.device c.mark_dirty.new.self in
    let n : State = state_of g.S.Shelf.device c.commit_between.new.driver in
    let planned : IsPlannedSplit plan.from name copies a.core plan = c.requires.may.1 in
    let p = c.args.patience.now.left in
    let q = c.mark_dirty.new.patience.left in
    let r = c.commit_between.new.patience.left in
    let marked : List ℕ = take c.from.result (plan.number ∷ []) in
    let one = marked_one c.from.result plan.number in
    let leaves = c.mark_dirty.ensures.leaves in
    let done = c.in_ok-mark_dirty.ensures.ends in
    let marks = c.mark_dirty.ensures.marks in
    let serve = own_serve name copies plan a c.requires.settled planned marked one p q b leaves done marks c.in_ok-judge_again.ensures.serve in
    let marked_by = marked_so c.from.result plan a b c.from.ensures marks in
    record {
      ends = part_ends name copies plan a c.requires.settled planned marked one p q b leaves done marks serve marked_by r n (Ok tt) c.in_ok-commit_between.ensures;
      held = part_still name copies plan a c.requires.settled planned marked one p q b leaves done marks serve marked_by r n (Ok tt) c.in_ok-commit_between.ensures;
      fresh = part_keeps name copies plan a c.requires.settled planned marked one p q b leaves done marks serve marked_by r n (Ok tt) c.in_ok-commit_between.ensures;
      leaves = part_leaves name copies plan a c.requires.settled planned marked one p q b leaves done marks serve marked_by r n (Ok tt) c.in_ok-commit_between.ensures;
    }
